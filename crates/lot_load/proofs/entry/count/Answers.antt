-- Entries are numbered from 1, so the greatest number is how many there are.
use Rattle.std.specs.Prelude.{◌≡◌, ℕ, length, Some}
use Rattle.std.proofs.Common.{sym, ap, ◌∙◌}
use Rattle.lot_rows.specs.Entry.{greatest_number}
use Rattle.lot_load.proofs.ReadLemmas.{reads_first, tells}
use Rattle.lot_stored.proofs.KeptLemmas.{greatest_none, greatest_some}
use Rattle.lot_load.proofs.entry.count.Goals as goal

pub returns-in-Some-clause-tells : goal.returns-in-Some-clause-tells
returns-in-Some-clause-tells g c =
    let old = g.D.Queryable.shown c.args.conn.now in
    let new = g.D.Queryable.shown c.greatest.new.conn in
    tells (λ (count : ℕ) entries. count ≡ length entries) old new c.number.result
    (reads_first _ _ _ (λ entries. c.number.result ≡ length entries) old new c.in_ok-number.field-0 c.in_ok-number.ensures.answers
    (λ tables entries book stand good is.
    greatest_some entries c.number.result (ap Some c.number.ensures.value ∙ sym c.in-Some.is ∙ is ∙ ap greatest_number stand.entry)))

pub returns-in-None-clause-tells : goal.returns-in-None-clause-tells
returns-in-None-clause-tells g c =
    let old = g.D.Queryable.shown c.args.conn.now in
    let new = g.D.Queryable.shown c.greatest.new.conn in
    tells (λ (count : ℕ) entries. count ≡ length entries) old new 0
    (reads_first _ _ _ (λ entries. 0 ≡ length entries) old new c.in_ok-number.field-0 c.in_ok-number.ensures.answers
    (λ tables entries book stand good is. greatest_none entries (sym c.in-None.is ∙ is ∙ ap greatest_number stand.entry)))

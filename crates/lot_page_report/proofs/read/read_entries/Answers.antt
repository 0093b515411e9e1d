-- The entries are counted one by one.
use Rattle.std.proofs.Common.{◌∙◌, List, refl, rules, subst}
use Rattle.std.specs.Prelude.{true}
use Rattle.std.proofs.lemmas.List.{map-id}
use Rattle.std.proofs.lemmas.Result.{err_from_is_err_and}
use Rattle.sqlite.specs.Held.{state}
use Rattle.lot_rows.specs.declared.entry.EntryRow.{EntryRow}
use Rattle.lot_stored.specs.StandFor.{Stands}
use Rattle.lot_page_report.specs.Counted.{HasCounted}
use Rattle.lot_walk.specs.Gains.{Range}
use Rattle.lot_page_report.proofs.ReadLemmas.{gathered_all, gathered_none, gathers_unfit, gathers_unwritten, never_unfit}
use Rattle.lot_page_report.proofs.read.read_entries.Goals as goal

pub gather-requires-clause-begun : goal.gather-requires-clause-begun
gather-requires-clause-begun g c = λ entries stands.
    (tt, c.journal-walk.ensures.begun entries (subst (λ book. Stands (state g.S.Store book.conn) entries) c.journal-walk.ensures.same stands))

pub returns-in_err-gather : goal.returns-in_err-gather
returns-in_err-gather g c =
    let fault = err_from_is_err_and c.from_residual.result c.from_residual.ensures.1 in
    let (rows, gathers) = c.in_err-gather.ensures.some (c.args.first, c.args.last) c.new-counted.ensures in
    rw (fault.1, fault.2)
    (gathered_none g.S.Store _ _ _ _ c.args.book.now c.journal-walk.result.book.now c.gather.new.walk.book.now _ c.journal-walk.ensures.same (search rules)
    c.in_err-gather.field-0.0 c.in_err-gather.ensures.reads (gathers_unwritten (λ (rows : List EntryRow) (row : EntryRow). true) (HasCounted (c.args.first, c.args.last)) rows c.gather.new.tally c.in_err-gather.field-0.0 gathers)
    (λ clean entries stands is.
    let (all, are, ended) = c.in_err-gather.ensures.gathers (c.args.first, c.args.last) c.new-counted.ensures (λ row. row) (λ row. refl) clean tt entries (c.journal-walk.ensures.begun entries stands) in
    never_unfit _ (gathers_unfit (λ (rows : List EntryRow) (row : EntryRow). true) (HasCounted (c.args.first, c.args.last)) _ c.gather.new.tally c.in_err-gather.field-0.0 ended is)))

pub returns : goal.returns
returns g c =
    let range : Range = (c.args.first, c.args.last) in
    gathered_all g.S.Store _ _ _ _ c.args.book.now c.journal-walk.result.book.now c.gather.new.walk.book.now _ c.journal-walk.ensures.same (search rules)
    _ c.gather.new.tally c.in_ok-gather.ensures.reads
    (λ clean entries stands.
    let (all, are, (fit, taken)) = c.in_ok-gather.ensures.gathers range c.new-counted.ensures (λ row. row) (λ row. refl) clean tt entries (c.journal-walk.ensures.begun entries stands) in
    subst (λ (rows : List EntryRow). HasCounted range rows c.gather.new.tally) (map-id all ∙ are) taken)
    (λ clean tables has.
    let (all, are, good, (fit, taken)) = c.in_ok-gather.ensures.rows range c.new-counted.ensures (λ row. row) (λ row. refl) clean tt tables (c.journal-walk.ensures.rows tables has) in
    subst (λ (rows : List EntryRow). HasCounted range rows c.gather.new.tally) (map-id all ∙ are) taken)
    (let (rows, (fit, taken)) = c.in_ok-gather.ensures.some range c.new-counted.ensures in (rows, taken))

-- So many entries as are counted.
use Rattle.std.specs.Prelude.{ℕ}
use Rattle.lot_load.specs.Kept.{IsOf, Keeps}
use Rattle.lot_load.proofs.ReadLemmas.{reads_first, tells}
use Rattle.lot_load.proofs.look.begin.Goals as goal

pub returns-in_ok-count-in-None-clause-tells : goal.returns-in_ok-count-in-None-clause-tells
returns-in_ok-count-in-None-clause-tells g c =
    let old = g.D.Queryable.shown c.args.conn.now in
    let new = g.D.Queryable.shown c.count.new.conn in
    let count : ℕ = c.in_ok-count-in-None.field-0 in
    tells _ old new c.new.result
    (reads_first _ _ _ (λ entries. IsOf c.args.kept entries → Keeps c.new.result entries) old new count c.in_ok-count-in-None.ensures.tells
    (λ tables entries book stand good is of. c.new.ensures.keeps entries (is entries book stand)))

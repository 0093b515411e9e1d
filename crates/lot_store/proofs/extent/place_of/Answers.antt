use Rattle.sqlite.specs.Held.{state}
use Rattle.lot_store.proofs.ExtentLemmas.{migration_good, no_answer}
use Rattle.lot_store.specs.Extent.{SaysPlace}
use Rattle.lot_store.proofs.extent.place_of.Goals as goal

pub returns-in_err-rows : goal.returns-in_err-rows
returns-in_err-rows g c = record {
  answers = no_answer _ _ _ SaysPlace (state g.S.Store c.args.conn.now) (state g.S.Store c.list.new.conn) c.in_err-rows.field-0.0
      c.from_residual.result c.from_residual.ensures.1 c.in_err-rows.ensures.lists migration_good;
}

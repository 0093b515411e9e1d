use Rattle.sqlite.specs.Held.{state}
use Rattle.lot_audit.proofs.SeenLemmas.{tells_not}
use Rattle.lot_audit.proofs.JudgeBookLemmas.{migration_good}
use Rattle.lot_audit.proofs.judge.place_of.Goals as goal

pub returns-in_err-rows : goal.returns-in_err-rows
returns-in_err-rows g c = record {
  says = tells_not _ _ _ _ (state g.S.Store c.args.conn.now) (state g.S.Store c.list.new.conn) c.in_err-rows.field-0.0
      c.from_residual.result c.from_residual.ensures.1 c.in_err-rows.ensures.lists migration_good;
}

use Rattle.std.proofs.Common.{Err, ap}
use Rattle.lot_page_report.proofs.TakeLemmas.{flows_some, moved_out}
use Rattle.lot_page_report.proofs.read.add_flow.Goals as goal

pub returns-in-Ok-clause-adds : goal.returns-in-Ok-clause-adds
returns-in-Ok-clause-adds c = λ fits range legs had.
    flows_some c.args.leg.now c.in-Some.flows c.add.new.self (rw c.in-Ok.is at c.add.ensures.adds) range legs (rw c.in-Some.is at had)

pub returns-in-Err-Range-clause-out : goal.returns-in-Err-Range-clause-out
returns-in-Err-Range-clause-out c = λ unfit range legs had.
    moved_out c.args.leg.now c.in-Some.flows (c.in-Err-Range.ensures.range (ap Err c.in-Err-Range.field-0-is)) range legs (rw c.in-Some.is at had)

-- One more row says what it says, or is the first that says nothing.
use Rattle.lot_export.proofs.EntryLemmas.{fails_at, says_next}
use Rattle.lot_export.proofs.entry.entries.Goals as goal

pub loop-row-preserved : goal.loop-row-preserved
loop-row-preserved c =
    says_next c.args.profile.now c.args.rows.now c.loop-row.row-index c.row-item.result c.loop-row.entries c.push.new.self c.in-Ok.entry
    c.loop-row.invariant c.loop-row-test.true c.row-item.is c.in-Ok.ensures.ok c.in_ok-push.ensures.ok

pub returns-in-Err-clause-fault : goal.returns-in-Err-clause-fault
returns-in-Err-clause-fault c =
    fails_at c.args.profile.now c.args.rows.now c.loop-row.row-index c.row-item.result c.loop-row.entries c.in-Err.fault c.loop-row.invariant
    c.loop-row-test.true c.row-item.is c.in-Err.ensures.fault

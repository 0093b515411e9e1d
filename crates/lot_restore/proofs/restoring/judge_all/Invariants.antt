use Rattle.std.proofs.Common.{◌≡◌}
use Rattle.sqlite.specs.Held.{state}
use Rattle.lot_io.specs.Writes.{NoneFailed}
use Rattle.lot_stream.specs.Input.{NoneFailed as NoneFailedToRead}
use Rattle.lot_restore.proofs.LoopLemmas.{GoneOn, Unbroken}
use Rattle.lot_restore.proofs.restoring.judge_all.Given as goal

-- what was read and judged before the loop, goes on with what was read and judged in it; the transaction is open, and nothing is committed
abbrev pub invariant-commands : goal.invariant-commands
invariant-commands g l =
    GoneOn
    (record { known = g.R.CountedRead.remaining l.fn.reader; reading = l.fn.commands.dump; written = g.W.CountedWrite.contents l.fn.writer; made = l.fn.restoration; state = state g.S.Store l.fn.tx.conn.now })
    (record { known = g.R.CountedRead.remaining l.reader; reading = l.commands.dump; written = g.W.CountedWrite.contents l.writer; made = l.restoration; state = state g.S.Store l.tx.conn.now })
    × Unbroken (state g.S.Store l.fn.tx.conn.now) (state g.S.Store l.tx.conn.now)
    × (l.tx.conn.ghost_name ≡ l.fn.tx.conn.ghost_name)
    × NoneFailed (g.W.CountedWrite.calls l.fn.writer) (g.W.CountedWrite.calls l.writer)
    × (l.restoration.without ≡ l.fn.restoration.without)
    × NoneFailedToRead (record { before = g.R.CountedRead.calls l.fn.reader; after = g.R.CountedRead.calls l.reader })

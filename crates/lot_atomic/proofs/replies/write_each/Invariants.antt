use Rattle.std.proofs.Common.{take}
use Rattle.lot_io.specs.Writes.{NoneFailed}
use Rattle.lot_atomic.specs.Replies.{RepliesAll}
use Rattle.lot_atomic.proofs.replies.write_each.Given as goal

-- the verdicts so far are replied to, and no call of the writer failed
abbrev pub invariant-verdicts : goal.invariant-verdicts
invariant-verdicts g l = record {
  so : RepliesAll l.numbers (take l.index l.verdicts) l.index l.refused (g.W.CountedWrite.contents l.initial.writer) (g.W.CountedWrite.contents l.writer);
  none_failed : NoneFailed (g.W.CountedWrite.calls l.initial.writer) (g.W.CountedWrite.calls l.writer);
}

use Rattle.std.proofs.Common.{◌≡◌, List, length, take}
use Rattle.std.specs.Option.{option_copied}
use Rattle.sqlite.specs.Held.{state}
use Rattle.lot_command.specs.declared.command.Command.{Command}
use Rattle.lot_command.specs.declared.key.Key.{Key}
use Rattle.lot_io.specs.Writes.{AllFlushed, IsFlushed}
use Rattle.lot_store.specs.declared.book.Condition.TheVariants.{Ready}
use Rattle.lot_store.proofs.RunLemmas.{Any, SoFar}
use Rattle.lot_store.proofs.book.Book.run.Given as goal

-- the commands so far were judged, each or another in its place, and replied to, what is kept is of the book after them, the
-- replies are flushed, and no call of the writer failed
abbrev pub invariant-commands : goal.invariant-commands
invariant-commands g l =
    (done : List (Key × Command)) × (l.index ≡ length done)
    × SoFar l.kept Any (option_copied l.fn.rounding) (take l.index l.commands) done l.fn.from l.refused (state g.S.Store l.fn.self.conn) (state g.S.Store l.self.conn) (g.W.CountedWrite.contents l.initial.writer) (g.W.CountedWrite.contents l.writer)
    × (l.self.condition ≡ Ready)
    × (IsFlushed (g.W.CountedWrite.calls l.initial.writer)
    → AllFlushed (record { before = g.W.CountedWrite.calls l.initial.writer; after = g.W.CountedWrite.calls l.writer }))

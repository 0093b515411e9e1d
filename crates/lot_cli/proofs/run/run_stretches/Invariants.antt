use Rattle.std.proofs.Common.{◌≡◌, ◌≤◌, ◌-◌, List, length, take}
use Rattle.std.specs.Option.{option_copied}
use Rattle.sqlite.specs.Held.{state}
use Rattle.lot_command.specs.declared.command.Command.{Command}
use Rattle.lot_command.specs.declared.key.Key.{Key}
use Rattle.lot_io.specs.Writes.{AllFlushed, IsFlushed}
use Rattle.lot_store.specs.declared.book.Condition.TheVariants.{Ready}
use Rattle.lot_cli.proofs.StretchLemmas.{Done}
use Rattle.lot_cli.proofs.run.run_stretches.Given as goal

-- the commands so far were judged and replied to, all is flushed, and no call of the writer failed
abbrev pub invariant-stretches : goal.invariant-stretches
invariant-stretches g l =
    (turned : List (Key × Command))
    × Done (option_copied l.fn.rounding) (take l.done l.numbers) (take l.done l.commands) turned l.status (state g.S.Store l.initial.book.conn) (state g.S.Store l.book.conn) (g.W.CountedWrite.contents l.initial.writer) (g.W.CountedWrite.contents l.writer)
    × (l.done ≤ length l.numbers)
    × (l.book.condition ≡ Ready)
    × (IsFlushed (g.W.CountedWrite.calls l.initial.writer)
    → AllFlushed (record { before = g.W.CountedWrite.calls l.initial.writer; after = g.W.CountedWrite.calls l.writer }))

abbrev pub decreases-stretches : goal.decreases-stretches
decreases-stretches g l = length l.initial.numbers - l.done

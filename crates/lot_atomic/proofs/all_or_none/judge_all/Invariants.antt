use Rattle.std.proofs.Common.{◌≡◌, List, length, take}
use Rattle.std.specs.Option.{option_copied}
use Rattle.sqlite.specs.Held.{state}
use Rattle.lot_command.specs.declared.command.Command.{Command}
use Rattle.lot_command.specs.declared.key.Key.{Key}
use Rattle.lot_atomic.specs.AllOrNone.{together}
use Rattle.lot_atomic.proofs.AllOrNoneLemmas.{SoFarInside}
use Rattle.lot_atomic.proofs.all_or_none.judge_all.Given as goal

-- the commands so far were judged, each or another in its place, what is kept is of the book after them, it is the same transaction, and each has a verdict
abbrev pub invariant-commands : goal.invariant-commands
invariant-commands g l =
    (done : List (Key × Command))
    × SoFarInside l.kept (option_copied l.fn.rounding) (take l.index l.commands) done
    (state g.S.Store l.fn.tx.conn.now) (state g.S.Store l.tx.conn.now) l.verdicts.items
    × (l.together ≡ together l.verdicts.items)
    × (l.tx.conn.ghost_name ≡ l.fn.tx.conn.ghost_name)
    × (length l.verdicts.items ≡ l.index)

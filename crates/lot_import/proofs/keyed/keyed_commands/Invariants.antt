-- The rows so far have their numbers and commands.
use Rattle.std.proofs.Common.{length, take}
use Rattle.lot_import.proofs.KeyedLemmas.{AreOf}
use Rattle.lot_import.proofs.keyed.keyed_commands.Given as goal

abbrev pub invariant-loop-index : goal.invariant-loop-index
invariant-loop-index l =
    AreOf l.source l.accounts l.decimals l.from l.except (length l.rows) (take l.index l.rows) l.numbers.items l.commands.items

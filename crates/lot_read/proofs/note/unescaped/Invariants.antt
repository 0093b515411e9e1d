-- The escape of the text so far, and what is left, are the whole.
use Rattle.std.proofs.Common.{◌≡◌, ◌++◌, length}
use Rattle.std.specs.Str.Iter.{chars_rest}
use Rattle.lot_command.specs.Canonical.{escaped}
use Rattle.lot_read.proofs.note.unescaped.Given as goal

abbrev pub invariant-loop-character : goal.invariant-loop-character
invariant-loop-character l = l.escape ≡ escaped l.text.bytes ++ chars_rest l.characters

abbrev pub decreases-loop-character : goal.decreases-loop-character
decreases-loop-character l = length (chars_rest l.characters)

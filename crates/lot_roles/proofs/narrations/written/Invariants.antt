-- What is written, and what is left.
use Rattle.std.proofs.Common.{◌≡◌, ◌++◌, map}
use Rattle.std.specs.String.{string_bytes}
use Rattle.lot_roles.specs.Narration.{written_byte}
use Rattle.lot_roles.proofs.narrations.written.Given as goal

abbrev pub invariant-loop-character : goal.invariant-loop-character
invariant-loop-character l = string_bytes l.written ++ map written_byte l.character-iterator.rest.now ≡ map written_byte l.text

-- The first code of the table that the word names is among those that are left.
use Rattle.std.proofs.Common.{◌≡◌, drop}
use Rattle.std.specs.List.{find}
use Rattle.lot_explain.specs.Codes.{is_named}
use Rattle.lot_explain.proofs.explained.find_in.Given as goal

abbrev pub invariant-loop-code : goal.invariant-loop-code
invariant-loop-code l = find (is_named l.word) (drop l.code-index l.table) ≡ find (is_named l.word) l.table

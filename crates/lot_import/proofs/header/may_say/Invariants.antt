-- What is left of the text may say what is left of the line exactly where all of it may.
use Rattle.std.proofs.Common.{◌≡◌, length}
use Rattle.lot_import.specs.Header.{may_say}
use Rattle.lot_import.proofs.header.may_say.Given as goal

abbrev pub invariant-loop-line : goal.invariant-loop-line
invariant-loop-line l = may_say l.fn.line l.fn.text ≡ may_say l.line l.text

abbrev pub decreases-loop-line : goal.decreases-loop-line
decreases-loop-line l = length l.line

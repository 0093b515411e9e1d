-- What is left of the text may begin with a header exactly where all of it may.
use Rattle.std.proofs.Common.{◌≡◌, length}
use Rattle.csv.specs.Reading.{strip_bom}
use Rattle.lot_import.specs.Header.{may_begin}
use Rattle.lot_import.proofs.header.may_have_header.Given as goal

abbrev pub invariant-loop-text : goal.invariant-loop-text
invariant-loop-text l = may_begin (strip_bom l.bytes) ≡ may_begin l.text

abbrev pub decreases-loop-text : goal.decreases-loop-text
decreases-loop-text l = length l.text

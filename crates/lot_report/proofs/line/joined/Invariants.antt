use Rattle.std.proofs.Common.{drop}
use Rattle.std.specs.Prelude.{[], Some}
use Rattle.lot_report.proofs.EachLemmas.{EachSoFar}
use Rattle.lot_report.proofs.line.joined.Given as goal

-- the texts so far are in the line
abbrev pub invariant-loop-text : goal.invariant-loop-text
invariant-loop-text l = EachSoFar (λ t. t.now) l.texts (drop l.text-index l.texts) (Some []) (Some l.line.bytes)

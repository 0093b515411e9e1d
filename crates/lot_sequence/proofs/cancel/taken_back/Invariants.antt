-- The rows so far take back what they should, and these purchases are left.
use Rattle.lot_sequence.proofs.CancelLemmas.{IsStep}
use Rattle.lot_sequence.proofs.cancel.taken_back.Given as goal

abbrev pub invariant-loop-place : goal.invariant-loop-place
invariant-loop-place l = IsStep l.rows l.place l.left l.partners.items

use Rattle.std.proofs.Common.{◌≤◌, ◌*◌, take}
use Rattle.std.specs.Prelude.{unsigned_abs}
use Rattle.lot_num.specs.Amount.{units_limit}
use Rattle.lot_split.specs.Form.{moving}
use Rattle.lot_split.proofs.MovedLemmas.{AreMoved}
use Rattle.lot_split.proofs.form.units_moved.Given as goal

-- what is moved by the postings so far, and that it is little
abbrev pub invariant-loop-posting : goal.invariant-loop-posting
invariant-loop-posting l = record {
  moved : AreMoved l.taking (moving l.asked (take l.posting-index l.postings)) l.left l.taken l.opened;
  few_taken : unsigned_abs l.taken ≤ l.posting-index * units_limit;
  few_opened : unsigned_abs l.opened ≤ l.posting-index * units_limit;
}

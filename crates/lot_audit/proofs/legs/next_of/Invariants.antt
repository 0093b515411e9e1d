use Rattle.std.proofs.Common.{◌≡◌, drop}
use Rattle.lot_audit.specs.Legs.{legs_at}
use Rattle.lot_audit.proofs.legs.next_of.Given as goal

-- the legs so far are of other postings
abbrev pub invariant-legs : goal.invariant-legs
invariant-legs l = legs_at l.posting (drop l.fn.from l.legs) ≡ legs_at l.posting (drop l.at l.legs)

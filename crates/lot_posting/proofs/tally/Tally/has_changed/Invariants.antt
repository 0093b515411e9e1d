use Rattle.std.proofs.Common.{◌≡◌, false, take}
use Rattle.std.specs.List.{list_any}
use Rattle.lot_book.specs.declared.leg.Leg.{Leg}
use Rattle.lot_posting.specs.Tally.{is_lot_of}
use Rattle.lot_posting.proofs.tally.Tally.has_changed.Given as goal

-- no leg so far is at a lot of the commodity in the account
abbrev pub invariant-loop-leg : goal.invariant-loop-leg
invariant-loop-leg l = list_any (λ (leg : Leg). is_lot_of l.account l.commodity leg.position) (take l.leg-index l.leg-items) ≡ false

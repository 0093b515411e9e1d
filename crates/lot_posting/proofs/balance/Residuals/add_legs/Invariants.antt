use Rattle.std.proofs.Common.{◌≡◌, ℕ, ℤ, ◌+◌, ◌*◌, List, ◌++◌, map, take}
use Rattle.lot_num.specs.Amount.{units_limit}
use Rattle.lot_book.specs.Balance.{residuals, weight_of, AreWithin}
use Rattle.lot_book.specs.Leg.{units_moved}
use Rattle.lot_posting.proofs.BalanceResiduals.{AreSmall}
use Rattle.lot_posting.proofs.balance.Residuals.add_legs.Given as goal

-- the weights of the legs so far are added, and no more than their units can weigh
abbrev pub invariant-loop-leg : goal.invariant-loop-leg
invariant-loop-leg l = record {
  sums : (weights : List (List ℕ × ℤ)) → l.initial.self ≡ residuals weights
      → l.self ≡ residuals (weights ++ map weight_of (take l.leg-index l.legs));
  within : (count : ℕ) → AreWithin count l.initial.self
      → AreSmall (count * units_limit + units_moved (take l.leg-index l.legs)) l.self;
}

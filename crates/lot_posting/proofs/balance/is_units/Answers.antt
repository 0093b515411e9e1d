-- Where no units weigh so much, it isn't the residual of units.
use Rattle.std.proofs.Common.{◌≡◌, ℤ, ◌*ℤ◌, pos, sym}
use Rattle.lot_num.specs.Amount.{one, IsUnits}
use Rattle.lot_posting.proofs.BalanceLemmas.{misfit_from_weight}
use Rattle.lot_posting.proofs.balance.is_units.Goals as goal

pub returns-in-None : goal.returns-in-None
returns-in-None c =
    let none : (u : ℤ) → IsUnits u → c.args.sum ≡ u *ℤ pos one → ⊥ = λ u within same.
    let found = c.in-None.ensures.every u within same in cc in
    sym (misfit_from_weight c.args.sum none)

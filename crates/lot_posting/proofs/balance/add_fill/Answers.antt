-- A residual of units is so many of them.
use Rattle.std.proofs.Common.{◌≡◌, ℤ, ◌*ℤ◌, pos, false}
use Rattle.lot_num.specs.Amount.{one, IsUnits}
use Rattle.lot_book.specs.Balance.{fits_units}
use Rattle.lot_posting.proofs.BalanceLemmas.{misfit_from_weight}
use Rattle.lot_posting.proofs.balance.add_fill.Goals as goal

pub unreachable-requires : goal.unreachable-requires
unreachable-requires c =
    let none : (u : ℤ) → IsUnits u → c.args.sum ≡ u *ℤ pos one → ⊥ = λ u within same.
    let found = c.in-None.ensures.every u within same in cc in
    let misfits : fits_units c.args.sum ≡ false = misfit_from_weight c.args.sum none in
    let fits = c.requires in
    cc

-- What a split leaves of the costs of lots is little: a posting can take it.
use Rattle.std.proofs.Common.{ℕ, ◌*◌, ◌≤◌, Bool, true, false, cond, List, [], ◌∷◌, length, ℤ, pos, negsuc, ◌-ℤ◌, ap, arith}
use Rattle.std.specs.Prelude.{unsigned_abs}
use Rattle.std.specs.List.{AllZip}
use Rattle.std.proofs.lemmas.Int.{ints}
use Rattle.lot_base.specs.Text.{same_text}
use Rattle.lot_num.specs.Amount.{IsUnits, units_limit}
use Rattle.lot_split.specs.Crumbs.{whole_of}
use Rattle.lot_split.specs.Lots.{AreDivided, Becomes, cost_of, crumb_in}
use Rattle.lot_rounding.specs.Ratio.{IsProper}
use Rattle.lot_split.specs.Split.{most_divided}
use Rattle.lot_split.specs.declared.lot.HeldLot.{HeldLot}
use Rattle.lot_rounding.specs.declared.ratio.Ratio.{Ratio}
use Rattle.lot_split.proofs.NumberLemmas.{near_cost}
use Rattle.lot_split.proofs.SumLemmas.{is_in, sum_where_part}

-- of one lot it is at most half of its new units
pub cost_near : (ratio : Ratio) (lot split : HeldLot) → IsProper ratio → Becomes ratio lot split
    → 2 * unsigned_abs (cost_of lot -ℤ cost_of split) ≤ unsigned_abs split.units
cost_near ratio lot split proper becomes =
    near_cost lot.units split.units lot.key.number split.key.number ratio.new ratio.old proper.least_old becomes.units becomes.number.nearest

part_near : (x y : ℤ) (b : Bool) → unsigned_abs (x -ℤ y) ≤ units_limit → unsigned_abs (cond b x (pos 0) -ℤ cond b y (pos 0)) ≤ units_limit
part_near x y true small = small
part_near x y false small = omega (arith, ints)

pub crumb_near : (ratio : Ratio) (currency : List ℕ) (lots split : List HeldLot) → IsProper ratio → AllZip (Becomes ratio) lots split
    → unsigned_abs (crumb_in lots split currency) ≤ length lots * units_limit
crumb_near ratio currency [] [] proper all = omega (arith, ints)
crumb_near ratio currency [] (s ∷ ss) proper all = absurd all
crumb_near ratio currency (l ∷ ls) [] proper all = absurd all
crumb_near ratio currency (l ∷ ls) (s ∷ ss) proper all =
    let near = cost_near ratio l s proper all.0 in
    let in_range : IsUnits s.units = all.0.in_range in
    let small : unsigned_abs (cost_of l -ℤ cost_of s) ≤ units_limit = omega (arith, near, in_range) in
    let part = part_near (cost_of l) (cost_of s) (same_text currency l.key.currency) small in
    let same = ap (λ name. cond (same_text currency name) (cost_of s) (pos 0)) all.0.currency in
    omega (
      arith,
      ints,
      part,
      same,
      sum_where_part (is_in currency) cost_of l ls,
      sum_where_part (is_in currency) cost_of s ss,
      crumb_near ratio currency ls ss proper all.1,
    )

whole_small : (crumb : ℤ) → unsigned_abs crumb ≤ most_divided * units_limit → IsUnits (whole_of crumb)
whole_small (pos n) few = omega (arith, ints)
whole_small (negsuc n) few = omega (arith, ints)

-- the account for crumbs can take it
pub crumb_small : (currency : List ℕ) (lots split : List HeldLot) → AreDivided lots split → length lots ≤ most_divided
    → IsUnits (whole_of (crumb_in lots split currency))
crumb_small currency lots split divided few =
    whole_small (crumb_in lots split currency)
    (omega (arith, few, crumb_near divided.ratio currency lots split divided.proper divided.become))

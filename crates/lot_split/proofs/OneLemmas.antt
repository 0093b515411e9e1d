-- There is one split of lots, and no fault beside it.
use Rattle.std.proofs.Common.{◌≡◌, ◌≢◌, ℕ, ◌*◌, ◌%◌, ◌≤◌, true, false, not, List, [], ◌∷◌, ◌++◌, length, None, ℤ, pos, ◌+ℤ◌, ◌*ℤ◌, refl, ap, ◌∙◌, sym, subst, arith}
use Rattle.std.specs.Prelude.{nat_lt, position, unsigned_abs}
use Rattle.std.specs.List.{AllZip, position_or_len}
use Rattle.std.proofs.lemmas.Bool.Decides.{nat_tests}
use Rattle.std.proofs.lemmas.Int.{ints, unsigned_abs-mul}
use Rattle.std.proofs.Math.Nat.{mul-mod_left}
use Rattle.lot_rounding.proofs.NearestLemmas.{one_rate}
use Rattle.lot_num.specs.Amount.{IsRate, one}
use Rattle.lot_rounding.specs.Nearest.{IsNearestRate}
use Rattle.lot_split.specs.Lots.{Becomes, OneBecomesNone, divides, held_of}
use Rattle.lot_rounding.specs.Ratio.{AreInRatio, IsLowest, IsProper}
use Rattle.lot_split.specs.declared.lot.HeldLot.{HeldLot}
use Rattle.lot_rounding.specs.declared.ratio.Ratio.{Ratio}
use Rattle.lot_split.proofs.NumberLemmas.{both_times, cancel, cancel_first, exact_nearest, times_times, times_turned}

-- ---- ratios

pub one_ratio : (amounts : ℤ × ℤ) (a b : Ratio) → IsLowest amounts a → IsLowest amounts b → a ≡ b
one_ratio amounts a b first second =
    let below = first.least b second.are in
    let above = second.least a first.are in
    let old : a.old ≡ b.old = omega (arith, below, above) in
    let new : a.new ≡ b.new =
    cancel_first amounts.1 a.new b.new first.are.some
    (sym first.are.same ∙ ap (λ o. amounts.0 *ℤ pos o) old ∙ second.are.same) in
    λ i. record { new = new i; old = old i }

-- a ratio, and the units that it adds to those that are held
module _ (h added : ℤ) (ratio other : Ratio) (some : h ≢ pos 0) (some_old : 1 ≤ ratio.old)
    (same : (h +ℤ added) *ℤ pos ratio.old ≡ h *ℤ pos ratio.new) where
  by_units : AreInRatio (pos ratio.new, pos ratio.old) other → AreInRatio (h +ℤ added, h) other
  by_units are =
      let products : pos ratio.new *ℤ pos other.old ≡ pos ratio.old *ℤ pos other.new = are.same in
      let equal : ratio.new * other.old ≡ other.new * ratio.old = omega (arith, ints, products) in
      record {
        some = some;
        proper = are.proper;
        same = cancel ((h +ℤ added) *ℤ pos other.old) (h *ℤ pos other.new) ratio.old some_old
            (times_turned (h +ℤ added) other.old ratio.old ∙ ap (λ z. z *ℤ pos other.old) same
            ∙ times_times h ratio.new other.old ∙ ap (λ k. h *ℤ pos k) equal ∙ sym (times_times h other.new ratio.old));
      }

  by_ratio : AreInRatio (h +ℤ added, h) other → AreInRatio (pos ratio.new, pos ratio.old) other
  by_ratio are =
      let equal : ratio.new * other.old ≡ other.new * ratio.old =
      cancel_first h (ratio.new * other.old) (other.new * ratio.old) some
      (sym (times_times h ratio.new other.old) ∙ ap (λ z. z *ℤ pos other.old) (sym same)
      ∙ times_turned (h +ℤ added) ratio.old other.old ∙ ap (λ z. z *ℤ pos ratio.old) are.same ∙ times_times h other.new ratio.old) in
      record {
        some = λ none. absurd (omega (arith, ints, none));
        proper = are.proper;
        same = omega (arith, ints, equal);
      }

pub lowest_by_units : (h added : ℤ) (ratio other : Ratio) → h ≢ pos 0 → 1 ≤ ratio.old
    → (h +ℤ added) *ℤ pos ratio.old ≡ h *ℤ pos ratio.new
    → IsLowest (pos ratio.new, pos ratio.old) other → IsLowest (h +ℤ added, h) other
lowest_by_units h added ratio other some some_old same lowest = record {
  are = by_units h added ratio other some some_old same lowest.are;
  least = λ more are. lowest.least more (by_ratio h added ratio more some some_old same are);
}

pub lowest_by_ratio : (h added : ℤ) (ratio other : Ratio) → h ≢ pos 0 → 1 ≤ ratio.old
    → (h +ℤ added) *ℤ pos ratio.old ≡ h *ℤ pos ratio.new
    → IsLowest (h +ℤ added, h) other → IsLowest (pos ratio.new, pos ratio.old) other
lowest_by_ratio h added ratio other some some_old same lowest = record {
  are = by_ratio h added ratio other some some_old same lowest.are;
  least = λ more are. lowest.least more (by_units h added ratio more some some_old same are);
}

-- ---- lots

pub one_lot : (ratio : Ratio) (lot a b : HeldLot) → IsProper ratio → Becomes ratio lot a → Becomes ratio lot b → a ≡ b
one_lot ratio lot a b proper first second =
    let units = cancel a.units b.units ratio.old proper.least_old (first.units ∙ sym second.units) in
    let number = one_rate (pos (ratio.new * one)) (pos (lot.key.number * ratio.old)) a.key.number b.key.number first.number second.number in
    let day = first.day ∙ sym second.day in
    let currency = first.currency ∙ sym second.currency in
    let label = first.label ∙ sym second.label in
    λ i. record {
      key = record { day = day i; currency = currency i; number = number i; label = label i };
      units = units i;
    }

pub one_list : (ratio : Ratio) (lots a b : List HeldLot) → IsProper ratio → AllZip (Becomes ratio) lots a → AllZip (Becomes ratio) lots b → a ≡ b
one_list ratio [] [] [] proper first second = refl
one_list ratio [] [] (y ∷ ys) proper first second = absurd second
one_list ratio [] (x ∷ xs) b proper first second = absurd first
one_list ratio (l ∷ ls) [] b proper first second = absurd first
one_list ratio (l ∷ ls) (x ∷ xs) [] proper first second = absurd second
one_list ratio (l ∷ ls) (x ∷ xs) (y ∷ ys) proper first second =
    let head = one_lot ratio l x y proper first.0 second.0 in
    let tail = one_list ratio ls xs ys proper first.1 second.1 in
    λ i. head i ∷ tail i

-- a lot that becomes another divides
becomes_divides : (ratio : Ratio) (lot split : HeldLot) → Becomes ratio lot split → divides ratio lot.units ≡ true
becomes_divides ratio lot split becomes =
    let sizes : unsigned_abs lot.units * ratio.new ≡ unsigned_abs split.units * ratio.old =
    sym (unsigned_abs-mul lot.units (pos ratio.new)) ∙ ap unsigned_abs (sym becomes.units) ∙ unsigned_abs-mul split.units (pos ratio.old) in
    let nothing : unsigned_abs lot.units * ratio.new % ratio.old ≡ 0 =
    ap (λ k. k % ratio.old) sizes ∙ mul-mod_left (unsigned_abs split.units) ratio.old in
    grind (arith, nat_tests, nothing)

all_divide : (ratio : Ratio) (lots split : List HeldLot) → AllZip (Becomes ratio) lots split
    → position_or_len (λ (l : HeldLot). not (divides ratio l.units)) lots ≡ length lots
all_divide ratio [] [] all = refl
all_divide ratio [] (s ∷ ss) all = absurd all
all_divide ratio (l ∷ ls) [] all = absurd all
all_divide ratio (l ∷ ls) (s ∷ ss) all = rw (becomes_divides ratio l s all.0) (omega (arith, all_divide ratio ls ss all.1))

pub none_undivided : (ratio : Ratio) (lots split : List HeldLot) → AllZip (Becomes ratio) lots split
    → position (λ (l : HeldLot). not (divides ratio l.units)) lots ≡ None
none_undivided ratio lots split all =
    let n = length lots in
    let not_below : nat_lt n n ≡ false = grind (arith, nat_tests) in
    rw (all_divide ratio lots split all, not_below) refl

pub none_without : (ratio : Ratio) (lots split : List HeldLot) → AllZip (Becomes ratio) lots split → OneBecomesNone ratio lots → ⊥
none_without ratio lots split all one =
    by one.before split (subst (λ (ls : List HeldLot). AllZip (Becomes ratio) ls split) one.is all)
  where
    by : (before ys : List HeldLot) → AllZip (Becomes ratio) (before ++ one.lot ∷ one.after) ys → ⊥
    by [] [] all = absurd all
    by [] (y ∷ ys) all = one.none y all.0
    by (l ∷ ls) [] all = absurd all
    by (l ∷ ls) (y ∷ ys) all = by ls ys all.1

-- ---- units

pub held_split : (ratio : Ratio) (lots split : List HeldLot) → AllZip (Becomes ratio) lots split
    → held_of split *ℤ pos ratio.old ≡ held_of lots *ℤ pos ratio.new
held_split ratio [] [] all = omega (arith, ints)
held_split ratio [] (s ∷ ss) all = absurd all
held_split ratio (l ∷ ls) [] all = absurd all
held_split ratio (l ∷ ls) (s ∷ ss) all =
    omega (
      arith,
      ints,
      both_times s.units (held_of ss) ratio.old,
      both_times l.units (held_of ls) ratio.new,
      all.0.units,
      held_split ratio ls ss all.1,
    )

-- ---- numbers

pub exact_number : (ratio : Ratio) (lot split : HeldLot) (number : ℕ) → IsProper ratio → Becomes ratio lot split → IsRate number
    → number * ratio.new ≡ lot.key.number * ratio.old → split.key.number ≡ number
exact_number ratio lot split number proper becomes in_range exact =
    let units = pos (ratio.new * one) in
    let total = pos (lot.key.number * ratio.old) in
    let least = proper.least_new in
    let nearest : IsNearestRate units total number = record {
      some_units = λ none. absurd (omega (arith, ints, none, least));
      in_range = in_range;
      nearest = exact_nearest lot.key.number number ratio.new ratio.old least exact;
    } in
    one_rate units total split.key.number number becomes.number nearest

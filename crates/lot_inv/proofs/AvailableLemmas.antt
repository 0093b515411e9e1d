-- The lots that units may take, one after another: how many they are, what they hold, and the only one.
use Rattle.std.specs.Prelude.{◌≡◌, ◌≢◌, ℕ, ◌+◌, ◌≤◌, ◌<◌, Option, None, Some, List, [], ◌∷◌, ◌++◌, length, map, true, ℤ, unsigned_abs}
use Rattle.std.proofs.Common.{append-nil, append_assoc, arith, inl, inr, refl, sym, ap, ◌∙◌}
use Rattle.std.proofs.lemmas.List.{length-append, length-map, map-append}
use Rattle.std.proofs.lemmas.List.Sums.{sum_by-append, sum_by-cons}
use Rattle.lot_cost.specs.declared.cost_spec.CostSpec.{CostSpec}
use Rattle.lot_cost.specs.declared.lot_key.LotKey.{LotKey}
use Rattle.lot_cost.specs.CostSpec.{fits}
use Rattle.lot_inv.specs.declared.lot.Lot.{Lot}
use Rattle.lot_inv.specs.Foremost.{Counts, only_of}
use Rattle.lot_inv.specs.Holding.{takeable_lots}
use Rattle.lot_inv.specs.Inventory.{held_in, other_sign}
use Rattle.lot_inv.specs.Lot.{key_and_units}

pub held_in-cons : (lot : LotKey × ℤ) (lots : List (LotKey × ℤ)) → held_in (lot ∷ lots) ≡ unsigned_abs lot.1 + held_in lots
held_in-cons lot lots = sum_by-cons (λ (lot : LotKey × ℤ). unsigned_abs lot.1) lot lots

abbrev Held : List Lot → ℕ
Held lots = held_in (map key_and_units lots)

held-append : (lots others : List Lot) → Held (lots ++ others) ≡ Held lots + Held others
held-append lots others =
    ap held_in (map-append key_and_units lots others)
    ∙ sum_by-append (λ (lot : LotKey × ℤ). unsigned_abs lot.1) (map key_and_units lots) (map key_and_units others)

pub takes_lot : (units : ℤ) (spec : CostSpec) (lot : Lot) (lots : List Lot) → other_sign lot.units units ≡ true → fits spec lot.key ≡ true
    → takeable_lots units spec (lot ∷ lots) ≡ lot ∷ takeable_lots units spec lots
takes_lot units spec lot lots other fit = rw fit (rw other refl)

-- so many of all lots were counted, which hold so much, and of which this is the only one; the rest are left
pub record Counted (all rest : List Lot) (lots held : ℕ) (only : Option Lot) : Type 0 where
  pub passed : List Lot
  pub same : passed ++ rest ≡ all
  pub count : lots ≡ length passed
  pub sum : held ≡ Held passed
  pub alone : only ≡ only_of passed

pub none_counted : (all : List Lot) → Counted all all 0 0 None
none_counted all = record { passed = []; same = refl; count = refl; sum = refl; alone = refl }

module _ (all rest : List Lot) (lot : Lot) (lots held : ℕ) (only : Option Lot) (counted : Counted all (lot ∷ rest) lots held only) where
  more_counted : (next : Option Lot) → next ≡ only_of (counted.passed ++ lot ∷ []) → Counted all rest (lots + 1) (held + unsigned_abs lot.units) next
  more_counted next is =
      let one = length-append counted.passed (lot ∷ []) in
      let more = held-append counted.passed (lot ∷ []) in
      let held_one = held_in-cons (key_and_units lot) [] in
      record {
        passed = counted.passed ++ lot ∷ [];
        same = append_assoc counted.passed (lot ∷ []) rest ∙ counted.same;
        count = omega (arith, one, counted.count);
        sum = omega (arith, more, held_one, counted.sum);
        alone = is;
      }

  -- the first lot is the only one
  pub first_counted : lots ≡ 0 → Counted all rest (lots + 1) (held + unsigned_abs lot.units) (Some lot)
  first_counted none = more_counted (Some lot) (by counted.passed (omega (arith, none, counted.count)))
    where
      by : (passed : List Lot) → length passed ≡ 0 → Some lot ≡ only_of (passed ++ lot ∷ [])
      by [] none = refl
      by (other ∷ passed) none = absurd (omega (arith, none))

  -- of more lots none is
  pub next_counted : lots ≢ 0 → Counted all rest (lots + 1) (held + unsigned_abs lot.units) None
  next_counted some = more_counted None (by counted.passed (omega (arith, some, counted.count)))
    where
      by : (passed : List Lot) → 1 ≤ length passed → None ≡ only_of (passed ++ lot ∷ [])
      by [] some = absurd (omega (arith, some))
      by (other ∷ []) some = refl
      by (other ∷ next ∷ passed) some = refl

module _ (all : List Lot) (lots held : ℕ) (only : Option Lot) where
  -- once all are gone through
  pub counts_all : (amount : ℕ) → Counted all [] lots held only → Counts amount lots held (map key_and_units all) × (only ≡ only_of all)
  counts_all amount counted =
      let is = sym (append-nil counted.passed) ∙ counted.same in (
        inl (record {
          lots_counted = counted.count ∙ ap length is ∙ sym (length-map all key_and_units);
          held_counted = counted.sum ∙ ap Held is;
        }),
        counted.alone ∙ ap only_of is,
      )

  -- or where several hold more than the amount
  pub counts_several : (amount : ℕ) (rest : List Lot) → Counted all rest lots held only → 2 ≤ lots → amount < held
      → Counts amount lots held (map key_and_units all) × (only ≡ only_of all)
  counts_several amount rest counted several more =
      let lot_count = sym (ap length counted.same) ∙ length-append counted.passed rest in
      let sum = sym (ap Held counted.same) ∙ held-append counted.passed rest in
      let each = length-map all key_and_units in (
        inr (record {
          several = several;
          among = omega (arith, each, lot_count, counted.count);
          more = more;
          within = omega (arith, sum, counted.sum);
        }),
        counted.alone ∙ sym (none_alone counted.passed (omega (arith, several, counted.count))) ∙ ap only_of counted.same,
      )
    where
      none_alone : (passed : List Lot) → 2 ≤ length passed → only_of (passed ++ rest) ≡ only_of passed
      none_alone [] several = absurd (omega (arith, several))
      none_alone (lot ∷ []) several = absurd (omega (arith, several))
      none_alone (lot ∷ next ∷ passed) several = refl

-- The lots of the highest number, as lots are gone through: of a higher number all that there are are still left.
use Rattle.std.specs.Prelude.{◌≡◌, ℕ, ◌+◌, ◌-◌, ◌≤◌, ◌<◌, ◌==◌, Bool, true, false, not, nat_lt, cond, Option, None, Some, IfSome, List, [], ◌∷◌, filter, map, ℤ, unsigned_abs, IsPermutation}
use Rattle.std.specs.List.{AllByRecursion}
use Rattle.std.proofs.Common.{append-nil, arith, refl, sym, ap, subst, ◌∙◌}
use Rattle.std.proofs.lemmas.Bool.Decides.{nat_tests}
use Rattle.std.proofs.lemmas.List.Elements.{filter_passes, recursion_from_All}
use Rattle.std.proofs.lemmas.List.Sorted.{IsPermutation-filter_both, IsPermutation-refl}
use Rattle.lot_cost.specs.declared.cost_spec.CostSpec.{CostSpec}
use Rattle.lot_cost.specs.CostSpec.{fits}
use Rattle.lot_cost.proofs.ListLemmas.{all_weaker}
use Rattle.lot_inv.specs.declared.foremost.Foremost.{Foremost}
use Rattle.lot_inv.specs.declared.foremost.Foremost.TheVariants.{Highest}
use Rattle.lot_inv.specs.declared.lot.Lot.{Lot}
use Rattle.lot_inv.specs.Foremost.{AreLentOf, HoldsAtHighest, is_later, of_number}
use Rattle.lot_inv.specs.Holding.{takeable_lots}
use Rattle.lot_inv.specs.Inventory.{held_in, other_sign, with_number}
use Rattle.lot_inv.specs.Lot.{key_and_units}
use Rattle.lot_inv.proofs.AvailableLemmas.{held_in-cons}
use Rattle.lot_inv.proofs.LentLemmas.{AreLater, misfits_lent}
use Rattle.lot_inv.proofs.RankLemmas.{lower_later}
use Rattle.lot_inv.proofs.RowLemmas.{none_isnt_some}

-- ---- lots that are gone through

module _ (units : ℤ) (spec : CostSpec) where
  abbrev Of : ℕ → List Lot → List Lot
  Of number lots = of_number number (takeable_lots units spec lots)

  abbrev Held : ℕ → List Lot → ℕ
  Held number lots = held_in (map key_and_units (Of number lots))

  -- a lot of another number is none of that number
  of_other : (number : ℕ) (lot : Lot) (lots : List Lot) → (number == lot.key.number) ≡ false → Of number (lot ∷ lots) ≡ Of number lots
  of_other number lot lots other =
      let fitting = filter (λ (lot : Lot). fits spec lot.key) lots in
      let test = λ (lot : Lot). other_sign lot.units units in
      elim (fits spec lot.key) as (λ b. of_number number (filter test (cond b (lot ∷ fitting) fitting)) ≡ Of number lots) [
        | true ↦
            elim (other_sign lot.units units) as (λ b. of_number number (cond b (lot ∷ filter test fitting) (filter test fitting)) ≡ Of number lots) [
              | true ↦ rw other refl
              | false ↦ refl
            ]
        | false ↦ refl
      ]

  -- of a higher number all lots are left, and those of the highest that were gone through hold the amount but for what is left
  pub record Passed (amount highest left : ℕ) (all rest : List Lot) : Type 0 where
    pub higher : (number : ℕ) → highest < number → Of number rest ≡ Of number all
    pub held : amount + Held highest rest ≤ left + Held highest all

  pub passed_over : (amount highest left : ℕ) (all rest : List Lot) (lot : Lot) → takeable_lots units spec (lot ∷ rest) ≡ takeable_lots units spec rest
      → Passed amount highest left all (lot ∷ rest) → Passed amount highest left all rest
  passed_over amount highest left all rest lot over passed =
      let same = ap (λ ls. held_in (map key_and_units (of_number highest ls))) over in
      record {
        higher = λ number more. ap (of_number number) (sym over) ∙ passed.higher number more;
        held = omega (arith, same, passed.held);
      }

  pub passed_lower : (amount highest left : ℕ) (all rest : List Lot) (lot : Lot) → lot.key.number < highest
      → Passed amount highest left all (lot ∷ rest) → Passed amount highest left all rest
  passed_lower amount highest left all rest lot lower passed =
      let same = ap (λ ls. held_in (map key_and_units ls)) (of_other highest lot rest (grind (arith, nat_tests))) in
      record {
        higher = λ number more. sym (of_other number lot rest (grind (arith, nat_tests))) ∙ passed.higher number more;
        held = omega (arith, same, passed.held);
      }

  pub passed_up : (amount highest left number : ℕ) (all rest : List Lot) → highest < number
      → Passed amount highest left all rest → Passed amount number amount all rest
  passed_up amount highest left number all rest up passed =
      let same = ap (λ ls. held_in (map key_and_units ls)) (passed.higher number up) in
      record {
        higher = λ next more. passed.higher next (omega (arith, up, more));
        held = omega (arith, same);
      }

  pub passed_one : (amount left : ℕ) (all rest : List Lot) (lot : Lot) → fits spec lot.key ≡ true → other_sign lot.units units ≡ true
      → Passed amount lot.key.number left all (lot ∷ rest) → Passed amount lot.key.number (left - unsigned_abs lot.units) all rest
  passed_one amount left all rest lot fit other passed =
      let itself : (lot.key.number == lot.key.number) ≡ true = grind (arith, nat_tests) in
      let here : Of lot.key.number (lot ∷ rest) ≡ lot ∷ Of lot.key.number rest = rw fit (rw other (rw itself refl)) in
      let more = ap (λ ls. held_in (map key_and_units ls)) here ∙ held_in-cons (key_and_units lot) (map key_and_units (Of lot.key.number rest)) in
      record {
        higher = λ number higher. sym (of_other number lot rest (grind (arith, nat_tests))) ∙ passed.higher number higher;
        held = omega (arith, more, passed.held);
      }

  pub passed_all : (amount highest : ℕ) (all : List Lot) → Passed amount highest 0 all [] → HoldsAtHighest amount highest (takeable_lots units spec all)
  passed_all amount highest all passed = record {
    none_higher = λ number more. sym (passed.higher number more);
    held = omega (arith, passed.held);
  }

-- ---- the lots of a number

-- those that fit a specification with a number are those of that number that fit it without one
pub takeable-of_number : (units : ℤ) (spec : CostSpec) (number : ℕ) (lots : List Lot)
    → takeable_lots units (with_number (Some number) spec) lots ≡ of_number number (takeable_lots units (with_number None spec) lots)
takeable-of_number units spec number [] = refl
takeable-of_number units spec number (lot ∷ lots) = by_number (number == lot.key.number) refl (takeable-of_number units spec number lots)
  where
    by_number : (b : Bool) → (number == lot.key.number) ≡ b
        → takeable_lots units (with_number (Some number) spec) lots ≡ of_number number (takeable_lots units (with_number None spec) lots)
        → takeable_lots units (with_number (Some number) spec) (lot ∷ lots) ≡ of_number number (takeable_lots units (with_number None spec) (lot ∷ lots))
    by_number true is behind =
        let test = λ (lot : Lot). other_sign lot.units units in
        let fitting = filter (λ (lot : Lot). fits (with_number (Some number) spec) lot.key) lots in
        let fitting_free = filter (λ (lot : Lot). fits (with_number None spec) lot.key) lots in
        rw is
        (elim (fits (with_number None spec) lot.key)
        as (λ b. filter test (cond b (lot ∷ fitting) fitting) ≡ of_number number (filter test (cond b (lot ∷ fitting_free) fitting_free))) [
          | true ↦
              elim (other_sign lot.units units)
              as (λ b. cond b (lot ∷ filter test fitting) (filter test fitting)
              ≡ of_number number (cond b (lot ∷ filter test fitting_free) (filter test fitting_free))) [
                | true ↦ rw is (ap (λ ls. lot ∷ ls) behind)
                | false ↦ behind
              ]
          | false ↦ behind
        ])
    by_number false is behind =
        misfits_lent units (with_number (Some number) spec) lot lots (rw is refl) ∙ behind ∙ sym (of_other units (with_number None spec) number lot lots is)

none_behind : (test : Lot → Bool) (lot : Lot) (lots : List Lot) → filter test (lot ∷ lots) ≡ [] → filter test lots ≡ []
none_behind test lot lots =
    elim (test lot) as (λ b. cond b (lot ∷ filter test lots) (filter test lots) ≡ [] → filter test lots ≡ []) [
      | true ↦ λ none. absurd (none_isnt_some lot (filter test lots) none)
      | false ↦ λ none. none
    ]

others_lower : (number : ℕ) (lots : List Lot) → ((higher : ℕ) → number < higher → of_number higher lots ≡ [])
    → AllByRecursion (λ (other : Lot). nat_lt other.key.number number ≡ true) (filter (λ (lot : Lot). not (number == lot.key.number)) lots)
others_lower number [] none = tt
others_lower number (lot ∷ lots) none =
    let behind = others_lower number lots (λ higher more. none_behind (λ (lot : Lot). higher == lot.key.number) lot lots (none higher more)) in
    let others = filter (λ (lot : Lot). not (number == lot.key.number)) lots in
    let Lower = λ (other : Lot). nat_lt other.key.number number ≡ true in
    elim (number == lot.key.number) as (λ b. (number == lot.key.number) ≡ b → AllByRecursion Lower (cond (not b) (lot ∷ others) others)) [
      | true ↦ λ is. behind
      | false ↦ λ differs. (lower differs, behind)
    ] refl
  where
    not_higher : number < lot.key.number → ⊥
    not_higher more =
        let itself : (lot.key.number == lot.key.number) ≡ true = grind (arith, nat_tests) in
        none_isnt_some lot (of_number lot.key.number lots) (sym (rw itself refl) ∙ none lot.key.number more)

    lower : (number == lot.key.number) ≡ false → nat_lt lot.key.number number ≡ true
    lower differs = grind (arith, nat_tests, not_higher)

-- ---- lots that are lent

pub lent_whole : (foremost : Foremost) (amount : ℕ) (all : List Lot) → AreLentOf foremost amount all all
lent_whole foremost amount all = record {
  others = [];
  same = subst (IsPermutation all) (sym (append-nil all)) (IsPermutation-refl all);
  later = none_left all;
  enough = λ enough. enough;
}
  where
    none_left : (lots : List Lot) → AllByRecursion (AreLater foremost []) lots
    none_left [] = tt
    none_left (lot ∷ lots) = (tt, none_left lots)

-- those of the highest number, where they hold the amount
pub lent_highest : (amount number : ℕ) (all : List Lot) → HoldsAtHighest amount number all → AreLentOf Highest amount all (of_number number all)
lent_highest amount number all holds =
    let here = λ (lot : Lot). number == lot.key.number in
    let others = filter (λ (lot : Lot). not (number == lot.key.number)) all in
    let lower = others_lower number all holds.none_higher in
    record {
      others = others;
      same = IsPermutation-filter_both here (λ (lot : Lot). not (number == lot.key.number)) (λ lot. refl) all;
      later = all_weaker (λ (lot : Lot). here lot ≡ true) (AreLater Highest others)
          (λ lot is. all_weaker (λ (other : Lot). nat_lt other.key.number number ≡ true) (λ (other : Lot). is_later Highest other lot ≡ true)
          (λ other less. lower_later lot.key.number other.key.number (grind (arith, nat_tests))) others lower) (of_number number all)
          (recursion_from_All (λ (lot : Lot). here lot ≡ true) (of_number number all) (filter_passes here all));
      enough = λ _. holds.held;
    }

-- those of the number that was found, or all where none was
pub lent_found : (units : ℤ) (spec : CostSpec) (amount : ℕ) (lots : List Lot) (found : Option ℕ) → spec.number ≡ None
    → IfSome found (λ number. HoldsAtHighest amount number (takeable_lots units spec lots))
    → AreLentOf Highest amount (takeable_lots units (with_number None spec) lots) (takeable_lots units (with_number found spec) lots)
lent_found units spec amount lots None free holds = lent_whole Highest amount (takeable_lots units (with_number None spec) lots)
lent_found units spec amount lots (Some number) free holds =
    let all = takeable_lots units (with_number None spec) lots in
    let same : takeable_lots units spec lots ≡ all = λ i.
    takeable_lots units (record { number = free i; currency = spec.currency; day = spec.day; label = spec.label }) lots in
    subst (AreLentOf Highest amount all) (sym (takeable-of_number units spec number lots))
    (lent_highest amount number all (subst (HoldsAtHighest amount number) same holds))

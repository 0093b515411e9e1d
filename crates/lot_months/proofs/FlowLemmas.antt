-- What went into lots, leg by leg.
use Rattle.std.specs.Prelude.{◌≡◌, ◌&&◌, ◌==◌, ℕ, zero, suc, pos, ◌+ℤ◌, Bool, true, false, cond, nat_le, List, [], ◌∷◌, ◌++◌, filter, is_some, IsSome, Option, None, Some}
use Rattle.std.specs.BTreeMap.{BTreeMap, get, is_at as is_found}
use Rattle.std.specs.Map.{lookup}
use Rattle.std.specs.Option.{unwrap_or}
use Rattle.std.specs.Ordering.{is_eq, nat_cmp}
use Rattle.std.proofs.Common.{arith, refl, sym, ap, subst, ◌∙◌}
use Rattle.std.proofs.Math.IntN.{+ℤ_idl}
use Rattle.std.proofs.lemmas.Bool.Decides.{nat_tests}
use Rattle.std.proofs.lemmas.Cmp.{nat_cmp_total, tied_itself}
use Rattle.lot_base.specs.Text.{same_text}
use Rattle.lot_book.proofs.CaseLemmas.{by_bool}
use Rattle.lot_cost.specs.declared.lot_key.LotKey.{LotKey}
use Rattle.lot_legs.specs.declared.leg.DatedLeg.{DatedLeg}
use Rattle.lot_months.specs.Lots.{HasFlows, HasTooMuch, IsFlow, Pair, cost_of, flow_in, flow_kept, flow_of, held_at, is_lot_in, is_of, month_flow, moved_in, no_flow, pair_cmp, plus_flow}
use Rattle.lot_months.specs.Range.{counts_at, falls_in, is_at, is_by, place_in}
use Rattle.lot_months.specs.declared.flows.Flow.{Flow}
use Rattle.lot_months.specs.declared.flows.MonthFlows.{MonthFlows}
use Rattle.lot_months.specs.declared.range.MonthRange.{MonthRange}
use Rattle.lot_months.proofs.PairLemmas.{and_false, both, one_pair, one_place, pair_tells, pairs_total, place_tells}
use Rattle.lot_months.proofs.SumLemmas.{Parts, all_of_each, and_parts, filter_push, filter_same, sum_push, sum_split}

abbrev pub Months : Type 0
Months = BTreeMap ℕ Flow

abbrev pub PairMonths : Type 0
PairMonths = BTreeMap Pair Months

-- ---- one leg more

abbrev pub leg_flow : DatedLeg → Flow
leg_flow leg = record { units = leg.units; cost = cost_of leg.lot leg.units }

flow_push : (legs : List DatedLeg) (leg : DatedLeg) → flow_of (legs ++ leg ∷ []) ≡ plus_flow (flow_of legs) (leg_flow leg)
flow_push legs leg =
    λ i. record {
      units = sum_push (λ (l : DatedLeg). l.units) legs leg i;
      cost = sum_push (λ (l : DatedLeg). cost_of l.lot l.units) legs leg i;
    }

abbrev is_moved : MonthRange → Pair → ℕ → DatedLeg → Bool
is_moved range pair at leg = is_of pair leg && falls_in range at leg.day

pub moved_push : (range : MonthRange) (legs : List DatedLeg) (leg : DatedLeg) (pair : Pair) (at : ℕ)
    → moved_in range (legs ++ leg ∷ []) pair at
    ≡ cond (is_moved range pair at leg) (plus_flow (moved_in range legs pair at) (leg_flow leg)) (moved_in range legs pair at)
moved_push range legs leg pair at =
    ap flow_of (filter_push (is_moved range pair at) legs leg) ∙ by (is_moved range pair at leg)
  where
    by : (b : Bool)
        → flow_of (cond b (filter (is_moved range pair at) legs ++ leg ∷ []) (filter (is_moved range pair at) legs))
        ≡ cond b (plus_flow (moved_in range legs pair at) (leg_flow leg)) (moved_in range legs pair at)
    by true = flow_push (filter (is_moved range pair at) legs) leg
    by false = refl

-- ---- what is kept

-- a flow is added to one month of one pair
abbrev pub AddsFlow : PairMonths → PairMonths → Pair → ℕ → Flow → Type 0
AddsFlow old new pair at flow = (other : Pair) (place : ℕ) → flow_kept new other place
    ≡ cond (is_eq (pair_cmp pair other) && is_eq (nat_cmp at place)) (plus_flow (flow_kept old pair at) flow) (flow_kept old other place)

pub none_kept : (range : MonthRange) (flows : MonthFlows) → flows.range ≡ range → flows.pairs.entries ≡ [] → HasFlows range [] flows
none_kept range flows of empty = record {
  range_is = of;
  each = λ pair at. ap (λ es. flow_in (lookup (is_found (pair_cmp pair)) es) at) empty;
}

tests_alike : (range : MonthRange) (leg : DatedLeg) (lot : LotKey) (at : ℕ) (pair : Pair) (place : ℕ)
    → leg.lot ≡ Some lot → place_in range leg.day ≡ Some at
    → (is_eq (pair_cmp (leg.commodity, lot.currency) pair) && is_eq (nat_cmp at place)) ≡ is_moved range pair place leg
tests_alike range leg lot at pair place of falls =
    (λ i. pair_tells (leg.commodity, lot.currency) pair i && place_tells at place i)
    ∙ (λ i. (same_text pair.0 leg.commodity && is_lot_in pair.1 (sym of i)) && is_at place (sym falls i))

flow_more : (range : MonthRange) (legs : List DatedLeg) (leg : DatedLeg) (old new : PairMonths) (lot : LotKey) (at : ℕ)
    → leg.lot ≡ Some lot → place_in range leg.day ≡ Some at
    → AddsFlow old new (leg.commodity, lot.currency) at (leg_flow leg)
    → ((pair : Pair) (place : ℕ) → flow_kept old pair place ≡ moved_in range legs pair place)
    → (pair : Pair) (place : ℕ) → flow_kept new pair place ≡ moved_in range (legs ++ leg ∷ []) pair place
flow_more range legs leg old new lot at of falls adds has pair place =
    adds pair place
    ∙ by_bool test
    (λ is.
    let parts = both (is_eq (pair_cmp here pair)) (is_eq (nat_cmp at place)) is in
    ap (λ b. cond b (plus_flow (flow_kept old here at) (leg_flow leg)) (flow_kept old pair place)) is
    ∙ ap (λ f. plus_flow f (leg_flow leg))
    (has here at
    ∙ ap (λ p. moved_in range legs p at) (one_pair here pair parts.0)
    ∙ ap (moved_in range legs pair) (one_place at place (sym (place_tells at place) ∙ parts.1)))
    ∙ ap (λ b. cond b (plus_flow (moved_in range legs pair place) (leg_flow leg)) (moved_in range legs pair place)) (sym is ∙ alike))
    (λ isnt.
    ap (λ b. cond b (plus_flow (flow_kept old here at) (leg_flow leg)) (flow_kept old pair place)) isnt
    ∙ has pair place
    ∙ ap (λ b. cond b (plus_flow (moved_in range legs pair place) (leg_flow leg)) (moved_in range legs pair place)) (sym isnt ∙ alike))
    ∙ sym (moved_push range legs leg pair place)
  where
    here : Pair
    here = (leg.commodity, lot.currency)

    test : Bool
    test = is_eq (pair_cmp here pair) && is_eq (nat_cmp at place)

    alike : test ≡ is_moved range pair place leg
    alike = tests_alike range leg lot at pair place of falls

pub has_more : (range : MonthRange) (legs : List DatedLeg) (leg : DatedLeg) (old new : MonthFlows) (lot : LotKey) (at : ℕ) (flow : Flow)
    → new.range ≡ old.range → leg.lot ≡ Some lot → place_in old.range leg.day ≡ Some at → flow ≡ leg_flow leg
    → AddsFlow old.pairs new.pairs (leg.commodity, lot.currency) at flow
    → HasFlows range legs old → HasFlows range (legs ++ leg ∷ []) new
has_more range legs leg old new lot at flow same of falls own adds has = record {
  range_is = same ∙ has.range_is;
  each = flow_more range legs leg old.pairs new.pairs lot at of (ap (λ r. place_in r leg.day) (sym has.range_is) ∙ falls)
      (subst (AddsFlow old.pairs new.pairs (leg.commodity, lot.currency) at) own adds) has.each;
}

-- a leg that is at no lot, or counts in no month
passed : (range : MonthRange) (legs : List DatedLeg) (leg : DatedLeg) (flows : MonthFlows)
    → ((pair : Pair) (at : ℕ) → is_moved range pair at leg ≡ false) → HasFlows range legs flows → HasFlows range (legs ++ leg ∷ []) flows
passed range legs leg flows never has = record {
  range_is = has.range_is;
  each = λ pair at.
      has.each pair at
      ∙ ap (λ b. cond b (plus_flow (moved_in range legs pair at) (leg_flow leg)) (moved_in range legs pair at)) (sym (never pair at))
      ∙ sym (moved_push range legs leg pair at);
}

pub passed_plain : (range : MonthRange) (legs : List DatedLeg) (leg : DatedLeg) (flows : MonthFlows) → leg.lot ≡ None
    → HasFlows range legs flows → HasFlows range (legs ++ leg ∷ []) flows
passed_plain range legs leg flows plain has =
    passed range legs leg flows
    (λ pair at.
    ap (λ l. (same_text pair.0 leg.commodity && is_lot_in pair.1 l) && falls_in range at leg.day) plain
    ∙ ap (λ b. b && falls_in range at leg.day) (and_false (same_text pair.0 leg.commodity)))
    has

pub passed_late : (range : MonthRange) (legs : List DatedLeg) (leg : DatedLeg) (flows : MonthFlows) → place_in flows.range leg.day ≡ None
    → HasFlows range legs flows → HasFlows range (legs ++ leg ∷ []) flows
passed_late range legs leg flows late has =
    passed range legs leg flows
    (λ pair at.
    ap (λ o. is_of pair leg && is_at at o) (ap (λ r. place_in r leg.day) (sym has.range_is) ∙ late)
    ∙ and_false (is_of pair leg))
    has

-- a sum that can't be kept
pub too_much : (range : MonthRange) (legs : List DatedLeg) (leg : DatedLeg) (old : MonthFlows) (lot : LotKey) (at : ℕ) (flow : Flow)
    → leg.lot ≡ Some lot → place_in old.range leg.day ≡ Some at → flow ≡ leg_flow leg
    → (IsFlow (plus_flow (flow_kept old.pairs (leg.commodity, lot.currency) at) flow) → ⊥)
    → HasFlows range legs old → HasTooMuch range (legs ++ leg ∷ [])
too_much range legs leg old lot at flow of falls own never has =
    let here : Pair = (leg.commodity, lot.currency) in
    let falls_here = ap (λ r. place_in r leg.day) (sym has.range_is) ∙ falls in
    let moved : is_moved range here at leg ≡ true =
    sym (tests_alike range leg lot at here at of falls_here) ∙ itself here at in
    let sum : moved_in range (legs ++ leg ∷ []) here at ≡ plus_flow (flow_kept old.pairs here at) flow =
    moved_push range legs leg here at
    ∙ ap (λ b. cond b (plus_flow (moved_in range legs here at) (leg_flow leg)) (moved_in range legs here at)) moved
    ∙ (λ i. plus_flow (sym (has.each here at) i) (sym own i)) in
    (here, at, λ fits. never (subst IsFlow sum fits))
  where
    itself : (pair : Pair) (place : ℕ) → (is_eq (pair_cmp pair pair) && is_eq (nat_cmp place place)) ≡ true
    itself pair place = λ i. is_eq (tied_itself pairs_total pair i) && is_eq (tied_itself nat_cmp_total place i)

-- ---- one pair, one month

-- one key of a map has another value
abbrev pub SetsPair : {X : Type 0} → BTreeMap Pair X → BTreeMap Pair X → Pair → X → Type 0
SetsPair old new pair value = (other : Pair) → get pair_cmp new other ≡ cond (is_eq (pair_cmp pair other)) (Some value) (get pair_cmp old other)

pub sets_after : {X : Type 0} (old mid new : BTreeMap Pair X) (pair : Pair) (value : X) → mid ≡ old → SetsPair mid new pair value → SetsPair old new pair value
sets_after old mid new pair value same sets other =
    sets other ∙ ap (λ map. cond (is_eq (pair_cmp pair other)) (Some value) (get pair_cmp map other)) same

pub found_some : {X : Type 0} (o : Option X) (x : X) → Some x ≡ o → IsSome o
found_some o x e = ap is_some (sym e)

pub flow_is : (flow : Flow) (leg : DatedLeg) (lot : LotKey) → leg.lot ≡ Some lot → flow.units ≡ leg.units → flow.cost ≡ cost_of (Some lot) leg.units
    → flow ≡ leg_flow leg
flow_is flow leg lot of units cost =
    λ i. record { units = units i; cost = (cost ∙ ap (λ l. cost_of l leg.units) (sym of)) i }

abbrev pub AddsMonth : Option Months → Months → ℕ → Flow → Type 0
AddsMonth old new at flow = (place : ℕ) → month_flow new place
    ≡ cond (is_eq (nat_cmp at place)) (plus_flow (flow_in old at) flow) (flow_in old place)

pub flow_set : (old new : PairMonths) (pair : Pair) (at : ℕ) (flow : Flow) (months : Months) (before : Option Months)
    → before ≡ get pair_cmp old pair → AddsMonth before months at flow → SetsPair old new pair months → AddsFlow old new pair at flow
flow_set old new pair at flow months before was adds sets other place =
    ap (λ o. flow_in o place) (sets other)
    ∙ by_bool (is_eq (pair_cmp pair other))
    (λ is.
    ap (λ b. flow_in (cond b (Some months) (get pair_cmp old other)) place) is
    ∙ adds place
    ∙ (λ i. cond (is_eq (nat_cmp at place)) (plus_flow (flow_in (was i) at) flow) (flow_in (was i) place))
    ∙ ap (λ p. cond (is_eq (nat_cmp at place)) (plus_flow (flow_kept old pair at) flow) (flow_kept old p place)) (one_pair pair other is)
    ∙ ap (λ b. cond (b && is_eq (nat_cmp at place)) (plus_flow (flow_kept old pair at) flow) (flow_kept old other place)) (sym is))
    (λ isnt.
    ap (λ b. flow_in (cond b (Some months) (get pair_cmp old other)) place) isnt
    ∙ ap (λ b. cond (b && is_eq (nat_cmp at place)) (plus_flow (flow_kept old pair at) flow) (flow_kept old other place)) (sym isnt))

-- in a map of no months nothing is kept
pub months_new : (old new : Months) (at : ℕ) (flow : Flow) → old.entries ≡ []
    → ((place : ℕ) → month_flow new place ≡ cond (is_eq (nat_cmp at place)) (plus_flow (month_flow old at) flow) (month_flow old place))
    → AddsMonth None new at flow
months_new old new at flow empty adds place =
    let none : (p : ℕ) → month_flow old p ≡ no_flow = λ p. ap (λ es. unwrap_or (lookup (is_found (nat_cmp p)) es) no_flow) empty in
    adds place ∙ (λ i. cond (is_eq (nat_cmp at place)) (plus_flow (none at i) flow) (none place i))

-- ---- from the end of a month to that of the next

place_parts : (at : ℕ) (place : Option ℕ) → Parts (is_by (suc at) place) (is_by at place) (is_at (suc at) place)
place_parts at None = (refl, refl)
place_parts at (Some place) = (grind (arith, nat_tests), grind (arith, nat_tests))

pub day_parts : (range : MonthRange) (pair : Bool) (at : ℕ) (place : Option ℕ)
    → Parts (pair && is_by (suc at) place) (pair && is_by at place) (pair && is_at (suc at) place)
day_parts range pair at place = and_parts pair (is_by (suc at) place) (is_by at place) (is_at (suc at) place) (place_parts at place)

pub first_place : (place : Option ℕ) → is_by 0 place ≡ is_at 0 place
first_place None = refl
first_place (Some place) = grind (arith, nat_tests)

pub held_next : (range : MonthRange) (legs : List DatedLeg) (pair : Pair) (at : ℕ)
    → held_at range legs pair (suc at) ≡ plus_flow (held_at range legs pair at) (moved_in range legs pair (suc at))
held_next range legs pair at =
    let whole = λ (leg : DatedLeg). is_of pair leg && counts_at range (suc at) leg.day in
    let first = λ (leg : DatedLeg). is_of pair leg && counts_at range at leg.day in
    let second = λ (leg : DatedLeg). is_of pair leg && falls_in range (suc at) leg.day in
    let parts = λ (leg : DatedLeg). day_parts range (is_of pair leg) at (place_in range leg.day) in
    λ i. record {
      units = sum_split (λ (l : DatedLeg). l.units) whole first second parts legs i;
      cost = sum_split (λ (l : DatedLeg). cost_of l.lot l.units) whole first second parts legs i;
    }

pub held_first : (range : MonthRange) (legs : List DatedLeg) (pair : Pair)
    → held_at range legs pair 0 ≡ plus_flow no_flow (moved_in range legs pair 0)
held_first range legs pair =
    let same : held_at range legs pair 0 ≡ moved_in range legs pair 0 =
    ap flow_of
    (filter_same (λ (leg : DatedLeg). is_of pair leg && counts_at range 0 leg.day) (λ (leg : DatedLeg). is_of pair leg && falls_in range 0 leg.day) legs
    (all_of_each (λ (leg : DatedLeg). ap (λ b. is_of pair leg && b) (first_place (place_in range leg.day))) legs)) in
    same
    ∙ (λ i. record {
      units = sym (+ℤ_idl (moved_in range legs pair 0).units) i;
      cost = sym (+ℤ_idl (moved_in range legs pair 0).cost) i;
    })

-- where nothing ever goes in, nothing is held
pub held_none : (range : MonthRange) (legs : List DatedLeg) (pair : Pair) → ((at : ℕ) → moved_in range legs pair at ≡ no_flow)
    → (at : ℕ) → held_at range legs pair at ≡ no_flow
held_none range legs pair none zero = held_first range legs pair ∙ ap (plus_flow no_flow) (none 0)
held_none range legs pair none (suc at) =
    held_next range legs pair at ∙ (λ i. plus_flow (held_none range legs pair none at i) (none (suc at) i))

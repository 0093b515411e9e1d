-- What the commodities of a currency cost adds up to what all its lots cost.
use Rattle.std.specs.Prelude.{◌≡◌, ◌&&◌, ◌||◌, ◌==◌, ◌<◌, ℕ, zero, suc, ℤ, pos, negsuc, ◌+ℤ◌, nat_abs, Bool, true, false, cond, not, List, [], ◌∷◌, filter, map}
use Rattle.std.specs.List.{AllByRecursion, fold, list_any}
use Rattle.std.specs.List.Sorted.{IsStrictlySortedBy}
use Rattle.std.specs.Ordering.{is_eq}
use Rattle.std.specs.declared.cmp.Ordering.TheVariants.{Less}
use Rattle.std.proofs.Common.{arith, refl, sym, ap, ◌∙◌}
use Rattle.std.proofs.Math.IntN.{+ℤ_assoc, +ℤ_idl, +ℤ_idr}
use Rattle.std.proofs.lemmas.Bool.{true≢false}
use Rattle.std.proofs.lemmas.Bool.Decides.{nat_tests}
use Rattle.lot_base.specs.Text.{same_text, text_cmp}
use Rattle.lot_base.proofs.TextLemmas.{one_text, same_text-itself, same_text-turned}
use Rattle.lot_book.proofs.CaseLemmas.{by_bool}
use Rattle.lot_legs.specs.declared.leg.DatedLeg.{DatedLeg}
use Rattle.lot_num.specs.Sum.{sum_of}
use Rattle.lot_plot.specs.declared.lines.MonthPoint.{MonthPoint}
use Rattle.lot_rows.specs.declared.price.PriceRow.{PriceRow}
use Rattle.lot_months.specs.Ends.{is_some_flow, no_point, plus_point}
use Rattle.lot_months.specs.Lots.{cost_of, held_at, is_lot_in, is_of}
use Rattle.lot_months.specs.Range.{counts_at}
use Rattle.lot_months.specs.Series.{AreBases, CostsAddUp, IsHeld, cost_at, part_at, point_at}
use Rattle.lot_months.specs.declared.flows.Flow.{Flow}
use Rattle.lot_months.specs.declared.range.MonthRange.{MonthRange}
use Rattle.lot_months.proofs.PairLemmas.{text_tells}
use Rattle.lot_months.proofs.SumLemmas.{Parts, all_of_each, all_weaker, filter_same, sum_split}

abbrev pub Test : Type 0
Test = DatedLeg → Bool

-- those of a commodity among the legs that pass a test, and the others
abbrev pub own : List ℕ → Test → Test
own base test leg = same_text base leg.commodity && test leg

abbrev other : List ℕ → Test → Test
other base test leg = not (same_text base leg.commodity) && test leg

split_parts : (same whole : Bool) → Parts whole (same && whole) (not same && whole)
split_parts true true = (refl, refl)
split_parts true false = (refl, refl)
split_parts false true = (refl, refl)
split_parts false false = (refl, refl)

or_later : (a b : Bool) → b ≡ true → (a || b) ≡ true
or_later true b is = refl
or_later false b is = is

none_left : (same test : Bool) → (same && (not same && test)) ≡ false
none_left true test = refl
none_left false test = refl

all_left : (base key : List ℕ) (leg : DatedLeg) (test : Bool) → same_text key base ≡ false → (b : Bool) → same_text base leg.commodity ≡ b
    → (b && (not (same_text key leg.commodity) && test)) ≡ (b && test)
all_left base key leg test apart true is =
    ap (λ s. not s && test) (ap (same_text key) (sym (one_text base leg.commodity is)) ∙ apart)
all_left base key leg test apart false is = refl

module _ (legs : List DatedLeg) where
  abbrev pub cost : Test → ℤ
  cost test = sum_of (map (λ (leg : DatedLeg). cost_of leg.lot leg.units) (filter test legs))

  cost_same : (test same : Test) → ((leg : DatedLeg) → test leg ≡ same leg) → cost test ≡ cost same
  cost_same test same each =
      ap (λ ls. sum_of (map (λ (leg : DatedLeg). cost_of leg.lot leg.units) ls)) (filter_same test same legs (all_of_each each legs))

  no_leg : (test : Test) (ls : List DatedLeg) → AllByRecursion (λ (leg : DatedLeg). test leg ≡ false) ls
      → sum_of (map (λ (leg : DatedLeg). cost_of leg.lot leg.units) (filter test ls)) ≡ pos 0
  no_leg test [] none = refl
  no_leg test (leg ∷ ls) none =
      ap (λ b. sum_of (map (λ (l : DatedLeg). cost_of l.lot l.units) (cond b (leg ∷ filter test ls) (filter test ls)))) none.0
      ∙ no_leg test ls none.1

  split_cost : (base : List ℕ) (test : Test) → cost test ≡ cost (own base test) +ℤ cost (other base test)
  split_cost base test =
      sum_split (λ (leg : DatedLeg). cost_of leg.lot leg.units) test (own base test) (other base test)
      (λ leg. split_parts (same_text base leg.commodity) (test leg)) legs

  gone : (base : List ℕ) (test : Test) → cost (own base (other base test)) ≡ pos 0
  gone base test =
      no_leg (own base (other base test)) legs (all_of_each (λ leg. none_left (same_text base leg.commodity) (test leg)) legs)

  stays : (base key : List ℕ) (test : Test) → same_text key base ≡ false → cost (own base (other key test)) ≡ cost (own base test)
  stays base key test apart =
      cost_same (own base (other key test)) (own base test)
      (λ leg. all_left base key leg (test leg) apart (same_text base leg.commodity) refl)

  -- where no commodity costs something, nothing does
  abbrev CostsNothing : Test → Type 0
  CostsNothing test = (base : List ℕ) → cost (own base test) ≡ pos 0

  still_nothing : (key : List ℕ) (test : Test) → CostsNothing test → CostsNothing (other key test)
  still_nothing key test nothing base =
      by_bool (same_text key base)
      (λ is. ap (λ b. cost (own b (other key test))) (sym (one_text key base is)) ∙ gone key test)
      (λ apart. stays base key test apart ∙ nothing base)

  abbrev without : List (List ℕ) → Test → Test
  without [] test = test
  without (key ∷ keys) test = without keys (other key test)

  cost_without : (keys : List (List ℕ)) (test : Test) → CostsNothing test → cost test ≡ cost (without keys test)
  cost_without [] test nothing = refl
  cost_without (key ∷ keys) test nothing =
      split_cost key test
      ∙ ap (λ z. z +ℤ cost (other key test)) (nothing key)
      ∙ +ℤ_idl (cost (other key test))
      ∙ cost_without keys (other key test) (still_nothing key test nothing)

  and_fails : (a b : Bool) → b ≡ false → (a && b) ≡ false
  and_fails true b is = is
  and_fails false b is = refl

  fails_still : (keys : List (List ℕ)) (test : Test) (leg : DatedLeg) → test leg ≡ false → without keys test leg ≡ false
  fails_still [] test leg fails = fails
  fails_still (key ∷ keys) test leg fails =
      fails_still keys (other key test) leg (and_fails (not (same_text key leg.commodity)) (test leg) fails)

  fails_in : (keys : List (List ℕ)) (test : Test) (leg : DatedLeg) → list_any (λ key. same_text key leg.commodity) keys ≡ true
      → without keys test leg ≡ false
  fails_in [] test leg among = absurd (true≢false (sym among))
  fails_in (key ∷ keys) test leg among =
      by_bool (same_text key leg.commodity)
      (λ is. fails_still keys (other key test) leg (ap (λ s. not s && test leg) is))
      (λ apart. fails_in keys (other key test) leg (ap (λ b. b || list_any (λ k. same_text k leg.commodity) keys) (sym apart) ∙ among))

  each_among : (ls : List DatedLeg)
      → AllByRecursion (λ (leg : DatedLeg). list_any (λ key. same_text key leg.commodity) (map (λ (l : DatedLeg). l.commodity) ls) ≡ true) ls
  each_among [] = tt
  each_among (leg ∷ ls) = (
    ap (λ b. b || list_any (λ key. same_text key leg.commodity) (map (λ (l : DatedLeg). l.commodity) ls)) (same_text-itself leg.commodity),
    all_weaker (λ (l : DatedLeg) among. or_later (same_text leg.commodity l.commodity) _ among) ls (each_among ls),
  )

  nothing_costs : (test : Test) → CostsNothing test → cost test ≡ pos 0
  nothing_costs test nothing =
      let keys = map (λ (l : DatedLeg). l.commodity) legs in
      cost_without keys test nothing
      ∙ no_leg (without keys test) legs (all_weaker (λ (leg : DatedLeg) among. fails_in keys test leg among) legs (each_among legs))

  -- ---- the sum over commodities

  abbrev pub sum_over : List (List ℕ) → Test → ℤ
  sum_over bases test = sum_of (map (λ (base : List ℕ). cost (own base test)) bases)

  less_apart : (key base : List ℕ) → text_cmp key base ≡ Less → same_text key base ≡ false
  less_apart key base less = sym (text_tells key base) ∙ ap is_eq less

  sum_stays : (key : List ℕ) (bases : List (List ℕ)) (test : Test) → AllByRecursion (λ (base : List ℕ). text_cmp key base ≡ Less) bases
      → sum_over bases (other key test) ≡ sum_over bases test
  sum_stays key [] test above = refl
  sum_stays key (base ∷ bases) test above =
      λ i. stays base key test (less_apart key base above.0) i +ℤ sum_stays key bases test above.1 i

  pub sums_up : (bases : List (List ℕ)) (test : Test) → IsStrictlySortedBy text_cmp bases
      → ((base : List ℕ) → list_any (same_text base) bases ≡ false → cost (own base test) ≡ pos 0)
      → cost test ≡ sum_over bases test
  unfolding IsStrictlySortedBy
  sums_up [] test sorted rest = nothing_costs test (λ base. rest base refl)
  sums_up (key ∷ bases) test sorted rest =
      let left : (base : List ℕ) → list_any (same_text base) bases ≡ false → cost (own base (other key test)) ≡ pos 0 =
      λ base among. by_bool (same_text key base)
      (λ is. ap (λ b. cost (own b (other key test))) (sym (one_text key base is)) ∙ gone key test)
      (λ apart. stays base key test apart
      ∙ rest base (ap (λ b. b || list_any (same_text base) bases) (same_text-turned key base false apart) ∙ among)) in
      split_cost key test
      ∙ ap (λ z. cost (own key test) +ℤ z) (sums_up bases (other key test) sorted.1 left ∙ sum_stays key bases test sorted.0)

-- ---- the cost of a point

fold_cost : (points : List MonthPoint) (first : MonthPoint)
    → (fold plus_point first points).cost ≡ first.cost +ℤ sum_of (map (λ (p : MonthPoint). p.cost) points)
fold_cost [] first = sym (+ℤ_idr first.cost)
fold_cost (p ∷ points) first =
    fold_cost points (plus_point first p) ∙ +ℤ_assoc first.cost p.cost (sum_of (map (λ (q : MonthPoint). q.cost) points))

no_cost : (flow : Flow) → is_some_flow flow ≡ false → flow.cost ≡ pos 0
no_cost flow none = zero_is flow.cost (second (nat_abs flow.units == 0) (nat_abs flow.cost == 0) none)
  where
    second : (a b : Bool) → not (a && b) ≡ false → b ≡ true
    second true true is = refl
    second true false is = absurd (true≢false is)
    second false b is = absurd (true≢false is)

    zero_is : (z : ℤ) → (nat_abs z == 0) ≡ true → z ≡ pos 0
    zero_is (pos n) is = ap pos (grind (arith, nat_tests))
    zero_is (negsuc n) is = absurd (grind (arith, nat_tests))

and_moved : (a b c : Bool) → ((a && b) && c) ≡ (a && (b && c))
and_moved true b c = refl
and_moved false b c = refl

module _ (range : MonthRange) (legs : List DatedLeg) (quotes : List PriceRow) (currency : List ℕ) (bases : List (List ℕ)) (at : ℕ) where
  abbrev test : Test
  test leg = is_lot_in currency leg.lot && counts_at range at leg.day

  base_cost : (base : List ℕ) → (held_at range legs (base, currency) at).cost ≡ cost legs (own base test)
  base_cost base =
      cost_same legs (λ leg. is_of (base, currency) leg && counts_at range at leg.day) (own base test)
      (λ leg. and_moved (same_text base leg.commodity) (is_lot_in currency leg.lot) (counts_at range at leg.day))

  costs_of : (bs : List (List ℕ)) → sum_of (map (λ (p : MonthPoint). p.cost) (map (part_at range legs quotes currency at) bs)) ≡ sum_over legs bs test
  costs_of [] = refl
  costs_of (base ∷ bs) = λ i. base_cost base i +ℤ costs_of bs i

  pub cost_is : at < range.count → AreBases range legs currency bases → (point_at range legs quotes bases currency at).cost ≡ cost_at range legs currency at
  cost_is below are =
      let rest : (base : List ℕ) → list_any (same_text base) bases ≡ false → cost legs (own base test) ≡ pos 0 =
      λ base apart. sym (base_cost base)
      ∙ by_bool (is_some_flow (held_at range legs (base, currency) at))
      (λ held. absurd (true≢false (sym (are.all base (at, below, held)) ∙ apart)))
      (λ none. no_cost (held_at range legs (base, currency) at) none) in
      fold_cost (map (part_at range legs quotes currency at) bases) no_point
      ∙ +ℤ_idl (sum_of (map (λ (p : MonthPoint). p.cost) (map (part_at range legs quotes currency at) bases)))
      ∙ costs_of bases
      ∙ sym (sums_up legs bases test are.in_order rest)

pub costs_add_up : CostsAddUp
costs_add_up range legs quotes currency bases at below are = cost_is range legs quotes currency bases at below are

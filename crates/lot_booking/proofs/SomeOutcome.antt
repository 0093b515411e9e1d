-- Every posting comes to some outcome: its lots are put in the order of its method, and taken in turn.
use Rattle.std.specs.Prelude.{◌≡◌, ◌≢◌, ◌⊎◌, ℕ, ◌≤◌, ◌<◌, Bool, true, false, cond, ◌||◌, if◌then◌else◌, List, [], ◌∷◌, length, Option, None, Some, is_none, ℤ, pos, unsigned_abs, IsPermutation}
use Rattle.std.specs.Cmp.{tied_itself}
use Rattle.std.specs.List.{AllByRecursion}
use Rattle.std.specs.Map.{keys_of}
use Rattle.std.specs.Ordering.{int_eq, is_eq}
use Rattle.std.proofs.Common.{refl, sym, ap, subst, ◌∙◌, arith, inl, inr}
use Rattle.std.proofs.lemmas.Bool.{and_parts, cases_Bool, cases_order, true≢false}
use Rattle.std.proofs.lemmas.Int.{ints}
use Rattle.std.proofs.lemmas.List.Sorted.{IsPermutation-refl, IsPermutation-cons, IsPermutation-swap, IsPermutation-trans}
use Rattle.std.proofs.lemmas.Map.Keys.{IsDistinct-head, IsDistinct-tail}
use Rattle.lot_cost.specs.declared.lot_key.LotKey.{LotKey}
use Rattle.lot_inv.specs.Inventory.{MatchingLotsAreDistinct, held_in}
use Rattle.lot_cost.specs.LotKey.{lot_cmp}
use Rattle.lot_cost.proofs.OrderLemmas.{lots_total}
use Rattle.lot_booking.specs.declared.fault.BookingFault.TheVariants.{ZeroUnits, InexactCost, IncompleteCost, NoMatch, Ambiguous, NotEnough}
use Rattle.lot_cost.specs.declared.method.Method.{Method}
use Rattle.lot_cost.specs.declared.method.Method.TheVariants.{Strict, Fifo, Lifo, Hifo, Unmatched}
use Rattle.lot_booking.specs.Booking.{Augments, Braced, ComesTo, FindsNone, Legs, Outcome, Reduces, Refused, candidates, is_ambiguous, is_inexact, is_reducing, opened_key, spec_of}
use Rattle.lot_booking.specs.Choice.{AreInOrder, HasNoChoice, HaveDistinctKeys, InTurn, OneOrWhole, Takes}
use Rattle.lot_booking.specs.Method.{Ties, highest_by, may_reduce, newest_by, oldest_by, order_by, rule_by}
use Rattle.lot_booking.specs.Order.{IsOrder, oldest_first}
use Rattle.lot_booking.specs.OrderLaws.{oldest_is_order}
use Rattle.lot_booking.specs.Way.{Suffice, walked}
use Rattle.lot_booking.proofs.BookLemmas.{none_of_several, taken_strictly}
use Rattle.lot_booking.proofs.BookingLaws.{candidates_distinct}
use Rattle.lot_booking.proofs.ChoiceLemmas.{all_keys, held_in-permuted, no_choice-from_less}
use Rattle.lot_cost.proofs.ListLemmas.{all_weaker}
use Rattle.lot_booking.proofs.ListLemmas.{all_permuted}
use Rattle.lot_booking.proofs.OpeningOrders.{is_order_by}
use Rattle.lot_booking.proofs.TakeLemmas.{other_first, takes-in_order}

-- ---- lots in an order

abbrev Lots : Type 0
Lots = List (LotKey × ℤ)

-- a lot in its place
abbrev put_in : (LotKey → LotKey → Bool) → LotKey × ℤ → Lots → Lots
put_in before lot [] = lot ∷ []
put_in before lot (next ∷ lots) = if before lot.0 next.0 then lot ∷ next ∷ lots else next ∷ put_in before lot lots

abbrev in_order : (LotKey → LotKey → Bool) → Lots → Lots
in_order before [] = []
in_order before (lot ∷ lots) = put_in before lot (in_order before lots)

-- no lot of the list has the lot's key
abbrev IsApart : LotKey × ℤ → Lots → Type 0
IsApart lot lots = AllByRecursion (λ (other : LotKey × ℤ). is_eq (lot_cmp lot.0 other.0) ≡ false) lots

module _ (before : LotKey → LotKey → Bool) (order : IsOrder before) where
  put_permuted : (lot : LotKey × ℤ) (lots : Lots) → IsPermutation (lot ∷ lots) (put_in before lot lots)
  put_permuted lot [] = IsPermutation-refl (lot ∷ [])
  put_permuted lot (next ∷ lots) =
      elim (before lot.0 next.0) as (λ b. IsPermutation (lot ∷ next ∷ lots) (cond b (lot ∷ next ∷ lots) (next ∷ put_in before lot lots))) [
        | true ↦ IsPermutation-refl (lot ∷ next ∷ lots)
        | false ↦ IsPermutation-trans (lot ∷ next ∷ lots) (next ∷ lot ∷ lots) (next ∷ put_in before lot lots)
            (IsPermutation-swap (lot ∷ next ∷ lots) (next ∷ lot ∷ lots) 0 1 (omega arith) (omega arith) refl)
            (IsPermutation-cons next (lot ∷ lots) (put_in before lot lots) (put_permuted lot lots))
      ]

  order_permuted : (lots : Lots) → IsPermutation lots (in_order before lots)
  order_permuted [] = IsPermutation-refl []
  order_permuted (lot ∷ lots) =
      IsPermutation-trans (lot ∷ lots) (lot ∷ in_order before lots) (put_in before lot (in_order before lots))
      (IsPermutation-cons lot lots (in_order before lots) (order_permuted lots)) (put_permuted lot (in_order before lots))

  -- of two distinct keys the one that isn't first is second
  second_key : (a b : LotKey) → is_eq (lot_cmp a b) ≡ false → before a b ≡ false → before b a ≡ true
  second_key a b apart not_first =
      other_first (before a b) (before b a) not_first
      (order.total a b (λ same. true≢false (sym (ap is_eq (tied_itself lots_total a)) ∙ ap (λ k. is_eq (lot_cmp a k)) same ∙ apart)))

  put_ordered : (lot : LotKey × ℤ) (lots : Lots) → IsApart lot lots → AreInOrder before lots → AreInOrder before (put_in before lot lots)
  put_ordered lot [] apart ordered = (tt, tt)
  put_ordered lot (next ∷ lots) apart ordered =
      elim (before lot.0 next.0) as (λ b. before lot.0 next.0 ≡ b → AreInOrder before (cond b (lot ∷ next ∷ lots) (next ∷ put_in before lot lots))) [
        | true ↦ λ e. (
          (
            e,
            all_weaker (λ (later : LotKey × ℤ). before next.0 later.0 ≡ true) (λ (later : LotKey × ℤ). before lot.0 later.0 ≡ true)
                (λ later follows. order.transitive lot.0 next.0 later.0 e follows) lots ordered.0,
          ),
          ordered,
        )
        | false ↦ λ e. (
          all_permuted (λ (later : LotKey × ℤ). before next.0 later.0 ≡ true) (lot ∷ lots) (put_in before lot lots) (put_permuted lot lots)
              (second_key lot.0 next.0 apart.0 e, ordered.0),
          put_ordered lot lots apart.1 ordered.1,
        )
      ] refl

  order_ordered : (lots : Lots) → HaveDistinctKeys lots → AreInOrder before (in_order before lots)
  order_ordered [] distinct = tt
  order_ordered (lot ∷ lots) distinct =
      let same = λ (a b : LotKey). is_eq (lot_cmp a b) in
      put_ordered lot (in_order before lots)
      (all_permuted (λ (other : LotKey × ℤ). same lot.0 other.0 ≡ false) lots (in_order before lots) (order_permuted lots)
      (all_keys (λ key. same lot.0 key ≡ false) lots (IsDistinct-head same lot.0 (keys_of lots) distinct)))
      (order_ordered lots (IsDistinct-tail same lot.0 (keys_of lots) distinct))

  -- lots that hold enough are taken in turn
  taken_in_turn : (lots : Lots) (units : ℤ) → HaveDistinctKeys lots → unsigned_abs units ≤ held_in lots → (legs : Lots) × Takes (InTurn before) before lots units legs
  taken_in_turn lots units distinct enough =
      let listed = in_order before lots in
      let moved = order_permuted lots in (
        walked units (unsigned_abs units) listed,
        takes-in_order before order lots listed units (walked units (unsigned_abs units) listed) distinct moved (order_ordered lots distinct)
            (subst (λ n. unsigned_abs units ≤ n) (sym (held_in-permuted lots listed moved)) enough) refl,
      )

-- ---- what a method takes

-- the method has legs for the units, or there is no choice
abbrev TakesOrNot : Ties → Method → Lots → ℤ → Type 0
TakesOrNot ties method lots units =
    ((legs : Lots) × Takes (rule_by ties method) (order_by ties method) lots units legs) ⊎ HasNoChoice (rule_by ties method) lots (unsigned_abs units)

-- one number is below another or isn't
at_most_or_below : (a b : ℕ) → (a ≤ b) ⊎ (b < a)
at_most_or_below a b = elim (cases_order a b) [
  | inl same ↦ inl (omega arith)
  | inr (inl less) ↦ inl (omega arith)
  | inr (inr more) ↦ inr (omega arith)
]

in_turn_or_not : (before : LotKey → LotKey → Bool) → IsOrder before → (lots : Lots) (units : ℤ) → HaveDistinctKeys lots
    → ((legs : Lots) × Takes (InTurn before) before lots units legs) ⊎ HasNoChoice (InTurn before) lots (unsigned_abs units)
in_turn_or_not before order lots units distinct = elim (at_most_or_below (unsigned_abs units) (held_in lots)) [
  | inl enough ↦ inl (taken_in_turn before order lots units distinct enough)
  | inr less ↦ inr (no_choice-from_less (InTurn before) lots (unsigned_abs units) less)
]

strictly : (lots : Lots) (units : ℤ) → HaveDistinctKeys lots → unsigned_abs units ≤ held_in lots → (2 ≤ length lots → held_in lots ≡ unsigned_abs units)
    → (legs : Lots) × Takes OneOrWhole oldest_first lots units legs
strictly lots units distinct enough exact =
    let taken = taken_in_turn oldest_first oldest_is_order lots units distinct enough in
    (taken.0, taken_strictly lots units taken.0 exact taken.1)

strictly_or_not : (ties : Ties) (lots : Lots) (units : ℤ) → HaveDistinctKeys lots → TakesOrNot ties Strict lots units
strictly_or_not ties lots units distinct =
    let amount = unsigned_abs units in
    elim (at_most_or_below 2 (length lots)) [
      | inl several ↦ elim (cases_order (held_in lots) amount) [
        | inl same ↦ inl (strictly lots units distinct (omega (arith, same)) (λ _. same))
        | inr (inl less) ↦ inr (no_choice-from_less OneOrWhole lots amount less)
        | inr (inr more) ↦ inr (none_of_several lots amount several (λ same. absurd (omega (arith, same, more))))
      ]
      | inr few ↦ elim (at_most_or_below amount (held_in lots)) [
        | inl enough ↦ inl (strictly lots units distinct enough (λ several. absurd (omega (arith, few, several))))
        | inr less ↦ inr (no_choice-from_less OneOrWhole lots amount less)
      ]
    ]

takes_or_not : (ties : Ties) (method : Method) → may_reduce method ≡ true → (lots : Lots) (units : ℤ) → HaveDistinctKeys lots
    → TakesOrNot ties method lots units
takes_or_not ties Strict may lots units distinct = strictly_or_not ties lots units distinct
takes_or_not ties Fifo may lots units distinct = in_turn_or_not (oldest_by ties) (is_order_by ties Fifo) lots units distinct
takes_or_not ties Lifo may lots units distinct = in_turn_or_not (newest_by ties) (is_order_by ties Lifo) lots units distinct
takes_or_not ties Hifo may lots units distinct = in_turn_or_not (highest_by ties) (is_order_by ties Hifo) lots units distinct
takes_or_not ties Unmatched may lots units distinct = absurd (true≢false (sym may))

-- lots that suffice have legs
pub suffice-takes : (ties : Ties) (method : Method) → may_reduce method ≡ true → (lots : Lots) (units : ℤ) → HaveDistinctKeys lots
    → Suffice method (length lots) (held_in lots) (unsigned_abs units) → (legs : Lots) × Takes (rule_by ties method) (order_by ties method) lots units legs
suffice-takes ties Strict may lots units distinct h = strictly lots units distinct h.enough (h.exact refl)
suffice-takes ties Fifo may lots units distinct h = taken_in_turn (oldest_by ties) (is_order_by ties Fifo) lots units distinct h.enough
suffice-takes ties Lifo may lots units distinct h = taken_in_turn (newest_by ties) (is_order_by ties Lifo) lots units distinct h.enough
suffice-takes ties Hifo may lots units distinct h = taken_in_turn (highest_by ties) (is_order_by ties Hifo) lots units distinct h.enough
suffice-takes ties Unmatched may lots units distinct h = absurd (true≢false (sym may))

-- ---- some outcome

abbrev HasOutcome : Braced → Type 0
HasOutcome posting = (outcome : Outcome) × ComesTo posting outcome

some_refusal : (posting : Braced) → Reduces posting → FindsNone posting → (lots : Lots) → candidates posting ≡ lots → HasOutcome posting
some_refusal posting h none [] e = (Refused NoMatch, (h, e))
some_refusal posting h none (lot ∷ lots) e = elim (cases_Bool (is_ambiguous posting)) [
  | inl several ↦ (Refused Ambiguous, (h, several, none))
  | inr one ↦ (Refused NotEnough, (h, (λ empty. no_lot lot lots (sym e ∙ empty)), one, none))
]
  where
    no_lot : (lot : LotKey × ℤ) (lots : Lots) → (lot ∷ lots) ≢ []
    no_lot lot lots e = absurd (omega (arith, ap length e))

some_reduction : MatchingLotsAreDistinct → (posting : Braced) → Reduces posting → HasOutcome posting
some_reduction sorted posting h =
    elim (takes_or_not posting.ties posting.method (and_parts (may_reduce posting.method) _ h.2).0 (candidates posting) posting.units (candidates_distinct sorted posting)) [
      | inl taken ↦ (Legs true taken.0, (h, taken.1))
      | inr none ↦ some_refusal posting h none (candidates posting) refl
    ]

some_opening : (posting : Braced) → Augments posting → (number : Option ℕ) (currency : Option (List ℕ))
    → (spec_of posting.units posting.cost).number ≡ number → (spec_of posting.units posting.cost).currency ≡ currency → HasOutcome posting
some_opening posting h None currency e f = (Refused IncompleteCost, (h, ap (λ n. is_none n || is_none (spec_of posting.units posting.cost).currency) e))
some_opening posting h (Some number) None e f = (Refused IncompleteCost, (h, (λ i. is_none (e i) || is_none (f i))))
some_opening posting h (Some number) (Some currency) e f =
    let spec = spec_of posting.units posting.cost in (
      Legs false ((opened_key spec posting.day number currency, posting.units) ∷ []),
      (h, record { number = number; currency = currency; given_number = e; given_currency = f; leg = refl }),
    )

is_zero : (units : ℤ) → int_eq units (pos 0) ≡ true → units ≡ pos 0
is_zero units e = grind (arith, ints)

pub some_outcome : MatchingLotsAreDistinct → (posting : Braced) → (outcome : Outcome) × ComesTo posting outcome
some_outcome sorted posting =
    let spec = spec_of posting.units posting.cost in
    elim (cases_Bool (int_eq posting.units (pos 0))) [
      | inl zero ↦ (Refused ZeroUnits, is_zero posting.units zero)
      | inr not_zero ↦
          let some : posting.units ≢ pos 0 = λ zero. true≢false (sym (ap (λ u. int_eq u (pos 0)) zero) ∙ not_zero) in
          elim (cases_Bool (is_inexact posting.units posting.cost)) [
            | inl inexact ↦ (Refused InexactCost, (some, inexact))
            | inr exact ↦ elim (cases_Bool (is_reducing posting)) [
              | inl reduces ↦ some_reduction sorted posting (some, exact, reduces)
              | inr augments ↦ some_opening posting (some, exact, augments) spec.number spec.currency refl refl
            ]
          ]
    ]

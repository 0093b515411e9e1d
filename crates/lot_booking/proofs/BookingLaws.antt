-- What the legs of a posting add up to, which lots they take from, and that a posting has one outcome.
use Rattle.std.specs.Prelude.{◌≡◌, ◌≢◌, ◌⊎◌, ℕ, ◌+◌, ◌≤◌, Bool, true, false, cond, nat_eq, nat_le, ◌&&◌, ◌||◌, List, [], ◌∷◌, length, Option, None, Some, is_none, ℤ, pos, ◌+ℤ◌, neg_ℤ, unsigned_abs, int_lt}
use Rattle.std.specs.Cmp.{eq_by_cmp_equiv}
use Rattle.std.specs.List.{AllByRecursion, Contains}
use Rattle.std.specs.Map.{keys_of}
use Rattle.std.specs.Ordering.{eq_by_cmp}
use Rattle.std.proofs.Common.{refl, sym, ap, subst, ◌∙◌, arith, inl, inr}
use Rattle.std.proofs.Math.IntN.{+ℤ_idr}
use Rattle.std.proofs.lemmas.Bool.{and_parts, cases_Bool, eqb-false, eqb-true, true≢false}
use Rattle.std.proofs.lemmas.Int.{ints}
use Rattle.std.proofs.lemmas.List.Elements.{All-from_recursion, Contains-append_right, filter_passes, recursion_from_All}
use Rattle.std.proofs.lemmas.List.Sorted.{All-permutation, Contains-permutation, IsPermutation-map, IsPermutation-sym, sum_by-IsPermutation}
use Rattle.std.proofs.lemmas.List.Sums.{sum_by-cons}
use Rattle.std.proofs.lemmas.Map.Keys.{IsDistinct-IsPermutation, IsDistinct-cons, IsDistinct-head, IsDistinct-tail}
use Rattle.std.proofs.lemmas.Map.Views.{lookup-from_Contains}
use Rattle.lot_cost.specs.declared.cost_spec.CostSpec.{CostSpec}
use Rattle.lot_cost.specs.declared.lot_key.LotKey.{LotKey}
use Rattle.lot_inv.specs.Inventory.{MatchingLotsAreDistinct, matching, other_sign}
use Rattle.lot_cost.specs.LotKey.{lot_cmp}
use Rattle.lot_cost.proofs.OrderLemmas.{lots_total}
use Rattle.lot_booking.specs.declared.fault.BookingFault.{BookingFault}
use Rattle.lot_booking.specs.declared.fault.BookingFault.TheVariants.{ZeroUnits, InexactCost, IncompleteCost, NoMatch, Ambiguous, NotEnough, Memory}
use Rattle.lot_cost.specs.declared.method.Method.{Method}
use Rattle.lot_cost.specs.declared.method.Method.TheVariants.{Strict, Fifo, Lifo, Hifo, Unmatched}
use Rattle.lot_booking.specs.Booking.{AreTaken, Augments, ComesTo, Braced, FindsNone, IsOneLeg, Legs, Outcome, Reduces, Refused, TakesFrom, candidates, is_ambiguous, is_inexact, opened_key, spec_of, units_in}
use Rattle.lot_booking.specs.Choice.{AreInOrder, Choice, HasNoChoice, HaveDistinctKeys, IsChoice, Rule, Takes, chosen_legs, given, with_sign_of}
use Rattle.lot_booking.specs.Method.{Ties, is_strict, highest_by, newest_by, oldest_by, order_by, rule_by}
use Rattle.lot_booking.specs.Order.{IsOrder}
use Rattle.lot_booking.proofs.ChoiceLaws.{one_in_turn, one_strict}
use Rattle.lot_booking.proofs.ChoiceLemmas.{distinct_among}
use Rattle.lot_booking.proofs.ListLemmas.{at_member, each_member}
use Rattle.lot_booking.proofs.OpeningOrders.{is_order_by}

-- ---- an amount with the sign of units

no_amount : (units : ℤ) → pos 0 ≡ with_sign_of units 0
no_amount units = elim (int_lt units (pos 0)) as (λ b. pos 0 ≡ cond b (neg_ℤ (pos 0)) (pos 0)) [ true ↦ refl | false ↦ refl ]

pub size_of-sign : (units : ℤ) (amount : ℕ) → unsigned_abs (with_sign_of units amount) ≡ amount
size_of-sign units amount = grind (arith, ints)

pub whole_amount : (units : ℤ) → with_sign_of units (unsigned_abs units) ≡ units
whole_amount units = grind (arith, ints)

sign-add : (units : ℤ) (a b : ℕ) → with_sign_of units a +ℤ with_sign_of units b ≡ with_sign_of units (a + b)
sign-add units a b = grind (arith, ints)

sign-other : (held units : ℤ) (amount : ℕ) → other_sign held units ≡ true → 1 ≤ amount → other_sign held (with_sign_of units amount) ≡ true
sign-other held units amount other some = grind (arith, ints)

-- ---- the sum of legs

pub units_in-chosen : (units : ℤ) (choice : Choice) (lots : List (LotKey × ℤ)) → units_in (chosen_legs units choice lots) ≡ with_sign_of units (given choice lots)
units_in-chosen units choice [] = no_amount units
units_in-chosen units choice (lot ∷ lots) =
    let rest = units_in-chosen units choice lots in
    let total : given choice (lot ∷ lots) ≡ choice lot.0 + given choice lots = sum_by-cons (λ (lot : LotKey × ℤ). choice lot.0) lot lots in
    let legs = chosen_legs units choice lots in
    let part = with_sign_of units (choice lot.0) in
    rw total
    (elim (cases_Bool (nat_eq (choice lot.0) 0)) [
      | inl none ↦
          let zero : choice lot.0 ≡ 0 = eqb-true (choice lot.0) 0 none in
          ap (λ b. units_in (cond b legs ((lot.0, part) ∷ legs))) none ∙ rest ∙ ap (λ n. with_sign_of units n) (omega (arith, zero))
      | inr some ↦
          ap (λ b. units_in (cond b legs ((lot.0, part) ∷ legs))) some ∙ ap (λ z. part +ℤ z) rest ∙ sign-add units (choice lot.0) (given choice lots)
    ])

pub taken_units : (allows : Rule) (before : LotKey → LotKey → Bool) (lots : List (LotKey × ℤ)) (units : ℤ) (legs : List (LotKey × ℤ))
    → Takes allows before lots units legs → units_in legs ≡ units
taken_units allows before lots units legs takes =
    let listed : given takes.choice takes.listed ≡ unsigned_abs units =
    sum_by-IsPermutation (λ (lot : LotKey × ℤ). takes.choice lot.0) lots takes.listed takes.same ∙ takes.is.sum in
    ap units_in takes.chosen ∙ units_in-chosen units takes.choice takes.listed ∙ ap (with_sign_of units) listed ∙ whole_amount units

pub units_of_legs : (posting : Braced) (reduces : Bool) (legs : List (LotKey × ℤ)) → ComesTo posting (Legs reduces legs) → units_in legs ≡ posting.units
units_of_legs posting false legs comes = ap units_in comes.1.leg ∙ +ℤ_idr posting.units
units_of_legs posting true legs comes =
    taken_units (rule_by posting.ties posting.method) (order_by posting.ties posting.method) (candidates posting) posting.units legs comes.1

-- ---- which lots the legs take from

chosen_each : (P : LotKey × ℤ → Type 0) (units : ℤ) (choice : Choice) (lots : List (LotKey × ℤ))
    → AllByRecursion (λ (lot : LotKey × ℤ). 1 ≤ choice lot.0 → P (lot.0, with_sign_of units (choice lot.0))) lots → AllByRecursion P (chosen_legs units choice lots)
chosen_each P units choice [] each = tt
chosen_each P units choice (lot ∷ lots) each =
    let legs = chosen_legs units choice lots in
    let rest = chosen_each P units choice lots each.1 in
    let part = with_sign_of units (choice lot.0) in
    elim (cases_Bool (nat_eq (choice lot.0) 0)) [
      | inl none ↦ subst (λ b. AllByRecursion P (cond b legs ((lot.0, part) ∷ legs))) (sym none) rest
      | inr some ↦ subst (λ b. AllByRecursion P (cond b legs ((lot.0, part) ∷ legs))) (sym some)
          (each.0 (omega (arith, eqb-false (choice lot.0) 0 some)), rest)
    ]

pub candidates_distinct : MatchingLotsAreDistinct → (posting : Braced) → HaveDistinctKeys (candidates posting)
candidates_distinct sorted posting =
    let lots = matching posting.held posting.commodity (spec_of posting.units posting.cost) in
    distinct_among (λ (lot : LotKey × ℤ). other_sign lot.1 posting.units) lots (sorted posting.held posting.commodity (spec_of posting.units posting.cost))

pub taken_from : MatchingLotsAreDistinct → (posting : Braced) (legs : List (LotKey × ℤ)) → AreTaken posting legs → AllByRecursion (TakesFrom (candidates posting)) legs
taken_from sorted posting legs takes =
    let lots = candidates posting in
    let choice = takes.choice in
    let units = posting.units in
    let signs = recursion_from_All (λ (lot : LotKey × ℤ). other_sign lot.1 units ≡ true) lots
    (filter_passes (λ (lot : LotKey × ℤ). other_sign lot.1 units) (matching posting.held posting.commodity (spec_of posting.units posting.cost))) in
    subst (AllByRecursion (TakesFrom lots)) (sym takes.chosen)
    (chosen_each (TakesFrom lots) units choice takes.listed
    (each_member (λ (lot : LotKey × ℤ). 1 ≤ choice lot.0 → TakesFrom lots (lot.0, with_sign_of units (choice lot.0))) takes.listed
    (λ lot listed some.
    let member = Contains-permutation takes.listed lots lot (IsPermutation-sym lots takes.listed takes.same) listed in
    record {
      held = lot.1;
      is_held = lookup-from_Contains (eq_by_cmp_equiv lots_total) lot.0 lot.1 lots (candidates_distinct sorted posting) member;
      sign = sign-other lot.1 units (choice lot.0) (at_member (λ (lot : LotKey × ℤ). other_sign lot.1 units ≡ true) lots lot signs member) some;
      bound = omega (arith, size_of-sign units (choice lot.0), at_member (λ (lot : LotKey × ℤ). choice lot.0 ≤ unsigned_abs lot.1) lots lot takes.is.within member);
    })))

-- ---- no two legs take from one lot

chosen_keys : (P : LotKey → Type 0) (units : ℤ) (choice : Choice) (lots : List (LotKey × ℤ)) → AllByRecursion P (keys_of lots)
    → AllByRecursion P (keys_of (chosen_legs units choice lots))
chosen_keys P units choice [] each = tt
chosen_keys P units choice (lot ∷ lots) each =
    let legs = chosen_legs units choice lots in
    let rest = chosen_keys P units choice lots each.1 in
    elim (nat_eq (choice lot.0) 0) as (λ b. AllByRecursion P (keys_of (cond b legs ((lot.0, with_sign_of units (choice lot.0)) ∷ legs)))) [
      | true ↦ rest
      | false ↦ (each.0, rest)
    ]

chosen_distinct : (units : ℤ) (choice : Choice) (lots : List (LotKey × ℤ)) → HaveDistinctKeys lots → HaveDistinctKeys (chosen_legs units choice lots)
chosen_distinct units choice [] distinct = distinct
chosen_distinct units choice (lot ∷ lots) distinct =
    let same = eq_by_cmp lot_cmp in
    let legs = chosen_legs units choice lots in
    let rest = chosen_distinct units choice lots (IsDistinct-tail same lot.0 (keys_of lots) distinct) in
    let apart = chosen_keys (λ key. same lot.0 key ≡ false) units choice lots (IsDistinct-head same lot.0 (keys_of lots) distinct) in
    elim (nat_eq (choice lot.0) 0) as (λ b. HaveDistinctKeys (cond b legs ((lot.0, with_sign_of units (choice lot.0)) ∷ legs))) [
      | true ↦ rest
      | false ↦ IsDistinct-cons same lot.0 (keys_of legs) apart rest
    ]

pub taken_distinct : MatchingLotsAreDistinct → (posting : Braced) (legs : List (LotKey × ℤ)) → AreTaken posting legs → HaveDistinctKeys legs
taken_distinct sorted posting legs takes =
    let lots = candidates posting in
    let listed : HaveDistinctKeys takes.listed = IsDistinct-IsPermutation (eq_by_cmp lot_cmp) (eq_by_cmp_equiv lots_total).symm (keys_of lots) (keys_of takes.listed)
    (IsPermutation-map (λ (lot : LotKey × ℤ). lot.0) lots takes.listed takes.same) (candidates_distinct sorted posting) in
    subst HaveDistinctKeys (sym takes.chosen) (chosen_distinct posting.units takes.choice takes.listed listed)

-- ---- one list of legs

first_or_later : {X : Type 0} (x z : X) (xs : List X) → Contains (x ∷ xs) z → (x ≡ z) ⊎ Contains xs z
first_or_later x z xs member =
    at_member (λ y. (x ≡ y) ⊎ Contains xs y) (x ∷ xs) z (inl refl, each_member (λ y. (x ≡ y) ⊎ Contains xs y) xs (λ y later. inr later)) member

-- a lot is before each of those in a list
abbrev IsBefore : (LotKey → LotKey → Bool) → LotKey × ℤ → List (LotKey × ℤ) → Type 0
IsBefore before lot lots = AllByRecursion (λ (later : LotKey × ℤ). before lot.0 later.0 ≡ true) lots

module _ (before : LotKey → LotKey → Bool) (order : IsOrder before) where
  later_key : (lot later : LotKey × ℤ) (lots : List (LotKey × ℤ)) → IsBefore before lot lots → Contains lots later → before lot.0 later.0 ≡ true
  later_key lot later lots h member = at_member (λ (later : LotKey × ℤ). before lot.0 later.0 ≡ true) lots later h member

  not_before_itself : (key : LotKey) → before key key ≡ true → ⊥
  not_before_itself key itself = true≢false (sym itself ∙ order.never_itself key)

  -- two lists in order that have each other's first lot have the same first lot
  same_first : (x y : LotKey × ℤ) (xs ys : List (LotKey × ℤ)) → IsBefore before x xs → IsBefore before y ys → Contains (y ∷ ys) x → Contains (x ∷ xs) y → x ≡ y
  same_first x y xs ys a b there back =
      elim (first_or_later y x ys there) [
        | inl same ↦ sym same
        | inr later ↦ elim (first_or_later x y xs back) [
          | inl same ↦ same
          | inr too ↦ absurd (not_before_itself x.0 (order.transitive x.0 y.0 x.0 (later_key x y xs a too) (later_key y x ys b later)))
        ]
      ]

  -- a lot that follows the first isn't the first
  past_first : (x : LotKey × ℤ) (xs ys : List (LotKey × ℤ)) → IsBefore before x ys → (lot : LotKey × ℤ) → Contains ys lot → Contains (x ∷ xs) lot → Contains xs lot
  past_first x xs ys h lot member found =
      elim (first_or_later x lot xs found) [
        | inl same ↦ absurd (not_before_itself x.0 (ap (before x.0) (ap (λ (lot : LotKey × ℤ). lot.0) same) ∙ later_key x lot ys h member))
        | inr later ↦ later
      ]

  -- the same lots in order are one list
  listed_once : (xs ys : List (LotKey × ℤ)) → AreInOrder before xs → AreInOrder before ys
      → ((lot : LotKey × ℤ) → Contains xs lot → Contains ys lot) → ((lot : LotKey × ℤ) → Contains ys lot → Contains xs lot) → xs ≡ ys
  listed_once [] [] a b there back = refl
  listed_once [] (y ∷ ys) a b there back = let found = back y (0, omega arith, refl) in absurd (omega (arith, found.1))
  listed_once (x ∷ xs) [] a b there back = let found = there x (0, omega arith, refl) in absurd (omega (arith, found.1))
  listed_once (x ∷ xs) (y ∷ ys) a b there back =
      let first = same_first x y xs ys a.0 b.0 (there x (0, omega arith, refl)) (back y (0, omega arith, refl)) in
      let rest = listed_once xs ys a.1 b.1
      (λ lot member. past_first y ys xs (subst (λ z. IsBefore before z xs) first a.0) lot member (there lot (Contains-append_right (x ∷ []) xs lot member)))
      (λ lot member. past_first x xs ys (subst (λ z. IsBefore before z ys) (sym first) b.0) lot member (back lot (Contains-append_right (y ∷ []) ys lot member))) in
      ap (λ z. z ∷ xs) first ∙ ap (λ zs. y ∷ zs) rest

-- choices that give the lots the same make the same legs
same_chosen : (units : ℤ) (one other : Choice) (lots : List (LotKey × ℤ)) → AllByRecursion (λ (lot : LotKey × ℤ). one lot.0 ≡ other lot.0) lots
    → chosen_legs units one lots ≡ chosen_legs units other lots
same_chosen units one other [] same = refl
same_chosen units one other (lot ∷ lots) same =
    let legs : ℕ → List (LotKey × ℤ) → List (LotKey × ℤ) = λ amount rest. cond (nat_eq amount 0) rest ((lot.0, with_sign_of units amount) ∷ rest) in
    ap (λ amount. legs amount (chosen_legs units one lots)) same.0 ∙ ap (legs (other lot.0)) (same_chosen units one other lots same.1)

one_choice : (ties : Ties) (method : Method) (lots : List (LotKey × ℤ)) (amount : ℕ) (one other : Choice)
    → IsChoice (rule_by ties method) lots amount one → IsChoice (rule_by ties method) lots amount other
    → AllByRecursion (λ (lot : LotKey × ℤ). one lot.0 ≡ other lot.0) lots
one_choice ties Strict lots amount one other a b = one_strict lots amount one other a b
one_choice ties Fifo lots amount one other a b = one_in_turn (oldest_by ties) (is_order_by ties Fifo) lots amount one other a b
one_choice ties Lifo lots amount one other a b = one_in_turn (newest_by ties) (is_order_by ties Lifo) lots amount one other a b
one_choice ties Hifo lots amount one other a b = one_in_turn (highest_by ties) (is_order_by ties Hifo) lots amount one other a b
one_choice ties Unmatched lots amount one other a b = absurd a.allowed

taken_once : (posting : Braced) (legs others : List (LotKey × ℤ)) → AreTaken posting legs → AreTaken posting others → legs ≡ others
taken_once posting legs others a b =
    let lots = candidates posting in
    let units = posting.units in
    let listed : a.listed ≡ b.listed =
    listed_once (order_by posting.ties posting.method) (is_order_by posting.ties posting.method) a.listed b.listed a.order b.order
    (λ lot member. Contains-permutation lots b.listed lot b.same (Contains-permutation a.listed lots lot (IsPermutation-sym lots a.listed a.same) member))
    (λ lot member. Contains-permutation lots a.listed lot a.same (Contains-permutation b.listed lots lot (IsPermutation-sym lots b.listed b.same) member)) in
    let Same : LotKey × ℤ → Type 0 = λ lot. a.choice lot.0 ≡ b.choice lot.0 in
    let same : AllByRecursion Same lots = one_choice posting.ties posting.method lots (unsigned_abs units) a.choice b.choice a.is b.is in
    a.chosen
    ∙ same_chosen units a.choice b.choice a.listed (recursion_from_All Same a.listed (All-permutation Same lots a.listed a.same (All-from_recursion Same lots same)))
    ∙ ap (chosen_legs units b.choice) listed ∙ sym b.chosen

-- ---- one outcome

-- what comes of opening a lot with that number and that currency
abbrev opened_with : CostSpec → ℤ → ℤ → Option ℕ → Option (List ℕ) → Outcome
opened_with spec units day None currency = Refused IncompleteCost
opened_with spec units day (Some number) None = Refused IncompleteCost
opened_with spec units day (Some number) (Some currency) = Legs false ((opened_key spec day number currency, units) ∷ [])

abbrev opened : Braced → Outcome
opened posting =
    let spec = spec_of posting.units posting.cost in
    opened_with spec posting.units posting.day spec.number spec.currency

-- why there is no choice among these lots
abbrev why_none : List (LotKey × ℤ) → Bool → BookingFault
why_none [] ambiguous = NoMatch
why_none (lot ∷ lots) true = Ambiguous
why_none (lot ∷ lots) false = NotEnough

abbrev refusal : Braced → Outcome
refusal posting = Refused (why_none (candidates posting) (is_ambiguous posting))

-- an outcome, by what becomes of the posting
data Case (posting : Braced) (outcome : Outcome) : Type 0 where
  Idle : posting.units ≡ pos 0 → outcome ≡ Refused ZeroUnits → Case posting outcome
  Inexact : posting.units ≢ pos 0 → is_inexact posting.units posting.cost ≡ true → outcome ≡ Refused InexactCost → Case posting outcome
  Opens : Augments posting → outcome ≡ opened posting → Case posting outcome
  TakesSome : Reduces posting → (legs : List (LotKey × ℤ)) → AreTaken posting legs → outcome ≡ Legs true legs → Case posting outcome
  TakesNone : Reduces posting → FindsNone posting → outcome ≡ refusal posting → Case posting outcome

opened-leg : (spec : CostSpec) (units day : ℤ) (legs : List (LotKey × ℤ)) → IsOneLeg spec units day legs → Legs false legs ≡ opened_with spec units day spec.number spec.currency
opened-leg spec units day legs h =
    ap (Legs false) h.leg ∙ ap (λ currency. opened_with spec units day (Some h.number) currency) (sym h.given_currency)
    ∙ ap (λ number. opened_with spec units day number spec.currency) (sym h.given_number)

opened-incomplete : (spec : CostSpec) (units day : ℤ) (number : Option ℕ) (currency : Option (List ℕ)) → (is_none number || is_none currency) ≡ true
    → Refused IncompleteCost ≡ opened_with spec units day number currency
opened-incomplete spec units day None currency e = refl
opened-incomplete spec units day (Some number) None e = refl
opened-incomplete spec units day (Some number) (Some currency) e = absurd (true≢false (sym e))

why_none-ambiguous : (strict : Bool) (lots : List (LotKey × ℤ)) → (strict && nat_le 2 (length lots)) ≡ true → Ambiguous ≡ why_none lots (strict && nat_le 2 (length lots))
why_none-ambiguous strict [] e = absurd (true≢false (sym (and_parts strict false e).1))
why_none-ambiguous strict (lot ∷ lots) e = ap (why_none (lot ∷ lots)) (sym e)

why_none-not_enough : (lots : List (LotKey × ℤ)) (ambiguous : Bool) → lots ≢ [] → ambiguous ≡ false → NotEnough ≡ why_none lots ambiguous
why_none-not_enough [] ambiguous some e = absurd (some refl)
why_none-not_enough (lot ∷ lots) ambiguous some e = ap (why_none (lot ∷ lots)) (sym e)

no_size : (units : ℤ) → 0 ≡ unsigned_abs units → units ≡ pos 0
no_size units e = grind (arith, ints)

none_of_none : (allows : Rule) (lots : List (LotKey × ℤ)) (units : ℤ) → units ≢ pos 0 → lots ≡ [] → HasNoChoice allows lots (unsigned_abs units)
none_of_none allows lots units some empty choice is = some (no_size units (ap (given choice) (sym empty) ∙ is.sum))

case_of : (posting : Braced) (outcome : Outcome) → ComesTo posting outcome → Case posting outcome
case_of posting (Legs false legs) h = Opens h.0 (opened-leg (spec_of posting.units posting.cost) posting.units posting.day legs h.1)
case_of posting (Legs true legs) h = TakesSome h.0 legs h.1 refl
case_of posting (Refused ZeroUnits) h = Idle h refl
case_of posting (Refused InexactCost) h = Inexact h.0 h.1 refl
case_of posting (Refused IncompleteCost) h =
    let spec = spec_of posting.units posting.cost in
    Opens h.0 (opened-incomplete spec posting.units posting.day spec.number spec.currency h.1)
case_of posting (Refused NoMatch) h =
    TakesNone h.0 (none_of_none (rule_by posting.ties posting.method) (candidates posting) posting.units h.0.0 h.1)
    (ap (λ lots. Refused (why_none lots (is_ambiguous posting))) (sym h.1))
case_of posting (Refused Ambiguous) h = TakesNone h.0 h.2 (ap Refused (why_none-ambiguous (is_strict posting.method) (candidates posting) h.1))
case_of posting (Refused NotEnough) h = TakesNone h.0 h.3 (ap Refused (why_none-not_enough (candidates posting) (is_ambiguous posting) h.1 h.2))
case_of posting (Refused Memory) h = absurd h

-- a posting doesn't both open and take
not_both : (posting : Braced) → Augments posting → Reduces posting → ⊥
not_both posting a b = true≢false (sym b.2 ∙ a.2)

case_once : (posting : Braced) (one other : Outcome) → Case posting one → Case posting other → one ≡ other
case_once posting one other (Idle z a) (Idle _ b) = a ∙ sym b
case_once posting one other (Idle z a) (Inexact s e b) = absurd (s z)
case_once posting one other (Inexact s e a) (Idle z b) = absurd (s z)
case_once posting one other (Inexact s e a) (Inexact _ _ b) = a ∙ sym b
case_once posting one other (Inexact s e a) (Opens h b) = absurd (true≢false (sym e ∙ h.1))
case_once posting one other (Inexact s e a) (TakesSome h legs t b) = absurd (true≢false (sym e ∙ h.1))
case_once posting one other (Inexact s e a) (TakesNone h t b) = absurd (true≢false (sym e ∙ h.1))
case_once posting one other (Opens h a) (Inexact s e b) = absurd (true≢false (sym e ∙ h.1))
case_once posting one other (TakesSome h legs t a) (Inexact s e b) = absurd (true≢false (sym e ∙ h.1))
case_once posting one other (TakesNone h t a) (Inexact s e b) = absurd (true≢false (sym e ∙ h.1))
case_once posting one other (Idle z a) (Opens h b) = absurd (h.0 z)
case_once posting one other (Idle z a) (TakesSome h legs t b) = absurd (h.0 z)
case_once posting one other (Idle z a) (TakesNone h t b) = absurd (h.0 z)
case_once posting one other (Opens g a) (Idle z b) = absurd (g.0 z)
case_once posting one other (Opens g a) (Opens h b) = a ∙ sym b
case_once posting one other (Opens g a) (TakesSome h legs t b) = absurd (not_both posting g h)
case_once posting one other (Opens g a) (TakesNone h t b) = absurd (not_both posting g h)
case_once posting one other (TakesSome g legs s a) (Idle z b) = absurd (g.0 z)
case_once posting one other (TakesSome g legs s a) (Opens h b) = absurd (not_both posting h g)
case_once posting one other (TakesSome g legs s a) (TakesSome h others t b) = a ∙ ap (Legs true) (taken_once posting legs others s t) ∙ sym b
case_once posting one other (TakesSome g legs s a) (TakesNone h t b) = absurd (t s.choice s.is)
case_once posting one other (TakesNone g s a) (Idle z b) = absurd (g.0 z)
case_once posting one other (TakesNone g s a) (Opens h b) = absurd (not_both posting h g)
case_once posting one other (TakesNone g s a) (TakesSome h legs t b) = absurd (s t.choice t.is)
case_once posting one other (TakesNone g s a) (TakesNone h t b) = a ∙ sym b

pub one_outcome : (posting : Braced) (one other : Outcome) → ComesTo posting one → ComesTo posting other → one ≡ other
one_outcome posting one other a b = case_once posting one other (case_of posting one a) (case_of posting other b)

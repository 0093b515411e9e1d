-- A walk along lots takes each whole before the next one.
use Rattle.std.specs.Prelude.{◌≡◌, ◌≢◌, ℕ, ◌+◌, ◌-◌, ◌≤◌, min, nat_eq, Bool, true, false, ◌||◌, cond, if◌then◌else◌, List, [], ◌∷◌, ◌++◌, map, ℤ, unsigned_abs, IsPermutation, ⊤}
use Rattle.std.specs.Cmp.{IsStrictWeakOrder}
use Rattle.std.specs.List.{AllByRecursion}
use Rattle.std.specs.Map.{keys_of}
use Rattle.std.specs.Ordering.{is_eq}
use Rattle.std.proofs.Common.{arith, refl, sym, ap, ◌∙◌, add-one, append_assoc, get_or, subst}
use Rattle.std.proofs.lemmas.Bool.Decides.{nat_tests}
use Rattle.std.proofs.lemmas.Cmp.{tied_itself}
use Rattle.std.proofs.lemmas.List.{map-append}
use Rattle.std.proofs.lemmas.List.Sorted.{IsPermutation-map, IsPermutation-sym}
use Rattle.std.proofs.lemmas.List.Sums.{sum_by-append}
use Rattle.std.proofs.lemmas.Map.Keys.{IsDistinct-head, IsDistinct-tail}
use Rattle.lot_cost.specs.declared.lot_key.LotKey.{LotKey}
use Rattle.lot_cost.specs.LotKey.{lot_cmp}
use Rattle.lot_cost.proofs.OrderLemmas.{lots_total}
use Rattle.lot_inv.specs.declared.lot.Lot.{Lot}
use Rattle.lot_inv.specs.Inventory.{held_in}
use Rattle.lot_inv.specs.Lot.{AreNumberedBy, key_and_units}
use Rattle.lot_inv.proofs.AvailableLemmas.{held_in-cons}
use Rattle.lot_booking.specs.Choice.{AreInOrder, Choice, HaveDistinctKeys, InTurn, IsWhole, Takes, chosen_legs, given, with_sign_of}
use Rattle.lot_booking.specs.Front.{AreAscending, IsFrontOf, is_earlier}
use Rattle.lot_booking.specs.OpeningOrder.{OpenedLot, by_numbers}
use Rattle.lot_booking.specs.Order.{IsOrder}
use Rattle.lot_booking.specs.Way.{walked}
use Rattle.lot_booking.proofs.ChoiceLemmas.{all_keys, distinct-permuted, given-cons, given-permuted, in_turn-permuted}
use Rattle.lot_cost.proofs.ListLemmas.{all_weaker}
use Rattle.lot_booking.proofs.ListLemmas.{all_both, all_mapped, all_permuted}

-- ---- a step of a walk

walked_none : (units : ℤ) (left : ℕ) (lot : LotKey × ℤ) (lots : List (LotKey × ℤ)) → min left (unsigned_abs lot.1) ≡ 0
    → walked units left (lot ∷ lots) ≡ walked units left lots
walked_none units left lot lots none =
    let part = min left (unsigned_abs lot.1) in
    let zero : nat_eq part 0 ≡ true = grind (arith, nat_tests) in
    ap (λ (b : Bool). cond b (walked units left lots) ((lot.0, with_sign_of units part) ∷ walked units (left - part) lots)) zero

walked_some : (units : ℤ) (left : ℕ) (lot : LotKey × ℤ) (lots : List (LotKey × ℤ)) → min left (unsigned_abs lot.1) ≢ 0
    → walked units left (lot ∷ lots) ≡ (lot.0, with_sign_of units (min left (unsigned_abs lot.1))) ∷ walked units (left - min left (unsigned_abs lot.1)) lots
walked_some units left lot lots some =
    let part = min left (unsigned_abs lot.1) in
    let more : nat_eq part 0 ≡ false = grind (arith, nat_tests) in
    ap (λ (b : Bool). cond b (walked units left lots) ((lot.0, with_sign_of units part) ∷ walked units (left - part) lots)) more

-- the legs so far and those of what is left are those of all, also after a lot that gives nothing, and after one that gives something
pub all_after_none : (units : ℤ) (left : ℕ) (lot : LotKey × ℤ) (lots legs all : List (LotKey × ℤ)) → min left (unsigned_abs lot.1) ≡ 0
    → legs ++ walked units left (lot ∷ lots) ≡ all → legs ++ walked units left lots ≡ all
all_after_none units left lot lots legs all none walk = ap (λ w. legs ++ w) (sym (walked_none units left lot lots none)) ∙ walk

pub all_after_some : (units : ℤ) (left part : ℕ) (lot : LotKey × ℤ) (lots legs longer all : List (LotKey × ℤ)) → part ≡ min left (unsigned_abs lot.1)
    → part ≢ 0 → longer ≡ legs ++ (lot.0, with_sign_of units part) ∷ []
    → legs ++ walked units left (lot ∷ lots) ≡ all → longer ++ walked units (left - part) lots ≡ all
all_after_some units left part lot lots legs longer all is some pushed walk =
    rw (pushed, is) (append_assoc legs _ _ ∙ ap (λ w. legs ++ w) (sym (walked_some units left lot lots (λ e. some (is ∙ e)))) ∙ walk)

-- where nothing is left to take there are no further legs
walked_nothing : (units : ℤ) (lots : List (LotKey × ℤ)) → walked units 0 lots ≡ []
walked_nothing units [] = refl
walked_nothing units (lot ∷ lots) = walked_none units 0 lot lots (omega arith) ∙ walked_nothing units lots

-- where the first lots hold enough, the others give nothing
walked_enough : (units : ℤ) (left : ℕ) (first others : List (LotKey × ℤ)) → left ≤ held_in first
    → walked units left (first ++ others) ≡ walked units left first
walked_enough units left [] others enough =
    let none : left ≡ 0 = omega arith in
    ap (λ n. walked units n others) none ∙ walked_nothing units others
walked_enough units left (lot ∷ first) others enough =
    by_part (nat_eq (min left (unsigned_abs lot.1)) 0) refl (walked_enough units left first others)
    (walked_enough units (left - min left (unsigned_abs lot.1)) first others (omega (arith, enough, held_in-cons lot first)))
  where
    by_part : (none : Bool) → nat_eq (min left (unsigned_abs lot.1)) 0 ≡ none
        → (left ≤ held_in first → walked units left (first ++ others) ≡ walked units left first)
        → walked units (left - min left (unsigned_abs lot.1)) (first ++ others) ≡ walked units (left - min left (unsigned_abs lot.1)) first
        → walked units left ((lot ∷ first) ++ others) ≡ walked units left (lot ∷ first)
    by_part true none same after =
        let zero : min left (unsigned_abs lot.1) ≡ 0 = grind (arith, nat_tests) in
        walked_none units left lot (first ++ others) zero
        ∙ same (omega (arith, zero, enough, held_in-cons lot first))
        ∙ sym (walked_none units left lot first zero)
    by_part false some same after =
        let more : min left (unsigned_abs lot.1) ≢ 0 = grind (arith, nat_tests) in
        walked_some units left lot (first ++ others) more
        ∙ ap (λ legs. (lot.0, with_sign_of units (min left (unsigned_abs lot.1))) ∷ legs) after
        ∙ sym (walked_some units left lot first more)

-- what the lots leave of what is still to be taken
pub left_after : (left : ℕ) (lot : LotKey × ℤ) (lots : List (LotKey × ℤ)) (end : ℕ)
    → left - held_in (lot ∷ lots) ≡ end → left - min left (unsigned_abs lot.1) - held_in lots ≡ end
left_after left lot lots end before = omega (arith, held_in-cons lot lots)

-- ---- the choice of a walk

-- a choice gives each lot of the list what a walk does: what is still to be taken, or all that the lot holds
abbrev pub IsWalk : Choice → ℕ → List (LotKey × ℤ) → Type 0
IsWalk choice left [] = ⊤
IsWalk choice left (lot ∷ lots) = (choice lot.0 ≡ min left (unsigned_abs lot.1)) × IsWalk choice (left - min left (unsigned_abs lot.1)) lots

-- what the walk gives to the first lot of that key
abbrev pub walk_choice : ℕ → List (LotKey × ℤ) → Choice
walk_choice left [] key = 0
walk_choice left (lot ∷ lots) key =
    if is_eq (lot_cmp lot.0 key) then min left (unsigned_abs lot.1) else walk_choice (left - min left (unsigned_abs lot.1)) lots key

walk-agrees : (one other : Choice) (left : ℕ) (lots : List (LotKey × ℤ)) → AllByRecursion (λ (key : LotKey). other key ≡ one key) (keys_of lots)
    → IsWalk one left lots → IsWalk other left lots
walk-agrees one other left [] same walk = tt
walk-agrees one other left (lot ∷ lots) same walk =
    (same.0 ∙ walk.0, walk-agrees one other (left - min left (unsigned_abs lot.1)) lots same.1 walk.1)

pub walk_choice-walks : (left : ℕ) (lots : List (LotKey × ℤ)) → HaveDistinctKeys lots → IsWalk (walk_choice left lots) left lots
walk_choice-walks left [] distinct = tt
walk_choice-walks left (lot ∷ lots) distinct =
    let part = min left (unsigned_abs lot.1) in
    let rest = walk_choice (left - part) lots in
    let same = λ (a b : LotKey). is_eq (lot_cmp a b) in
    let others = IsDistinct-head same lot.0 (keys_of lots) distinct in (
      ap (λ (b : Bool). cond b part (rest lot.0)) (ap is_eq (tied_itself lots_total lot.0)),
      walk-agrees rest (walk_choice left (lot ∷ lots)) (left - part) lots
          (all_weaker (λ (key : LotKey). same lot.0 key ≡ false) (λ (key : LotKey). walk_choice left (lot ∷ lots) key ≡ rest key)
          (λ key apart. ap (λ (b : Bool). cond b part (rest key)) apart) (keys_of lots) others)
          (walk_choice-walks (left - part) lots (IsDistinct-tail same lot.0 (keys_of lots) distinct)),
    )

-- it gives no lot more than it holds
walk-within : (choice : Choice) (left : ℕ) (lots : List (LotKey × ℤ)) → IsWalk choice left lots
    → AllByRecursion (λ (lot : LotKey × ℤ). choice lot.0 ≤ unsigned_abs lot.1) lots
walk-within choice left [] walk = tt
walk-within choice left (lot ∷ lots) walk =
    let first = walk.0 in
    (omega arith, walk-within choice (left - min left (unsigned_abs lot.1)) lots walk.1)

-- nor more than is to be taken
walk-left : (choice : Choice) (left : ℕ) (lots : List (LotKey × ℤ)) → IsWalk choice left lots → AllByRecursion (λ (lot : LotKey × ℤ). choice lot.0 ≤ left) lots
walk-left choice left [] walk = tt
walk-left choice left (lot ∷ lots) walk =
    let first = walk.0 in
    let after = left - min left (unsigned_abs lot.1) in (
      omega arith,
      all_weaker (λ (later : LotKey × ℤ). choice later.0 ≤ after) (λ (later : LotKey × ℤ). choice later.0 ≤ left) (λ later le. omega arith)
          lots (walk-left choice after lots walk.1),
    )

-- where the lots hold enough, it gives what is wanted
walk-sum : (choice : Choice) (left : ℕ) (lots : List (LotKey × ℤ)) → IsWalk choice left lots → left ≤ held_in lots → given choice lots ≡ left
walk-sum choice left [] walk enough = omega arith
walk-sum choice left (lot ∷ lots) walk enough =
    let first = walk.0 in
    let after = left - min left (unsigned_abs lot.1) in
    let rest = walk-sum choice after lots walk.1 (omega (arith, held_in-cons lot lots)) in
    omega (arith, given-cons choice lot lots)

-- and among lots in an order it gives a lot something only where each lot before it is taken whole
walk-in_turn : (before : LotKey → LotKey → Bool) → IsOrder before → (choice : Choice) (left : ℕ) (lots : List (LotKey × ℤ)) → AreInOrder before lots
    → IsWalk choice left lots → InTurn before lots choice
walk-in_turn before order choice left [] ordered walk = tt
walk-in_turn before order choice left (lot ∷ lots) ordered walk =
    let after = left - min left (unsigned_abs lot.1) in
    let fits = λ (one earlier : LotKey × ℤ). before earlier.0 one.0 ≡ true → 1 ≤ choice one.0 → IsWhole choice earlier in
    let first = walk.0 in
    let never = order.never_itself lot.0 in (
      (
        (λ itself some. cc),
        all_weaker (λ (later : LotKey × ℤ). before lot.0 later.0 ≡ true) (fits lot)
            (λ later follows earlier some. let itself = order.transitive lot.0 later.0 lot.0 follows earlier in cc) lots ordered.0,
      ),
      all_both (λ (one : LotKey × ℤ). choice one.0 ≤ after) (λ (one : LotKey × ℤ). AllByRecursion (fits one) lots)
          (λ (one : LotKey × ℤ). AllByRecursion (fits one) (lot ∷ lots))
          (λ one most rest. ((λ earlier some. omega arith), rest)) lots
          (walk-left choice after lots walk.1) (walk-in_turn before order choice after lots ordered.1 walk.1),
    )

-- its legs are those of the walk
same_legs : (none : Bool) (leg : LotKey × ℤ) (chosen left after : List (LotKey × ℤ)) → chosen ≡ after → (none ≡ true → left ≡ after)
    → cond none chosen (leg ∷ chosen) ≡ cond none left (leg ∷ after)
same_legs true leg chosen left after same none_taken = same ∙ sym (none_taken refl)
same_legs false leg chosen left after same none_taken = ap (λ legs. leg ∷ legs) same

pub walk-legs : (units : ℤ) (choice : Choice) (left : ℕ) (lots : List (LotKey × ℤ)) → IsWalk choice left lots
    → chosen_legs units choice lots ≡ walked units left lots
walk-legs units choice left [] walk = refl
walk-legs units choice left (lot ∷ lots) walk =
    let part = min left (unsigned_abs lot.1) in
    let after = left - part in
    let none_taken : nat_eq part 0 ≡ true → left ≡ after = λ none. grind (arith, nat_tests) in
    rw walk.0 (same_legs (nat_eq part 0) (lot.0, with_sign_of units part) (chosen_legs units choice lots) (walked units left lots) (walked units after lots)
    (walk-legs units choice after lots walk.1) (λ none. ap (λ l. walked units l lots) (none_taken none)))

-- ---- lots in an order

-- of two keys the one that isn't first is second
pub other_first : (one other : Bool) → one ≡ false → (one || other) ≡ true → other ≡ true
other_first one other not_one either = rw not_one at either

next_place : {X : Type 0} (x : X) (xs : List X) (k : ℕ) (d : X) → get_or (x ∷ xs) (k + 1) d ≡ get_or xs k d
next_place x xs k d = rw add-one refl

module _ (before : OpenedLot → OpenedLot → Bool) (weak : IsStrictWeakOrder before) where
  pub orders_lots : IsStrictWeakOrder (is_earlier before)
  orders_lots = record {
    one_way = λ a b. weak.one_way (a.key, a.opening) (b.key, b.opening);
    chain = λ a b c. weak.chain (a.key, a.opening) (b.key, b.opening) (c.key, c.opening);
  }

  module _ (opening : LotKey → ℕ) (order : IsOrder (by_numbers before opening)) where
    -- numbered lots with distinct keys that ascend by an order are in that order
    in_order-from_ascending : (lots : List Lot) → HaveDistinctKeys (map key_and_units lots) → AreNumberedBy opening lots → AreAscending (is_earlier before) lots
        → AreInOrder (by_numbers before opening) (map key_and_units lots)
    in_order-from_ascending [] distinct numbered ascend = tt
    in_order-from_ascending (lot ∷ lots) distinct numbered ascend =
        let same = λ (a b : LotKey). is_eq (lot_cmp a b) in
        let first = by_numbers before opening in
        let rest = map key_and_units lots in
        let others = all_keys (λ (key : LotKey). same lot.key key ≡ false) rest (IsDistinct-head same lot.key (keys_of rest) distinct) in
        let none_first = all_mapped key_and_units (λ (later : LotKey × ℤ). first later.0 lot.key ≡ false) lots
        (all_both (λ (later : Lot). is_earlier before later lot ≡ false) (λ (later : Lot). later.opening ≡ opening later.key)
        (λ (later : Lot). first later.key lot.key ≡ false)
        (λ later not_below number. (λ i. before (later.key, sym number i) (lot.key, sym numbered.0 i)) ∙ not_below)
        lots ascend.0 numbered.1) in (
          all_both (λ (later : LotKey × ℤ). first later.0 lot.key ≡ false) (λ (later : LotKey × ℤ). same lot.key later.0 ≡ false)
              (λ (later : LotKey × ℤ). first lot.key later.0 ≡ true) (λ later not_first other.
              let apart : later.0 ≢ lot.key = λ e. let itself = tied_itself lots_total lot.key in let tied = subst (λ (key : LotKey). same lot.key key ≡ false) e other in cc in
              other_first (first later.0 lot.key) (first lot.key later.0) not_first (order.total later.0 lot.key apart)) rest none_first others,
          in_order-from_ascending lots (IsDistinct-tail same lot.key (keys_of rest) distinct) numbered.1 ascend.1,
        )

-- ---- what is taken

-- the walk along lots that hold enough, in their order, is what the units take in turn
pub takes-in_order : (before : LotKey → LotKey → Bool) → IsOrder before → (lots listed : List (LotKey × ℤ)) (units : ℤ) (legs : List (LotKey × ℤ))
    → HaveDistinctKeys lots → IsPermutation lots listed → AreInOrder before listed
    → unsigned_abs units ≤ held_in listed → legs ≡ walked units (unsigned_abs units) listed → Takes (InTurn before) before lots units legs
takes-in_order before order lots listed units legs distinct same ordered enough walked_legs =
    let amount = unsigned_abs units in
    let choice = walk_choice amount listed in
    let back = IsPermutation-sym lots listed same in
    let walk = walk_choice-walks amount listed (distinct-permuted lots listed same distinct) in
    record {
      choice = choice;
      is = record {
        within = all_permuted (λ (lot : LotKey × ℤ). choice lot.0 ≤ unsigned_abs lot.1) listed lots back (walk-within choice amount listed walk);
        sum = given-permuted choice listed lots back ∙ walk-sum choice amount listed walk enough;
        allowed = in_turn-permuted before choice listed lots back (walk-in_turn before order choice amount listed ordered walk);
      };
      listed = listed;
      same = same;
      order = ordered;
      chosen = walked_legs ∙ sym (walk-legs units choice amount listed walk);
    }

-- the same of the lots that come first, where they hold enough
pub takes-walked : (before : OpenedLot → OpenedLot → Bool) → IsStrictWeakOrder before → (opening : LotKey → ℕ) → IsOrder (by_numbers before opening)
    → (lots front : List Lot) (units : ℤ) (legs : List (LotKey × ℤ))
    → HaveDistinctKeys (map key_and_units lots) → AreNumberedBy opening lots → IsFrontOf (is_earlier before) lots front
    → unsigned_abs units ≤ held_in (map key_and_units front) → legs ≡ walked units (unsigned_abs units) (map key_and_units front)
    → Takes (InTurn (by_numbers before opening)) (by_numbers before opening) (map key_and_units lots) units legs
takes-walked before weak opening order lots front units legs distinct numbered leads enough walked_legs =
    let amount = unsigned_abs units in
    let first = map key_and_units front in
    let others = map key_and_units leads.others in
    let listed = front ++ leads.others in
    let apart : map key_and_units listed ≡ first ++ others = map-append key_and_units front leads.others in
    let same = IsPermutation-map key_and_units lots listed leads.same in
    let numbered_listed = all_permuted (λ (lot : Lot). lot.opening ≡ opening lot.key) lots listed leads.same numbered in
    let held = sum_by-append (λ (lot : LotKey × ℤ). unsigned_abs lot.1) first others in
    takes-in_order (by_numbers before opening) order (map key_and_units lots) (map key_and_units listed) units legs distinct same
    (in_order-from_ascending before weak opening order listed (distinct-permuted (map key_and_units lots) (map key_and_units listed) same distinct)
    numbered_listed leads.sorted)
    (rw apart (omega (arith, held, enough)))
    (walked_legs ∙ sym (walked_enough units amount first others enough) ∙ ap (walked units amount) (sym apart))

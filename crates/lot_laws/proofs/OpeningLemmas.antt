-- The opening number of a lot: its value, where there is one, and what a leg changes of it.
use Rattle.std.specs.Prelude.{◌≡◌, ◌≢◌, ◌↔◌, ℕ, ◌&&◌, Bool, true, false, cond, List, [], ◌∷◌, ◌++◌, Option, None, Some, ℤ, pos, ◌+ℤ◌}
use Rattle.std.specs.Cmp.{signed_Decides}
use Rattle.std.specs.Option.{option_map, option_or}
use Rattle.std.specs.Ordering.{int_eq}
use Rattle.std.proofs.Common.{refl, sym, ap, ap₂, subst, ◌∙◌, append_assoc}
use Rattle.std.proofs.lemmas.Bool.{and_parts, true≢false}
use Rattle.std.proofs.lemmas.List.{append-nil}
use Rattle.lot_cost.specs.declared.lot_key.LotKey.{LotKey}
use Rattle.lot_inv.specs.Inventory.{units_at}
use Rattle.lot_book.specs.declared.leg.Leg.{Leg}
use Rattle.lot_book.specs.declared.leg.Position.{Position}
use Rattle.lot_book.specs.Leg.{inventory_of, same_position, sum_at}
use Rattle.lot_book.proofs.CaseLemmas.{by_bool}
use Rattle.lot_book.proofs.OrderLemmas.{one_position, same_position-itself}
use Rattle.lot_book.proofs.SumLemmas.{sum_where-push}
use Rattle.lot_laws.specs.Laws.{lot_at}
use Rattle.lot_book.specs.OpeningNumber.{HasOpeningNumber, IsLastToOpen, Opens, does_open, last_to_open, opening_number, posting_number}
use Rattle.lot_laws.proofs.LawHoldings.{holds_sum}

-- ---- Tests.

pub zero_is : (z : ℤ) → int_eq z (pos 0) ≡ true → z ≡ pos 0
zero_is z e = (signed_Decides z (pos 0)).0 e

pub is_zero : (z : ℤ) → z ≡ pos 0 → int_eq z (pos 0) ≡ true
is_zero z e = (signed_Decides z (pos 0)).1 e

pub not_zero : (z : ℤ) → z ≢ pos 0 → int_eq z (pos 0) ≡ false
not_zero z some = by_bool (int_eq z (pos 0)) (λ e. absurd (some (zero_is z e))) (λ e. e)

pub some_units : (z : ℤ) → int_eq z (pos 0) ≡ false → z ≢ pos 0
some_units z e zero = true≢false (sym (is_zero z zero) ∙ e)

pub apart_from : (lot other : Position) → other ≢ lot → same_position lot other ≡ false
apart_from lot other apart = by_bool (same_position lot other) (λ e. absurd (apart (sym (one_position lot other e)))) (λ e. e)

opens_by : (lot : Position) (before : List Leg) (leg : Leg) → does_open lot before leg ≡ true → Opens lot before leg
opens_by lot before leg e =
    let parts = and_parts (same_position lot leg.position) (int_eq (sum_at before lot) (pos 0)) e in
    record { there = sym (one_position lot leg.position parts.0); none_before = zero_is (sum_at before lot) parts.1 }

does_open_by : (lot : Position) (before : List Leg) (leg : Leg) → Opens lot before leg → does_open lot before leg ≡ true
does_open_by lot before leg opens =
    ap (λ (p : Position). same_position lot p && int_eq (sum_at before lot) (pos 0)) opens.there
    ∙ ap (λ b. b && int_eq (sum_at before lot) (pos 0)) (same_position-itself lot)
    ∙ is_zero (sum_at before lot) opens.none_before

-- ---- One leg more.

-- what legs and one more put into a position
pub sum_at-push : (legs : List Leg) (leg : Leg) (p : Position)
    → sum_at (legs ++ leg ∷ []) p ≡ cond (same_position p leg.position) (sum_at legs p +ℤ leg.units) (sum_at legs p)
sum_at-push legs leg p = sum_where-push (λ (l : Leg). same_position p l.position) (λ (l : Leg). l.units) legs leg

pub sum_at-push_apart : (legs : List Leg) (leg : Leg) (p : Position) → same_position p leg.position ≡ false
    → sum_at (legs ++ leg ∷ []) p ≡ sum_at legs p
sum_at-push_apart legs leg p e = sum_at-push legs leg p ∙ ap (λ b. cond b (sum_at legs p +ℤ leg.units) (sum_at legs p)) e

-- ---- The last of two that may be there.

or_none : {X : Type 0} (a : Option X) → option_or a None ≡ a
or_none None = refl
or_none (Some x) = refl

or_both : {X : Type 0} (a b c : Option X) → option_or (option_or a b) c ≡ option_or a (option_or b c)
or_both None b c = refl
or_both (Some x) b c = refl

neither : {X : Type 0} (a b : Option X) → option_or a b ≡ None → (a ≡ None) × (b ≡ None)
neither None b e = (refl, e)
neither (Some x) b e = absurd cc

-- the leg, where it opens the lot
abbrev own_of : Bool → Leg → Option Leg
own_of opens leg = cond opens (Some leg) None

last_to_open-append : (lot : Position) (before legs more : List Leg)
    → last_to_open lot before (legs ++ more) ≡ option_or (last_to_open lot (before ++ legs) more) (last_to_open lot before legs)
last_to_open-append lot before [] more =
    ap (λ (b : List Leg). last_to_open lot b more) (sym (append-nil before)) ∙ sym (or_none (last_to_open lot (before ++ []) more))
last_to_open-append lot before (leg ∷ legs) more =
    let own = own_of (does_open lot before leg) leg in
    let next = last_to_open lot (before ++ leg ∷ []) legs in
    ap (λ o. option_or o own) (last_to_open-append lot (before ++ leg ∷ []) legs more)
    ∙ or_both (last_to_open lot ((before ++ leg ∷ []) ++ legs) more) next own
    ∙ ap (λ (b : List Leg). option_or (last_to_open lot b more) (option_or next own)) (append_assoc before (leg ∷ []) legs)

-- ---- The last leg that opens a lot, as it is found.

record IsFound (lot : Position) (before legs : List Leg) (leg : Leg) : Type 0 where
  first : List Leg
  rest : List Leg
  split : legs ≡ first ++ leg ∷ rest
  opens : Opens lot (before ++ first) leg
  none : last_to_open lot ((before ++ first) ++ leg ∷ []) rest ≡ None

-- behind the first leg
found_later : (lot : Position) (before : List Leg) (next : Leg) (legs : List Leg) (leg : Leg)
    → IsFound lot (before ++ next ∷ []) legs leg → IsFound lot before (next ∷ legs) leg
found_later lot before next legs leg later =
    let all : (before ++ next ∷ []) ++ later.first ≡ before ++ next ∷ later.first = append_assoc before (next ∷ []) later.first in
    record {
      first = next ∷ later.first;
      rest = later.rest;
      split = ap (λ (ls : List Leg). next ∷ ls) later.split;
      opens = subst (λ (b : List Leg). Opens lot b leg) all later.opens;
      none = subst (λ (b : List Leg). last_to_open lot (b ++ leg ∷ []) later.rest ≡ None) all later.none;
    }

-- the first leg
found_first : (lot : Position) (before : List Leg) (leg : Leg) (legs : List Leg) → Opens lot before leg
    → last_to_open lot (before ++ leg ∷ []) legs ≡ None → IsFound lot before (leg ∷ legs) leg
found_first lot before leg legs opens none =
    let all : before ≡ before ++ [] = sym (append-nil before) in
    record {
      first = [];
      rest = legs;
      split = refl;
      opens = subst (λ (b : List Leg). Opens lot b leg) all opens;
      none = subst (λ (b : List Leg). last_to_open lot (b ++ leg ∷ []) legs ≡ None) all none;
    }

found_by : (lot : Position) (before : List Leg) (next : Leg) (legs : List Leg) (leg : Leg) (later : Option Leg)
    → last_to_open lot (before ++ next ∷ []) legs ≡ later → option_or later (own_of (does_open lot before next) next) ≡ Some leg
    → (last_to_open lot (before ++ next ∷ []) legs ≡ Some leg → IsFound lot (before ++ next ∷ []) legs leg)
    → IsFound lot before (next ∷ legs) leg
found_by lot before next legs leg (Some later) is e in_rest = found_later lot before next legs leg (in_rest (is ∙ e))
found_by lot before next legs leg None is e in_rest = by_bool (does_open lot before next)
    (λ opens.
    let one : Some next ≡ Some leg = sym (ap (λ b. own_of b next) opens) ∙ e in
    let same : next ≡ leg = cc in
    subst (λ (l : Leg). IsFound lot before (next ∷ legs) l) same (found_first lot before next legs (opens_by lot before next opens) is))
    (λ apart. let none : None ≡ Some leg = sym (ap (λ b. own_of b next) apart) ∙ e in absurd cc)

found : (lot : Position) (before legs : List Leg) (leg : Leg) → last_to_open lot before legs ≡ Some leg → IsFound lot before legs leg
found lot before [] leg e = absurd cc
found lot before (next ∷ legs) leg e =
    found_by lot before next legs leg (last_to_open lot (before ++ next ∷ []) legs) refl e
    (λ is. found lot (before ++ next ∷ []) legs leg is)

-- where none is found, none opens the lot
none_opens : (lot : Position) (before legs : List Leg) → last_to_open lot before legs ≡ None
    → (first : List Leg) (later : Leg) (rest : List Leg) → legs ≡ first ++ later ∷ rest → Opens lot (before ++ first) later → ⊥
none_opens lot before legs none first later rest split opens =
    let all = sym (ap (last_to_open lot before) split ∙ last_to_open-append lot before first (later ∷ rest)) ∙ none in
    let here = neither (last_to_open lot (before ++ first) (later ∷ rest)) (last_to_open lot before first) all in
    let own = neither (last_to_open lot ((before ++ first) ++ later ∷ []) rest) (own_of (does_open lot (before ++ first) later) later) here.0 in
    let some : Some later ≡ None = sym (ap (λ b. own_of b later) (does_open_by lot (before ++ first) later opens)) ∙ own.1 in
    cc

-- where none opens the lot, none is found
none_found : (lot : Position) (before legs : List Leg)
    → ((first : List Leg) (later : Leg) (rest : List Leg) → legs ≡ first ++ later ∷ rest → Opens lot (before ++ first) later → ⊥)
    → last_to_open lot before legs ≡ None
none_found lot before legs none = by (last_to_open lot before legs) refl
  where
    by : (o : Option Leg) → last_to_open lot before legs ≡ o → last_to_open lot before legs ≡ None
    by None is = is
    by (Some leg) is =
        let f = found lot before legs leg is in
        absurd (none f.first leg f.rest f.split f.opens)

last_by : (legs : List Leg) (lot : Position) (leg : Leg) → last_to_open lot [] legs ≡ Some leg → sum_at legs lot ≢ pos 0
    → IsLastToOpen legs lot leg
last_by legs lot leg e some =
    let f = found lot [] legs leg e in
    record {
      before = f.first;
      behind = f.rest;
      split = f.split;
      opens = f.opens;
      last = λ between later rest split opens.
          none_opens lot (f.first ++ leg ∷ []) f.rest f.none between later rest split
          (subst (λ (b : List Leg). Opens lot b later) (sym (append_assoc f.first (leg ∷ []) between)) opens);
      some_left = some;
    }

is_last : (legs : List Leg) (lot : Position) (leg : Leg) → IsLastToOpen legs lot leg → last_to_open lot [] legs ≡ Some leg
is_last legs lot leg h =
    let own = own_of (does_open lot h.before leg) leg in
    let earlier = last_to_open lot [] h.before in
    let none : last_to_open lot (h.before ++ leg ∷ []) h.behind ≡ None =
    none_found lot (h.before ++ leg ∷ []) h.behind
    (λ between later rest split opens.
    h.last between later rest split (subst (λ (b : List Leg). Opens lot b later) (append_assoc h.before (leg ∷ []) between) opens)) in
    ap (last_to_open lot []) h.split
    ∙ last_to_open-append lot [] h.before (leg ∷ h.behind)
    ∙ ap (λ o. option_or (option_or o own) earlier) none
    ∙ ap (λ b. option_or (own_of b leg) earlier) (does_open_by lot h.before leg h.opens)

-- ---- The number.

-- of the units that are left and the last leg that opens the lot
abbrev number_of : Bool → Option Leg → Option ℕ
number_of none last = cond none None (option_map posting_number last)

pub number_is : (legs : List Leg) (lot : Position) (number : ℕ) → HasOpeningNumber legs lot number → opening_number legs lot ≡ Some number
number_is legs lot number h =
    ap (λ b. number_of b (last_to_open lot [] legs)) (not_zero (sum_at legs lot) h.last.some_left)
    ∙ ap (option_map posting_number) (is_last legs lot h.leg h.last)
    ∙ ap Some (sym h.of_posting)

pub number_has : (legs : List Leg) (lot : Position) (number : ℕ) → opening_number legs lot ≡ Some number → HasOpeningNumber legs lot number
number_has legs lot number e =
    by_bool (int_eq (sum_at legs lot) (pos 0))
    (λ none. let is : None ≡ Some number = sym (ap (λ b. number_of b (last_to_open lot [] legs)) none) ∙ e in absurd cc)
    (λ some. by (last_to_open lot [] legs) refl
    (sym (ap (λ b. number_of b (last_to_open lot [] legs)) some) ∙ e) (some_units (sum_at legs lot) some))
  where
    by : (o : Option Leg) → last_to_open lot [] legs ≡ o → option_map posting_number (last_to_open lot [] legs) ≡ Some number
        → sum_at legs lot ≢ pos 0 → HasOpeningNumber legs lot number
    by None is numbered some = let none : None ≡ Some number = sym (ap (option_map posting_number) is) ∙ numbered in absurd cc
    by (Some leg) is numbered some =
        let same : Some (posting_number leg) ≡ Some number = sym (ap (option_map posting_number) is) ∙ numbered in
        record { leg = leg; last = last_by legs lot leg is some; of_posting = cc }

pub computed : (legs : List Leg) (lot : Position) (number : ℕ) → (opening_number legs lot ≡ Some number) ↔ HasOpeningNumber legs lot number
computed legs lot number = (number_has legs lot number, number_is legs lot number)

pub one_number : (legs : List Leg) (lot : Position) (a b : ℕ) → HasOpeningNumber legs lot a → HasOpeningNumber legs lot b → a ≡ b
one_number legs lot a b is other =
    let same : Some a ≡ Some b = sym (number_is legs lot a is) ∙ number_is legs lot b other in cc

-- ---- Where there is one.

-- where no leg opens the lot, it stays as it was: with nothing in it
none_left : (lot : Position) (before legs : List Leg) → sum_at before lot ≡ pos 0 → last_to_open lot before legs ≡ None
    → sum_at (before ++ legs) lot ≡ pos 0
none_left lot before [] zero none = ap (λ (ls : List Leg). sum_at ls lot) (append-nil before) ∙ zero
none_left lot before (leg ∷ legs) zero none =
    let parts = neither (last_to_open lot (before ++ leg ∷ []) legs) (own_of (does_open lot before leg) leg) none in
    let apart : same_position lot leg.position ≡ false =
    by_bool (same_position lot leg.position)
    (λ here.
    let opens : does_open lot before leg ≡ true =
    ap (λ b. b && int_eq (sum_at before lot) (pos 0)) here ∙ is_zero (sum_at before lot) zero in
    let some : Some leg ≡ None = sym (ap (λ b. own_of b leg) opens) ∙ parts.1 in absurd cc)
    (λ e. e) in
    ap (λ (ls : List Leg). sum_at ls lot) (sym (append_assoc before (leg ∷ []) legs))
    ∙ none_left lot (before ++ leg ∷ []) legs (sum_at-push_apart before leg lot apart ∙ zero) parts.0

some_number : (legs : List Leg) (lot : Position) → sum_at legs lot ≢ pos 0 → (number : ℕ) × HasOpeningNumber legs lot number
some_number legs lot some = by (last_to_open lot [] legs) refl
  where
    by : (o : Option Leg) → last_to_open lot [] legs ≡ o → (number : ℕ) × HasOpeningNumber legs lot number
    by None is = absurd (some (none_left lot [] legs refl is))
    by (Some leg) is = (posting_number leg, record { leg = leg; last = last_by legs lot leg is some; of_posting = refl })

pub where_held : (legs : List Leg) (account commodity : List ℕ) (lot : LotKey)
    → (units_at (inventory_of legs account) (commodity, Some lot) ≢ pos 0)
    ↔ ((number : ℕ) × HasOpeningNumber legs (lot_at account commodity lot) number)
where_held legs account commodity lot =
    let holds = holds_sum legs (lot_at account commodity lot) in (
      λ some. some_number legs (lot_at account commodity lot) (λ zero. some (holds ∙ zero)),
      λ has none. has.1.last.some_left (sym holds ∙ none),
    )

-- ---- What a leg changes.

one_more : (legs : List Leg) (leg : Leg) (lot : Position)
    → last_to_open lot [] (legs ++ leg ∷ []) ≡ option_or (own_of (does_open lot legs leg) leg) (last_to_open lot [] legs)
one_more legs leg lot = last_to_open-append lot [] legs (leg ∷ [])

opens_none : (legs : List Leg) (leg : Leg) (lot : Position) → does_open lot legs leg ≡ false
    → last_to_open lot [] (legs ++ leg ∷ []) ≡ last_to_open lot [] legs
opens_none legs leg lot e = one_more legs leg lot ∙ ap (λ b. option_or (own_of b leg) (last_to_open lot [] legs)) e

pub number_elsewhere : (legs : List Leg) (leg : Leg) (lot : Position) → leg.position ≢ lot
    → opening_number (legs ++ leg ∷ []) lot ≡ opening_number legs lot
number_elsewhere legs leg lot other =
    let apart = apart_from lot leg.position other in
    ap₂ (λ (z : ℤ) (o : Option Leg). number_of (int_eq z (pos 0)) o) (sum_at-push_apart legs leg lot apart)
    (opens_none legs leg lot (ap (λ b. b && int_eq (sum_at legs lot) (pos 0)) apart))

pub number_kept : (legs : List Leg) (leg : Leg) → sum_at legs leg.position ≢ pos 0
    → sum_at (legs ++ leg ∷ []) leg.position ≢ pos 0
    → opening_number (legs ++ leg ∷ []) leg.position ≡ opening_number legs leg.position
number_kept legs leg some still =
    let lot = leg.position in
    let held = not_zero (sum_at legs lot) some in
    let none : does_open lot legs leg ≡ false =
    ap (λ b. b && int_eq (sum_at legs lot) (pos 0)) (same_position-itself lot) ∙ held in
    ap₂ number_of (not_zero (sum_at (legs ++ leg ∷ []) lot) still ∙ sym held) (opens_none legs leg lot none)

pub number_opened : (legs : List Leg) (leg : Leg) → sum_at legs leg.position ≡ pos 0
    → sum_at (legs ++ leg ∷ []) leg.position ≢ pos 0
    → opening_number (legs ++ leg ∷ []) leg.position ≡ Some (posting_number leg)
number_opened legs leg none some =
    let lot = leg.position in
    let opens : does_open lot legs leg ≡ true = does_open_by lot legs leg (record { there = refl; none_before = none }) in
    ap₂ number_of (not_zero (sum_at (legs ++ leg ∷ []) lot) some)
    (one_more legs leg lot ∙ ap (λ b. option_or (own_of b leg) (last_to_open lot [] legs)) opens)

pub number_emptied : (legs : List Leg) (leg : Leg) → sum_at (legs ++ leg ∷ []) leg.position ≡ pos 0
    → opening_number (legs ++ leg ∷ []) leg.position ≡ None
number_emptied legs leg none =
    let lot = leg.position in
    ap (λ b. number_of b (last_to_open lot [] (legs ++ leg ∷ []))) (is_zero (sum_at (legs ++ leg ∷ []) lot) none)

-- What a posting comes to depends on the lots of its commodity, and on how ties between them are decided, alone. Crates above
-- cite these lemmas.
use Rattle.std.specs.Prelude.{◌≡◌, ◌≢◌, ℕ, ◌≤◌, nat_le, Bool, true, false, ◌&&◌, List, [], ◌∷◌, length, filter, Option, Some, ℤ, pos, unsigned_abs}
use Rattle.std.specs.Cmp.{eq_by_cmp_equiv}
use Rattle.std.specs.List.{All as AllOf, AllByRecursion, Contains, list_any}
use Rattle.std.specs.Map.{keys_of, values_of}
use Rattle.std.specs.Option.{unwrap_or}
use Rattle.std.specs.Ordering.{is_lt}
use Rattle.std.proofs.Common.{refl, sym, ap, ap₂, subst, ◌∙◌, arith}
use Rattle.std.proofs.lemmas.Bool.{true≢false}
use Rattle.std.proofs.lemmas.Int.{ints}
use Rattle.std.proofs.lemmas.List.Elements.{All-contains, All-filter, All-from_recursion, filter_passes}
use Rattle.std.proofs.lemmas.Map.Keys.{IsDistinct-from_sorted}
use Rattle.std.proofs.lemmas.Map.Views.{lookup-from_Contains}
use Rattle.lot_cost.specs.declared.cost.Cost.{Cost}
use Rattle.lot_cost.specs.declared.lot_key.LotKey.{LotKey}
use Rattle.lot_cost.specs.declared.method.Method.{Method}
use Rattle.lot_cost.specs.declared.method.Method.TheVariants.{Strict, Fifo, Lifo, Hifo, Unmatched}
use Rattle.lot_cost.specs.CostSpec.{fits}
use Rattle.lot_cost.specs.LotKey.{lot_cmp}
use Rattle.lot_cost.proofs.OrderLemmas.{lots_total}
use Rattle.lot_inv.specs.Inventory.{Held, lots_of, matching, other_sign, units_at}
use Rattle.lot_inv.proofs.LawLemmas.{lots_of-get, sorted_lots_of}
use Rattle.lot_booking.specs.declared.fault.BookingFault.TheVariants.{ZeroUnits, InexactCost, IncompleteCost, NoMatch, Ambiguous, NotEnough, Memory}
use Rattle.lot_booking.specs.Booking.{Augments, Braced, ComesTo, FindsNone, Legs, Outcome, Reduces, Refused, candidates, is_ambiguous, is_reducing, posting_by, spec_of}
use Rattle.lot_booking.specs.Choice.{AreInOrder, Choice, HasNoChoice, InTurn, IsChoice, IsWhole, Takes}
use Rattle.lot_booking.specs.Method.{ByOpening, Ties, highest_by, is_strict, may_reduce, newest_by, oldest_by, order_by, rule_by}
use Rattle.lot_booking.specs.OpeningOrder.{highest_opened_cmp, newest_opened_cmp, oldest_opened_cmp}
use Rattle.lot_booking.proofs.ListLemmas.{all_both, all_permuted, each_member}

-- ---- lots that a posting may take

-- a lot that is listed is held
pub held_lot : (held : Held) (name : List ℕ) (lot : LotKey × ℤ) → Contains (lots_of held name) lot → units_at held (name, Some lot.0) ≡ lot.1
held_lot held name lot member =
    ap (λ (found : Option ℤ). unwrap_or found (pos 0))
    (sym (lots_of-get held name lot.0)
    ∙ lookup-from_Contains (eq_by_cmp_equiv lots_total) lot.0 lot.1 (lots_of held name)
    (IsDistinct-from_sorted lot_cmp (keys_of (lots_of held name)) (sorted_lots_of held name)) member)

pub sign_none : (units : ℤ) → other_sign (pos 0) units ≡ false
sign_none units = grind (arith, ints)

-- a lot that a posting may take is held
pub candidate_held : (posting : Braced) (lot : LotKey × ℤ) → Contains (candidates posting) lot
    → units_at posting.held (posting.commodity, Some lot.0) ≢ pos 0
candidate_held posting lot among zero =
    let held = posting.held in
    let name = posting.commodity in
    let IsHeld : LotKey × ℤ → Type 0 = λ lot. units_at held (name, Some lot.0) ≡ lot.1 in
    let HasOtherSign : LotKey × ℤ → Type 0 = λ lot. other_sign lot.1 posting.units ≡ true in
    let all : AllOf IsHeld (candidates posting) =
    All-filter (λ (lot : LotKey × ℤ). other_sign lot.1 posting.units) IsHeld (matching held name (spec_of posting.units posting.cost))
    (All-filter (λ (lot : LotKey × ℤ). fits (spec_of posting.units posting.cost) lot.0) IsHeld (lots_of held name)
    (All-from_recursion IsHeld (lots_of held name) (each_member IsHeld (lots_of held name) (λ lot among. held_lot held name lot among)))) in
    let is : units_at held (name, Some lot.0) ≡ lot.1 = All-contains IsHeld (candidates posting) lot all among in
    let sign : other_sign lot.1 posting.units ≡ true =
    All-contains HasOtherSign (candidates posting) lot
    (filter_passes (λ (lot : LotKey × ℤ). other_sign lot.1 posting.units) (matching held name (spec_of posting.units posting.cost))) among in
    true≢false (sym sign ∙ ap (λ z. other_sign z posting.units) (sym is ∙ zero) ∙ sign_none posting.units)

-- ---- ties that are decided alike among some lots

-- each method has the same order among lots of a kind
abbrev pub SameOrders : (LotKey → Type 0) → Ties → Ties → Type 0
SameOrders Is s t = (method : Method) (x y : LotKey) → Is x → Is y → order_by s method x y ≡ order_by t method x y

orders_turned : (Is : LotKey → Type 0) (s t : Ties) → SameOrders Is s t → SameOrders Is t s
orders_turned Is s t same method x y is other = sym (same method x y is other)

-- opening numbers that are the same for those lots decide alike
pub same_by_opening : (Is : LotKey → Type 0) (f g : LotKey → ℕ) → ((lot : LotKey) → Is lot → f lot ≡ g lot)
    → SameOrders Is (ByOpening f) (ByOpening g)
same_by_opening Is f g same Strict x y is other = refl
same_by_opening Is f g same Fifo x y is other =
    ap₂ (λ m n. is_lt (oldest_opened_cmp (x, m) (y, n))) (same x is) (same y other)
same_by_opening Is f g same Lifo x y is other =
    ap₂ (λ m n. is_lt (newest_opened_cmp (x, m) (y, n))) (same x is) (same y other)
same_by_opening Is f g same Hifo x y is other =
    ap₂ (λ m n. is_lt (highest_opened_cmp (x, m) (y, n))) (same x is) (same y other)
same_by_opening Is f g same Unmatched x y is other = refl

-- ---- choices among those lots

module _ (Is : LotKey → Type 0) where
  abbrev IsLot : LotKey × ℤ → Type 0
  IsLot lot = Is lot.0

  -- two orders are the same among the lots
  abbrev SameOrder : (LotKey → LotKey → Bool) → (LotKey → LotKey → Bool) → Type 0
  SameOrder f g = (x y : LotKey) → Is x → Is y → f x y ≡ g x y

  -- an earlier lot is taken whole before the lot gets some
  abbrev Waits : (LotKey → LotKey → Bool) → Choice → LotKey × ℤ → LotKey × ℤ → Type 0
  Waits before choice lot earlier = before earlier.0 lot.0 ≡ true → 1 ≤ choice lot.0 → IsWhole choice earlier

  still_in_turn : (f g : LotKey → LotKey → Bool) → SameOrder f g → (lots : List (LotKey × ℤ)) → AllByRecursion IsLot lots → (choice : Choice)
      → InTurn f lots choice → InTurn g lots choice
  still_in_turn f g same lots are choice h =
      all_both (λ lot. AllByRecursion (Waits f choice lot) lots) IsLot (λ lot. AllByRecursion (Waits g choice lot) lots)
      (λ lot waits is.
      all_both (Waits f choice lot) IsLot (Waits g choice lot)
      (λ earlier whole was e some. whole (same earlier.0 lot.0 was is ∙ e) some) lots waits are)
      lots h are

  still_ordered : (f g : LotKey → LotKey → Bool) → SameOrder f g → (lots : List (LotKey × ℤ)) → AllByRecursion IsLot lots
      → AreInOrder f lots → AreInOrder g lots
  still_ordered f g same [] are h = h
  still_ordered f g same (lot ∷ lots) are h = (
    all_both (λ (later : LotKey × ℤ). f lot.0 later.0 ≡ true) IsLot (λ (later : LotKey × ℤ). g lot.0 later.0 ≡ true)
        (λ later e is. sym (same lot.0 later.0 are.0 is) ∙ e) lots h.0 are.1,
    still_ordered f g same lots are.1 h.1,
  )

  module _ (s t : Ties) (same : SameOrders Is s t) (lots : List (LotKey × ℤ)) (are : AllByRecursion IsLot lots) where
    still_allowed : (method : Method) (choice : Choice) → rule_by s method lots choice → rule_by t method lots choice
    still_allowed Strict choice h = h
    still_allowed Fifo choice h = still_in_turn (oldest_by s) (oldest_by t) (same Fifo) lots are choice h
    still_allowed Lifo choice h = still_in_turn (newest_by s) (newest_by t) (same Lifo) lots are choice h
    still_allowed Hifo choice h = still_in_turn (highest_by s) (highest_by t) (same Hifo) lots are choice h
    still_allowed Unmatched choice h = h

    still_choice : (method : Method) (amount : ℕ) (choice : Choice) → IsChoice (rule_by s method) lots amount choice
        → IsChoice (rule_by t method) lots amount choice
    still_choice method amount choice h =
        record { within = h.within; sum = h.sum; allowed = still_allowed method choice h.allowed }

    still_takes : (method : Method) (units : ℤ) (legs : List (LotKey × ℤ))
        → Takes (rule_by s method) (order_by s method) lots units legs
        → Takes (rule_by t method) (order_by t method) lots units legs
    still_takes method units legs h = record {
      choice = h.choice;
      is = still_choice method (unsigned_abs units) h.choice h.is;
      listed = h.listed;
      same = h.same;
      order = still_ordered (order_by s method) (order_by t method) (same method) h.listed (all_permuted IsLot lots h.listed h.same are) h.order;
      chosen = h.chosen;
    }

-- ---- a posting, on inventories with the same lots of its commodity

-- a lot that holds something
abbrev pub IsHeldLot : Held → List ℕ → LotKey → Type 0
IsHeldLot held commodity lot = units_at held (commodity, Some lot) ≢ pos 0

module _ (s t : Ties) (method : Method) (a b : Held) (commodity : List ℕ) (units : ℤ) (cost : Cost) (day : ℤ)
    (same : lots_of a commodity ≡ lots_of b commodity) (orders : SameOrders (IsHeldLot a commodity) s t) where
  abbrev there : Braced
  there = posting_by s method a commodity units cost day

  abbrev here : Braced
  here = posting_by t method b commodity units cost day

  same_candidates : candidates there ≡ candidates here
  same_candidates =
      ap (λ lots. filter (λ (lot : LotKey × ℤ). other_sign lot.1 units)
      (filter (λ (lot : LotKey × ℤ). fits (spec_of units cost) lot.0) lots)) same

  are_held : AllByRecursion (λ (lot : LotKey × ℤ). IsHeldLot a commodity lot.0) (candidates there)
  are_held = each_member (λ (lot : LotKey × ℤ). IsHeldLot a commodity lot.0) (candidates there) (candidate_held there)

  same_reducing : is_reducing there ≡ is_reducing here
  same_reducing = ap (λ lots. may_reduce method && list_any (λ lot. other_sign lot units) (values_of lots)) same

  same_ambiguous : is_ambiguous there ≡ is_ambiguous here
  same_ambiguous = ap (λ (lots : List (LotKey × ℤ)). is_strict method && nat_le 2 (length lots)) same_candidates

  still_augments : Augments there → Augments here
  still_augments h = (h.0, h.1, sym same_reducing ∙ h.2)

  still_reduces : Reduces there → Reduces here
  still_reduces h = (h.0, h.1, sym same_reducing ∙ h.2)

  still_none : FindsNone there → FindsNone here
  still_none none =
      subst (λ (lots : List (LotKey × ℤ)). HasNoChoice (rule_by t method) lots (unsigned_abs units)) same_candidates
      (λ choice is.
      none choice (still_choice (IsHeldLot a commodity) t s (orders_turned (IsHeldLot a commodity) s t orders)
      (candidates there) are_held method (unsigned_abs units) choice is))

  -- it comes to the same
  pub comes_alike : (outcome : Outcome) → ComesTo there outcome → ComesTo here outcome
  comes_alike (Legs false legs) h = (still_augments h.0, h.1)
  comes_alike (Legs true legs) h = (
    still_reduces h.0,
    subst (λ (lots : List (LotKey × ℤ)). Takes (rule_by t method) (order_by t method) lots units legs) same_candidates
        (still_takes (IsHeldLot a commodity) s t orders (candidates there) are_held method units legs h.1),
  )
  comes_alike (Refused ZeroUnits) h = h
  comes_alike (Refused InexactCost) h = h
  comes_alike (Refused IncompleteCost) h = (still_augments h.0, h.1)
  comes_alike (Refused NoMatch) h = (still_reduces h.0, sym same_candidates ∙ h.1)
  comes_alike (Refused Ambiguous) h = (still_reduces h.0, sym same_ambiguous ∙ h.1, still_none h.2)
  comes_alike (Refused NotEnough) h =
      (still_reduces h.0, (λ none. h.1 (same_candidates ∙ none)), sym same_ambiguous ∙ h.2, still_none h.3)
  comes_alike (Refused Memory) h = h

-- What a choice gives to lots, and what the lots hold; a choice among lots is one in any order of the list.
use Rattle.std.specs.Prelude.{◌≡◌, ℕ, ◌+◌, ◌≤◌, ◌<◌, Bool, true, List, [], ◌∷◌, filter, ℤ, unsigned_abs, IsPermutation}
use Rattle.std.specs.List.{AllByRecursion}
use Rattle.std.specs.Map.{keys_of}
use Rattle.std.specs.List.Sorted.{IsStrictlySortedBy}
use Rattle.std.specs.Ordering.{eq_by_cmp, is_eq}
use Rattle.std.proofs.Common.{arith, refl}
use Rattle.std.proofs.lemmas.Cmp.{eq_by_cmp_equiv}
use Rattle.std.proofs.lemmas.List.Sorted.{IsPermutation-map, sum_by-IsPermutation}
use Rattle.std.proofs.lemmas.List.Sums.{sum_by-cons}
use Rattle.std.proofs.lemmas.Map.Keys.{IsDistinct-IsPermutation, IsDistinct-from_sorted}
use Rattle.std.proofs.lemmas.Map.Made.{IsDistinct-keys_filter}
use Rattle.lot_cost.specs.declared.lot_key.LotKey.{LotKey}
use Rattle.lot_cost.specs.LotKey.{lot_cmp}
use Rattle.lot_cost.proofs.OrderLemmas.{lots_total}
use Rattle.lot_cost.proofs.ListLemmas.{all_weaker}
use Rattle.lot_inv.specs.Inventory.{held_in}
use Rattle.lot_inv.proofs.AvailableLemmas.{held_in-cons}
use Rattle.lot_booking.proofs.ListLemmas.{all_permuted, same_terms, smaller_terms}
use Rattle.lot_booking.specs.Choice.{Choice, HasNoChoice, HaveDistinctKeys, InTurn, IsWhole, Rule, given}

-- what holds of each key holds of the key of each lot
pub all_keys : (P : LotKey → Type 0) (lots : List (LotKey × ℤ)) → AllByRecursion P (keys_of lots) → AllByRecursion (λ (lot : LotKey × ℤ). P lot.0) lots
all_keys P [] all = tt
all_keys P (lot ∷ lots) all = (all.0, all_keys P lots all.1)

-- ---- what is given and what is held

pub given-cons : (choice : Choice) (lot : LotKey × ℤ) (lots : List (LotKey × ℤ)) → given choice (lot ∷ lots) ≡ choice lot.0 + given choice lots
given-cons choice lot lots = sum_by-cons (λ (lot : LotKey × ℤ). choice lot.0) lot lots

-- a choice that gives no lot more than it holds gives all of them no more than they hold
pub given-le-held_in : (choice : Choice) (lots : List (LotKey × ℤ)) → AllByRecursion (λ (lot : LotKey × ℤ). choice lot.0 ≤ unsigned_abs lot.1) lots
    → given choice lots ≤ held_in lots
given-le-held_in choice lots within =
    smaller_terms (λ (lot : LotKey × ℤ). choice lot.0) (λ (lot : LotKey × ℤ). unsigned_abs lot.1) lots within

-- where it gives them all that they hold, each is taken whole
pub whole-from_given : (choice : Choice) (lots : List (LotKey × ℤ)) → AllByRecursion (λ (lot : LotKey × ℤ). choice lot.0 ≤ unsigned_abs lot.1) lots
    → given choice lots ≡ held_in lots → AllByRecursion (IsWhole choice) lots
whole-from_given choice lots within all =
    same_terms (λ (lot : LotKey × ℤ). choice lot.0) (λ (lot : LotKey × ℤ). unsigned_abs lot.1) lots within all

-- where each is taken whole, they give all that they hold
pub given-from_whole : (choice : Choice) (lots : List (LotKey × ℤ)) → AllByRecursion (IsWhole choice) lots → given choice lots ≡ held_in lots
given-from_whole choice [] whole = refl
given-from_whole choice (lot ∷ lots) whole =
    let rest = given-from_whole choice lots whole.1 in
    let first = whole.0 in
    omega (arith, given-cons choice lot lots, held_in-cons lot lots)

-- ---- distinct keys

-- lots that pass a test have distinct keys, where the keys of all are in order
pub distinct_among : (test : LotKey × ℤ → Bool) (lots : List (LotKey × ℤ)) → IsStrictlySortedBy lot_cmp (keys_of lots) → HaveDistinctKeys (filter test lots)
distinct_among test lots sorted = IsDistinct-keys_filter (eq_by_cmp lot_cmp) test lots (IsDistinct-from_sorted lot_cmp (keys_of lots) sorted)

-- ---- lots in another order

pub given-permuted : (choice : Choice) (lots listed : List (LotKey × ℤ)) → IsPermutation lots listed → given choice listed ≡ given choice lots
given-permuted choice = sum_by-IsPermutation (λ (lot : LotKey × ℤ). choice lot.0)

pub held_in-permuted : (lots listed : List (LotKey × ℤ)) → IsPermutation lots listed → held_in listed ≡ held_in lots
held_in-permuted = sum_by-IsPermutation (λ (lot : LotKey × ℤ). unsigned_abs lot.1)

pub distinct-permuted : (lots listed : List (LotKey × ℤ)) → IsPermutation lots listed → HaveDistinctKeys lots → HaveDistinctKeys listed
distinct-permuted lots listed moved =
    IsDistinct-IsPermutation (λ a b. is_eq (lot_cmp a b)) (eq_by_cmp_equiv lots_total).symm (keys_of lots) (keys_of listed)
    (IsPermutation-map (λ (lot : LotKey × ℤ). lot.0) lots listed moved)

pub in_turn-permuted : (before : LotKey → LotKey → Bool) (choice : Choice) (lots listed : List (LotKey × ℤ)) → IsPermutation lots listed
    → InTurn before lots choice → InTurn before listed choice
in_turn-permuted before choice lots listed moved in_turn =
    let fits = λ (lot earlier : LotKey × ℤ). before earlier.0 lot.0 ≡ true → 1 ≤ choice lot.0 → IsWhole choice earlier in
    all_permuted (λ (lot : LotKey × ℤ). AllByRecursion (fits lot) listed) lots listed moved
    (all_weaker (λ (lot : LotKey × ℤ). AllByRecursion (fits lot) lots) (λ (lot : LotKey × ℤ). AllByRecursion (fits lot) listed)
    (λ lot. all_permuted (fits lot) lots listed moved) lots in_turn)

-- ---- no choice

-- lots that hold less than is wanted have no choice, whatever the rule
pub no_choice-from_less : (allows : Rule) (lots : List (LotKey × ℤ)) (amount : ℕ) → held_in lots < amount → HasNoChoice allows lots amount
no_choice-from_less allows lots amount less choice is =
    let most = given-le-held_in choice lots is.within in
    let sum = is.sum in
    omega arith

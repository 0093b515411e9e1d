-- Which lots a reduction takes (docs/RULES.md, Methods): a relation on whole choices.
use Rattle.std.specs.Prelude.{◌≡◌, ℕ, ◌≤◌, ◌⊎◌, nat_eq, Bool, true, if◌then◌else◌, List, [], ◌∷◌, length, sum_by, ℤ, pos, int_lt, neg_ℤ, unsigned_abs, IsPermutation, ⊤}
use Rattle.std.specs.List.{AllByRecursion, IsDistinct}
use Rattle.std.specs.Map.{keys_of}
use Rattle.std.specs.Ordering.{is_eq}
use Rattle.lot_cost.specs.declared.lot_key.LotKey.{LotKey}
use Rattle.lot_cost.specs.LotKey.{lot_cmp}

-- ---- choices

-- a choice gives each lot an amount, by the lot's key
abbrev pub Choice : Type 0
Choice = LotKey → ℕ

-- no two lots have one key
abbrev pub HaveDistinctKeys : List (LotKey × ℤ) → Type 0
HaveDistinctKeys lots = IsDistinct (λ a b. is_eq (lot_cmp a b)) (keys_of lots)

-- what a choice gives to all of the lots
abbrev pub given : Choice → List (LotKey × ℤ) → ℕ
given choice lots = sum_by (λ (lot : LotKey × ℤ). choice lot.0) lots

-- the lot is taken whole
abbrev pub IsWhole : Choice → LotKey × ℤ → Type 0
IsWhole choice lot = choice lot.0 ≡ unsigned_abs lot.1

-- which choices a rule allows among the lots
abbrev pub Rule : Type 1
Rule = List (LotKey × ℤ) → Choice → Type 0

-- a choice gives each lot from zero to what it holds, and to all of them the amount that is wanted, as the rule allows
pub record IsChoice (allows : Rule) (lots : List (LotKey × ℤ)) (amount : ℕ) (choice : Choice) : Type 0 where
  pub within : AllByRecursion (λ (lot : LotKey × ℤ). choice lot.0 ≤ unsigned_abs lot.1) lots
  pub sum : given choice lots ≡ amount
  pub allowed : allows lots choice

-- there is no choice
abbrev pub HasNoChoice : Rule → List (LotKey × ℤ) → ℕ → Type 0
HasNoChoice allows lots amount = (choice : Choice) → IsChoice allows lots amount choice → ⊥

-- ---- the rules of the methods

-- there is one lot, or each is taken whole
abbrev pub OneOrWhole : Rule
OneOrWhole lots choice = (length lots ≡ 1) ⊎ AllByRecursion (IsWhole choice) lots

-- a lot gets more than zero only where each lot before it is taken whole
abbrev pub InTurn : (LotKey → LotKey → Bool) → Rule
InTurn before lots choice =
    AllByRecursion (λ (lot : LotKey × ℤ).
    AllByRecursion (λ (earlier : LotKey × ℤ). before earlier.0 lot.0 ≡ true → 1 ≤ choice lot.0 → IsWhole choice earlier) lots) lots

-- ---- legs

-- the amount with the sign of the units
abbrev pub with_sign_of : ℤ → ℕ → ℤ
with_sign_of units amount = if int_lt units (pos 0) then neg_ℤ (pos amount) else pos amount

-- the legs that a choice makes: one for each lot to which it gives more than zero, with the sign of the posting's units
abbrev pub chosen_legs : ℤ → Choice → List (LotKey × ℤ) → List (LotKey × ℤ)
chosen_legs units choice [] = []
chosen_legs units choice (lot ∷ lots) =
    if nat_eq (choice lot.0) 0 then chosen_legs units choice lots
    else (lot.0, with_sign_of units (choice lot.0)) ∷ chosen_legs units choice lots

-- each lot is before those that follow it
abbrev pub AreInOrder : (LotKey → LotKey → Bool) → List (LotKey × ℤ) → Type 0
AreInOrder before [] = ⊤
AreInOrder before (lot ∷ lots) = AllByRecursion (λ (later : LotKey × ℤ). before lot.0 later.0 ≡ true) lots × AreInOrder before lots

-- the legs that units take of the lots: those of a choice that the rule allows, in the order of the lots' keys
pub record Takes (allows : Rule) (before : LotKey → LotKey → Bool) (lots : List (LotKey × ℤ)) (units : ℤ) (legs : List (LotKey × ℤ)) : Type 0 where
  pub choice : Choice
  pub is : IsChoice allows lots (unsigned_abs units) choice
  pub listed : List (LotKey × ℤ)
  pub same : IsPermutation lots listed
  pub order : AreInOrder before listed
  pub chosen : legs ≡ chosen_legs units choice listed

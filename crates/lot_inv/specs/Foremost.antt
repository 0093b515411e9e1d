-- Which lots are counted and lent of those that units may take.
use Rattle.std.specs.Prelude.{◌≡◌, ◌⊎◌, ℕ, ◌≤◌, ◌<◌, Bool, true, false, List, [], ◌∷◌, ◌++◌, ◌==◌, filter, length, map, reverse, Option, None, Some, ℤ, pos, neg_ℤ, IsPermutation}
use Rattle.std.specs.declared.cmp.Ordering.{Ordering}
use Rattle.std.specs.List.{AllByRecursion}
use Rattle.std.specs.Ordering.{int_cmp, is_lt, nat_cmp, ordering_then}
use Rattle.lot_cost.specs.declared.lot_key.LotKey.{LotKey}
use Rattle.lot_inv.specs.declared.foremost.Foremost.{Foremost}
use Rattle.lot_inv.specs.declared.foremost.Foremost.TheVariants.{Oldest, Newest, Highest, OldestOpened, NewestOpened, HighestOpened}
use Rattle.lot_inv.specs.declared.lot.Lot.{Lot}
use Rattle.lot_inv.specs.Inventory.{held_in}
use Rattle.lot_inv.specs.Lot.{key_and_units}

-- ---- lots that are counted

-- lots are counted, and what they hold: all of them
pub record CountsAll (lots held : ℕ) (all : List (LotKey × ℤ)) : Type 0 where
  pub lots_counted : lots ≡ length all
  pub held_counted : held ≡ held_in all

-- some of them are, two or more, that hold more than an amount
pub record CountsSeveral (amount lots held : ℕ) (all : List (LotKey × ℤ)) : Type 0 where
  pub several : 2 ≤ lots
  pub among : lots ≤ length all
  pub more : amount < held
  pub within : held ≤ held_in all

-- all are counted, or several that hold more than an amount
abbrev pub Counts : ℕ → ℕ → ℕ → List (LotKey × ℤ) → Type 0
Counts amount lots held all = CountsAll lots held all ⊎ CountsSeveral amount lots held all

-- the lot, where it is the only one
abbrev pub only_of : List Lot → Option Lot
only_of [] = None
only_of (lot ∷ []) = Some lot
only_of (lot ∷ next ∷ lots) = None

-- ---- lots that are lent

-- where lots are lent: those of a lower rank before the others, those of one rank together
abbrev pub Rank : Type 0
Rank = ℤ × ℕ

-- the order of ranks: by the first part, then by the second
abbrev pub rank_cmp : Rank → Rank → Ordering
rank_cmp a b = ordering_then (int_cmp a.0 b.0) (nat_cmp a.1 b.1)

-- the rank of a lot that has a key and an opening number: it goes by the day from the first one or from the last one, or by the
-- number from the highest one, and then by the opening number or by nothing
abbrev pub rank : Foremost → LotKey → ℕ → Rank
rank Oldest key opening = (key.day, 0)
rank Newest key opening = (neg_ℤ key.day, 0)
rank Highest key opening = (neg_ℤ (pos key.number), 0)
rank OldestOpened key opening = (key.day, opening)
rank NewestOpened key opening = (neg_ℤ key.day, opening)
rank HighestOpened key opening = (neg_ℤ (pos key.number), opening)

-- those of one day or of one number are lent together
abbrev pub together : Foremost → Foremost
together Oldest = Oldest
together Newest = Newest
together Highest = Highest
together OldestOpened = Oldest
together NewestOpened = Newest
together HighestOpened = Highest

-- those of one day or of one number are lent by their opening numbers
abbrev pub opened : Foremost → Foremost
opened Oldest = OldestOpened
opened Newest = NewestOpened
opened Highest = HighestOpened
opened OldestOpened = OldestOpened
opened NewestOpened = NewestOpened
opened HighestOpened = HighestOpened

-- whether a lot comes later than another
abbrev pub is_later : Foremost → Lot → Lot → Bool
is_later foremost lot other = is_lt (rank_cmp (rank foremost other.key other.opening) (rank foremost lot.key lot.opening))

-- a list of lots in the order of their keys as it is gone through: from its end for the last days
abbrev pub gone_through : {X : Type 0} → Foremost → List X → List X
gone_through Oldest lots = lots
gone_through Newest lots = reverse lots
gone_through Highest lots = lots
gone_through OldestOpened lots = lots
gone_through NewestOpened lots = reverse lots
gone_through HighestOpened lots = lots

-- whether a lot comes later than the last of others
abbrev pub is_past : Foremost → List Lot → Lot → Bool
is_past foremost [] lot = false
is_past foremost (last ∷ []) lot = is_later foremost lot last
is_past foremost (first ∷ next ∷ lots) lot = is_past foremost (next ∷ lots) lot

-- some lots are lent of all: each of the others comes later, and where all hold an amount those that are lent do
pub record AreLentOf (foremost : Foremost) (amount : ℕ) (all lots : List Lot) : Type 0 where
  pub others : List Lot
  pub same : IsPermutation all (lots ++ others)
  pub later : AllByRecursion (λ (lot : Lot).
      AllByRecursion (λ (other : Lot). is_later foremost other lot ≡ true) others) lots
  pub enough : amount ≤ held_in (map key_and_units all) → amount ≤ held_in (map key_and_units lots)

-- the lots of a number
abbrev pub of_number : ℕ → List Lot → List Lot
of_number number lots = filter (λ (lot : Lot). number == lot.key.number) lots

-- no lots have a higher number, and those of that number hold an amount
pub record HoldsAtHighest (amount number : ℕ) (lots : List Lot) : Type 0 where
  pub none_higher : (higher : ℕ) → number < higher → of_number higher lots ≡ []
  pub held : amount ≤ held_in (map key_and_units (of_number number lots))

-- lots with the opening numbers of their keys
abbrev pub numbered : (LotKey → ℕ) → List (LotKey × ℤ) → List Lot
numbered opening lots =
    map (λ (lot : LotKey × ℤ). record { key = lot.0; units = lot.1; opening = opening lot.0 }) lots

-- In which order lots are taken where ties go by key (docs/RULES.md, Method orders), and what an order of lots has to be.
use Rattle.std.specs.Prelude.{◌≡◌, ◌≢◌, ℕ, Bool, true, false, ◌||◌, List, Option}
use Rattle.std.specs.declared.cmp.Ordering.{Ordering}
use Rattle.std.specs.Option.{option_cmp}
use Rattle.std.specs.Ordering.{nat_cmp, int_cmp, is_lt, ordering_then}
use Rattle.lot_base.specs.Text.{text_cmp}
use Rattle.lot_cost.specs.declared.lot_key.LotKey.{LotKey}
use Rattle.lot_cost.specs.LotKey.{lot_cmp}

-- ---- the laws of an order

-- an order puts one of two distinct keys before the other, and never a key before itself
pub record IsOrder (before : LotKey → LotKey → Bool) : Type 0 where
  pub never_itself : (key : LotKey) → before key key ≡ false
  pub transitive : (a b c : LotKey) → before a b ≡ true → before b c ≡ true → before a c ≡ true
  pub total : (a b : LotKey) → a ≢ b → (before a b || before b a) ≡ true

-- ---- the three orders

-- labels ascend, no label before every label
abbrev pub label_cmp : Option (List ℕ) → Option (List ℕ) → Ordering
label_cmp = option_cmp text_cmp

-- the oldest lot first, which is the order of lot keys: by day, then currency, number and label, each ascending
abbrev pub oldest_cmp : LotKey → LotKey → Ordering
oldest_cmp = lot_cmp

abbrev pub oldest_first : LotKey → LotKey → Bool
oldest_first a b = is_lt (oldest_cmp a b)

-- the newest lot first: by day descending, then currency, number and label, each ascending
abbrev pub newest_cmp : LotKey → LotKey → Ordering
newest_cmp a b = ordering_then (int_cmp b.day a.day) (ordering_then (text_cmp a.currency b.currency)
    (ordering_then (nat_cmp a.number b.number) (label_cmp a.label b.label)))

abbrev pub newest_first : LotKey → LotKey → Bool
newest_first a b = is_lt (newest_cmp a b)

-- the lot of the highest cost first: by number descending, then day, currency and label, each ascending
abbrev pub highest_cmp : LotKey → LotKey → Ordering
highest_cmp a b = ordering_then (nat_cmp b.number a.number) (ordering_then (int_cmp a.day b.day)
    (ordering_then (text_cmp a.currency b.currency) (label_cmp a.label b.label)))

abbrev pub highest_first : LotKey → LotKey → Bool
highest_first a b = is_lt (highest_cmp a b)

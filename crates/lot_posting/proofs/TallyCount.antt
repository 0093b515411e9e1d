-- Rows that set the lots of a commodity one after another, and how many lots they leave.
use Rattle.std.specs.Prelude.{◌≡◌, ℕ, ◌+◌, ◌≤◌, Bool, true, false, cond, not, List, [], ◌∷◌, length, Option, None, Some, is_some, ℤ, pos}
use Rattle.std.specs.declared.cmp.Ordering.TheVariants.{Less}
use Rattle.std.specs.FinMap.{get}
use Rattle.std.specs.List.{AllByRecursion}
use Rattle.std.specs.List.Sorted.{IsStrictlySortedBy}
use Rattle.std.specs.Map.{keys_of}
use Rattle.std.specs.Option.{unwrap_or}
use Rattle.std.specs.Ordering.{int_eq, is_eq}
use Rattle.std.proofs.Common.{refl, sym, ap, ◌∙◌, arith}
use Rattle.std.proofs.lemmas.Map.Keys.{sorted_head, sorted_tail}
use Rattle.lot_base.specs.Text.{same_text}
use Rattle.lot_base.proofs.TextLemmas.{same_text-itself}
use Rattle.lot_cost.specs.declared.lot_key.LotKey.{LotKey}
use Rattle.lot_inv.specs.Inventory.{Held, lots_of, non_zero, units_at, with_units}
use Rattle.lot_inv.specs.Zeros.{HasNoZeros}
use Rattle.lot_inv.proofs.LotLemmas.{length-set, one_if, same_lots}
use Rattle.lot_book.specs.declared.leg.Position.{Position}
use Rattle.lot_book.specs.declared.leg.Leg.{Leg}
use Rattle.lot_book.specs.Change.{ListsSums}
use Rattle.lot_book.specs.Facts.{Facts}
use Rattle.lot_book.specs.Leg.{position_cmp, same_position, with_legs}
use Rattle.lot_posting.specs.Tally.{is_lot_of, lot_count}
use Rattle.lot_book.proofs.OrderLemmas.{same_position-turned}
use Rattle.lot_posting.proofs.TallyLemmas.{lot-parts, lots-set_rows, no_zeros-row, not_at, set_rows}
use Rattle.lot_book.specs.Recorded.{with_row}
use Rattle.lot_book.proofs.HeldLemmas.{at, get-with_row}

-- ---- rows of lots, and others

-- a row that is no lot of the pair leaves the lots as they are
lots-other_row : (account commodity : List ℕ) (held : Held) (row : Position × ℤ) → is_lot_of account commodity row.0 ≡ false
    → lots_of (with_row account held row) commodity ≡ lots_of held commodity
lots-other_row account commodity held row other =
    same_lots (with_row account held row) held commodity (λ key.
    get-with_row account held row (commodity, Some key)
    ∙ ap (λ b. cond b (non_zero row.1) (get held (commodity, Some key))) (not_at account commodity row.0 key other))

-- a row that is one sets it
lot_row : (account commodity : List ℕ) (held : Held) (row : Position × ℤ) → is_lot_of account commodity row.0 ≡ true
    → with_row account held row ≡ with_units held (commodity, row.0.lot) row.1
lot_row account commodity held row is =
    let parts = lot-parts account commodity row.0 is in
    ap (λ a. cond (same_text account a) (with_units held (row.0.commodity, row.0.lot) row.1) held) parts.1
    ∙ ap (λ b. cond b (with_units held (row.0.commodity, row.0.lot) row.1) held) (same_text-itself account)
    ∙ ap (λ c. with_units held (c, row.0.lot) row.1) parts.2

-- ---- how many lots

-- how many of the rows are lots of the pair that an inventory holds
abbrev pub lots_had : List ℕ → List ℕ → Held → List (Position × ℤ) → ℕ
lots_had account commodity held [] = 0
lots_had account commodity held (row ∷ rows) =
    cond (is_lot_of account commodity row.0) (lot_count (units_at held (commodity, row.0.lot))) 0 + lots_had account commodity held rows

-- how many of the rows are lots of the pair that are held after them
abbrev pub lots_listed : List ℕ → List ℕ → List (Position × ℤ) → ℕ
lots_listed account commodity [] = 0
lots_listed account commodity (row ∷ rows) = cond (is_lot_of account commodity row.0) (lot_count row.1) 0 + lots_listed account commodity rows

count_is : (units : ℤ) → lot_count units ≡ one_if (not (int_eq units (pos 0)))
count_is units = by (int_eq units (pos 0))
  where
    by : (b : Bool) → cond b 0 1 ≡ one_if (not b)
    by true = refl
    by false = refl

count-held : (units : ℤ) → one_if (is_some (non_zero units)) ≡ lot_count units
count-held units = by (int_eq units (pos 0))
  where
    by : (b : Bool) → one_if (is_some (cond b None (Some units))) ≡ cond b 0 1
    by true = refl
    by false = refl

-- one row changes the number by what it sets less what was held there
length-lot : (commodity : List ℕ) (held : Held) (lot : Option LotKey) (units : ℤ) → HasNoZeros held → is_some lot ≡ true
    → length (lots_of (with_units held (commodity, lot) units) commodity) + lot_count (units_at held (commodity, lot)) ≡ length (lots_of held commodity) + lot_count units
length-lot commodity held None units kept is = cc
length-lot commodity held (Some key) units kept is =
    ap (λ n. length (lots_of (with_units held (commodity, Some key) units) commodity) + n)
    (sym (count-held (units_at held (commodity, Some key))) ∙ ap (λ found. one_if (is_some found)) (sym (kept (commodity, Some key))))
    ∙ length-set held commodity key units
    ∙ ap (λ n. length (lots_of held commodity) + n) (sym (count_is units))

length-row : (account commodity : List ℕ) (held : Held) (row : Position × ℤ) → HasNoZeros held
    → length (lots_of (with_row account held row) commodity) + cond (is_lot_of account commodity row.0) (lot_count (units_at held (commodity, row.0.lot))) 0
    ≡ length (lots_of held commodity) + cond (is_lot_of account commodity row.0) (lot_count row.1) 0
length-row account commodity held row kept = by (is_lot_of account commodity row.0) refl
  where
    by : (b : Bool) → is_lot_of account commodity row.0 ≡ b
        → length (lots_of (with_row account held row) commodity) + cond b (lot_count (units_at held (commodity, row.0.lot))) 0
        ≡ length (lots_of held commodity) + cond b (lot_count row.1) 0
    by true e =
        ap (λ (h : Held). length (lots_of h commodity) + lot_count (units_at held (commodity, row.0.lot))) (lot_row account commodity held row e)
        ∙ length-lot commodity held row.0.lot row.1 kept (lot-parts account commodity row.0 e).0
    by false e = ap (λ lots. length lots + 0) (lots-other_row account commodity held row e)

-- a row changes no position above it
apart : (account commodity : List ℕ) (held : Held) (row : Position × ℤ) (p : Position) → position_cmp row.0 p ≡ Less → is_lot_of account commodity p ≡ true
    → units_at (with_row account held row) (commodity, p.lot) ≡ units_at held (commodity, p.lot)
apart account commodity held row p less is =
    let parts = lot-parts account commodity p is in
    let same : at account (commodity, p.lot) ≡ p = λ i. record { account = sym parts.1 i; commodity = sym parts.2 i; lot = p.lot } in
    ap (λ (o : Option ℤ). unwrap_or o (pos 0))
    (get-with_row account held row (commodity, p.lot)
    ∙ ap (λ b. cond b (non_zero row.1) (get held (commodity, p.lot)))
    (ap (λ q. same_position q row.0) same ∙ same_position-turned p row.0 ∙ ap is_eq less))

had-later : (account commodity : List ℕ) (held : Held) (row : Position × ℤ) (rows : List (Position × ℤ))
    → AllByRecursion (λ (p : Position). position_cmp row.0 p ≡ Less) (keys_of rows)
    → lots_had account commodity (with_row account held row) rows ≡ lots_had account commodity held rows
had-later account commodity held row [] below = refl
had-later account commodity held row (next ∷ rows) below =
    λ i. by (is_lot_of account commodity next.0) refl i + had-later account commodity held row rows below.1 i
  where
    by : (b : Bool) → is_lot_of account commodity next.0 ≡ b
        → cond b (lot_count (units_at (with_row account held row) (commodity, next.0.lot))) 0 ≡ cond b (lot_count (units_at held (commodity, next.0.lot))) 0
    by true e = ap lot_count (apart account commodity held row next.0 below.0 e)
    by false e = refl

add_up : (n m k a b c d : ℕ) → n + a ≡ m + b → m + c ≡ k + d → n + (c + a) ≡ k + (d + b)
add_up n m k a b c d first second = omega (arith, first, second)

-- the lots with all rows, and those of the rows that were held before, are those before and those that the rows hold
pub counted : (account commodity : List ℕ) (held : Held) (rows : List (Position × ℤ)) → HasNoZeros held → IsStrictlySortedBy position_cmp (keys_of rows)
    → length (lots_of (set_rows account held rows) commodity) + lots_had account commodity held rows ≡ length (lots_of held commodity) + lots_listed account commodity rows
counted account commodity held [] kept sorted = refl
counted account commodity held (row ∷ rows) kept sorted =
    let now = with_row account held row in
    let rest = counted account commodity now rows (no_zeros-row account held row kept) (sorted_tail position_cmp row.0 (keys_of rows) sorted) in
    let later = had-later account commodity held row rows (sorted_head position_cmp row.0 (keys_of rows) sorted) in
    add_up (length (lots_of (set_rows account now rows) commodity)) (length (lots_of now commodity)) (length (lots_of held commodity))
    (lots_had account commodity held rows) (lots_listed account commodity rows)
    (cond (is_lot_of account commodity row.0) (lot_count (units_at held (commodity, row.0.lot))) 0)
    (cond (is_lot_of account commodity row.0) (lot_count row.1) 0)
    (ap (λ n. length (lots_of (set_rows account now rows) commodity) + n) (sym later) ∙ rest)
    (length-row account commodity held row kept)

-- no more rows are lots than there are rows
at_most_one : (b c : Bool) → cond b (cond c 0 1) 0 ≤ 1
at_most_one true true = omega arith
at_most_one true false = omega arith
at_most_one false c = omega arith

pub had-few : (account commodity : List ℕ) (held : Held) (rows : List (Position × ℤ)) → lots_had account commodity held rows ≤ length rows
had-few account commodity held [] = omega arith
had-few account commodity held (row ∷ rows) =
    omega (arith, at_most_one (is_lot_of account commodity row.0) (int_eq (units_at held (commodity, row.0.lot)) (pos 0)), had-few account commodity held rows)

pub listed-few : (account commodity : List ℕ) (rows : List (Position × ℤ)) → lots_listed account commodity rows ≤ length rows
listed-few account commodity [] = omega arith
listed-few account commodity (row ∷ rows) =
    omega (arith, at_most_one (is_lot_of account commodity row.0) (int_eq row.1 (pos 0)), listed-few account commodity rows)

all_seen : (so_far left all : ℕ) → so_far + left ≡ all → left ≡ 0 → so_far ≡ all
all_seen so_far left all seen none = omega arith

in_all : (after with had before listed had_all listed_all held : ℕ) → after ≡ with → with + had_all ≡ held + listed_all → had ≡ had_all → listed ≡ listed_all → before ≡ held
    → after + had ≡ before + listed
in_all after with had before listed had_all listed_all held first sum second third fourth = omega arith

-- the number of lots after legs, where no row is left
pub lots_after : (facts : Facts) (legs : List Leg) (rows : List (Position × ℤ)) (account commodity : List ℕ) → HasNoZeros (facts.held account) → ListsSums facts legs rows
    → IsStrictlySortedBy position_cmp (keys_of rows)
    → (before had listed : ℕ) (left : List (Position × ℤ)) → left ≡ []
    → before ≡ length (lots_of (facts.held account) commodity)
    → had + lots_had account commodity (facts.held account) left ≡ lots_had account commodity (facts.held account) rows
    → listed + lots_listed account commodity left ≡ lots_listed account commodity rows
    → length (lots_of (with_legs account (facts.held account) legs) commodity) + had ≡ before + listed
lots_after facts legs rows account commodity kept lists sorted before had listed left none are had_is listed_is =
    let held = facts.held account in
    in_all (length (lots_of (with_legs account held legs) commodity)) (length (lots_of (set_rows account held rows) commodity)) had before listed
    (lots_had account commodity held rows) (lots_listed account commodity rows) (length (lots_of held commodity))
    (ap (λ lots. length lots) (sym (lots-set_rows facts legs rows account commodity kept lists sorted)))
    (counted account commodity held rows kept sorted)
    (all_seen had (lots_had account commodity held left) (lots_had account commodity held rows) had_is (ap (lots_had account commodity held) none))
    (all_seen listed (lots_listed account commodity left) (lots_listed account commodity rows) listed_is (ap (lots_listed account commodity) none))
    are

at_most : (after had before listed rows : ℕ) → after + had ≡ before + listed → listed ≤ rows → after ≤ before + rows
at_most after had before listed rows sum few = omega arith

-- and no more than those before and the rows
pub lots_at_most : (facts : Facts) (legs : List Leg) (rows : List (Position × ℤ)) (account commodity : List ℕ) → HasNoZeros (facts.held account) → ListsSums facts legs rows
    → IsStrictlySortedBy position_cmp (keys_of rows)
    → length (lots_of (with_legs account (facts.held account) legs) commodity) ≤ length (lots_of (facts.held account) commodity) + length rows
lots_at_most facts legs rows account commodity kept lists sorted =
    let held = facts.held account in
    at_most (length (lots_of (with_legs account held legs) commodity)) (lots_had account commodity held rows) (length (lots_of held commodity))
    (lots_listed account commodity rows) (length rows)
    (ap (λ lots. length lots + lots_had account commodity held rows) (sym (lots-set_rows facts legs rows account commodity kept lists sorted))
    ∙ counted account commodity held rows kept sorted)
    (listed-few account commodity rows)

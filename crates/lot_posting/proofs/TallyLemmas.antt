-- What an account holds after legs, told by the rows that list it: the lots of a commodity, and their number.
use Rattle.std.specs.Prelude.{◌≡◌, ℕ, Bool, true, false, cond, ◌&&◌, List, [], ◌∷◌, Option, None, Some, is_none, is_some, ℤ}
use Rattle.std.specs.FinMap.{get}
use Rattle.std.specs.List.Sorted.{IsStrictlySortedBy}
use Rattle.std.specs.Map.{keys_of, lookup}
use Rattle.std.proofs.Common.{refl, sym, ap, ◌∙◌}
use Rattle.std.proofs.lemmas.Bool.{false_from_ne_true, true≢false}
use Rattle.std.proofs.lemmas.Map.Keys.{sorted_head, sorted_tail}
use Rattle.lot_base.specs.Text.{same_text}
use Rattle.lot_base.proofs.MapLemmas.{none_below}
use Rattle.lot_base.proofs.TextLemmas.{one_text, same_text-itself}
use Rattle.lot_cost.specs.declared.lot_key.LotKey.{LotKey}
use Rattle.lot_inv.specs.Inventory.{Held, lots_of, non_zero, with_units, Position as Place}
use Rattle.lot_inv.specs.Zeros.{HasNoZeros}
use Rattle.lot_inv.proofs.LotLemmas.{same_lots}
use Rattle.lot_book.specs.declared.leg.Leg.{Leg}
use Rattle.lot_book.specs.declared.leg.Position.{Position}
use Rattle.lot_book.specs.Change.{ListsSums}
use Rattle.lot_book.specs.Facts.{Facts}
use Rattle.lot_book.specs.Leg.{position_cmp, same_position, with_legs}
use Rattle.lot_posting.specs.Tally.{is_lot_of, is_plain_of, plain}
use Rattle.lot_book.proofs.HeldLemmas.{at, get-with_legs, get-with_row, no_zeros-set, settled}
use Rattle.lot_book.proofs.OrderLemmas.{one_position, same_position-itself}
use Rattle.lot_book.specs.Recorded.{with_row}

-- ---- inventories without zeros

pub no_zeros-row : (account : List ℕ) (held : Held) (row : Position × ℤ) → HasNoZeros held → HasNoZeros (with_row account held row)
no_zeros-row account held row kept = by (same_text account row.0.account)
  where
    by : (b : Bool) → HasNoZeros (cond b (with_units held (row.0.commodity, row.0.lot) row.1) held)
    by true = no_zeros-set held (row.0.commodity, row.0.lot) row.1 kept
    by false = kept

-- ---- what rows set

-- the inventory of an account with rows set one after another
abbrev pub set_rows : List ℕ → Held → List (Position × ℤ) → Held
set_rows account held [] = held
set_rows account held (row ∷ rows) = set_rows account (with_row account held row) rows

pub get-set_rows : (account : List ℕ) (held : Held) (rows : List (Position × ℤ)) → IsStrictlySortedBy position_cmp (keys_of rows) → (place : Place)
    → get (set_rows account held rows) place ≡ settled (lookup (same_position (at account place)) rows) (get held place)
get-set_rows account held [] sorted place = refl
get-set_rows account held (row ∷ rows) sorted place =
    let later = lookup (same_position (at account place)) rows in
    get-set_rows account (with_row account held row) rows (sorted_tail position_cmp row.0 (keys_of rows) sorted) place
    ∙ ap (settled later) (get-with_row account held row place)
    ∙ by (same_position (at account place) row.0) refl
  where
    by : (b : Bool) → same_position (at account place) row.0 ≡ b
        → settled (lookup (same_position (at account place)) rows) (cond b (non_zero row.1) (get held place))
        ≡ settled (cond b (Some row.1) (lookup (same_position (at account place)) rows)) (get held place)
    by true e =
        let gone : lookup (same_position (at account place)) rows ≡ None =
        ap (λ q. lookup (same_position q) rows) (one_position (at account place) row.0 e)
        ∙ none_below position_cmp row.0 rows (sorted_head position_cmp row.0 (keys_of rows) sorted) in
        ap (λ later. settled later (non_zero row.1)) gone
    by false e = refl

-- ---- the lots of a commodity after legs

-- the lots after legs are those with the rows that list them
pub lots-set_rows : (facts : Facts) (legs : List Leg) (rows : List (Position × ℤ)) (account commodity : List ℕ) → HasNoZeros (facts.held account) → ListsSums facts legs rows
    → IsStrictlySortedBy position_cmp (keys_of rows)
    → lots_of (set_rows account (facts.held account) rows) commodity ≡ lots_of (with_legs account (facts.held account) legs) commodity
lots-set_rows facts legs rows account commodity kept lists sorted =
    same_lots (set_rows account (facts.held account) rows) (with_legs account (facts.held account) legs) commodity (λ key.
    get-set_rows account (facts.held account) rows sorted (commodity, Some key)
    ∙ sym (get-with_legs facts legs rows account kept lists (commodity, Some key)))

-- ---- rows of lots

first_true : (a b : Bool) → (a && b) ≡ true → a ≡ true
first_true true b e = refl
first_true false b e = e

second_true : (a b : Bool) → (a && b) ≡ true → b ≡ true
second_true true b e = e
second_true false b e = cc

-- a position that is a lot of an account and a commodity
pub lot-parts : (account commodity : List ℕ) (p : Position) → is_lot_of account commodity p ≡ true
    → (is_some p.lot ≡ true) × (p.account ≡ account) × (p.commodity ≡ commodity)
lot-parts account commodity p e =
    let names = second_true (is_some p.lot) (same_text p.account account && same_text p.commodity commodity) e in (
      first_true (is_some p.lot) (same_text p.account account && same_text p.commodity commodity) e,
      one_text p.account account (first_true (same_text p.account account) (same_text p.commodity commodity) names),
      one_text p.commodity commodity (second_true (same_text p.account account) (same_text p.commodity commodity) names),
    )

pub lot-itself : (account commodity : List ℕ) (key : LotKey) → is_lot_of account commodity (at account (commodity, Some key)) ≡ true
lot-itself account commodity key = λ i. same_text-itself account i && same_text-itself commodity i

-- another position is not at a key of the commodity
pub not_at : (account commodity : List ℕ) (p : Position) (key : LotKey) → is_lot_of account commodity p ≡ false → same_position (at account (commodity, Some key)) p ≡ false
not_at account commodity p key other = by (same_position (at account (commodity, Some key)) p) refl
  where
    by : (b : Bool) → same_position (at account (commodity, Some key)) p ≡ b → b ≡ false
    by true e =
        let is : is_lot_of account commodity p ≡ true = ap (is_lot_of account commodity) (sym (one_position (at account (commodity, Some key)) p e)) ∙ lot-itself account commodity key in
        sym is ∙ other
    by false e = refl

-- ---- the plain units of a pair

none_given : (lot : Option LotKey) → is_none lot ≡ true → None ≡ lot
none_given None e = refl
none_given (Some key) e = cc

plain-itself : (account commodity : List ℕ) → is_plain_of account commodity (plain account commodity) ≡ true
plain-itself account commodity = λ i. same_text-itself account i && same_text-itself commodity i

plain-parts : (account commodity : List ℕ) (p : Position) → is_plain_of account commodity p ≡ true → plain account commodity ≡ p
plain-parts account commodity p e =
    let names = second_true (is_none p.lot) (same_text p.account account && same_text p.commodity commodity) e in
    let lot = none_given p.lot (first_true (is_none p.lot) (same_text p.account account && same_text p.commodity commodity) e) in
    let one = one_text p.account account (first_true (same_text p.account account) (same_text p.commodity commodity) names) in
    let other = one_text p.commodity commodity (second_true (same_text p.account account) (same_text p.commodity commodity) names) in
    λ i. record { account = sym one i; commodity = sym other i; lot = lot i }

-- a position is that of the plain units where it is the same
pub same_plain : (account commodity : List ℕ) (p : Position) → is_plain_of account commodity p ≡ same_position (plain account commodity) p
same_plain account commodity p = by (same_position (plain account commodity) p) refl
  where
    by : (b : Bool) → same_position (plain account commodity) p ≡ b → is_plain_of account commodity p ≡ b
    by true e = ap (is_plain_of account commodity) (sym (one_position (plain account commodity) p e)) ∙ plain-itself account commodity
    by false e =
        false_from_ne_true (is_plain_of account commodity p)
        (λ is. true≢false (sym (same_position-itself (plain account commodity)) ∙ ap (same_position (plain account commodity)) (plain-parts account commodity p is) ∙ e))

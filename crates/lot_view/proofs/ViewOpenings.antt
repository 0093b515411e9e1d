-- Opening numbers as lots are set one after another.
use Rattle.std.specs.Prelude.{◌≡◌, ◌≢◌, ℕ, Bool, true, false, cond, ◌&&◌, List, ◌∷◌, Option, None, Some, is_some, ℤ, pos, option_and_then}
use Rattle.std.specs.declared.cmp.Ordering.TheVariants.{Greater}
use Rattle.std.specs.BTreeMap.{BTreeMap, get as lookup_by}
use Rattle.std.specs.Cmp.Lexicographic.{texts_ties}
use Rattle.std.specs.FinMap.{get, get-empty, get-insert, get-remove, insert, remove}
use Rattle.std.specs.List.Sorted.{IsStrictlySortedBy}
use Rattle.std.specs.Map.{keys_of, lookup}
use Rattle.std.specs.Option.{unwrap_or}
use Rattle.std.specs.Ordering.{eq_by_cmp, int_eq, is_eq}
use Rattle.std.proofs.Common.{refl, sym, ap, subst, ◌∙◌}
use Rattle.std.proofs.lemmas.Bool.{true≢false}
use Rattle.std.proofs.lemmas.Map.Keys.{sorted_head}
use Rattle.lot_base.specs.Text.{same_text, text_cmp}
use Rattle.lot_base.proofs.MapLemmas.{none_below}
use Rattle.lot_cost.specs.declared.lot_key.LotKey.{LotKey}
use Rattle.lot_cost.proofs.OrderLemmas.{eq_then}
use Rattle.lot_inv.specs.Inventory.{Held, NumbersLots, Opened, Position as Place, Stock, non_zero, nothing, opened_at, opening_at, position_cmp as place_cmp, units_at, with_lot, with_opening}
use Rattle.lot_inv.specs.Zeros.{HasNoZeros}
use Rattle.lot_inv.proofs.InventoryLemmas.{never_less}
use Rattle.lot_inv.proofs.LotLemmas.{same_held}
use Rattle.lot_inv.proofs.OrderLemmas.{positions_total}
use Rattle.lot_book.specs.declared.leg.Position.{Position}
use Rattle.lot_book.specs.Leg.{position_cmp, same_position}
use Rattle.lot_book.specs.Openings.{HaveSameOpenings, with_listed}
use Rattle.lot_book.specs.Recorded.{with_row, with_rows}
use Rattle.lot_book.proofs.HeldLemmas.{at, get-with_row, get-with_rows, settled}
use Rattle.lot_book.proofs.OrderLemmas.{one_position}
use Rattle.lot_view.specs.View.{held_in, openings_in, stock_in}
use Rattle.lot_view.proofs.ViewLemmas.{SetsLot, held_set}

-- an inventory that holds nothing numbers its lots
pub numbers-nothing : NumbersLots nothing
numbers-nothing commodity lot =
    let place : Place = (commodity, Some lot) in
    let unnumbered : get nothing.opened place ≡ None = get-empty place_cmp place in
    let unheld : get nothing.held place ≡ None = get-empty place_cmp place in
    ap is_some unnumbered ∙ sym (ap is_some unheld)

-- and has no number for any
pub none_opened : (commodity : List ℕ) (lot : Option LotKey) → option_and_then (opened_at nothing commodity) lot ≡ None
none_opened commodity None = refl
none_opened commodity (Some lot) = get-empty place_cmp (commodity, Some lot)

-- ---- one lot is set

-- the number that is kept of a lot with these units, 0 where they are zero
abbrev kept_number : ℤ → ℕ → ℕ
kept_number units opening = cond (int_eq units (pos 0)) 0 opening

opened-set : (opened : Opened) (place : Place) (units : ℤ) (opening : ℕ) (commodity : List ℕ) (lot : LotKey)
    → get (with_opening opened place units opening) (commodity, Some lot)
    ≡ cond (eq_by_cmp place_cmp (commodity, Some lot) place)
    (cond (int_eq units (pos 0)) None (Some opening)) (get opened (commodity, Some lot))
opened-set opened (other, None) units opening commodity lot =
    let o = text_cmp commodity other in
    let number : Option ℕ = cond (int_eq units (pos 0)) None (Some opening) in
    sym (ap (λ b. cond b number (get opened (commodity, Some lot))) (eq_then o Greater ∙ never_less (is_eq o)))
opened-set opened (other, Some key) units opening commodity lot =
    let here : Place = (other, Some key) in
    let place : Place = (commodity, Some lot) in
    elim (int_eq units (pos 0)) as (λ b. get (cond b (remove opened here) (insert opened here opening)) place
    ≡ cond (eq_by_cmp place_cmp place here) (cond b None (Some opening)) (get opened place)) [
      | true ↦ get-remove positions_total opened here place
      | false ↦ get-insert positions_total opened here opening place
    ]

opening-set : (stock : Stock) (place : Place) (units : ℤ) (opening : ℕ) (commodity : List ℕ) (lot : LotKey)
    → opening_at (with_lot stock place units opening) commodity lot
    ≡ cond (eq_by_cmp place_cmp (commodity, Some lot) place) (kept_number units opening) (opening_at stock commodity lot)
opening-set stock place units opening commodity lot =
    ap (λ (o : Option ℕ). unwrap_or o 0) (opened-set stock.opened place units opening commodity lot)
    ∙ by (eq_by_cmp place_cmp (commodity, Some lot) place) (int_eq units (pos 0))
  where
    by : (a b : Bool) → unwrap_or (cond a (cond b None (Some opening)) (get stock.opened (commodity, Some lot))) 0
        ≡ cond a (cond b 0 opening) (opening_at stock commodity lot)
    by true true = refl
    by true false = refl
    by false b = refl

position-parts : (account other : List ℕ) (place here : Place)
    → same_position (at account place) (at other here) ≡ (same_text account other && eq_by_cmp place_cmp place here)
position-parts account other place here =
    eq_then (text_cmp account other) (place_cmp place here)
    ∙ ap (λ b. b && eq_by_cmp place_cmp place here) (sym (texts_ties account other))

module _ (old new : BTreeMap (List ℕ) Stock) (account : List ℕ) (place : Place) (units : ℤ) (opening : ℕ)
    (sets : SetsLot old new account place units opening) where
  pub held-row : (other : List ℕ) → held_in new other ≡ with_row other (held_in old other) (at account place, units)
  held-row other = held_set old new account place units opening sets other

  -- the number of a lot that is set, and of every other
  opening-turned : (other commodity : List ℕ) (lot : LotKey)
      → openings_in new other commodity lot
      ≡ cond (same_position (at other (commodity, Some lot)) (at account place))
      (kept_number units opening) (openings_in old other commodity lot)
  opening-turned other commodity lot =
      ap (λ (stock : Stock). opening_at stock commodity lot) (sets other)
      ∙ by (same_text other account)
      ∙ ap (λ b. cond b (kept_number units opening) (openings_in old other commodity lot))
      (sym (position-parts other account (commodity, Some lot) place))
    where
      by : (b : Bool)
          → opening_at (cond b (with_lot (stock_in old other) place units opening) (stock_in old other)) commodity lot
          ≡ cond (b && eq_by_cmp place_cmp (commodity, Some lot) place)
          (kept_number units opening) (openings_in old other commodity lot)
      by true = opening-set (stock_in old other) place units opening commodity lot
      by false = refl

  -- a lot that is set, and holds something then, has the number
  pub opening-here : (other commodity : List ℕ) (lot : LotKey)
      → same_position (at other (commodity, Some lot)) (at account place) ≡ true
      → units_at (held_in new other) (commodity, Some lot) ≢ pos 0
      → openings_in new other commodity lot ≡ opening
  opening-here other commodity lot here some =
      opening-turned other commodity lot
      ∙ ap (λ b. cond b (kept_number units opening) (openings_in old other commodity lot)) here
      ∙ by (int_eq units (pos 0)) refl
    where
      none : int_eq units (pos 0) ≡ true → units_at (held_in new other) (commodity, Some lot) ≡ pos 0
      none e =
          ap (λ (held : Held). units_at held (commodity, Some lot)) (held-row other)
          ∙ ap (λ o. unwrap_or o (pos 0)) (get-with_row other (held_in old other) (at account place, units) (commodity, Some lot)
          ∙ ap (λ b. cond b (non_zero units) (get (held_in old other) (commodity, Some lot))) here
          ∙ ap (λ b. cond b None (Some units)) e)

      by : (b : Bool) → int_eq units (pos 0) ≡ b → cond b 0 opening ≡ opening
      by true e = absurd (some (none e))
      by false e = refl

  -- every other lot keeps its own
  pub opening-apart : (other commodity : List ℕ) (lot : LotKey)
      → same_position (at other (commodity, Some lot)) (at account place) ≡ false
      → openings_in new other commodity lot ≡ openings_in old other commodity lot
  opening-apart other commodity lot apart =
      opening-turned other commodity lot
      ∙ ap (λ b. cond b (kept_number units opening) (openings_in old other commodity lot)) apart

-- the opening number of a position, and else that one
abbrev pub number_or : BTreeMap (List ℕ) Stock → Position → ℕ → ℕ
number_or held position opening =
    unwrap_or (option_and_then (opened_at (stock_in held position.account) position.commodity) position.lot) opening

-- ---- units are added at one position

number-kept : (units : ℤ) (opened : Option ℕ) (opening : ℕ) → is_some opened ≡ is_some (non_zero units)
    → cond (int_eq units (pos 0)) opening (unwrap_or opened 0) ≡ unwrap_or opened opening
number-kept units opened opening same = by (int_eq units (pos 0)) opened same
  where
    by : (b : Bool) (opened : Option ℕ) → is_some opened ≡ is_some (cond b None (Some units))
        → cond b opening (unwrap_or opened 0) ≡ unwrap_or opened opening
    by true None e = refl
    by true (Some number) e = absurd (true≢false e)
    by false None e = absurd (true≢false (sym e))
    by false (Some number) e = refl

-- a lot that holds nothing has the new number, and any other its own
pub openings-added : (old new : BTreeMap (List ℕ) Stock) (account : List ℕ) (place : Place) (units : ℤ) (opening number : ℕ)
    → number ≡ number_or old (at account place) opening
    → NumbersLots (stock_in old account) → HasNoZeros (held_in old account)
    → SetsLot old new account place units number
    → (other commodity : List ℕ) → HaveSameOpenings commodity (held_in new other)
    (λ lot. cond (same_position (at other (commodity, Some lot)) (at account place)
    && int_eq (units_at (held_in old other) (commodity, Some lot)) (pos 0)) opening (openings_in old other commodity lot))
    (openings_in new other commodity)
openings-added old new account place units opening number is numbers no_zeros sets other commodity lot some =
    by (same_position (at other (commodity, Some lot)) (at account place)) refl
  where
    has_number : (stock : Stock) → NumbersLots stock → HasNoZeros stock.held
        → cond (int_eq (units_at stock.held (commodity, Some lot)) (pos 0)) opening (opening_at stock commodity lot)
        ≡ unwrap_or (opened_at stock commodity lot) opening
    has_number stock numbers no_zeros =
        number-kept (units_at stock.held (commodity, Some lot)) (opened_at stock commodity lot) opening
        (numbers commodity lot ∙ ap is_some (no_zeros (commodity, Some lot)))

    by : (b : Bool) → same_position (at other (commodity, Some lot)) (at account place) ≡ b
        → cond (b && int_eq (units_at (held_in old other) (commodity, Some lot)) (pos 0)) opening
        (openings_in old other commodity lot) ≡ openings_in new other commodity lot
    by true e =
        let same : at other (commodity, Some lot) ≡ at account place = one_position (at other (commodity, Some lot)) (at account place) e in
        let own : account ≡ other = sym (ap (λ (p : Position). p.account) same) in
        has_number (stock_in old other) (subst (λ a. NumbersLots (stock_in old a)) own numbers)
        (subst (λ a. HasNoZeros (held_in old a)) own no_zeros)
        ∙ ap (λ p. number_or old p opening) same
        ∙ sym is
        ∙ sym (opening-here old new account place units number sets other commodity lot e some)
    by false e = sym (opening-apart old new account place units number sets other commodity lot e)

-- ---- units that are listed

-- what is listed of a lot counts twice as it counts once
listed_again : (listed : Option ℕ) (own : ℕ) → unwrap_or listed own ≡ unwrap_or listed (unwrap_or listed own)
listed_again None own = refl
listed_again (Some number) own = refl

-- a lot that a row sets has the number that is listed or keeps its own, and so does every other
pub openings-row : (openings : BTreeMap Position ℕ) (first old new : BTreeMap (List ℕ) Stock) (k : Position) (units : ℤ)
    (number : ℕ) (listed rows : List (Position × ℤ))
    → IsStrictlySortedBy position_cmp (k ∷ keys_of rows)
    → ((lot : LotKey) → k.lot ≡ Some lot → number ≡ with_listed openings (openings_in old) k.account k.commodity lot)
    → SetsLot old new k.account (k.commodity, k.lot) units number
    → (account commodity : List ℕ)
    → with_rows account (held_in new account) rows ≡ with_rows account (held_in first account) listed
    → HaveSameOpenings commodity (with_rows account (held_in first account) listed)
    (with_listed openings (openings_in first) account commodity) (with_listed openings (openings_in old) account commodity)
    → HaveSameOpenings commodity (with_rows account (held_in first account) listed)
    (with_listed openings (openings_in first) account commodity) (with_listed openings (openings_in new) account commodity)
openings-row openings first old new k units number listed rows sorted is sets account commodity turn had lot some =
    had lot some ∙ by (same_position (at account (commodity, Some lot)) k) refl
  where
    listed_here : Option ℕ
    listed_here = lookup_by position_cmp openings (at account (commodity, Some lot))

    by : (b : Bool) → same_position (at account (commodity, Some lot)) k ≡ b
        → with_listed openings (openings_in old) account commodity lot
        ≡ with_listed openings (openings_in new) account commodity lot
    by true e =
        let same : at account (commodity, Some lot) ≡ k = one_position (at account (commodity, Some lot)) k e in
        let gone : lookup (same_position (at account (commodity, Some lot))) rows ≡ None =
        ap (λ q. lookup (same_position q) rows) same
        ∙ none_below position_cmp k rows (sorted_head position_cmp k (keys_of rows) sorted) in
        let left : units_at (with_rows account (held_in first account) listed) (commodity, Some lot)
        ≡ units_at (held_in new account) (commodity, Some lot) =
        ap (λ (held : Held). units_at held (commodity, Some lot)) (sym turn)
        ∙ ap (λ o. unwrap_or o (pos 0)) (get-with_rows account (held_in new account) rows (commodity, Some lot)
        ∙ ap (λ later. settled later (get (held_in new account) (commodity, Some lot))) gone) in
        let now : openings_in new account commodity lot ≡ with_listed openings (openings_in old) account commodity lot =
        opening-here old new k.account (k.commodity, k.lot) units number sets account commodity lot e
        (λ none. some (left ∙ none))
        ∙ is lot (sym (ap (λ (p : Position). p.lot) same))
        ∙ sym (ap (λ (p : Position). with_listed openings (openings_in old) p.account p.commodity lot) same) in
        listed_again listed_here (openings_in old account commodity lot)
        ∙ sym (ap (unwrap_or listed_here) now)
    by false e =
        ap (unwrap_or listed_here)
        (sym (opening-apart old new k.account (k.commodity, k.lot) units number sets account commodity lot e))

-- ---- opening numbers that are listed

-- the units that a position holds are set again
pub held-again : (old new : BTreeMap (List ℕ) Stock) (k : Position) (units : ℤ) (number : ℕ)
    → get (held_in old k.account) (k.commodity, k.lot) ≡ non_zero units
    → SetsLot old new k.account (k.commodity, k.lot) units number
    → (account : List ℕ) → held_in new account ≡ held_in old account
held-again old new k units number is sets account =
    held-row old new k.account (k.commodity, k.lot) units number sets account
    ∙ same_held _ _ (λ place. get-with_row account (held_in old account) (k, units) place
    ∙ by place (same_position (at account place) k) refl)
  where
    by : (place : Place) (b : Bool) → same_position (at account place) k ≡ b
        → cond b (non_zero units) (get (held_in old account) place) ≡ get (held_in old account) place
    by place true e =
        sym is
        ∙ ap (λ (p : Position). get (held_in old p.account) (p.commodity, p.lot)) (sym (one_position (at account place) k e))
    by place false e = refl

-- once the first number is given, the others are still to be
pub openings-turn : (old new : BTreeMap (List ℕ) Stock) (k : Position) (units : ℤ) (number : ℕ) (rows : List (Position × ℕ))
    → IsStrictlySortedBy position_cmp (k ∷ keys_of rows)
    → SetsLot old new k.account (k.commodity, k.lot) units number
    → (account commodity : List ℕ) (lot : LotKey) → units_at (held_in new account) (commodity, Some lot) ≢ pos 0
    → unwrap_or (lookup (same_position (at account (commodity, Some lot))) rows) (openings_in new account commodity lot)
    ≡ unwrap_or (lookup (same_position (at account (commodity, Some lot))) ((k, number) ∷ rows))
    (openings_in old account commodity lot)
openings-turn old new k units number rows sorted sets account commodity lot some =
    by (same_position (at account (commodity, Some lot)) k) refl
  where
    by : (b : Bool) → same_position (at account (commodity, Some lot)) k ≡ b
        → unwrap_or (lookup (same_position (at account (commodity, Some lot))) rows) (openings_in new account commodity lot)
        ≡ unwrap_or (cond b (Some number) (lookup (same_position (at account (commodity, Some lot))) rows))
        (openings_in old account commodity lot)
    by true e =
        let gone : lookup (same_position (at account (commodity, Some lot))) rows ≡ None =
        ap (λ q. lookup (same_position q) rows) (one_position (at account (commodity, Some lot)) k e)
        ∙ none_below position_cmp k rows (sorted_head position_cmp k (keys_of rows) sorted) in
        ap (λ (o : Option ℕ). unwrap_or o (openings_in new account commodity lot)) gone
        ∙ opening-here old new k.account (k.commodity, k.lot) units number sets account commodity lot e some
    by false e =
        ap (unwrap_or (lookup (same_position (at account (commodity, Some lot))) rows))
        (opening-apart old new k.account (k.commodity, k.lot) units number sets account commodity lot e)

-- a lot that has its number already keeps it, and the others are still to be given theirs
pub openings-stay : (held : BTreeMap (List ℕ) Stock) (k : Position) (number : ℕ) (rows : List (Position × ℕ))
    → IsStrictlySortedBy position_cmp (k ∷ keys_of rows)
    → option_and_then (opened_at (stock_in held k.account) k.commodity) k.lot ≡ Some number
    → (account commodity : List ℕ) (lot : LotKey)
    → unwrap_or (lookup (same_position (at account (commodity, Some lot))) rows) (openings_in held account commodity lot)
    ≡ unwrap_or (lookup (same_position (at account (commodity, Some lot))) ((k, number) ∷ rows))
    (openings_in held account commodity lot)
openings-stay held k number rows sorted has account commodity lot =
    by (same_position (at account (commodity, Some lot)) k) refl
  where
    by : (b : Bool) → same_position (at account (commodity, Some lot)) k ≡ b
        → unwrap_or (lookup (same_position (at account (commodity, Some lot))) rows) (openings_in held account commodity lot)
        ≡ unwrap_or (cond b (Some number) (lookup (same_position (at account (commodity, Some lot))) rows))
        (openings_in held account commodity lot)
    by true e =
        let same : at account (commodity, Some lot) ≡ k = one_position (at account (commodity, Some lot)) k e in
        let gone : lookup (same_position (at account (commodity, Some lot))) rows ≡ None =
        ap (λ q. lookup (same_position q) rows) same
        ∙ none_below position_cmp k rows (sorted_head position_cmp k (keys_of rows) sorted) in
        ap (λ (o : Option ℕ). unwrap_or o (openings_in held account commodity lot)) gone
        ∙ ap (λ (p : Position). number_or held p 0) same
        ∙ ap (λ (o : Option ℕ). unwrap_or o 0) has
    by false e = refl

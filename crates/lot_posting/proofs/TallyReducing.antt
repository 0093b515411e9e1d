-- Where no lot of a commodity had the other sign before legs, and none at which a leg is has it, none has it behind them.
use Rattle.std.specs.Prelude.{◌≡◌, ℕ, Bool, true, false, cond, ◌||◌, ◌&&◌, List, [], ◌∷◌, Option, None, Some, ℤ, pos}
use Rattle.std.specs.BTreeMap.{is_at}
use Rattle.std.specs.FinMap.{get}
use Rattle.std.specs.List.{AllByRecursion, list_any}
use Rattle.std.specs.Map.{lookup, values_of}
use Rattle.std.specs.Option.{unwrap_or}
use Rattle.std.specs.Ordering.{int_eq}
use Rattle.std.proofs.Common.{refl, sym, ap, ◌∙◌}
use Rattle.lot_cost.specs.declared.lot_key.LotKey.{LotKey}
use Rattle.lot_cost.specs.LotKey.{lot_cmp}
use Rattle.lot_inv.specs.Inventory.{lots_of, non_zero, other_sign, reduces}
use Rattle.lot_inv.specs.Zeros.{HasNoZeros}
use Rattle.lot_inv.proofs.LawLemmas.{lots_of-get}
use Rattle.lot_booking.proofs.ListLemmas.{each_member}
use Rattle.lot_booking.proofs.SameTies.{held_lot, sign_none}
use Rattle.lot_book.specs.declared.leg.Leg.{Leg}
use Rattle.lot_book.specs.declared.leg.Position.{Position}
use Rattle.lot_book.specs.Change.{ListsSums}
use Rattle.lot_book.specs.Facts.{Facts}
use Rattle.lot_book.specs.Leg.{same_position, with_legs}
use Rattle.lot_book.proofs.CaseLemmas.{by_bool}
use Rattle.lot_book.proofs.HeldLemmas.{at, get-with_legs, settled}
use Rattle.lot_book.proofs.OrderLemmas.{one_position}
use Rattle.lot_posting.specs.Tally.{is_lot_against, is_lot_of}
use Rattle.lot_posting.proofs.TallyLemmas.{lot-itself}

neither : (a b : Bool) → (a || b) ≡ false → (a ≡ false) × (b ≡ false)
neither true b e = cc
neither false b e = (refl, e)

module _ (account commodity : List ℕ) (units : ℤ) where
  abbrev against : ℤ → Bool
  against sum = other_sign sum units

  abbrev has_none : List (LotKey × ℤ) → Type 0
  has_none lots = list_any against (values_of lots) ≡ false

  -- what lots hold under a key has not the other sign where none of them has it
  none-at : (lots : List (LotKey × ℤ)) (key : LotKey) → has_none lots
      → against (unwrap_or (lookup (is_at (lot_cmp key)) lots) (pos 0)) ≡ false
  none-at [] key none = sign_none units
  none-at (lot ∷ lots) key none =
      let both = neither (against lot.1) (list_any against (values_of lots)) none in
      elim (is_at (lot_cmp key) lot.0)
      as (λ b. against (unwrap_or (cond b (Some lot.1) (lookup (is_at (lot_cmp key)) lots)) (pos 0)) ≡ false) [
        | true ↦ both.0
        | false ↦ none-at lots key both.1
      ]

  any-none : (lots : List (LotKey × ℤ)) → AllByRecursion (λ (lot : LotKey × ℤ). against lot.1 ≡ false) lots → has_none lots
  any-none [] all = refl
  any-none (lot ∷ lots) all = λ i. all.0 i || any-none lots all.1 i

  kept-none : (sum : ℤ) → against sum ≡ false → against (unwrap_or (non_zero sum) (pos 0)) ≡ false
  kept-none sum none =
      elim (int_eq sum (pos 0)) as (λ b. against (unwrap_or (cond b None (Some sum)) (pos 0)) ≡ false) [
        | true ↦ sign_none units
        | false ↦ none
      ]

  module _ (key : LotKey) where
    abbrev lot : Position
    lot = at account (commodity, Some key)

    -- a row of the lot has not the other sign, where no row of a lot of the commodity has it
    row-none : (row : Position × ℤ) → same_position lot row.0 ≡ true → is_lot_against account commodity units row ≡ false
        → against row.1 ≡ false
    row-none row here none =
        let is : is_lot_of account commodity row.0 ≡ true =
        ap (is_lot_of account commodity) (sym (one_position lot row.0 here)) ∙ lot-itself account commodity key in
        ap (λ b. b && against row.1) (sym is) ∙ none

    settled-none : (rows : List (Position × ℤ)) (had : Option ℤ) → list_any (is_lot_against account commodity units) rows ≡ false
        → against (unwrap_or had (pos 0)) ≡ false
        → against (unwrap_or (settled (lookup (same_position lot) rows) had) (pos 0)) ≡ false
    settled-none [] had none before = before
    settled-none (row ∷ rows) had none before =
        let both = neither (is_lot_against account commodity units row) (list_any (is_lot_against account commodity units) rows) none in
        let later = lookup (same_position lot) rows in
        let now = λ (b : Bool). against (unwrap_or (settled (cond b (Some row.1) later) had) (pos 0)) in
        by_bool (same_position lot row.0)
        (λ here. ap now here ∙ kept-none row.1 (row-none row here both.0))
        (λ other. ap now other ∙ settled-none rows had both.1 before)

  pub none_against : (facts : Facts) (legs : List Leg) (rows : List (Position × ℤ)) → HasNoZeros (facts.held account)
      → ListsSums facts legs rows → reduces (facts.held account) commodity units ≡ false
      → list_any (is_lot_against account commodity units) rows ≡ false
      → reduces (with_legs account (facts.held account) legs) commodity units ≡ false
  none_against facts legs rows kept lists before listed =
      let held = facts.held account in
      let after = with_legs account held legs in
      let sign_at : Option ℤ → Bool = λ found. against (unwrap_or found (pos 0)) in
      let at_key : (key : LotKey) → sign_at (get after (commodity, Some key)) ≡ false = λ key.
      ap sign_at (get-with_legs facts legs rows account kept lists (commodity, Some key))
      ∙ settled-none key rows (get held (commodity, Some key)) listed
      (ap sign_at (sym (lots_of-get held commodity key)) ∙ none-at (lots_of held commodity) key before) in
      any-none (lots_of after commodity)
      (each_member (λ (lot : LotKey × ℤ). against lot.1 ≡ false) (lots_of after commodity)
      (λ lot among. ap against (sym (held_lot after commodity lot among)) ∙ at_key lot.0))

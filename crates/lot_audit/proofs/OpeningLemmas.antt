-- An opening number that is known tells the row of its lot.
use Rattle.std.specs.Prelude.{◌≡◌, ◌↔◌, ◌==◌, ℕ, ℤ, pos, true, false, is_some, List, Option, None, Some, option_map}
use Rattle.std.specs.FinMap as finite
use Rattle.std.specs.FinMap.{get-empty}
use Rattle.std.specs.Option.{option_eq, unwrap_or}
use Rattle.std.proofs.Common.{refl, sym, ap, ◌∙◌}
use Rattle.std.proofs.lemmas.Bool.{true≢false}
use Rattle.std.proofs.lemmas.Bool.Decides.{Decides-eqb}
use Rattle.lot_cost.specs.declared.lot_key.LotKey.{LotKey}
use Rattle.lot_inv.specs.Inventory.{Held, NumbersLots, Stock, non_zero, opened_at, opening_at, position_cmp, units_at}
use Rattle.lot_inv.specs.Zeros.{HasNoZeros}
use Rattle.lot_rows.specs.declared.lot.LotRow.{LotRow}
use Rattle.lot_rows.specs.declared.opening.OpeningRow.{OpeningRow}
use Rattle.lot_stored.specs.Rows.{lot_row, opening_row}
use Rattle.lot_view.specs.View.{known, known_with_openings}
use Rattle.lot_view.specs.declared.view.View.{View}
use Rattle.lot_audit.specs.Told.{TellsOpening, opening_told}

-- a number is that one
pub is_number : (o : Option ℕ) (n : ℕ) → (option_eq (λ (a b : ℕ). a == b) o (Some n) ≡ true) ↔ (o ≡ Some n)
is_number None n = ((λ out. absurd (true≢false (sym out))), (λ is. absurd (let gone : None ≡ Some n = is in cc)))
is_number (Some k) n = (
  (λ same. ap Some ((Decides-eqb k n).0 same)),
  (λ is. let one : k ≡ n = cc in (Decides-eqb k n).1 one),
)

module _ (view : View) (row : OpeningRow) where
  abbrev place : List ℕ × Option LotKey
  place = (row.commodity, Some row.lot)

  abbrev number : ℕ
  number = (known_with_openings view).opening row.account row.commodity row.lot

  -- the row where the lot holds these units
  abbrev told_of : Option ℤ → Option OpeningRow
  told_of held =
      option_map (λ (_ : LotRow). opening_row row.account row.commodity row.lot number)
      (option_map (lot_row row.account row.commodity row.lot) held)

  abbrev told : Option OpeningRow
  told = opening_told view row.account row.commodity row.lot

  told_none : (held : Held) → held ≡ (known view).held row.account → finite.get held place ≡ None → told ≡ None
  told_none held same none =
      ap (λ (h : Held). told_of (non_zero (units_at h place))) (sym same)
      ∙ ap (λ (o : Option ℤ). told_of (non_zero (unwrap_or o (pos 0)))) none

  no_row : told ≡ None → TellsOpening view row → ⊥
  no_row none tells = let gone : Some row ≡ None = sym tells ∙ none in cc

  -- nothing is known of the account
  pub nothing_told : (known view).held row.account ≡ finite.empty → TellsOpening view row → ⊥
  nothing_told none = no_row (told_none finite.empty (sym none) (get-empty position_cmp place))

  module _ (stock : Stock) (held : stock.held ≡ (known view).held row.account)
      (openings : opening_at stock row.commodity ≡ (known_with_openings view).opening row.account row.commodity)
      (no_zeros : HasNoZeros ((known view).held row.account)) (numbered : NumbersLots stock) where
    abbrev opened : Option ℕ
    opened = opened_at stock row.commodity row.lot

    not_opened : (o : Option ℕ) → is_some o ≡ false → o ≡ Some row.opening → ⊥
    not_opened None out is = cc
    not_opened (Some n) out is = true≢false out

    told_some : (units : ℤ) → finite.get stock.held place ≡ Some units → told ≡ Some (opening_row row.account row.commodity row.lot number)
    told_some units some =
        ap told_of (sym (no_zeros place) ∙ ap (λ (h : Held). finite.get h place) (sym held) ∙ some)

    number_is : (o : Option ℕ) → opened ≡ o → number ≡ unwrap_or o 0
    number_is o is = ap (λ (f : LotKey → ℕ). f row.lot) (sym openings) ∙ ap (λ (n : Option ℕ). unwrap_or n 0) is

    same_number : (n : ℕ) → is_some opened ≡ true → opening_row row.account row.commodity row.lot n ≡ row → number ≡ n → opened ≡ Some row.opening
    same_number n there is known_is = by opened refl there
      where
        by : (o : Option ℕ) → opened ≡ o → is_some o ≡ true → o ≡ Some row.opening
        by None none out = absurd (true≢false (sym out))
        by (Some k) some out =
            ap Some (sym (number_is (Some k) some) ∙ known_is ∙ ap (λ (r : OpeningRow). r.opening) is)

    pub opening_tells : (opened ≡ Some row.opening) ↔ TellsOpening view row
    opening_tells = by (finite.get stock.held place) refl
      where
        by : (o : Option ℤ) → finite.get stock.held place ≡ o → (opened ≡ Some row.opening) ↔ TellsOpening view row
        by None none = (
          (λ is. absurd (not_opened opened (numbered row.commodity row.lot ∙ ap is_some none) is)),
          (λ tells. absurd (no_row (told_none stock.held held none) tells)),
        )
        by (Some units) some = (
          (λ is.
              told_some units some
              ∙ ap (λ (n : ℕ). Some (opening_row row.account row.commodity row.lot n)) (number_is (Some row.opening) is)),
          (λ tells.
              let both : Some (opening_row row.account row.commodity row.lot number) ≡ Some row = sym (told_some units some) ∙ tells in
              let one : opening_row row.account row.commodity row.lot number ≡ row = cc in
              same_number number (numbered row.commodity row.lot ∙ ap is_some some) one refl),
        )

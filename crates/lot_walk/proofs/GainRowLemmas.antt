-- Steps of a walk over sales whose tables may be those of no book.
use Rattle.std.proofs.Common.{◌≡◌, ◌∙◌, ◌&&◌, cond, true, false, List, [], ◌∷◌, ◌++◌, map, Option, None, Some, Result, Ok, refl, sym, ap}
use Rattle.std.proofs.lemmas.List.{append-nil, map-append}
use Rattle.std.proofs.lemmas.List.Elements.{filter-append}
use Rattle.sqlite.specs.State.{State}
use Rattle.lot_book.specs.Sale.{SaleParts}
use Rattle.lot_table.specs.declared.fault.Fault.{Fault}
use Rattle.lot_rows.specs.Sale.{sale_cells}
use Rattle.lot_rows.specs.Tables.{Tables}
use Rattle.lot_rows.specs.declared.sale.SaleRow.{SaleRow}
use Rattle.lot_page.specs.Cursor.{IsBehind}
use Rattle.lot_page.proofs.BehindLemmas.{all_rows}
use Rattle.lot_walk.specs.Gains.{AreAllSaleRows, IsBehindSaleRows, Range, is_from, is_up_to, is_within, rows_within, sale_of_row, without_legs}
use Rattle.lot_walk.specs.Place.{KeepsRows}
use Rattle.lot_walk.specs.SaleStep.{TellsSale}
use Rattle.lot_walk.specs.Step.{StepsOverRows}
use Rattle.lot_walk.specs.declared.gains.GainsPlace.{GainsPlace}
use Rattle.lot_walk.specs.declared.gains.NumberedSale.{NumberedSale}
use Rattle.lot_walk.proofs.GainLemmas.{ReadsSale, sold_by}
use Rattle.lot_rows.proofs.StateLemmas.{early}
use Rattle.lot_walk.proofs.SaleRowLemmas.{one_sale_row}

abbrev pub StepsRows : GainsPlace → GainsPlace → State → State → Result (Option NumberedSale) Fault → Type 0
StepsRows = StepsOverRows (λ (sold : NumberedSale). sold) AreAllSaleRows IsBehindSaleRows

-- the rows of a range, and one more
rows_next : (range : Range) (rows : List SaleRow) (row : SaleRow) → map sale_of_row (rows_within range (rows ++ row ∷ []))
    ≡ map sale_of_row (rows_within range rows) ++ map sale_of_row (cond (is_within range row.day) (row ∷ []) [])
rows_next range rows row =
    ap (map sale_of_row) (filter-append (λ (r : SaleRow). is_within range r.day) rows (row ∷ []))
    ∙ map-append sale_of_row (rows_within range rows) (cond (is_within range row.day) (row ∷ []) [])

module _ (before after : GainsPlace) (old new : State) where
  pub sale_rows_end : ReadsSale before after old new (Ok None) → StepsRows before after old new (Ok None)
  sale_rows_end reads = λ clean tables has range given b.
      let all : b.rows ≡ tables.sale = all_rows sale_cells one_sale_row b.rows tables.sale (reads.gives clean tables has b.rows b.read) in
      b.within ∙ ap (λ rows. map sale_of_row (rows_within range rows)) all

  module _ (first : after.first ≡ before.first) (last : after.last ≡ before.last) (row : SaleRow) (reads : ReadsSale before after old new (Ok (Some row))) where
    row_day : (tables : Tables) (range : Range) (given : List NumberedSale) → (b : IsBehindSaleRows before tables range given)
        → is_within range row.day ≡ is_within (before.first, before.last) row.day
    row_day tables range given b = sym (λ i. is_from (b.first i) row.day && is_up_to (b.last i) row.day)

    -- a sale of another day is passed over
    pub sale_row_passed : is_within (before.first, before.last) row.day ≡ false → KeepsRows IsBehindSaleRows before after old new
    sale_row_passed out = λ clean tables has range given b. record {
      first = first ∙ b.first;
      last = last ∙ b.last;
      rows = b.rows ++ row ∷ [];
      read = reads.gives clean tables has b.rows b.read;
      within =
          b.within
          ∙ sym (append-nil (map sale_of_row (rows_within range b.rows)))
          ∙ ap (λ x. map sale_of_row (rows_within range b.rows) ++ map sale_of_row (cond x (row ∷ []) [])) (sym (row_day tables range given b ∙ out))
          ∙ sym (rows_next range b.rows row);
    }

    -- another is given
    pub sale_row_given : (end : State) (sale : SaleParts) → is_within (before.first, before.last) row.day ≡ true → TellsSale row new end (Ok sale)
        → StepsRows before after old end (Ok (Some (sold_by row sale)))
    sale_row_given end sale within tells = λ clean tables has range given b.
        let was = early new end tells.crash clean in
        let is : without_legs (sold_by row sale) ≡ sale_of_row row = ap (λ (s : SaleParts). without_legs (sold_by row s)) tells.of_row.1 in
        record {
          first = first ∙ b.first;
          last = last ∙ b.last;
          rows = b.rows ++ row ∷ [];
          read = reads.gives was tables has b.rows b.read;
          within =
              map-append without_legs given (sold_by row sale ∷ [])
              ∙ ap (λ l. l ++ without_legs (sold_by row sale) ∷ []) b.within
              ∙ ap (λ s. map sale_of_row (rows_within range b.rows) ++ s ∷ []) is
              ∙ ap (λ x. map sale_of_row (rows_within range b.rows) ++ map sale_of_row (cond x (row ∷ []) [])) (sym (row_day tables range given b ∙ within))
              ∙ sym (rows_next range b.rows row);
        }

-- before the first row nothing was given
pub no_sale_rows : (place : GainsPlace) (tables : Tables) (range : Range) → place.first ≡ range.0 → place.last ≡ range.1
    → IsBehind sale_cells [] tables.sale place.cursor → IsBehindSaleRows place tables range []
no_sale_rows place tables range first last start = record { first = first; last = last; rows = []; read = start; within = refl }

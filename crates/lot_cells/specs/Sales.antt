-- The rows of the lots of a sale, on a page: those of the table for a spreadsheet (docs/FORMATS.md, Page).
use Rattle.std.specs.Prelude.{ℕ, ℤ, pos, ◌-ℤ◌, List, [], ◌∷◌, ◌++◌, flat_map, Option, None, Some, codes}
use Rattle.std.specs.Fmt.{signed_decimal}
use Rattle.lot_num.specs.AmountText.{amount_text}
use Rattle.lot_base.specs.Day.{day_text}
use Rattle.lot_cost.specs.declared.lot_key.LotKey.{LotKey}
use Rattle.lot_book.specs.Sale.{SaleParts}
use Rattle.lot_book.specs.declared.gain.Gain.{Gain}
use Rattle.lot_csv.specs.Shares.{SoldLot, gain_in, lot_cost, lots_of}
use Rattle.lot_html.specs.Text.{escaped}
use Rattle.lot_period.specs.Term.{term_of, term_text}
use Rattle.lot_cells.specs.Cell.{cells, money_cell, money_gain_cell, name_cell, no_number, number_cell, optional_name, plain_cell}

-- the day of a sale, with a link to the month of its entry
abbrev pub sold_cell : List ℕ → ℤ → List ℕ
sold_cell target day =
    cells (codes "<tr><td><a href=\"#" ∷ escaped target ∷ codes "\">" ∷ escaped (day_text day) ∷ codes "</a></td>" ∷ [])

-- what was taken of a lot, how long that was held, and what one unit of it cost
abbrev pub taken_cells : ℤ → LotKey × ℤ → List ℕ
taken_cells sold leg =
    cells
    (number_cell (amount_text 0 8 leg.1) ∷ plain_cell (day_text leg.0.day) ∷ number_cell (signed_decimal (sold -ℤ leg.0.day))
    ∷ plain_cell (term_text (term_of leg.0.day sold)) ∷ optional_name leg.0.label
    ∷ number_cell (amount_text 0 8 (pos leg.0.number)) ∷ [])

-- what it went for, cost and gained
abbrev pub gained_cells : LotKey × ℤ → Gain → List ℕ
gained_cells leg gain = cells (money_cell gain.proceeds ∷ money_cell (lot_cost leg) ∷ money_gain_cell gain.gain ∷ [])

-- without a price only the cost is known
abbrev pub unpriced_cells : LotKey × ℤ → List ℕ
unpriced_cells leg = cells (no_number ∷ money_cell (lot_cost leg) ∷ codes "<td class=\"n\">unpriced</td>" ∷ [])

abbrev pub result_cells : LotKey × ℤ → Option Gain → List ℕ
result_cells leg None = unpriced_cells leg
result_cells leg (Some gain) = gained_cells leg gain

abbrev pub lot_html : List ℕ → SaleParts → (LotKey × ℤ) × Option Gain → List ℕ
lot_html target sale lot =
    cells
    (sold_cell target sale.day ∷ name_cell sale.account ∷ name_cell sale.commodity ∷ taken_cells sale.day lot.0
    ∷ result_cells lot.0 lot.1 ∷ name_cell lot.0.0.currency ∷ codes "</tr>\n" ∷ [])

-- the rows of a sale: one for each lot, in the order in which the lots were taken
abbrev pub sale_html : List ℕ → SaleParts → List ℕ
sale_html target sale =
    codes "<tbody>\n"
    ++ (flat_map (λ (lot : SoldLot). lot_html target sale (lot.0, gain_in sale.units lot)) (lots_of sale) ++ codes "</tbody>\n")

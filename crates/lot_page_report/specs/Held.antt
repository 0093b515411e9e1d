-- What is held, valued, with what it comes to.
use Rattle.std.specs.Prelude.{◌≡◌, ℕ, IsTrue, not, List, ◌∷◌, ◌++◌, map, Option, None, Some}
use Rattle.std.specs.BTreeMap.{BTreeMap, get}
use Rattle.std.specs.Option.{unwrap_or}
use Rattle.lot_base.specs.Text.{text_cmp}
use Rattle.lot_book.specs.declared.holding.Holding.{Holding}
use Rattle.lot_book_report.specs.Holdings.{valued_with}
use Rattle.lot_book_report.specs.declared.prices.DayPrices.{DayPrices}
use Rattle.lot_cells.specs.Holdings.{has_room}
use Rattle.lot_cells.specs.declared.holdings.LotTotals.{LotTotals}
use Rattle.lot_cost.specs.declared.lot_key.LotKey.{LotKey}
use Rattle.lot_report.specs.declared.holdings.ValuedHolding.{ValuedHolding}
use Rattle.lot_page_report.specs.Parts.{AreTotals, no_lots, with_row, with_rows}
use Rattle.lot_page_report.specs.declared.held.Held.{Held}

-- totals with one more holding
abbrev pub Totalled : ValuedHolding → BTreeMap (List ℕ) LotTotals → BTreeMap (List ℕ) LotTotals → Type 0
Totalled row old new = (currency : List ℕ) → get text_cmp new currency ≡ with_row currency (get text_cmp old currency) row

-- what the lots in some currency come to leaves its range at one of them, behind those before it
pub record TotalsLeaveRange (rows : List ValuedHolding) : Type 0 where
  pub given : List ValuedHolding
  pub row : ValuedHolding
  pub rest : List ValuedHolding
  pub split : rows ≡ given ++ row ∷ rest
  pub lot : LotKey
  pub is_lot : row.holding.lot ≡ Some lot
  pub out : IsTrue (not (has_room (unwrap_or (with_rows lot.currency None given) no_lots) lot row.holding.units row.valuation))

-- holdings at prices, with their totals
pub record IsHeld (prices : Option DayPrices) (holdings : List Holding) (held : Held) : Type 0 where
  pub rows : held.rows.items ≡ map (valued_with prices) holdings
  pub totals : AreTotals held.rows.items held.totals.entries

-- The table of holdings: a record for each position (docs/FORMATS.md, Tables for a spreadsheet).
use Rattle.std.specs.Prelude.{ℕ, ℤ, pos, ◌*ℤ◌, List, [], ◌∷◌, ◌++◌, Option, None, Some, codes}
use Rattle.lot_num.specs.AmountText.{amount_text}
use Rattle.lot_base.specs.Day.{day_text}
use Rattle.lot_cost.specs.declared.lot_key.LotKey.{LotKey}
use Rattle.lot_book.specs.declared.holding.Holding.{Holding}
use Rattle.lot_report.specs.Printed.{line, price_of}
use Rattle.lot_report.specs.declared.holdings.ValuedHolding.{ValuedHolding}
use Rattle.lot_report.specs.declared.lot.Valuation.{Valuation}
use Rattle.lot_csv.specs.Record.{cost_fields, record_text}
use Rattle.lot_csv.specs.declared.holdings.Columns.{Columns}
use Rattle.lot_csv.specs.declared.holdings.Columns.TheVariants.{Costs, Values}

abbrev pub holdings_header : Columns → List ℕ
holdings_header Costs =
    line (codes "account,commodity,units,acquired,label,unit_cost,currency,cost")
holdings_header Values =
    line (codes "account,commodity,units,acquired,label,unit_cost,currency,cost,price,value")

-- the fields of a lot with so many units; those of plain units are empty
abbrev pub position_fields : Option LotKey → ℤ → List (List ℕ)
position_fields None units = [] ∷ [] ∷ [] ∷ [] ∷ [] ∷ []
position_fields (Some lot) units =
    day_text lot.day ∷ (cost_fields lot ++ amount_text 2 16 (units *ℤ pos lot.number) ∷ [])

-- the price of one unit, and the value of so many at it; both are empty where there is no price
abbrev pub price_fields : Option ℕ → ℤ → List (List ℕ)
price_fields None units = [] ∷ [] ∷ []
price_fields (Some price) units =
    amount_text 0 8 (pos price) ∷ amount_text 2 16 (units *ℤ pos price) ∷ []

abbrev pub value_fields : Columns → Valuation → ℤ → List (List ℕ)
value_fields Costs valuation units = []
value_fields Values valuation units = price_fields (price_of valuation) units

abbrev pub holding_fields : Columns → ValuedHolding → List (List ℕ)
holding_fields columns row =
    row.holding.account ∷ row.holding.commodity ∷ amount_text 0 8 row.holding.units
    ∷ (position_fields row.holding.lot row.holding.units
    ++ value_fields columns row.valuation row.holding.units)

abbrev pub holding_record : Columns → ValuedHolding → List ℕ
holding_record columns row = record_text (holding_fields columns row)

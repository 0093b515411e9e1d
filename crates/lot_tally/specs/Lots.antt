-- What a table of gains counts: the lots of sales, each in the row of its keys (docs/FORMATS.md,
-- Gains by keys).
use Rattle.std.specs.Prelude.{ℕ, ℤ, List, [], ◌∷◌, ◌++◌, map, flat_map, zip, codes, Option}
use Rattle.lot_cost.specs.declared.lot_key.LotKey.{LotKey}
use Rattle.lot_book.specs.declared.gain.Gain.{Gain}
use Rattle.lot_book.specs.Sale.{SaleParts}
use Rattle.lot_csv.specs.Record.{field_text}
use Rattle.lot_csv.specs.Shares.{gain_in, lot_cost, lots_of}
use Rattle.lot_period.specs.Period.{period_text}
use Rattle.lot_period.specs.Term.{term_of, term_text}
use Rattle.lot_period.specs.declared.period.PeriodLength.TheVariants as period
use Rattle.lot_tally.specs.declared.key.GainKey.{GainKey}
use Rattle.lot_tally.specs.declared.key.GainKey.TheVariants.{Year, Commodity, Account, Term}
use Rattle.lot_tally.specs.declared.key.TableForm.{TableForm}
use Rattle.lot_tally.specs.declared.key.TableForm.TheVariants.{Text, Csv}

-- ---- keys

-- the word of a key
abbrev pub key_name : GainKey → List ℕ
key_name Year = codes "year"
key_name Commodity = codes "commodity"
key_name Account = codes "account"
key_name Term = codes "term"

-- what a lot of a sale has for a key
abbrev pub key_field : GainKey → SaleParts → LotKey → List ℕ
key_field Year sale lot = period_text period.Year sale.day
key_field Commodity sale lot = sale.commodity
key_field Account sale lot = sale.account
key_field Term sale lot = term_text (term_of lot.day sale.day)

-- a field, with what separates it from the next one
abbrev pub separated : TableForm → List ℕ → List ℕ
separated Text field = field ++ 32 ∷ []
separated Csv field = field_text field ++ 44 ∷ []

-- the fields of a lot for keys, in the order of the keys
abbrev pub keys_text : List GainKey → TableForm → SaleParts → LotKey → List ℕ
keys_text by form sale lot = flat_map (λ (key : GainKey). separated form (key_field key sale lot)) by

-- ---- rows

-- what tells a row from others: the text of its keys, and its currency
abbrev pub RowKey : Type 0
RowKey = List ℕ × List ℕ

abbrev pub row_of : List GainKey → TableForm → SaleParts → LotKey → RowKey
row_of by form sale lot = (keys_text by form sale lot, lot.currency)

-- a lot of a sale, as a table counts it: its row, what it cost, and what it gained, which is known
-- where the sale is priced
pub record CountedLot : Type 0 where
  pub row : RowKey
  pub cost : ℤ
  pub gain : Option Gain

abbrev pub counted : List GainKey → TableForm → SaleParts → (LotKey × ℤ) × Option Gain → CountedLot
counted by form sale lot =
    record { row = row_of by form sale lot.0.0; cost = lot_cost lot.0; gain = lot.1 }

-- the legs of a sale, each beside what it gains
abbrev pub legs_of : SaleParts → List ((LotKey × ℤ) × Option Gain)
legs_of sale = zip sale.legs (map (gain_in sale.units) (lots_of sale))

-- the lots of a sale, in the order in which they were taken
abbrev pub sale_lots : List GainKey → TableForm → SaleParts → List CountedLot
sale_lots by form sale = map (counted by form sale) (legs_of sale)

-- the lots of all sales
abbrev pub all_lots : List GainKey → TableForm → List SaleParts → List CountedLot
all_lots by form sales = flat_map (sale_lots by form) sales

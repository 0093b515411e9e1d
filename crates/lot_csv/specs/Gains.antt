-- The table of gains: a record for each lot of each sale (docs/FORMATS.md, Tables for a
-- spreadsheet).
use Rattle.std.specs.Prelude.{ℕ, ℤ, ◌-ℤ◌, List, [], ◌∷◌, ◌++◌, map, Option, Some, option_map, codes, decimal}
use Rattle.std.specs.Fmt.{signed_decimal}
use Rattle.std.specs.Option.{unwrap_or}
use Rattle.lot_num.specs.AmountText.{amount_text}
use Rattle.lot_base.specs.Day.{day_text}
use Rattle.lot_cost.specs.declared.lot_key.LotKey.{LotKey}
use Rattle.lot_book.specs.declared.gain.Gain.{Gain}
use Rattle.lot_book.specs.Sale.{SaleParts}
use Rattle.lot_period.specs.Term.{term_of, term_text}
use Rattle.lot_report.specs.Printed.{line}
use Rattle.lot_csv.specs.Record.{cost_fields, record_text}
use Rattle.lot_csv.specs.Shares.{SoldLot, gain_in, lot_cost, lots_of}

abbrev pub gains_header : List ℕ
gains_header =
    line
    (codes
    "entry,posting,account,commodity,units,acquired,sold,days_held,label,unit_cost,currency,proceeds,cost,gain,term")

-- an amount of money at scale 16, or an empty field
abbrev pub money_field : Option ℤ → List ℕ
money_field amount = unwrap_or (option_map (amount_text 2 16) amount) []

-- the units that were taken of a lot on a day, when they were acquired and sold, and the days
-- between
abbrev pub taken_fields : ℤ → LotKey × ℤ → List (List ℕ)
taken_fields sold leg =
    amount_text 0 8 leg.1 ∷ day_text leg.0.day ∷ day_text sold ∷ signed_decimal (sold -ℤ leg.0.day) ∷ []

-- what a lot went for, what it cost, and what it gained
abbrev pub gain_fields : LotKey × ℤ → Option Gain → List (List ℕ)
gain_fields leg gain =
    money_field (option_map (λ (g : Gain). g.proceeds) gain)
    ∷ money_field (Some (lot_cost leg))
    ∷ money_field (option_map (λ (g : Gain). g.gain) gain)
    ∷ []

-- how long a lot was held that was sold on a day
abbrev pub term_fields : ℤ → LotKey × ℤ → List (List ℕ)
term_fields sold leg = term_text (term_of leg.0.day sold) ∷ []

-- the fields of a lot of a sale, with what it gains, where the sale is priced
abbrev pub lot_fields : ℕ → ℕ → SaleParts → LotKey × ℤ → Option Gain → List (List ℕ)
lot_fields entry posting sale leg gain =
    decimal entry ∷ decimal posting ∷ sale.account ∷ sale.commodity
    ∷ (taken_fields sale.day leg ++ (cost_fields leg.0 ++ (gain_fields leg gain ++ term_fields sale.day leg)))

-- the record of a lot of a sale, with what it gains
abbrev pub lot_record : ℕ → ℕ → SaleParts → (LotKey × ℤ) × Option Gain → List ℕ
lot_record entry posting sale lot = record_text (lot_fields entry posting sale lot.0 lot.1)

-- the records of the sale of a posting: one for each lot, in the order in which the lots were taken
abbrev pub sale_records : ℕ → ℕ → SaleParts → List (List ℕ)
sale_records entry posting sale =
    map (λ (lot : SoldLot). lot_record entry posting sale (lot.0, gain_in sale.units lot)) (lots_of sale)

-- A lot in columns: its key, and the cost of a leg.
use Rattle.std.specs.Prelude.{ℕ, pos, List, [], ◌∷◌, Option, Some, None, ⊤}
use Rattle.sqlite.specs.Order.{Row}
use Rattle.sqlite.specs.Values.{or_null}
use Rattle.sqlite.specs.declared.types.Value.TheVariants.{Int, Text}
use Rattle.sqlite.specs.declared.types.Value.{Value}
use Rattle.lot_base.specs.Day.{IsDayNumber}
use Rattle.lot_cost.specs.declared.lot_key.LotKey.{LotKey}
use Rattle.lot_num.specs.Amount.{IsRate}
use Rattle.lot_base.specs.Name.{IsName, is_commodity}
use Rattle.lot_table.specs.Cell.{IsLabelOrNone, label_text}

pub record IsLotKey (lot : LotKey) : Type 0 where
  pub day : IsDayNumber lot.day
  pub currency : IsName is_commodity lot.currency
  pub number : IsRate lot.number
  pub label : IsLabelOrNone lot.label

-- ---- the key of a lot: its account, its commodity, and its cost

-- a row that begins with the key
abbrev pub lot_columns : List ℕ → List ℕ → LotKey → Row → Row
lot_columns account commodity lot rest =
    Text account ∷ Text commodity ∷ Int lot.day ∷ Text lot.currency ∷ Int (pos lot.number) ∷ Text (label_text lot.label) ∷ rest

abbrev pub lot_key : List ℕ → List ℕ → LotKey → Row
lot_key account commodity lot = lot_columns account commodity lot []

-- ---- the cost of a leg, which is null throughout for plain units

abbrev pub cost_number : Option LotKey → Value
cost_number = or_null (λ (lot : LotKey). Int (pos lot.number))

abbrev pub cost_currency : Option LotKey → Value
cost_currency = or_null (λ (lot : LotKey). Text lot.currency)

abbrev pub cost_day : Option LotKey → Value
cost_day = or_null (λ (lot : LotKey). Int lot.day)

abbrev pub cost_label : Option LotKey → Value
cost_label = or_null (λ (lot : LotKey). Text (label_text lot.label))

abbrev pub IsLotOrPlain : Option LotKey → Type 0
IsLotOrPlain None = ⊤
IsLotOrPlain (Some lot) = IsLotKey lot

-- What a record of a broker file says (docs/FORMATS.md, Broker files): a row, or the first of its columns that is outside its
-- rule. A record is the list of its fields, and a field is the list of its bytes.
use Rattle.std.specs.Prelude.{◌≡◌, ◌⊎◌, ℕ, IsTrue, IsUtf8, List, [], ◌∷◌, length, slice_index_or, codes, Option, Some, None, Ok, ℤ}
use Rattle.lot_num.specs.NumberText.{rate_of, total_of}
use Rattle.lot_base.specs.Name.{is_commodity, is_label}
use Rattle.lot_base.specs.Day.{named_day}
use Rattle.lot_import.specs.declared.fault.Cause.{Cause}
use Rattle.lot_import.specs.declared.fault.Cause.TheVariants as Causes
use Rattle.lot_import.specs.declared.row.Action.{Action}
use Rattle.lot_import.specs.declared.row.Action.TheVariants.{Buy, Sell}
use Rattle.lot_import.specs.declared.row.Row.{Row}
use Rattle.lot_import.specs.declared.version.Version.{Version}
use Rattle.lot_import.specs.declared.version.Version.TheVariants.{First, Second}

-- ---- The columns, which are the fields of the header.

abbrev pub columns : Version → List (List ℕ)
columns First =
    codes "ref" ∷ codes "date" ∷ codes "action" ∷ codes "symbol" ∷ codes "units" ∷ codes "price" ∷ codes "currency"
    ∷ codes "fee" ∷ []
columns Second =
    codes "ref" ∷ codes "date" ∷ codes "action" ∷ codes "symbol" ∷ codes "units" ∷ codes "price" ∷ codes "currency"
    ∷ codes "fee" ∷ codes "lot" ∷ []

-- the field of a record at a column, counted from 0
abbrev pub at_column : List (List ℕ) → ℕ → List ℕ
at_column written column = slice_index_or written column []

-- ---- What a field says. It isn't trimmed.

abbrev pub SaysLabel : List ℕ → List ℕ → Type 0
SaysLabel field label = IsUtf8 field × IsTrue (is_label field) × (label ≡ field)

abbrev pub SaysCommodity : List ℕ → List ℕ → Type 0
SaysCommodity field commodity = IsUtf8 field × IsTrue (is_commodity field) × (commodity ≡ field)

abbrev pub SaysDay : List ℕ → ℤ → Type 0
SaysDay field day = IsUtf8 field × (named_day field ≡ Some day)

abbrev pub SaysAction : List ℕ → Action → Type 0
SaysAction field Buy = field ≡ codes "BUY"
SaysAction field Sell = field ≡ codes "SELL"

-- units that aren't below zero, which are read as a total is
abbrev pub SaysUnits : List ℕ → ℤ → Type 0
SaysUnits field units = IsUtf8 field × (total_of field ≡ Ok units)

abbrev pub SaysRate : List ℕ → ℕ → Type 0
SaysRate field rate = IsUtf8 field × (rate_of field ≡ Ok rate)

-- the empty field is no fee
abbrev pub SaysFee : List ℕ → ℕ → Type 0
SaysFee [] fee = fee ≡ 0
SaysFee (b ∷ bytes) fee = SaysRate (b ∷ bytes) fee

-- the label of a lot beside the row's reference: a purchase labels its lot by that or not at all, a sale may name any label
abbrev pub NamesLot : Action → List ℕ → List ℕ → List ℕ → Type 0
NamesLot Buy reference field label = (field ≡ reference) × SaysLabel field label
NamesLot Sell reference field label = SaysLabel field label

-- the empty field is no label
abbrev pub SaysLot : Action → List ℕ → List ℕ → Option (List ℕ) → Type 0
SaysLot action reference [] lot = lot ≡ None
SaysLot action reference (b ∷ bytes) None = ⊥
SaysLot action reference (b ∷ bytes) (Some label) = NamesLot action reference (b ∷ bytes) label

-- the first version has no column for it
abbrev pub HasLot : Version → Action → List (List ℕ) → Option (List ℕ) → Type 0
HasLot First action written lot = lot ≡ None
HasLot Second action written lot = SaysLot action (at_column written 0) (at_column written 8) lot

-- ---- Rows.

-- the record says the row
pub record IsRow (version : Version) (written : List (List ℕ)) (row : Row) : Type 0 where
  pub whole : length written ≡ length (columns version)
  pub name : SaysLabel (at_column written 0) row.name
  pub day : SaysDay (at_column written 1) row.day
  pub action : SaysAction (at_column written 2) row.action
  pub symbol : SaysCommodity (at_column written 3) row.symbol
  pub units : SaysUnits (at_column written 4) row.units
  pub price : SaysRate (at_column written 5) row.price
  pub currency : SaysCommodity (at_column written 6) row.currency
  pub fee : SaysFee (at_column written 7) row.fee
  pub lot : HasLot version row.action written row.lot

-- ---- The first faulty column.

-- the causes, in the order in which a record is looked at
abbrev pub causes : List Cause
causes =
    Causes.Length ∷ Causes.Ref ∷ Causes.Date ∷ Causes.Action ∷ Causes.Symbol ∷ Causes.Units ∷ Causes.Price ∷ Causes.Currency
    ∷ Causes.Fee ∷ Causes.Lot ∷ []

-- the record isn't faulty by this cause: the column says something
abbrev pub Passes : Version → List (List ℕ) → Cause → Type 0
Passes version written Causes.Length = length written ≡ length (columns version)
Passes version written Causes.Ref = (name : List ℕ) × SaysLabel (at_column written 0) name
Passes version written Causes.Date = (day : ℤ) × SaysDay (at_column written 1) day
Passes version written Causes.Action = (action : Action) × SaysAction (at_column written 2) action
Passes version written Causes.Symbol = (symbol : List ℕ) × SaysCommodity (at_column written 3) symbol
Passes version written Causes.Units = (units : ℤ) × SaysUnits (at_column written 4) units
Passes version written Causes.Price = (price : ℕ) × SaysRate (at_column written 5) price
Passes version written Causes.Currency = (currency : List ℕ) × SaysCommodity (at_column written 6) currency
Passes version written Causes.Fee = (fee : ℕ) × SaysFee (at_column written 7) fee
Passes version written Causes.Lot =
    (action : Action) × SaysAction (at_column written 2) action × (lot : Option (List ℕ)) × HasLot version action written lot

-- the first of the causes that doesn't pass
abbrev pub FirstFailing : (Cause → Type 0) → List Cause → Cause → Type 0
FirstFailing Passing [] cause = ⊥
FirstFailing Passing (c ∷ cs) cause = ((cause ≡ c) × (Passing c → ⊥)) ⊎ (Passing c × FirstFailing Passing cs cause)

-- the record is faulty, by that cause
abbrev pub IsFaulty : Version → List (List ℕ) → Cause → Type 0
IsFaulty version written cause = FirstFailing (Passes version written) causes cause

-- ---- All faulty columns of a record with as many fields as the header.

-- the action that a field says; a sale where it says none
abbrev pub IsMeant : List ℕ → Action → Type 0
IsMeant field action = SaysAction field action ⊎ (((other : Action) → SaysAction field other → ⊥) × (action ≡ Sell))

-- the column says something, whatever stands in the others: a lot goes by the action that is meant
abbrev pub PassesAlone : Version → List (List ℕ) → Cause → Type 0
PassesAlone version written Causes.Length = Passes version written Causes.Length
PassesAlone version written Causes.Ref = Passes version written Causes.Ref
PassesAlone version written Causes.Date = Passes version written Causes.Date
PassesAlone version written Causes.Action = Passes version written Causes.Action
PassesAlone version written Causes.Symbol = Passes version written Causes.Symbol
PassesAlone version written Causes.Units = Passes version written Causes.Units
PassesAlone version written Causes.Price = Passes version written Causes.Price
PassesAlone version written Causes.Currency = Passes version written Causes.Currency
PassesAlone version written Causes.Fee = Passes version written Causes.Fee
PassesAlone version written Causes.Lot =
    (action : Action) × IsMeant (at_column written 2) action × (lot : Option (List ℕ)) × HasLot version action written lot

-- those of the causes that don't pass, in their order
abbrev pub AreFailing : (Cause → Type 0) → List Cause → List Cause → Type 0
AreFailing Passing [] failing = failing ≡ []
AreFailing Passing (c ∷ cs) failing =
    (Passing c × AreFailing Passing cs failing)
    ⊎ ((Passing c → ⊥) × (others : List Cause) × (failing ≡ c ∷ others) × AreFailing Passing cs others)

-- all causes for which the record is faulty: of another number of fields that one alone
abbrev pub HasCauses : Version → List (List ℕ) → List Cause → Type 0
HasCauses version written failing =
    (Passes version written Causes.Length × AreFailing (PassesAlone version written) causes failing)
    ⊎ ((Passes version written Causes.Length → ⊥) × (failing ≡ Causes.Length ∷ []))

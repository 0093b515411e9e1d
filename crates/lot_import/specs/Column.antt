-- What reading a record and its columns answers, for the code alone. Names are borrowed from the record until all columns are
-- known to pass, so that nothing is copied of a faulty record.
use Rattle.std.specs.Prelude.{◌≡◌, List, ℕ, Option, option_map, Result, Ok, Err}
use Rattle.lot_import.specs.declared.fault.Cause.{Cause}
use Rattle.lot_import.specs.declared.row.Row.{Row}
use Rattle.lot_import.specs.declared.written.SaidRow.{SaidRow}
use denote.Ref.{Bor}

-- what the column says, as it is seen; or its cause, where it says nothing
abbrev pub Gives : {A B : Type 0} → (A → B) → (B → Type 0) → Cause → Result A Cause → Type 0
Gives seen Says cause (Ok value) = Says (seen value)
Gives {A} {B} seen Says cause (Err told) = (told ≡ cause) × ((value : B) → Says value → ⊥)

-- a value
abbrev pub GivesField : {A : Type 0} → (A → Type 0) → Cause → Result A Cause → Type 0
GivesField = Gives (λ value. value)

-- a name, borrowed from the record
abbrev pub GivesName : (List ℕ → Type 0) → Cause → Result (Bor (List ℕ)) Cause → Type 0
GivesName = Gives (λ text. text.now)

-- a name or none
abbrev pub GivesLot : (Option (List ℕ) → Type 0) → Cause → Result (Option (Bor (List ℕ))) Cause → Type 0
GivesLot = Gives (option_map (λ text. text.now))

-- the row of what was read of a record
abbrev pub row_of : SaidRow → Row
row_of said = record {
  name = said.name.now;
  day = said.day;
  action = said.action;
  symbol = said.symbol.now;
  units = said.units;
  price = said.price;
  currency = said.currency.now;
  fee = said.fee;
  lot = option_map (λ text. text.now) said.lot;
}

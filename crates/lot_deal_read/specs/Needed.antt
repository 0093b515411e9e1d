-- What a kind needs of a row (docs/FORMATS.md, Profiles).
use Rattle.std.specs.Prelude.{ℕ, Bool, true, false, List, Option, Ok, Err, ℤ}
use Rattle.std.specs.Option.{unwrap_or}
use Rattle.lot_profile.specs.declared.role.Role.{Role}
use Rattle.lot_profile.specs.declared.role.Role.TheVariants as role
use Rattle.lot_roles.specs.Names.{commodity_of, symbol_of}
use Rattle.lot_roles.specs.Numbers.{amount_of, exact_units_of, rate_of}
use Rattle.lot_roles.specs.Reading.{Read, ◌>>=◌, or_fault}
use Rattle.lot_roles.specs.declared.fault.RowFault.{RowFault}
use Rattle.lot_roles.specs.declared.fault.RowFault.TheVariants.{Missing}
use Rattle.lot_roles.specs.declared.rules.Rules.{Rules}
use Rattle.lot_sheet.specs.Sheet.{SheetRow}

-- what has to have a value
abbrev pub needed : {T : Type 0} → Role → Option T → Read T
needed role value = or_fault (Missing role) value

-- what has to hold
abbrev pub must : RowFault → Bool → Read (Unit {0})
must fault true = Ok tt
must fault false = Err fault

-- ---- Values that a kind needs.

abbrev pub symbol_in : Rules → SheetRow → Read (List ℕ)
symbol_in rules row = symbol_of rules row >>= needed role.Symbol

abbrev pub units_in : Rules → SheetRow → Read ℤ
units_in rules row = exact_units_of rules row role.Units >>= needed role.Units

abbrev pub amount_in : Rules → SheetRow → Role → Read ℤ
amount_in rules row role = amount_of rules row role >>= needed role

abbrev pub price_in : Rules → SheetRow → Read ℕ
price_in rules row = rate_of rules row role.Price >>= needed role.Price

abbrev pub currency_in : Rules → SheetRow → Role → Read (List ℕ)
currency_in rules row role = commodity_of rules row role >>= needed role

-- a currency, or that one where the row says none
abbrev pub currency_or : Rules → SheetRow → Role → List ℕ → Read (List ℕ)
currency_or rules row role currency = commodity_of rules row role >>= λ other. Ok (unwrap_or other currency)

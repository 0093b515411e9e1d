-- The commodities that a row says (docs/FORMATS.md, Profiles).
use Rattle.std.specs.Prelude.{ℕ, if◌then◌else◌, List, find, Option, Ok, Err}
use Rattle.std.specs.Option.{option_map, option_map_or}
use Rattle.lot_base.specs.Name.{is_commodity}
use Rattle.lot_base.specs.Text.{same_text}
use Rattle.lot_profile.specs.declared.profile.Symbol.{Symbol}
use Rattle.lot_profile.specs.declared.role.Role.{Role}
use Rattle.lot_profile.specs.declared.role.Role.TheVariants as role
use Rattle.lot_sheet.specs.Sheet.{SheetRow}
use Rattle.lot_roles.specs.Parts.{text_of}
use Rattle.lot_roles.specs.Reading.{Read, if_any}
use Rattle.lot_roles.specs.declared.fault.RowFault.TheVariants.{NotCommodity}
use Rattle.lot_roles.specs.declared.rules.Rules.{Rules}

-- a text as a commodity
abbrev pub as_commodity : Role → List ℕ → Read (List ℕ)
as_commodity role text = if is_commodity text then Ok text else Err (NotCommodity role)

-- the commodity of a role
abbrev pub commodity_of : Rules → SheetRow → Role → Read (Option (List ℕ))
commodity_of rules row role = if_any (as_commodity role) (text_of rules row role)

-- what a text of the column `symbol` means: what the profile says of it, or else itself
abbrev pub meaning : List Symbol → List ℕ → List ℕ
meaning symbols text =
    option_map_or (λ (s : Symbol). s.commodity) (find (λ (s : Symbol). same_text s.field text) symbols) text

-- the symbol of a row, commodity or not
abbrev pub symbol_text_of : Rules → SheetRow → Option (List ℕ)
symbol_text_of rules row = option_map (meaning rules.profile.now.symbols) (text_of rules row role.Symbol)

-- the symbol of a row
abbrev pub symbol_of : Rules → SheetRow → Read (Option (List ℕ))
symbol_of rules row = if_any (as_commodity role.Symbol) (symbol_text_of rules row)

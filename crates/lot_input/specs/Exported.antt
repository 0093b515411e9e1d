-- The commands of the rows of an input that is a broker's export, by a profile, and why it gives none (docs/FORMATS.md, Profiles).
use Rattle.std.specs.Prelude.{◌≡◌, ℕ, List}
use Rattle.lot_command.specs.declared.key.Key.{Key}
use Rattle.lot_export.specs.Export.{HasFault, IsExport}
use Rattle.lot_export.specs.declared.export.Export.{Export}
use Rattle.lot_input.specs.Keyed.{import_source}
use Rattle.lot_input.specs.declared.fault.InputFault.{InputFault}
use Rattle.lot_input.specs.declared.fault.InputFault.TheVariants as input
use Rattle.lot_profile.specs.declared.profile.Profile.{Profile}
use Rattle.lot_rounding.specs.declared.asked.Asked.{Asked}

-- the input is an export, and these are the commands of its rows as they are handed in, without those whose names are among
-- `except`, each with its number and under its key in that source
abbrev pub HasExportOf : List ℕ → Profile → List (List ℕ) → List ℕ → List ℕ × List (Key × Asked) → Type 0
HasExportOf source profile except file given =
    (export : Export) × IsExport source profile except file export
    × (given.0 ≡ export.given.numbers.items) × (given.1 ≡ export.given.commands.items)

-- the same of a batch
abbrev pub ExportMeans : List ℕ → Profile → List (List ℕ) → List ℕ → List ℕ × List (Key × Asked) → Type 0
ExportMeans batch = HasExportOf (import_source batch)

-- the input comes to nothing by the profile, for that fault; it is no fault of a reader
abbrev pub IsFaultyExport : Profile → List (List ℕ) → List ℕ → InputFault → Type 0
IsFaultyExport profile except file (input.Export fault) = HasFault profile except file fault
IsFaultyExport profile except file _ = ⊥

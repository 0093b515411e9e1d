-- What is written of a broker's export that is shown as ledger text (docs/FORMATS.md, Profiles).
use Rattle.std.specs.Prelude.{◌≡◌, ◌⊎◌, ℕ, List, [], Option}
use Rattle.lot_export.specs.Export.{IsExport}
use Rattle.lot_export.specs.Show.{shown_text}
use Rattle.lot_export.specs.declared.export.Export.{Export}
use Rattle.lot_input.specs.Exported.{IsFaultyExport}
use Rattle.lot_input.specs.Input.{Gives, GivesNone, Reading}
use Rattle.lot_input.specs.declared.fault.InputFault.{InputFault}
use Rattle.lot_input.specs.declared.fault.InputFault.TheVariants.{Memory}
use Rattle.lot_profile.specs.declared.profile.Profile.{Profile}
use Rattle.lot_io.specs.Writes.{WritesMade}
use Rattle.lot_cli.specs.Says.{Halts, Succeeds, Told}
use Rattle.lot_cli.specs.declared.halt.Halt.TheVariants as halt

-- a file is an export, and this text is what it comes to, whole; its keys have some source, of which the text says nothing
abbrev pub ShownAs : Profile → List ℕ → List ℕ → Type 0
ShownAs profile file text =
    (source : List ℕ) × (export : Export) × IsExport source profile [] file export × (text ≡ shown_text export)

-- what was read comes to nothing, for that fault; or memory ended
abbrev pub ShowsNone : Profile → Reading → InputFault → Type 0
ShowsNone profile reading fault = GivesNone (IsFaultyExport profile []) reading fault ⊎ (fault ≡ Memory)

-- the text is written, or why there is none
abbrev pub ShowsExport : Profile → Reading → Option (List ℕ) → Option (List ℕ) → WritesMade → Told → Type 0
ShowsExport profile reading before written calls told =
    ((text : List ℕ) × Gives (ShownAs profile) reading text × Succeeds text before written calls told)
    ⊎ ((fault : InputFault) × ShowsNone profile reading fault × Halts (halt.Input fault) before written calls told)

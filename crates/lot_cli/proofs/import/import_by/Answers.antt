use Rattle.std.proofs.Common.{ℕ, List, zero, inl, refl, sym}
use Rattle.sqlite.specs.Held.{state}
use Rattle.std.specs.Option.{option_copied}
use Rattle.lot_export.specs.Export.{IsExport}
use Rattle.lot_export.specs.declared.export.Export.{Export}
use Rattle.lot_input.specs.Exported.{ExportMeans, IsFaultyExport}
use Rattle.lot_input.specs.Input.{Gives, Reading}
use Rattle.lot_input.specs.Keyed.{import_source}
use Rattle.lot_profile.specs.declared.profile.Profile.{Profile}
use Rattle.lot_cli.proofs.InputLemmas.{runs_given, untouched}
use Rattle.lot_cli.proofs.import.import_by.Goals as goal

-- an export that a reader gives has its numbers and its commands
export_given : (batch : List ℕ) (profile : Profile) (except : List (List ℕ)) (reading : Reading) (export : Export)
    → Gives (IsExport (import_source batch) profile except) reading export
    → Gives (ExportMeans batch profile except) reading (export.given.numbers.items, export.given.commands.items)
export_given batch profile except reading export (input, all, is) = (input, all, (export, is, refl, refl))

pub returns-in-Ok-clause-imports : goal.returns-in-Ok-clause-imports
returns-in-Ok-clause-imports g c =
    rw (sym c.as_ref.ensures.value, sym c.deref.ensures.value)
    (runs_given (λ from. ExportMeans c.args.asked.now.batch c.args.asked.now.profile c.deref.result.now)
    (IsFaultyExport c.args.asked.now.profile c.deref.result.now) (option_copied c.as_ref.result) c.args.asked.now.keeping zero zero _ _ _ _ _ _
    (record { status = c.run.result.status; halt = c.run.result.halt }) (c.in-Ok.export.given.numbers.items, c.in-Ok.export.given.commands.items) c.deref-in-Ok.result.now c.deref-in-Ok-2.result.now
    refl c.deref-in-Ok.ensures.value c.deref-in-Ok-2.ensures.value (export_given c.args.asked.now.batch c.args.asked.now.profile c.deref.result.now _ c.in-Ok.export c.in-Ok.ensures.ok) c.run.ensures.runs)

pub returns-in-Err-clause-imports : goal.returns-in-Err-clause-imports
returns-in-Err-clause-imports g c =
    rw (sym c.deref.ensures.value, c.halted.ensures.same)
    (inl (c.in-Err.fault, c.in-Err.ensures.err, untouched (state g.S.Store c.args.conn), c.halted.ensures.says))

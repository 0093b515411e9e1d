use Rattle.std.proofs.Common.{inl, sym}
use Rattle.sqlite.specs.Held.{state}
use Rattle.std.specs.Option.{option_copied}
use Rattle.lot_input.specs.Rows.{FileMeans, IsFaultyFile}
use Rattle.lot_cli.proofs.InputLemmas.{runs_given, untouched}
use Rattle.lot_cli.proofs.import.import.Goals as goal

pub returns-in-Ok-clause-imports : goal.returns-in-Ok-clause-imports
returns-in-Ok-clause-imports g c =
    rw (sym c.as_ref-rounding.ensures.value, sym c.decimals_of-decimals.ensures, sym c.deref.ensures.value)
    (runs_given (λ from. FileMeans c.args.asked.now.batch c.args.asked.now.accounts c.decimals_of-decimals.result from c.deref.result.now)
    (IsFaultyFile c.decimals_of-decimals.result c.deref.result.now) (option_copied c.as_ref-rounding.result) c.args.asked.now.keeping c.args.asked.now.from c.number-first.result _ _ _ _ _ _
    (record { status = c.run.result.status; halt = c.run.result.halt }) (c.in-Ok.field-0.numbers.items, c.in-Ok.field-0.commands.items) c.deref-in-Ok.result.now c.deref-in-Ok-2.result.now
    c.number-first.ensures.value c.deref-in-Ok.ensures.value c.deref-in-Ok-2.ensures.value c.in-Ok.ensures.ok c.run.ensures.runs)

pub returns-in-Err-clause-imports : goal.returns-in-Err-clause-imports
returns-in-Err-clause-imports g c =
    rw (sym c.as_ref-rounding.ensures.value, sym c.decimals_of-decimals.ensures, sym c.deref.ensures.value, c.halted.ensures.same)
    (inl (c.in-Err.fault, c.in-Err.ensures.err, untouched (state g.S.Store c.args.conn), c.halted.ensures.says))

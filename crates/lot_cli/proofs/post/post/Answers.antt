use Rattle.std.proofs.Common.{sym}
use Rattle.std.specs.Option.{option_copied}
use Rattle.lot_input.specs.Text.{IsFaultyText, TextMeans}
use Rattle.lot_cli.proofs.InputLemmas.{runs_given}
use Rattle.lot_cli.proofs.post.post.Goals as goal

pub returns-in-Ok-clause-posts : goal.returns-in-Ok-clause-posts
returns-in-Ok-clause-posts g c =
    rw (sym c.as_ref-rounding.ensures.value)
    (runs_given (TextMeans c.args.asked.now.batch) IsFaultyText (option_copied c.as_ref-rounding.result) c.args.asked.now.keeping c.args.asked.now.from c.number-first.result _ _ _ _ _ _
    (record { status = c.run.result.status; halt = c.run.result.halt }) (c.in-Ok.field-0.numbers.items, c.in-Ok.field-0.commands.items) c.deref.result.now c.deref-in-Ok.result.now
    c.number-first.ensures.value c.deref.ensures.value c.deref-in-Ok.ensures.value c.in-Ok.ensures.ok c.run.ensures.runs)

use Rattle.std.proofs.Common.{refl, subst}
use Rattle.lot_stream.specs.declared.status.Status.{Status}
use Rattle.lot_cli.specs.HaltLine.{halt_line}
use Rattle.lot_cli.specs.Says.{Says}
use Rattle.lot_cli.proofs.HaltLemmas.{failed_before, said}
use Rattle.lot_cli.proofs.run.say_halt.Goals as goal

pub returns-clause-says : goal.returns-clause-says
returns-clause-says g c = (
  subst (λ (status : Status). Says (halt_line c.args.halt) status (g.W.CountedWrite.contents c.args.writer.now) (g.W.CountedWrite.contents c.tell.new.writer) (record { before = g.W.CountedWrite.calls c.args.writer.now; after = g.W.CountedWrite.calls c.tell.new.writer }) c.tell.result) c.status.ensures
      (said (halt_line c.args.halt) c.status.result _ _ _ _ _ _ c.print_halt-printed.result c.tell.result c.print_halt-printed.ensures.bytes c.tell.ensures.kept c.print_halt-printed.ensures.none_failed
      (failed_before g.W.CountedWrite.calls c.print_halt-printed.new.writer c.tell.new.writer c.print_halt-printed.result c.print_halt-printed.ensures.cause c.tell.ensures.unasked)
      c.tell.ensures.end),
  refl,
)

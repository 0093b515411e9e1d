use Rattle.std.proofs.Common.{List, subst, ℕ}
use Rattle.std.specs.Prelude.{codes, ◌++◌}
use Rattle.lot_stream.specs.declared.status.Status.TheVariants.{Stopped}
use Rattle.lot_report.specs.Printed.{line}
use Rattle.lot_report.specs.Written.{WritesLine}
use Rattle.lot_cli.specs.Differ.{compare_line}
use Rattle.lot_cli.proofs.HaltLemmas.{failed_before, said}
use Rattle.lot_cli.proofs.difference.stopped.Goals as goal

pub returns-clause-says : goal.returns-clause-says
returns-clause-says g c =
    said (compare_line c.args.fault) Stopped _ (g.W.CountedWrite.contents c.print_texts-printed.new.writer) _ _ _ _ c.print_texts-printed.result c.tell.result
    (subst (λ (name : List ℕ). WritesLine (g.W.CountedWrite.contents c.args.writer.now) (g.W.CountedWrite.contents c.print_texts-printed.new.writer) c.print_texts-printed.result (line (codes "fault " ++ name)))
    c.name.ensures c.print_texts-printed.ensures.bytes)
    c.tell.ensures.kept c.print_texts-printed.ensures.none_failed
    (failed_before g.W.CountedWrite.calls c.print_texts-printed.new.writer c.tell.new.writer c.print_texts-printed.result c.print_texts-printed.ensures.cause c.tell.ensures.unasked)
    c.tell.ensures.end

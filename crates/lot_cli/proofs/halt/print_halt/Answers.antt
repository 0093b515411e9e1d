use Rattle.std.proofs.Common.{◌++◌, ap, subst}
use Rattle.std.specs.Prelude.{codes}
use Rattle.lot_report.specs.Printed.{line}
use Rattle.lot_report.specs.Written.{WritesLine}
use Rattle.lot_cli.proofs.halt.print_halt.Goals as goal

pub returns-in-Create-clause-bytes : goal.returns-in-Create-clause-bytes
returns-in-Create-clause-bytes g c =
    rw (c.in-Create.is)
    (subst (WritesLine (g.W.CountedWrite.contents c.args.writer.now) (g.W.CountedWrite.contents c.print_texts.new.writer) c.print_texts.result)
    (ap (λ n. line (codes "fault " ++ n)) c.create_name.ensures) c.print_texts.ensures.bytes)

pub returns-in-Adopt-clause-bytes : goal.returns-in-Adopt-clause-bytes
returns-in-Adopt-clause-bytes g c =
    rw (c.in-Adopt.is)
    (subst (WritesLine (g.W.CountedWrite.contents c.args.writer.now) (g.W.CountedWrite.contents c.print_texts-in-Adopt.new.writer) c.print_texts-in-Adopt.result)
    (ap (λ n. line (codes "fault " ++ n)) c.adopt_name.ensures) c.print_texts-in-Adopt.ensures.bytes)

pub returns-in-Migrate-clause-bytes : goal.returns-in-Migrate-clause-bytes
returns-in-Migrate-clause-bytes g c =
    rw (c.in-Migrate.is)
    (subst (WritesLine (g.W.CountedWrite.contents c.args.writer.now) (g.W.CountedWrite.contents c.print_texts-in-Migrate.new.writer) c.print_texts-in-Migrate.result)
    (ap (λ n. line (codes "fault " ++ n)) c.migrate_name.ensures) c.print_texts-in-Migrate.ensures.bytes)

pub returns-in-Verify-clause-bytes : goal.returns-in-Verify-clause-bytes
returns-in-Verify-clause-bytes g c =
    rw (c.in-Verify.is)
    (subst (WritesLine (g.W.CountedWrite.contents c.args.writer.now) (g.W.CountedWrite.contents c.print_texts-in-Verify.new.writer) c.print_texts-in-Verify.result)
    (ap (λ n. line (codes "fault " ++ n)) c.verify_name.ensures) c.print_texts-in-Verify.ensures.bytes)

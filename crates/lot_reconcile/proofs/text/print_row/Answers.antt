use Rattle.std.specs.Prelude.{if◌then◌else◌}
use Rattle.std.proofs.Common.{[], ◌∙◌, subst, sym}
use Rattle.lot_report.specs.Written.{WritesLine}
use Rattle.lot_reconcile.specs.Table.{line_of}
use Rattle.lot_reconcile.proofs.text.print_row.Goals as goal

pub returns-then-differs-clause-line : goal.returns-then-differs-clause-line
returns-then-differs-clause-line g c =
    subst
    (λ differs. WritesLine (g.W.CountedWrite.contents c.args.writer.now) (g.W.CountedWrite.contents c.print_difference.new.writer)
    c.print_difference.result (if differs then line_of c.args.form (c.args.commodity.now, c.args.balance.now) else []))
    (sym (sym c.differs.ensures ∙ c.if-differs.true)) c.print_difference.ensures.line

pub returns-clause-line : goal.returns-clause-line
returns-clause-line g c =
    subst
    (λ differs. WritesLine (g.W.CountedWrite.contents c.args.writer.now) (g.W.CountedWrite.contents c.print_texts.new.writer)
    c.print_texts.result (if differs then line_of c.args.form (c.args.commodity.now, c.args.balance.now) else []))
    (sym (sym c.differs.ensures ∙ c.if-differs.false)) c.print_texts.ensures.bytes

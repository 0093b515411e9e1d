use Rattle.std.proofs.Common.{◌∙◌, sym}
use Rattle.lot_reconcile.proofs.TextLemmas.{none_differs, some_differ}
use Rattle.lot_reconcile.proofs.rows.print_lines.Goals as goal

pub returns-then-agree-clause-lines : goal.returns-then-agree-clause-lines
returns-then-agree-clause-lines g c =
    none_differs c.args.rows.now.entries _ _ _ (sym c.agree.ensures ∙ c.if-agree.true) c.print_line.ensures.bytes

pub returns-clause-lines : goal.returns-clause-lines
returns-clause-lines g c =
    some_differ c.args.rows.now.entries _ _ _ (sym c.agree.ensures ∙ c.if-agree.false) c.print_rows.ensures.rows

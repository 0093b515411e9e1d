use Rattle.std.proofs.Common.{◌∙◌, sym}
use Rattle.std.proofs.lemmas.Bool.{true≢false}
use Rattle.lot_activity.proofs.TextLemmas.{no_rows, some_rows}
use Rattle.lot_activity.proofs.rows.print_lines.Goals as goal

pub returns-then-is_empty-clause-lines : goal.returns-then-is_empty-clause-lines
returns-then-is_empty-clause-lines g c =
    no_rows c.args.rows.now.entries _ _ _ (c.is_empty.ensures.0 c.if-is_empty.true) c.print_line.ensures.bytes

pub returns-clause-lines : goal.returns-clause-lines
returns-clause-lines g c =
    some_rows c.args.rows.now.entries _ _ _
    (λ none. true≢false (sym (c.is_empty.ensures.1 none) ∙ c.if-is_empty.false)) c.print_rows.ensures.rows

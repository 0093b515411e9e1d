use Rattle.std.proofs.Common.{◌≡◌, ◌∙◌, [], ◌∷◌, ◌++◌, ap, append_assoc, subst, sym}
use Rattle.std.specs.Prelude.{codes, decimal}
use Rattle.lot_report.specs.Printed.{line}
use Rattle.lot_report.specs.Written.{WritesLine}
use Rattle.lot_input.specs.StatementLine.{line_cause_name}
use Rattle.lot_input.proofs.fault.print_statement_fault.Goals as goal

pub returns-in-BadRow-clause-bytes : goal.returns-in-BadRow-clause-bytes
returns-in-BadRow-clause-bytes g c =
    let digits = c.format.result.now in
    let name = c.line_cause_name.result.now in
    let is : codes "fault row " ++ (digits ++ (codes " C2 BadRow " ++ (name ++ 10 ∷ []))) ≡ line (codes "fault row " ++ decimal c.in-BadRow.row ++ (codes " C2 BadRow " ++ line_cause_name c.in-BadRow.cause)) =
    ap (λ t. codes "fault row " ++ t) (sym (append_assoc digits (codes " C2 BadRow " ++ name) (10 ∷ [])))
    ∙ ap (λ d. line (codes "fault row " ++ d ++ (codes " C2 BadRow " ++ name))) c.format.ensures.text
    ∙ ap (λ n. line (codes "fault row " ++ decimal c.in-BadRow.row ++ (codes " C2 BadRow " ++ n))) c.line_cause_name.ensures in
    rw (c.in-BadRow.is)
    (subst (WritesLine (g.W.CountedWrite.contents c.args.writer.now) (g.W.CountedWrite.contents c.print_texts-in-BadRow.new.writer) c.print_texts-in-BadRow.result) is c.print_texts-in-BadRow.ensures.bytes)

pub returns-in-Memory-clause-bytes : goal.returns-in-Memory-clause-bytes
returns-in-Memory-clause-bytes g c = rw (c.in-Memory.is) c.print_memory.ensures.bytes

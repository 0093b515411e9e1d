use Rattle.std.proofs.Common.{◌≡◌, ◌∙◌, [], ◌∷◌, ◌++◌, ap, append_assoc, subst, sym}
use Rattle.std.specs.Prelude.{codes, decimal}
use Rattle.lot_report.specs.Printed.{line}
use Rattle.lot_report.specs.Written.{WritesLine}
use Rattle.lot_input.proofs.fault.print_cash_fault.Goals as goal

pub returns-in-InexactAmount-clause-bytes : goal.returns-in-InexactAmount-clause-bytes
returns-in-InexactAmount-clause-bytes g c =
    let digits = c.format.result.now in
    let is : codes "fault row " ++ (digits ++ (codes " C4 InexactAmount" ++ 10 ∷ [])) ≡ line (codes "fault row " ++ decimal c.in-InexactAmount.row ++ codes " C4 InexactAmount") =
    ap (λ t. codes "fault row " ++ t) (sym (append_assoc digits (codes " C4 InexactAmount") (10 ∷ [])))
    ∙ ap (λ d. line (codes "fault row " ++ d ++ codes " C4 InexactAmount")) c.format.ensures.text in
    rw (c.in-InexactAmount.is)
    (subst (WritesLine (g.W.CountedWrite.contents c.args.writer.now) (g.W.CountedWrite.contents c.print_texts.new.writer) c.print_texts.result) is c.print_texts.ensures.bytes)

pub returns-in-Memory-clause-bytes : goal.returns-in-Memory-clause-bytes
returns-in-Memory-clause-bytes g c = rw (c.in-Memory.is) c.print_memory.ensures.bytes

use Rattle.std.proofs.Common.{◌≡◌, ◌∙◌, [], ◌∷◌, ◌++◌, ap, append_assoc, subst, sym}
use Rattle.std.specs.Prelude.{codes, decimal}
use Rattle.lot_report.specs.Printed.{line}
use Rattle.lot_report.specs.Written.{WritesLine}
use Rattle.lot_stream.specs.FaultLine.{name_text}
use Rattle.lot_stream.proofs.fault.print_fault.Goals as goal

pub returns-in-Text-clause-bytes : goal.returns-in-Text-clause-bytes
returns-in-Text-clause-bytes g c =
    let digits = c.format.result.now in
    let name = c.name.result.now in
    let is : codes "fault line " ++ (digits ++ (codes " " ++ (name ++ 10 ∷ []))) ≡ line (codes "fault line " ++ decimal c.in-Text.line ++ (codes " " ++ name_text c.in-Text.fault)) =
    ap (λ t. codes "fault line " ++ t) (sym (append_assoc digits (codes " " ++ name) (10 ∷ [])))
    ∙ ap (λ d. line (codes "fault line " ++ d ++ (codes " " ++ name))) c.format.ensures.text
    ∙ ap (λ n. line (codes "fault line " ++ decimal c.in-Text.line ++ (codes " " ++ n))) c.name.ensures in
    rw (c.in-Text.is)
    (subst (WritesLine (g.W.CountedWrite.contents c.args.writer.now) (g.W.CountedWrite.contents c.print_texts-in-Text.new.writer) c.print_texts-in-Text.result) is c.print_texts-in-Text.ensures.bytes)

pub returns-in-Range-clause-bytes : goal.returns-in-Range-clause-bytes
returns-in-Range-clause-bytes g c = rw (c.in-Range.is) c.print_texts-in-Range.ensures.bytes

pub returns-in-Memory-clause-bytes : goal.returns-in-Memory-clause-bytes
returns-in-Memory-clause-bytes g c = rw (c.in-Memory.is) c.print_texts-in-Memory.ensures.bytes

pub returns-in-MemoryAt-clause-bytes : goal.returns-in-MemoryAt-clause-bytes
returns-in-MemoryAt-clause-bytes g c =
    let digits = c.format-in-MemoryAt.result.now in
    let is : digits ++ (codes " fault Memory" ++ 10 ∷ []) ≡ line (decimal c.in-MemoryAt.number ++ codes " fault Memory") =
    sym (append_assoc digits (codes " fault Memory") (10 ∷ [])) ∙ ap (λ d. line (d ++ codes " fault Memory")) c.format-in-MemoryAt.ensures.text in
    rw (c.in-MemoryAt.is)
    (subst (WritesLine (g.W.CountedWrite.contents c.args.writer.now) (g.W.CountedWrite.contents c.print_texts-in-MemoryAt.new.writer) c.print_texts-in-MemoryAt.result) is c.print_texts-in-MemoryAt.ensures.bytes)

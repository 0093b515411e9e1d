-- The texts of the line, one behind another.
use Rattle.std.proofs.Common.{◌≡◌, ◌∙◌, List, ℕ, [], ◌∷◌, ◌++◌, ap, append_assoc, subst, sym}
use Rattle.std.specs.Prelude.{codes}
use Rattle.lot_report.specs.Written.{WritesLine}
use Rattle.lot_input.specs.ExportLine.{numbered}
use Rattle.lot_input.proofs.export_fault.print_numbered.Goals as goal

ended : (a b c d : List ℕ) → a ++ (b ++ (c ++ (d ++ 10 ∷ []))) ≡ (a ++ (b ++ (c ++ d))) ++ 10 ∷ []
ended a b c d = sym (simp append_assoc)

pub returns-clause-bytes : goal.returns-clause-bytes
returns-clause-bytes g c =
    let is : codes "fault " ++ (c.args.place.now ++ (c.format.result.now ++ (c.args.code.now ++ (c.args.cause.now ++ 10 ∷ []))))
    ≡ numbered c.args.place.now c.args.number c.args.code.now c.args.cause.now =
    ap (λ (t : List ℕ). codes "fault " ++ t) (ended c.args.place.now c.format.result.now c.args.code.now c.args.cause.now)
    ∙ ap (λ (d : List ℕ). codes "fault " ++ ((c.args.place.now ++ (d ++ (c.args.code.now ++ c.args.cause.now))) ++ 10 ∷ [])) c.format.ensures.text in
    subst (WritesLine (g.W.CountedWrite.contents c.args.writer.now) (g.W.CountedWrite.contents c.print_texts.new.writer) c.print_texts.result) is c.print_texts.ensures.bytes

-- The pieces of the line, one behind another.
use Rattle.std.specs.Prelude.{codes}
use Rattle.std.proofs.Common.{◌≡◌, List, ℕ, ◌++◌, ◌∙◌, append_assoc, subst, sym}
use Rattle.std.specs.String.{string_bytes}
use Rattle.lot_num.specs.AmountText.{amount_text}
use Rattle.lot_report.specs.Written.{WritesLine}
use Rattle.lot_activity.proofs.text.print_text.Goals as goal

ended : (a s b t c u d v e n : List ℕ)
    → a ++ (s ++ (b ++ (t ++ (c ++ (u ++ (d ++ (v ++ (e ++ n)))))))) ≡ a ++ s ++ b ++ t ++ c ++ u ++ d ++ v ++ e ++ n
ended a s b t c u d v e n = sym (simp append_assoc)

pub returns-clause-line : goal.returns-clause-line
returns-clause-line g c =
    subst (WritesLine (g.W.CountedWrite.contents c.args.writer.now) (g.W.CountedWrite.contents c.print_texts.new.writer) c.print_texts.result)
    ((λ i. c.as_str.ensures.value i
    ++ (codes " "
    ++ (c.as_str-2.ensures.value i
    ++ (codes " "
    ++ (c.as_str-3.ensures.value i
    ++ (codes " in "
    ++ ((c.as_str-4.ensures.value ∙ c.in_ok-incoming.ensures) i ++ (codes " out " ++ ((c.as_str-5.ensures.value ∙ c.in_ok-outgoing.ensures) i ++ codes "\n")))))))))
    ∙ ended (string_bytes c.args.key.now.0) (codes " ") c.args.key.now.1.account (codes " ") c.args.key.now.1.commodity (codes " in ")
    (amount_text 2 16 c.args.flow.now.incoming) (codes " out ") (amount_text 2 16 c.args.flow.now.outgoing) (codes "\n"))
    c.print_texts.ensures.bytes

-- The pieces of the line, one behind another.
use Rattle.std.specs.Prelude.{codes}
use Rattle.std.proofs.Common.{◌≡◌, List, ℕ, ◌++◌, ◌∙◌, append_assoc, subst, sym}
use Rattle.lot_num.specs.AmountText.{amount_text}
use Rattle.lot_report.specs.Written.{WritesLine}
use Rattle.lot_reconcile.proofs.text.print_text.Goals as goal

ended : (a s b t c u d n : List ℕ)
    → a ++ (s ++ (b ++ (t ++ (c ++ (u ++ (d ++ n)))))) ≡ a ++ s ++ b ++ t ++ c ++ u ++ d ++ n
ended a s b t c u d n = sym (simp append_assoc)

pub returns-clause-line : goal.returns-clause-line
returns-clause-line g c =
    subst (WritesLine (g.W.CountedWrite.contents c.args.writer.now) (g.W.CountedWrite.contents c.print_texts.new.writer) c.print_texts.result)
    ((λ i. c.as_str.ensures.value i
    ++ (codes " statement "
    ++ ((c.as_str-2.ensures.value ∙ c.in_ok-said.ensures) i
    ++ (codes " book "
    ++ ((c.as_str-3.ensures.value ∙ c.in_ok-held.ensures) i
    ++ (codes " difference " ++ ((c.as_str-4.ensures.value ∙ c.in_ok-difference.ensures) i ++ codes "\n")))))))
    ∙ ended c.args.commodity.now (codes " statement ") (amount_text 2 16 c.args.balance.now.said) (codes " book ")
    (amount_text 2 16 c.args.balance.now.held) (codes " difference ") (amount_text 2 16 c.args.balance.now.difference) (codes "\n"))
    c.print_texts.ensures.bytes

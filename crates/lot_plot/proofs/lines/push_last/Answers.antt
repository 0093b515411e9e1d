use Rattle.std.proofs.Common.{◌≡◌, [], ◌∷◌, ◌++◌, OnOk, ap, refl, subst, ◌∙◌}
use Rattle.std.specs.Prelude.{codes}
use Rattle.std.specs.String.{string_bytes}
use Rattle.lot_plot.proofs.PieceLemmas.{grown}
use Rattle.lot_plot.proofs.PlotLemmas.{last_text_is}
use Rattle.lot_plot.specs.Bars.{money_html}
use Rattle.lot_plot.specs.Lines.{known_text}
use Rattle.lot_plot.proofs.lines.push_last.Goals as goal

pub returns : goal.returns
returns c =
    let last = c.in-Some.last.now in
    subst (λ before. OnOk c.push_money.result (string_bytes c.push_money.new.text ≡ before))
    (grown (string_bytes c.args.text.now)
    (codes ": at the last the worth is " ∷ known_text last.worth ∷ codes ", the cost " ∷ money_html last.cost ∷ [])
    _
    (_, c.in_ok-push_str.ensures.bytes, (_, c.in_ok-push_known.ensures, (_, c.in_ok-push_str-2.ensures.bytes, (_, refl, refl))))
    ∙ ap (λ behind. string_bytes c.args.text.now ++ behind) (last_text_is c.args.points.now last c.in-Some.ensures.value))
    c.push_money.ensures

use Rattle.std.proofs.Common.{◌++◌, ◌∙◌, ap}
use Rattle.lot_register.specs.Text.{end_text, leg_text}
use Rattle.lot_register.proofs.line.line_text.Goals as goal

pub returns : goal.returns
returns c =
    c.in_ok-push_end.ensures
    ∙ ap (λ bytes. bytes ++ end_text c.args.leg.now c.args.left)
    (c.in_ok-push_leg.ensures ∙ ap (λ bytes. bytes ++ leg_text c.args.leg.now) c.new-text.ensures.bytes)

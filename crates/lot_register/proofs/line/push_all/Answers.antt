use Rattle.std.proofs.Common.{◌++◌, ◌∙◌, ap, arith, flat_map}
use Rattle.std.specs.String.{string_bytes}
use Rattle.std.proofs.lemmas.List.{take_all}
use Rattle.lot_register.proofs.line.push_all.Goals as goal

pub returns : goal.returns
returns c =
    c.loop-more.invariant
    ∙ ap (λ texts. string_bytes c.args.text.now ++ flat_map (λ text. text.now) texts)
    (take_all c.loop-more.more-index c.args.texts.now (omega arith))

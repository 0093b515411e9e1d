use Rattle.std.specs.Prelude.{codes}
use Rattle.std.proofs.Common.{◌++◌, ◌∷◌, ◌∙◌, [], ap, arith, flat_map}
use Rattle.std.proofs.lemmas.List.{take_all}
use Rattle.lot_tally.specs.Lots.{key_name}
use Rattle.lot_tally.proofs.text.header.Goals as goal

pub returns : goal.returns
returns c =
    c.in_ok-push_str-3.ensures.bytes
    ∙ ap (λ bytes. bytes ++ codes "currency,lots,proceeds,cost,gain\n")
    (c.loop-key.invariant
    ∙ ap (λ keys. flat_map (λ key. key_name key ++ 44 ∷ []) keys) (take_all c.loop-key.key-index c.args.by.now (omega arith)))

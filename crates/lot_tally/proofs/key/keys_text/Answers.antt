use Rattle.std.proofs.Common.{◌∙◌, ap, arith, flat_map}
use Rattle.std.proofs.lemmas.List.{take_all}
use Rattle.lot_tally.specs.Lots.{key_field, separated}
use Rattle.lot_tally.proofs.key.keys_text.Goals as goal

pub returns : goal.returns
returns c =
    c.loop-key.invariant
    ∙ ap (λ keys. flat_map (λ key. separated c.args.form (key_field key c.args.sale.now c.args.lot.now)) keys)
    (take_all c.loop-key.key-index c.args.by.now (omega arith))

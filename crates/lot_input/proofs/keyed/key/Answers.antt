use Rattle.std.proofs.Common.{◌∙◌, IsTrue, subst, sym}
use Rattle.lot_base.specs.Name.{is_label}
use Rattle.lot_input.proofs.KeyedLemmas.{number_is_label}
use Rattle.lot_input.proofs.keyed.key.Goals as goal

pub label-requires : goal.label-requires
label-requires c =
    subst (λ text. IsTrue (is_label text)) (sym (c.as_str.ensures.value ∙ c.in_ok-name.ensures.ok)) (number_is_label c.args.number c.ranges.number.fits)

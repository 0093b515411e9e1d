use Rattle.std.proofs.Common.{◌∙◌, IsTrue, ap, subst, sym}
use Rattle.lot_base.specs.Name.{is_label}
use Rattle.lot_input.specs.Keyed.{source_of}
use Rattle.lot_input.proofs.KeyedLemmas.{source_is_label}
use Rattle.lot_input.proofs.keyed.source.Goals as goal

pub label-requires : goal.label-requires
label-requires c =
    subst (λ text. IsTrue (is_label text)) (sym (c.as_str.ensures.value ∙ c.in_ok-text.ensures.ok ∙ ap (source_of c.args.word.now) c.as_str-name.ensures.value))
    (source_is_label c.args.word.now c.args.batch.now c.requires.label c.requires.short c.as_str-name.ensures.good)

use Rattle.lot_base.specs.Name.{is_label}
use Rattle.lot_args.proofs.ValueLemmas.{passes_at}
use Rattle.lot_args.proofs.values.labels.Goals as goal

pub label-requires : goal.label-requires
label-requires c = passes_at is_label c.args.texts.now c.loop-text.text-index _ c.loop-text-test.true c.requires

use Rattle.lot_completion.proofs.RepeatLemmas.{turned_repeats}
use Rattle.lot_completion.proofs.laws.what_was_completed_is_a_repeat.Goals as goal

pub returns : goal.returns
returns c ties facts rounding asked t completed turned is plain stands turn =
    turned_repeats ties facts rounding asked t completed c.canonical_texts_tell_commands_apart.ensures.one is plain stands turned turn

use Rattle.lot_completion.proofs.RepeatLemmas.{split_repeats}
use Rattle.lot_completion.proofs.laws.what_was_split_is_a_repeat.Goals as goal

pub returns : goal.returns
returns c ties facts rounding asked change split stands turned is asks standing turn =
    split_repeats ties facts rounding asked change split stands c.canonical_texts_tell_commands_apart.ensures.one is asks standing turned turn

use Rattle.lot_input.specs.Keyed.{post_source}
use Rattle.lot_input.proofs.KeyedLemmas.{AreNumbered, TakenIn}
use Rattle.lot_input.proofs.keyed.keyed.Given as goal

-- the commands so far were taken in, with their numbers, or skipped
abbrev pub invariant-loop-index : goal.invariant-loop-index
invariant-loop-index l =
    TakenIn (post_source l.fn.batch) l.fn.from l.fn.commands.items l.index-iterator.iter.rest.items l.index-iterator.count l.keyed.items
    × AreNumbered l.fn.from l.keyed.items l.numbers.items

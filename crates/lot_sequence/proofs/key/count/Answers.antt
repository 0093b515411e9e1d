-- What is counted at the mark of a row is what its day and its text are counted.
use Rattle.std.specs.Option.{unwrap_or}
use Rattle.std.proofs.Common.{◌≡◌, ◌+◌, ap, arith, ◌∙◌}
use Rattle.lot_sequence.specs.Count.{counted}
use Rattle.lot_sequence.specs.Key.{said}
use Rattle.lot_sequence.proofs.CountLemmas.{counted_at, counted_more}
use Rattle.lot_sequence.proofs.key.count.Goals as goal
use Rattle.lot_sequence.proofs.key.count.Goals.{in-Some, in-None}

pub overflow_add-number : goal.overflow_add-number
overflow_add-number c =
    let found : c.in-Some.number.now ≡ counted c.args.counts.now (said c.args.row.now) =
    ap (λ o. unwrap_or o 0) c.in-Some.ensures.value
    ∙ counted_at c.args.counts.now c.mark_of.result (said c.args.row.now) c.mark_of.ensures.day c.mark_of.ensures.text in
    omega (arith, found, c.requires)

pub returns-in-Ok-clause-counted : goal.returns-in-Ok-clause-counted
returns-in-Ok-clause-counted c =
    let at = counted_at c.args.counts.now c.mark_of.result (said c.args.row.now) c.mark_of.ensures.day c.mark_of.ensures.text in
    let number : c.match-get.number ≡ counted c.args.counts.now (said c.args.row.now) + 1 =
    elim c.match-get.branch [
      | in-Some w ↦ w.number-is ∙ ap (λ o. unwrap_or o 0 + 1) w.in-Some.ensures.value ∙ ap (λ n. n + 1) at
      | in-None w ↦ w.number-is ∙ ap (λ o. unwrap_or o 0 + 1) w.in-None.ensures.value ∙ ap (λ n. n + 1) at
    ] in
    counted_more c.args.counts.now c.insert.new.self c.mark_of-2.result (said c.args.row.now) c.match-get.number
    c.mark_of-2.ensures.day c.mark_of-2.ensures.text number c.in-Ok.ensures.updates.0

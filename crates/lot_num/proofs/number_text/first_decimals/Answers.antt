-- One more decimal is added, or a zero where there is none.
use Rattle.std.proofs.Common.{◌∙◌}
use Rattle.lot_num.proofs.DigitLemmas.{decimal_turn, decimal_turn_zero}
use Rattle.lot_num.proofs.number_text.first_decimals.Goals as goal
use Rattle.lot_num.proofs.number_text.first_decimals.Goals.{then-place-digits, else-place-digits}

pub loop-place-preserved : goal.loop-place-preserved
loop-place-preserved c =
    let so_far = c.loop-place.invariant in
    let digits = c.args.decimals.now in
    elim c.if-place-digits.branch [
      | then-place-digits w ↦ decimal_turn _ digits c.loop-place.value c.from.result c.loop-place.place c.as_bytes-digits.ensures.value c.requires so_far.0 so_far.1 w.if-place-digits.true (c.from.ensures ∙ w.digit-is)
      | else-place-digits w ↦ decimal_turn_zero _ digits c.loop-place.value c.from.result c.loop-place.place c.as_bytes-digits.ensures.value so_far.0 so_far.1 c.loop-place-test.true w.if-place-digits.false (c.from.ensures ∙ w.digit-is)
    ]

-- One more digit is added, and any other byte is skipped.
use Rattle.std.proofs.Common.{◌^◌, ◌-◌, min, sym, ◌∙◌, ap}
use Rattle.lot_num.proofs.DigitLemmas.{number_more_other, whole_turn}
use Rattle.lot_num.proofs.number_text.whole_number.Goals as goal
use Rattle.lot_num.proofs.number_text.whole_number.Goals.{then-is_ascii_digit, else-is_ascii_digit}

pub loop-b-preserved : goal.loop-b-preserved
loop-b-preserved c =
    let bytes = c.as_bytes-b-items.result.now in
    let tested = sym c.is_ascii_digit.ensures.value in
    elim c.if-is_ascii_digit.branch [
      | then-is_ascii_digit w ↦ w.value-is ∙ whole_turn bytes c.loop-b.b-index c.loop-b.value w.saturating_mul.result w.saturating_add-value.result w.from.result c.loop-b-test.true c.loop-b.invariant (tested ∙ w.if-is_ascii_digit.true) w.from.ensures w.saturating_mul.ensures w.saturating_add-value.ensures
      | else-is_ascii_digit w ↦ w.value-is ∙ c.loop-b.invariant ∙ ap (λ n. min n (2 ^ 64 - 1)) (sym (number_more_other bytes c.loop-b.b-index c.loop-b-test.true (tested ∙ w.if-is_ascii_digit.false)))
    ]

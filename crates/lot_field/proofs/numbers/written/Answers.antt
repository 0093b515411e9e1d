-- One more digit is added, and any other byte is skipped.
use Rattle.std.proofs.Common.{◌^◌, ◌-◌, min, sym, ◌∙◌, ap}
use Rattle.lot_num.proofs.DigitLemmas.{number_more_other, whole_turn}
use Rattle.lot_field.proofs.numbers.written.Goals as goal
use Rattle.lot_field.proofs.numbers.written.Goals.{then-is_ascii_digit, else-is_ascii_digit}

pub loop-byte-preserved : goal.loop-byte-preserved
loop-byte-preserved c =
    let bytes = c.args.text.now in
    let tested = sym c.is_ascii_digit.ensures.value in
    elim c.if-is_ascii_digit.branch [
      | then-is_ascii_digit w ↦ w.value-is ∙ whole_turn bytes c.loop-byte.byte-index c.loop-byte.value w.saturating_mul.result w.saturating_add-value.result w.from.result c.loop-byte-test.true c.loop-byte.invariant (tested ∙ w.if-is_ascii_digit.true) w.from.ensures w.saturating_mul.ensures w.saturating_add-value.ensures
      | else-is_ascii_digit w ↦ w.value-is ∙ c.loop-byte.invariant ∙ ap (λ n. min n (2 ^ 64 - 1)) (sym (number_more_other bytes c.loop-byte.byte-index c.loop-byte-test.true (tested ∙ w.if-is_ascii_digit.false)))
    ]

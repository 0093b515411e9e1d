-- Where the next digit, or the separator behind it, isn't there, the text isn't in groups.
use Rattle.std.proofs.Common.{◌+◌, drop, get_or, sym, ◌∙◌}
use Rattle.lot_field.specs.Numbers.{digits_of, grouped}
use Rattle.lot_field.proofs.NumberLemmas.{digits-here, grouped-stop}
use Rattle.lot_field.proofs.numbers.is_grouped.Goals as goal

pub returns-in-None : goal.returns-in-None
returns-in-None c =
    let whole = c.args.whole.now in
    let at = c.loop-byte.byte-index in
    let others = digits_of (drop (at + 1) whole) in
    let here = digits-here whole at c.loop-byte-test.true (sym c.is_ascii_digit.ensures.value ∙ c.if-is_ascii_digit.true) in
    grouped-stop c.args.separator.now c.loop-byte.rest.now (digits_of (drop at whole)) others (get_or whole at 0) c.loop-byte.left
    _ c.loop-byte.invariant.0 here (c.in-None.ensures (grouped c.args.separator.now others)) c.loop-byte.invariant.1

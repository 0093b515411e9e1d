-- A text without a dash has no last number, so that it is no range.
use Rattle.std.proofs.Common.{lit<, sym, ◌∙◌}
use Rattle.lot_without.proofs.ValueLemmas.{no_range}
use Rattle.lot_without.proofs.value.entries.Goals as goal

pub returns-in_err-digits : goal.returns-in_err-digits
returns-in_err-digits c =
    c.from_residual.ensures ∙ sym (no_range c.args.text.now (c.in_err-digits.ensures.byte (lit< tt) (λ w o h. h)))

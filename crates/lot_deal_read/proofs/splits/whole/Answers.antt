-- Digits write a number above zero.
use Rattle.std.proofs.Common.{◌∙◌, sym}
use Rattle.lot_deal_read.proofs.RatioLemmas.{whole_err, whole_ok}
use Rattle.lot_deal_read.proofs.splits.whole.Goals as goal

pub returns-in-Ok : goal.returns-in-Ok
returns-in-Ok c =
    whole_ok c.args.text.now c.parse.result c.in-Ok.number c.parse.ensures.value.0 (sym c.are_digits.ensures ∙ c.if-not-are_digits.false) c.in-Ok.is c.if-number-gt0.true

pub returns-in_default-2 : goal.returns-in_default-2
returns-in_default-2 c =
    whole_err c.args.text.now c.parse.result c.in_default.field-0 c.parse.ensures.value.0 (sym c.are_digits.ensures ∙ c.if-not-are_digits.false) c.in_default.is

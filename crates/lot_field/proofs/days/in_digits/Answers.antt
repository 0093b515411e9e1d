-- The digits are all of the first bytes.
use Rattle.std.proofs.Common.{sym, ◌∙◌, arith}
use Rattle.lot_field.proofs.DayLemmas.{digits-found, written-is}
use Rattle.lot_field.proofs.days.in_digits.Goals as goal

pub overflow_cast-result : goal.overflow_cast-result
overflow_cast-result c =
    let is = written-is c.split_at.result.0.now c.args.count c.written.result (sym c.are_digits.ensures ∙ c.if-not-are_digits.false) c.split_at.ensures.front_len c.requires c.written.ensures in
    omega (arith, is.2)

pub returns-clause-value : goal.returns-clause-value
returns-clause-value c =
    let all = sym c.are_digits.ensures ∙ c.if-not-are_digits.false in
    let is = written-is c.split_at.result.0.now c.args.count c.written.result all c.split_at.ensures.front_len c.requires c.written.ensures in
    digits-found c.args.text.now c.split_at.result.0.now c.split_at.result.1.now c.args.count c.written.result
    c.split_at.ensures.front c.split_at.ensures.back c.split_at.ensures.front_len all is.0

pub returns-clause-bound : goal.returns-clause-bound
returns-clause-bound c =
    (written-is c.split_at.result.0.now c.args.count c.written.result (sym c.are_digits.ensures ∙ c.if-not-are_digits.false) c.split_at.ensures.front_len c.requires c.written.ensures).1

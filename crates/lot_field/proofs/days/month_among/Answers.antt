-- The next name is that of the month, or the names behind it are looked through.
use Rattle.std.proofs.Common.{sym, ◌∙◌, arith}
use Rattle.lot_field.proofs.DayLemmas.{among-here, among-later}
use Rattle.lot_field.proofs.days.month_among.Goals as goal

pub returns-then-eq_ignore_ascii_case-clause-value : goal.returns-then-eq_ignore_ascii_case-clause-value
returns-then-eq_ignore_ascii_case-clause-value c =
    sym (among-here c.args.names.now c.loop-one.one-index c.loop-one.month _ c.as_bytes.result.now c.args.name.now c.eq_ignore_ascii_case.result
    c.loop-one-test.true c.as_bytes.ensures.value c.eq_ignore_ascii_case.ensures.test c.if-eq_ignore_ascii_case.true) ∙ c.loop-one.invariant.0

pub loop-one-preserved : goal.loop-one-preserved
loop-one-preserved c = (
  sym (among-later c.args.names.now c.loop-one.one-index c.loop-one.month _ c.as_bytes.result.now c.args.name.now c.eq_ignore_ascii_case.result
      c.loop-one-test.true c.as_bytes.ensures.value c.eq_ignore_ascii_case.ensures.test c.if-eq_ignore_ascii_case.false) ∙ c.loop-one.invariant.0,
  omega (arith, c.loop-one.invariant.1),
)

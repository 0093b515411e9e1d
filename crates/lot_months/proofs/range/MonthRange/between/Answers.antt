use Rattle.std.proofs.Common.{arith, refl, rules}
use Rattle.lot_months.proofs.OrderLemmas.{months_small}
use Rattle.lot_months.proofs.range.MonthRange.between.Goals as goal

pub returns : goal.returns
returns c = record {
  goes_on = search rules;
  whole = omega (arith, c.saturating_add-whole.ensures, c.saturating_sub.ensures, c.month_of-end.ensures, c.month_of.ensures, months_small c.args.last);
  count = c.min-count.ensures;
  first_is = omega (arith, c.saturating_sub-2.ensures, c.month_of-end.ensures);
  last_is = refl;
}

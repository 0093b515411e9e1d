use Rattle.std.proofs.Common.{inl, inr, refl, rules}
use Rattle.lot_page_report.proofs.parts.lots_of.Goals as goal

pub returns-clause-lots : goal.returns-clause-lots
returns-clause-lots c = record {
  range_is = refl;
  held = (c.in_ok-holdings.holdings.items, c.in_ok-held.ensures.held, c.in_ok-holdings.ensures.lists);
  months = c.in_ok-months.ensures.months;
}

pub returns-in_err-holdings-clause-range : goal.returns-in_err-holdings-clause-range
returns-in_err-holdings-clause-range c = λ is. inl (c.in_err-holdings.ensures.range (search rules))

pub returns-in_err-held-clause-range : goal.returns-in_err-held-clause-range
returns-in_err-held-clause-range c = λ is.
    inr (inl (c.in_ok-holdings.holdings.items, c.in_ok-holdings.ensures.lists, c.in_err-held.ensures.range (search rules)))

pub returns-in_err-months-clause-range : goal.returns-in_err-months-clause-range
returns-in_err-months-clause-range c = λ is. inr (inr (c.in_err-months.ensures.range (search rules)))

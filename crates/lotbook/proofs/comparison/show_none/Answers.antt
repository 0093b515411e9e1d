use Rattle.std.proofs.Common.{inl, inr, refl, rules}
use Rattle.lotbook.proofs.comparison.show_none.Goals as goal

pub returns-in-NotABook-clause-told : goal.returns-in-NotABook-clause-told
returns-in-NotABook-clause-told g c = inl (c.in-NotABook.is, refl)

pub returns-in_default-clause-told : goal.returns-in_default-clause-told
returns-in_default-clause-told g c = inr (search rules, c.refuse-status.ensures.reported)

pub returns-in_default-clause-ends : goal.returns-in_default-clause-ends
returns-in_default-clause-ends g c = inr c.refuse-status.ensures.stops

pub returns-in_default-clause-looked : goal.returns-in_default-clause-looked
returns-in_default-clause-looked g c = c.refuse-status.ensures.looked

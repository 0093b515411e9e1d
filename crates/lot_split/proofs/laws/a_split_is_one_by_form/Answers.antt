-- Its takings move what is held, its openings what that becomes, and crumbs have no braces.
use Rattle.lot_split.proofs.FormLemmas.{by_form}
use Rattle.lot_split.proofs.laws.a_split_is_one_by_form.Goals as goal

pub returns-clause-of_lots : goal.returns-clause-of_lots
returns-clause-of_lots c asked method lots t is = by_form asked method lots t is

pub returns-clause-on_a_book : goal.returns-clause-on_a_book
returns-clause-on_a_book c ties facts asked t is = by_form asked is.standing.method is.lots t is.is

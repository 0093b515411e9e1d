-- By the place of the first brace.
use Rattle.std.proofs.Common.{◌∙◌}
use Rattle.lot_profile_text.proofs.TextLemmas.{brace-none, brace-some}
use Rattle.lot_profile_text.proofs.account.at_brace.Goals as goal

pub returns-in-Some-clause-before : goal.returns-in-Some-clause-before
returns-in-Some-clause-before c = c.split_at.ensures.front ∙ brace-some c.args.text.now c.in-Some.at c.in-Some.ensures.cases

pub returns-in-None-clause-before : goal.returns-in-None-clause-before
returns-in-None-clause-before c = c.split_at-in-None.ensures.front ∙ brace-none c.args.text.now c.in-None.ensures.cases

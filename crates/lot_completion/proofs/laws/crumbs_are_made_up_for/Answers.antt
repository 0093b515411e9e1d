use Rattle.lot_completion.proofs.CrumbLemmas.{made_up}
use Rattle.lot_completion.proofs.laws.crumbs_are_made_up_for.Goals as goal

pub returns-clause-weight : goal.returns-clause-weight
returns-clause-weight c account currency crumb = made_up account currency crumb

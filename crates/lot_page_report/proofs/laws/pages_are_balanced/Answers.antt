use Rattle.lot_page_report.proofs.BalanceLemmas.{page_balanced}
use Rattle.lot_page_report.proofs.laws.pages_are_balanced.Goals as goal

pub returns : goal.returns
returns c = page_balanced

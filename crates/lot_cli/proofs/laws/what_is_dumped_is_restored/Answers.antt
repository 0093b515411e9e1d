use Rattle.lot_cli.proofs.DumpedLemmas.{restored, text_is}
use Rattle.lot_cli.proofs.laws.what_is_dumped_is_restored.Goals as goal

pub returns-clause-text : goal.returns-clause-text
returns-clause-text c = text_is

pub returns-clause-restored : goal.returns-clause-restored
returns-clause-restored c = restored

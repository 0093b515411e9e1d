use Rattle.lot_print.proofs.ReadLemmas.{command_reads}
use Rattle.lot_print.proofs.laws.canonical_text_reads_as_its_command.Goals as goal

pub returns : goal.returns
returns c = command_reads

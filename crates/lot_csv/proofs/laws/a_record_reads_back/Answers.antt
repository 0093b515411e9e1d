use Rattle.lot_csv.proofs.FieldLemmas.{reads_back}
use Rattle.lot_csv.proofs.laws.a_record_reads_back.Goals as goal

pub returns : goal.returns
returns c = reads_back

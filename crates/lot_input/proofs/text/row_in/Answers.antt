use Rattle.lot_input.proofs.KeyedLemmas.{import_is_label}
use Rattle.lot_input.proofs.text.row_in.Goals as goal

pub source-requires-clause-label : goal.source-requires-clause-label
source-requires-clause-label c = import_is_label

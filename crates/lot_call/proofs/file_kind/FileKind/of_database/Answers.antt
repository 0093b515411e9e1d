use Rattle.lot_call.proofs.SelectLemmas.{marked_selects}
use Rattle.lot_call.proofs.file_kind.FileKind.of_database.Goals as goal

pub finds-requires : goal.finds-requires
finds-requires g c = marked_selects

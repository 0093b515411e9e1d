use Rattle.lot_call.proofs.SelectLemmas.{names_selects}
use Rattle.lot_call.proofs.file_kind.FileKind.of_no_book.Goals as goal

pub finds-requires : goal.finds-requires
finds-requires g c = names_selects

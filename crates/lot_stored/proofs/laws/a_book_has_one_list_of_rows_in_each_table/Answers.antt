-- Table by table: each row is the one under its key.
use Rattle.lot_stored.proofs.OneTablesLemmas.{one_tables}
use Rattle.lot_stored.proofs.laws.a_book_has_one_list_of_rows_in_each_table.Goals as goal

pub returns : goal.returns
returns c = one_tables

use Rattle.lot_cost.specs.Method.{word_of}
use Rattle.lot_table.proofs.CellLemmas.{word_is_utf8}
use Rattle.lot_table.proofs.cell.MethodCell.of_cell.Goals as goal

pub returns-in_err-text-clause-damaged : goal.returns-in_err-text-clause-damaged
returns-in_err-text-clause-damaged c _ method _ same = c.in_err-text.ensures.err.1 (word_of method) (word_is_utf8 method) same

use Rattle.lot_atomic.proofs.RepliesLemmas.{number_in_a_row, replies_in_a_row}
use Rattle.lot_atomic.proofs.laws.consecutive_numbers_are_those_of_a_run.Goals as goal

pub returns : goal.returns
returns c = record { replies = replies_in_a_row; fault = number_in_a_row }

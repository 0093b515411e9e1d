-- A list of rows that rises strictly is the only one with its rows that does.
use Rattle.lot_sequence.proofs.OrderLemmas.{one_order}
use Rattle.lot_sequence.proofs.laws.there_is_one_order.Goals as goal

pub returns : goal.returns
returns c = one_order

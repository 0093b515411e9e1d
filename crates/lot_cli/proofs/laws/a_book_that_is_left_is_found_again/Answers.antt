use Rattle.sqlite.specs.Held.{state}
use Rattle.lot_cli.proofs.ReopenLemmas.{found_again}
use Rattle.lot_cli.proofs.laws.a_book_that_is_left_is_found_again.Goals as goal

pub returns : goal.returns
returns c start conn = found_again (state c.S.Store conn)

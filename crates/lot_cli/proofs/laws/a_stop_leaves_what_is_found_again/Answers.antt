use Rattle.lot_cli.specs.Sessions.{SessionLeaves}
use Rattle.lot_cli.proofs.ReopenLemmas.{found_after_stop, found_in_files}
use Rattle.lot_cli.proofs.laws.a_stop_leaves_what_is_found_again.Goals as goal

pub returns-clause-database : goal.returns-clause-database
returns-clause-database c start = found_in_files

pub returns-clause-session : goal.returns-clause-session
returns-clause-session c start stopped files now before sent = found_after_stop stopped files now (SessionLeaves before sent)

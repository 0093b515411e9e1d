use Rattle.std.proofs.Common.{[], arith}
use Rattle.lot_restore.proofs.RestoredLemmas.{dump_gives, dump_rises, place_of_dump}
use Rattle.lot_restore.proofs.laws.restoring_a_dump_gives_its_book.Goals as goal

pub returns-clause-entries : goal.returns-clause-entries
returns-clause-entries c place entries book = dump_gives place [] entries book

pub returns-clause-place : goal.returns-clause-place
returns-clause-place c place entries within = place_of_dump place 0 entries (omega arith) (omega (arith, within))

pub returns-clause-rising : goal.returns-clause-rising
returns-clause-rising c entries = dump_rises 1 entries 0 (omega arith)

-- Each entry was accepted under a key that was new.
use Rattle.lot_laws.proofs.LawKeys.{one_key_each}
use Rattle.lot_laws.proofs.books.the_keys_of_a_book_are_distinct.Goals as goal

pub returns : goal.returns
returns c = one_key_each

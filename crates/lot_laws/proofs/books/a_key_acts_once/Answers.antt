-- What stands under a key, and what a command under it comes to.
use Rattle.lot_laws.proofs.KeyLaws.{accepted_stands, is_refused, is_repeat, remains}
use Rattle.lot_laws.proofs.books.a_key_acts_once.Goals as goal

pub returns-clause-stands : goal.returns-clause-stands
returns-clause-stands c = accepted_stands

pub returns-clause-remains : goal.returns-clause-remains
returns-clause-remains c = remains

pub returns-clause-repeats : goal.returns-clause-repeats
returns-clause-repeats c = is_repeat

pub returns-clause-refused : goal.returns-clause-refused
returns-clause-refused c = is_refused

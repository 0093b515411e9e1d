use Rattle.std.proofs.Common.{ap, not}
use Rattle.sqlite.specs.Held.{state}
use Rattle.lot_store.proofs.HandedLemmas.{undone_back}
use Rattle.lot_store.proofs.adoption.adopt.Goals as goal

pub returns-in-Err-clause-handed_back : goal.returns-in-Err-clause-handed_back
returns-in-Err-clause-handed_back g c clean =
    undone_back (state g.S.Store c.args.conn) (state g.S.Store c.tell.new.conn)
    (c.is_autocommit-settled.ensures.settled (rw c.is_autocommit-settled.ensures.value (ap not c.requires.outside))) c.requires.outside (c.in-Err.ensures.undone clean)

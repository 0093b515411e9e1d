use Rattle.lot_call.proofs.LookLemmas.{looked_then}
use Rattle.lotbook.proofs.comparison.take_up.Goals as goal

pub returns-in-Ok-clause-taken : goal.returns-in-Ok-clause-taken
returns-in-Ok-clause-taken g c = rw c.into_connection.ensures.same c.in-Ok.ensures.taken

pub returns-in-Ok-clause-looked : goal.returns-in-Ok-clause-looked
returns-in-Ok-clause-looked g c = rw c.into_connection.ensures.same c.in-Ok.ensures.looked

pub returns-in-Err-clause-refused : goal.returns-in-Err-clause-refused
returns-in-Err-clause-refused g c = record {
  fault = c.in-Err.field-0.fault;
  left = c.in-Err.field-0.conn;
  none = c.in-Err.ensures.none;
  reported = c.refuse-status.ensures.reported;
}

pub returns-in-Err-clause-handed_back : goal.returns-in-Err-clause-handed_back
returns-in-Err-clause-handed_back g c = looked_then _ _ _ c.in-Err.ensures.handed_back c.refuse-status.ensures.looked

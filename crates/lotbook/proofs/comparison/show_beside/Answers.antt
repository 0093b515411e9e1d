use Rattle.std.proofs.Common.{inl, inr}
use Rattle.lot_call.proofs.LookLemmas.{looked_then}
use Rattle.lotbook.proofs.ReadLemmas.{unread}
use Rattle.lotbook.proofs.comparison.show_beside.Goals as goal

pub returns-in-Ok-clause-told : goal.returns-in-Ok-clause-told
returns-in-Ok-clause-told g c = inl (record { old = _; adopts = c.in-Ok.ensures.taken; tells = c.write_differences-status.ensures.told })

pub returns-in-Ok-clause-new_left : goal.returns-in-Ok-clause-new_left
returns-in-Ok-clause-new_left g c = c.write_differences-status.ensures.new_left

pub returns-in-Ok-clause-old_left : goal.returns-in-Ok-clause-old_left
returns-in-Ok-clause-old_left g c = record {
  taken = c.in-Ok.old.conn;
  looked = c.in-Ok.ensures.looked;
  read = rw c.into_connection-conn.ensures.same c.write_differences-status.ensures.old_left;
}

pub returns-in-Err-clause-told : goal.returns-in-Err-clause-told
returns-in-Err-clause-told g c = inr (record {
  fault = c.in-Err.field-0.fault;
  left = c.in-Err.field-0.conn;
  none = c.in-Err.ensures.none;
  reported = c.refuse-status.ensures.reported;
})

pub returns-in-Err-clause-ends : goal.returns-in-Err-clause-ends
returns-in-Err-clause-ends g c = inr c.refuse-status.ensures.stops

pub returns-in-Err-clause-new_left : goal.returns-in-Err-clause-new_left
returns-in-Err-clause-new_left g c = unread _

pub returns-in-Err-clause-old_left : goal.returns-in-Err-clause-old_left
returns-in-Err-clause-old_left g c = record {
  taken = c.refuse-status.new.conn;
  looked = looked_then _ _ _ c.in-Err.ensures.handed_back c.refuse-status.ensures.looked;
  read = unread _;
}

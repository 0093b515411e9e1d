use Rattle.lot_call.proofs.told.tell.Goals as goal

pub returns : goal.returns
returns c = record { before = _; written = _; tells = c.tell_to-status.ensures }

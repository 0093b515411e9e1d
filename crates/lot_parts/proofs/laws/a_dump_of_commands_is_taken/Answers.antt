use Rattle.lot_parts.proofs.TakenLemmas.{taken_above, taken_next}
use Rattle.lot_parts.proofs.laws.a_dump_of_commands_is_taken.Goals as goal

pub returns : goal.returns
returns c = record { above = taken_above; next = taken_next }

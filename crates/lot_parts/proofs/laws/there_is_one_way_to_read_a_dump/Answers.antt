use Rattle.lot_parts.proofs.DumpLemmas.{one_dump}
use Rattle.lot_parts.proofs.laws.there_is_one_way_to_read_a_dump.Goals as goal

pub returns : goal.returns
returns c = one_dump

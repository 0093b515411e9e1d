use Rattle.lot_parts.proofs.DumpLemmas.{front_begins, front_ends, front_goes, last_is}
use Rattle.lot_parts.proofs.laws.a_dump_is_read_part_by_part.Goals as goal

pub returns : goal.returns
returns c = record { begin = front_begins; part = front_goes; last = λ front part. last_is 0 front.parts part; end = front_ends }

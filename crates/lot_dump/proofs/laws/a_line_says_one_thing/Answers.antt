use Rattle.lot_dump.proofs.EndLemmas.{end_one}
use Rattle.lot_dump.proofs.HeadLemmas.{head_one}
use Rattle.lot_dump.proofs.HeadingLemmas.{heading_one}
use Rattle.lot_dump.proofs.laws.a_line_says_one_thing.Goals as goal

pub returns : goal.returns
returns c = record { head = head_one; heading = heading_one; end = end_one }

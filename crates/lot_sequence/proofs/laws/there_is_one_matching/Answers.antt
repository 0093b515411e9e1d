-- Two matchings agree at each place, from the first on; a purchase that is taken is left for no later row.
use Rattle.lot_sequence.proofs.CancelLaws.{one_matching, taken_once}
use Rattle.lot_sequence.proofs.laws.there_is_one_matching.Goals as goal

pub returns-clause-one : goal.returns-clause-one
returns-clause-one c = one_matching

pub returns-clause-once : goal.returns-clause-once
returns-clause-once c = taken_once

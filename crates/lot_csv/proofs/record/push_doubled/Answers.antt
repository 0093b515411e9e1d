use Rattle.std.proofs.Common.{arith, rules}
use Rattle.lot_csv.proofs.RecordLemmas.{doubled_plain}
use Rattle.lot_csv.proofs.record.push_doubled.Goals as goal

pub returns-in_default : goal.returns-in_default
returns-in_default c = rw (doubled_plain c.args.character (omega arith)) (search rules)

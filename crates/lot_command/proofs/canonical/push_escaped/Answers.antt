use Rattle.std.proofs.Common.{arith, rules}
use Rattle.lot_command.proofs.CanonicalLemmas.{escaped_plain}
use Rattle.lot_command.proofs.canonical.push_escaped.Goals as goal

pub returns-in_default : goal.returns-in_default
returns-in_default c = rw (escaped_plain c.args.character (omega arith) (omega arith)) (search rules)

use Rattle.std.proofs.Common.{arith, rules}
use Rattle.lot_html.proofs.CharLemmas.{escaped_plain}
use Rattle.lot_html.proofs.text.push_character.Goals as goal

pub returns-in_default : goal.returns-in_default
returns-in_default c =
    rw (escaped_plain c.args.character (omega arith) (omega arith) (omega arith) (omega arith) (omega arith)) (search rules)

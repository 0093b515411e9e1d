use Rattle.lot_roles.proofs.NumberLemmas.{read_is}
use Rattle.lot_roles.proofs.numbers.number.Goals as goal

pub returns-clause-value : goal.returns-clause-value
returns-clause-value c = read_is c.args.form.now c.args.text.now c.read.result c.read.ensures.some c.read.ensures.every

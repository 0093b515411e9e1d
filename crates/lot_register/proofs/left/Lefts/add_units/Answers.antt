use Rattle.std.specs.Prelude.{pos}
use Rattle.lot_register.proofs.LeftLemmas.{left_set, left_unfit, memory_alone}
use Rattle.lot_register.proofs.left.Lefts.add_units.Goals as goal

pub returns-in-Some-clause-leaves : goal.returns-in-Some-clause-leaves
returns-in-Some-clause-leaves c legs leg own of_leg has =
    left_set legs leg c.args.self.now c.set.new.self c.args.pair c.in-Some.left own has c.args.units of_leg c.set.result
    c.in-Some.ensures c.set.ensures.value c.set.ensures.sums c.set.ensures.cause

pub returns-in-None-clause-leaves : goal.returns-in-None-clause-leaves
returns-in-None-clause-leaves c legs leg own of_leg has =
    left_unfit legs leg c.args.self.now c.args.self.now c.args.pair (pos 0) own has c.args.units of_leg c.in-None.ensures

pub returns-in-Some-clause-cause : goal.returns-in-Some-clause-cause
returns-in-Some-clause-cause c = memory_alone c.set.result c.set.ensures.cause

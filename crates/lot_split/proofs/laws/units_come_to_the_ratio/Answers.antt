-- Each lot's units are as many times the ratio, and so is their sum.
use Rattle.std.proofs.Common.{◌+ℤ◌, ◌∙◌, sym, subst}
use Rattle.lot_split.specs.Lots.{held_of}
use Rattle.lot_rounding.specs.Ratio.{IsLowest, amounts_of}
use Rattle.lot_rounding.specs.declared.ratio.Change.{Change}
use Rattle.lot_split.proofs.NumberLemmas.{cancel}
use Rattle.lot_split.proofs.OneLemmas.{held_split}
use Rattle.lot_split.proofs.laws.units_come_to_the_ratio.Goals as goal

pub returns-clause-ratio : goal.returns-clause-ratio
returns-clause-ratio c asked method lots split s = held_split s.ratio lots split s.become

pub returns-clause-added : goal.returns-clause-added
returns-clause-added c asked method lots split added is s =
    let ratio = s.ratio in
    let h = held_of lots in
    let lowest = subst (λ (change : Change). IsLowest (amounts_of change h) ratio) is s.can.lowest in
    cancel (held_of split) (h +ℤ added) ratio.old lowest.are.proper.least_old
    (held_split ratio lots split s.become ∙ sym lowest.are.same)

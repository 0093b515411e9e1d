-- Nothing is known any more, or the crumb is added.
use Rattle.std.proofs.Common.{◌≡◌, ◌∙◌, false, sym}
use Rattle.std.specs.Prelude.{pos}
use Rattle.std.specs.Ordering.{int_eq}
use Rattle.lot_report.specs.Report.{AreSums}
use Rattle.lot_call.specs.Sums.{LeaveRange}
use Rattle.lot_call.proofs.SumsLemmas.{stays_left}
use Rattle.lot_call.proofs.taken.add_one.Goals as goal

pub returns-in_default : goal.returns-in_default
returns-in_default c amounts h =
    let left : LeaveRange amounts = rw c.in_default.is at h in
    rw c.in_default.is (stays_left amounts _ left)

pub returns-in-Ok : goal.returns-in-Ok
returns-in-Ok c amounts h =
    let other : int_eq c.args.crumb (pos 0) ≡ false = sym c.is_zero.ensures ∙ c.if-is_zero.false in
    let sums : AreSums amounts c.in-Some.known.by_currency.entries = rw c.in-Some.is at h in
    rw other (c.in-Ok.ensures.added amounts sums)

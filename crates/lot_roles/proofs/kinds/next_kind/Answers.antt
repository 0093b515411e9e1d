use Rattle.std.proofs.Common.{ℕ, ◌≤◌, below_more, arith}
use Rattle.lot_sheet.proofs.ListLemmas.{not_true}
use Rattle.lot_roles.specs.Kinds.{HoldsAt}
use Rattle.lot_roles.proofs.KindLemmas.{holds_here, holds_inside, holds_not}
use Rattle.lot_roles.proofs.kinds.next_kind.Goals as goal

pub returns-then-meets-clause-some : goal.returns-then-meets-clause-some
returns-then-meets-clause-some c =
    holds_here c.args.form.now c.args.row.now c.args.kinds.now c.loop-place.place c.index-kinds-place.result c.loop-place-test.true
    (c.meets.ensures.0 c.if-meets.true)

pub loop-place-preserved : goal.loop-place-preserved
loop-place-preserved c = λ other from less.
    below_more (λ (n : ℕ). c.args.from ≤ n → HoldsAt c.args.form.now c.args.row.now c.args.kinds.now n → ⊥) c.loop-place.place
    (λ n fewer behind. c.loop-place.invariant n behind fewer)
    (λ behind. holds_not c.args.form.now c.args.row.now c.args.kinds.now c.loop-place.place c.index-kinds-place.result
    (λ meets. not_true c.meets.result c.if-meets.false (c.meets.ensures.1 meets))) other less from

pub returns-clause-none : goal.returns-clause-none
returns-clause-none c = λ other from holds.
    let inside = holds_inside c.args.form.now c.args.row.now c.args.kinds.now other holds in
    c.loop-place.invariant other from (omega (arith, inside, c.loop-place-test.false)) holds

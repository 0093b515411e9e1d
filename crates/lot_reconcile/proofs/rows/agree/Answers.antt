use Rattle.std.specs.Prelude.{◌&&◌, not}
use Rattle.std.proofs.Common.{◌∙◌, ap, sym}
use Rattle.lot_reconcile.specs.Table.{agree}
use Rattle.lot_reconcile.proofs.rows.agree.Goals as goal

pub loop-row-preserved : goal.loop-row-preserved
loop-row-preserved c =
    c.loop-row.invariant ∙ ap agree c.in-Some.ensures.steps ∙ ap (λ b. not b && agree c.next.new.self) (sym c.differs.ensures ∙ c.if-differs.false)

pub returns-then-differs : goal.returns-then-differs
returns-then-differs c =
    sym (c.loop-row.invariant ∙ ap agree c.in-Some.ensures.steps ∙ ap (λ b. not b && agree c.next.new.self) (sym c.differs.ensures ∙ c.if-differs.true))

pub returns : goal.returns
returns c = sym (c.loop-row.invariant ∙ ap agree c.in-None.ensures.steps.0)

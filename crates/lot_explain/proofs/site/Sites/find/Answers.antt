-- By the first of the lines that are left.
use Rattle.std.proofs.Common.{sym, ◌∙◌}
use Rattle.lot_explain.proofs.SiteLemmas.{first_behind, first_here, first_none}
use Rattle.lot_explain.proofs.site.Sites.find.Goals as goal

pub returns-then-ends_at : goal.returns-then-ends_at
returns-then-ends_at c =
    first_here c.args.command c.args.posting c.loop-line.self.passed c.loop-line.self.lines c.in-Some.line.now c.next.new.self
    c.kind_of-kind.result c.with-self.result c.in-Some.ensures.steps c.kind_of-kind.ensures c.with-self.ensures
    (sym c.ends_at.ensures ∙ c.if-ends_at.true)
    ∙ c.loop-line.invariant

pub loop-line-preserved : goal.loop-line-preserved
loop-line-preserved c =
    first_behind c.args.command c.args.posting c.loop-line.self.passed c.loop-line.self.lines c.in-Some.line.now c.next.new.self
    c.kind_of-kind.result c.with-self.result c.in-Some.ensures.steps c.kind_of-kind.ensures c.with-self.ensures
    (sym c.ends_at.ensures ∙ c.if-ends_at.false)
    ∙ c.loop-line.invariant

pub returns : goal.returns
returns c =
    first_none c.args.command c.args.posting c.loop-line.self.passed c.loop-line.self.lines c.next.new.self
    c.in_default.ensures.steps.0 c.in_default.ensures.steps.1
    ∙ c.loop-line.invariant

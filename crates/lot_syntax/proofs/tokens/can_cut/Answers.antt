-- The line can be cut exactly where what stands behind its first token can.
use Rattle.std.proofs.Common.{sym, ◌∙◌}
use Rattle.std.proofs.lemmas.Result.{err_from_is_err_and}
use Rattle.lot_syntax.specs.Cutting.{seen}
use Rattle.lot_syntax.proofs.CutLemmas.{next_shorter, same_cut, cut_true, cut_false}
use Rattle.lot_syntax.proofs.Boundaries.{next_utf8}
use Rattle.lot_syntax.proofs.tokens.can_cut.Goals as goal

pub loop-behind-preserved : goal.loop-behind-preserved
loop-behind-preserved c =
    let next = rw c.in-Some.is at c.in_ok-behind.ensures in
    record {
      utf8 = next_utf8 c.loop-behind.rest.now (seen (c.in-Some.field-0-0, c.in-Some.behind)) next c.loop-behind.invariant.utf8;
      same = same_cut c.loop-behind.rest.now (seen (c.in-Some.field-0-0, c.in-Some.behind)) next ∙ c.loop-behind.invariant.same;
    }

pub loop-behind-smaller : goal.loop-behind-smaller
loop-behind-smaller c =
    let next = rw c.in-Some.is at c.in_ok-behind.ensures in
    next_shorter c.loop-behind.rest.now (seen (c.in-Some.field-0-0, c.in-Some.behind)) next

pub returns-in_err-behind-clause-uncut : goal.returns-in_err-behind-clause-uncut
returns-in_err-behind-clause-uncut c =
    let p = err_from_is_err_and c.from_residual.result c.from_residual.ensures.1 in
    rw p.1 (sym c.loop-behind.invariant.same ∙ cut_false c.loop-behind.rest.now c.in_err-behind.ensures)

pub returns-clause-cut : goal.returns-clause-cut
returns-clause-cut c =
    let next = rw c.in_default.is at c.in_ok-behind.ensures in
    sym c.loop-behind.invariant.same ∙ cut_true c.loop-behind.rest.now next

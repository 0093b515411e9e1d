-- One more token is kept, or there is no memory for it, or the line ends.
use Rattle.std.proofs.Common.{sym, ◌∙◌}
use Rattle.std.proofs.lemmas.Result.{err_from_is_err_and}
use Rattle.lot_syntax.specs.Cutting.{seen}
use Rattle.lot_syntax.proofs.CutLemmas.{next_shorter, same_cut, cut_true, cut_false, one_more_cut, pushed_ok}
use Rattle.lot_syntax.proofs.Boundaries.{next_utf8}
use Rattle.lot_syntax.proofs.tokens.cut_first.Goals as goal

pub loop-token-preserved : goal.loop-token-preserved
loop-token-preserved c =
    let next = rw c.in-Some.is at c.in_ok-token.ensures in
    record {
      utf8 = next_utf8 c.loop-token.rest.now (seen (c.in-Some.token, c.in-Some.behind)) next c.loop-token.invariant.utf8;
      same = same_cut c.loop-token.rest.now (seen (c.in-Some.token, c.in-Some.behind)) next ∙ c.loop-token.invariant.same;
      so_far = one_more_cut c.loop-token.first.items c.push.new.self.items c.in-Some.token c.loop-token.rest.now c.in-Some.behind.now c.args.line.now
          (pushed_ok c.push.result _ _ _ c.push.ensures.items (sym c.is_err.ensures.value ∙ c.if-is_err.false)) next
          c.loop-token.invariant.same c.loop-token.invariant.so_far;
    }

pub loop-token-smaller : goal.loop-token-smaller
loop-token-smaller c =
    let next = rw c.in-Some.is at c.in_ok-token.ensures in
    next_shorter c.loop-token.rest.now (seen (c.in-Some.token, c.in-Some.behind)) next

pub returns-in_err-token-clause-uncut : goal.returns-in_err-token-clause-uncut
returns-in_err-token-clause-uncut c =
    let p = err_from_is_err_and c.from_residual.result c.from_residual.ensures.1 in
    rw p.1 (sym c.loop-token.invariant.same ∙ cut_false c.loop-token.rest.now c.in_err-token.ensures)

pub returns-clause-tokens : goal.returns-clause-tokens
returns-clause-tokens c =
    let next = rw c.in_default.is at c.in_ok-token.ensures in
    c.loop-token.invariant.so_far (sym c.loop-token.invariant.same ∙ cut_true c.loop-token.rest.now next)

pub returns-clause-rest : goal.returns-clause-rest
returns-clause-rest c =
    let next = rw c.in_default.is at c.in_ok-token.ensures in
    cut_true c.loop-token.rest.now next

pub returns-clause-cut : goal.returns-clause-cut
returns-clause-cut c =
    let next = rw c.in_default.is at c.in_ok-token.ensures in
    sym c.loop-token.invariant.same ∙ cut_true c.loop-token.rest.now next

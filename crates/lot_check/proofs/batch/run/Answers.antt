use Rattle.std.proofs.Common.{[], refl, sym, ap, ◌∙◌, arith}
use Rattle.std.proofs.KnownBytes.{Appends-nil}
use Rattle.std.specs.Prelude.{◌+◌}
use Rattle.std.proofs.lemmas.Result.{err_from_is_err_and}
use Rattle.lot_check.proofs.CauseLemmas.{no_fault}
use Rattle.lot_check.proofs.RunLemmas.{run_next, run_stops}
use Rattle.lot_check.proofs.KeyLemmas.{stands_at_first}
use Rattle.lot_check.proofs.batch.run.Goals as goal

pub loop-index-preserved : goal.loop-index-preserved
loop-index-preserved g c = record {
  ran = run_next _ _ _ c.in-Some.command _ (c.in-Some.index + 1) _ c.loop-index.view c.in_ok-next.next _ _ _ _ _ _ c.loop-index.invariant.ran
      c.in-Some.ensures.steps.0.0 (ap (λ n. n + 1) c.in-Some.ensures.steps.1) c.in-Some.ensures.steps.2 (omega (arith, c.args.commands.ok, c.args.commands.small))
      c.in_ok-next.ensures.replies c.and-status.ensures;
  none_failed = no_fault (c.in_ok-next.next, c.in_ok-next.replied) _ c.in_ok-next.ensures.none_failed ∙ c.loop-index.invariant.none_failed;
}

pub loop-index-init : goal.loop-index-init
loop-index-init g c =
    let given = c.into_iter-index-iterator.ensures.into_iter_gives in
    let items = c.enumerate-index-items.ensures in record {
      ran = (
        [],
        [],
        [],
        sym (ap (λ e. e.iter.rest.items) given ∙ ap (λ i. i.rest.items) items.source ∙ c.into_iter.ensures.rest),
        ap (λ e. e.count) given ∙ items.count,
        refl,
        stands_at_first _ c.new-view.ensures,
        Appends-nil _,
        refl,
      );
      none_failed = refl;
    }

pub returns-in_err-next-clause-runs : goal.returns-in_err-next-clause-runs
returns-in_err-next-clause-runs g c =
    let fault = err_from_is_err_and c.from_residual.result c.from_residual.ensures.1 in
    rw (fault.1, fault.2)
    (run_stops _ _ _ c.in-Some.command _ (c.in-Some.index + 1) c.loop-index.view _ _ _ _ _ c.loop-index.invariant.ran
    c.in-Some.ensures.steps.0.0 (ap (λ n. n + 1) c.in-Some.ensures.steps.1)
    (omega (arith, c.args.commands.ok, c.args.commands.small)) c.in_err-next.ensures.replies)

use Rattle.std.proofs.Common.{◌∙◌, ◌+◌, ◌++◌, ◌∷◌, [], ap, arith}
use Rattle.lot_command.specs.declared.key.Key.{Key}
use Rattle.lot_input.specs.Keyed.{numbered_key}
use Rattle.lot_rounding.specs.Asked.{plain}
use Rattle.lot_rounding.specs.declared.asked.Asked.{Asked}
use Rattle.lot_input.proofs.KeyedLemmas.{next_numbered, none_numbered, none_yet, post_is_label, skips_next, taken_have_next, takes_next}
use Rattle.lot_input.proofs.keyed.keyed.Goals as goal

pub source-requires-clause-label : goal.source-requires-clause-label
source-requires-clause-label c = post_is_label

pub loop-index-init : goal.loop-index-init
loop-index-init c =
    let given = c.into_iter-index-iterator.ensures.into_iter_gives in
    let items = c.enumerate-index-items.ensures in (
      none_yet _ _ _ _ _ _ (ap (λ e. e.iter.rest.items) given ∙ ap (λ i. i.rest.items) items.source ∙ c.into_iter.ensures.rest)
          (ap (λ e. e.count) given ∙ items.count) c.new-keyed.ensures.items,
      none_numbered _ _ _ c.new-keyed.ensures.items c.new-numbers.ensures.items,
    )

pub loop-index-preserved-in-Continue-branch-4 : goal.loop-index-preserved-in-Continue-branch-4
loop-index-preserved-in-Continue-branch-4 c = (
  takes_next _ _ _ _ _ c.in-Some.command _ (c.in-Some.index + 1) _ _ c.loop-index.invariant.0 c.in-Some.ensures.steps.0.0
      (ap (λ n. n + 1) c.in-Some.ensures.steps.1) c.in-Some.ensures.steps.2 _
      (c.in_ok-push.ensures.items ∙ ap (λ (asked : Asked). c.loop-index.keyed.items ++ (c.in_ok-key.key, asked) ∷ []) c.plain.ensures
      ∙ ap (λ (key : Key). c.loop-index.keyed.items ++ (key, plain c.in-Some.command) ∷ []) (c.in_ok-key.ensures ∙ ap (λ source. numbered_key source (c.in-Some.index + 1)) c.in_ok-source.ensures))
      c.requires c.if-number-from.true,
  next_numbered _ _ _ _ _ (c.in-Some.index + 1) _ _ _ _ _ c.loop-index.invariant.0 (ap (λ n. n + 1) c.in-Some.ensures.steps.1) c.requires
      c.if-number-from.true c.loop-index.invariant.1 c.in_ok-push-2.ensures.items c.in_ok-push.ensures.items,
)

pub loop-index-preserved : goal.loop-index-preserved
loop-index-preserved c = (
  skips_next _ _ _ _ _ c.in-Some.command _ (c.in-Some.index + 1) _ _ c.loop-index.invariant.0 c.in-Some.ensures.steps.0.0
      (ap (λ n. n + 1) c.in-Some.ensures.steps.1) c.in-Some.ensures.steps.2 c.if-number-from.false,
  c.loop-index.invariant.1,
)

pub returns-clause-next : goal.returns-clause-next
returns-clause-next c =
    taken_have_next _ _ c.args.commands.items _ _ _ _ c.loop-index.invariant.0 c.loop-index.invariant.1 c.requires
    (omega (arith, c.args.commands.ok.0, c.args.commands.ok.1, c.args.commands.small))

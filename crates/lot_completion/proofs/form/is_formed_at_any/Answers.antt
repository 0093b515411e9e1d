-- It is formed at none of the decimals so far.
use Rattle.std.proofs.Common.{◌≡◌, ◌≤◌, ◌∙◌, ℕ, arith, sym, subst}
use Rattle.lot_completion.specs.Formed.{IsFormedAt}
use Rattle.lot_rounding.specs.Nearest.{most_decimals}
use Rattle.lot_completion.proofs.FormLemmas.{some_if}
use borrow.Author.Count.{below_more}
use Rattle.lot_completion.proofs.form.is_formed_at_any.Goals as goal

pub loop-count-preserved : goal.loop-count-preserved
loop-count-preserved c =
    let none = λ (decimals : ℕ). IsFormedAt c.args.text.now c.args.cash.now decimals c.args.transaction.now c.args.crumbs.now → ⊥ in
    let same : c.in-Some.decimals ≡ c.loop-count.count = some_if c.new.result (c.loop-count.count ≤ most_decimals) c.loop-count.count c.in-Some.decimals c.new.ensures c.in-Some.is in
    below_more none c.loop-count.count c.loop-count.invariant
    (subst none same (λ it. let contrary = sym (c.in_ok-is_formed_at.ensures.1 it) ∙ c.if-branch.false in absurd cc))

pub returns : goal.returns
returns c = (
  λ no. absurd cc,
  λ it. absurd (c.loop-count.invariant it.1.0 (let few : it.1.0 ≤ most_decimals = it.1.1 in omega arith) (it.0, it.1.2, it.2)),
)

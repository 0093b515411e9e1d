-- One more crumb is added, until none is left.
use Rattle.std.proofs.Common.{◌≡◌, ◌∙◌, ◌++◌, ◌∷◌, [], ◌+◌, List, ℕ, suc, add-one, ap, drop, subst, sym, append-nil}
use Rattle.std.specs.Prelude.{ℤ}
use Rattle.std.proofs.lemmas.List.{drop_all}
use Rattle.std.proofs.Math.Seq.{drop-cons}
use Rattle.lot_call.specs.Sums.{AreSummed, nonzero}
use Rattle.lot_call.proofs.SumsLemmas.{step}
use Rattle.lot_call.proofs.taken.add_all.Goals as goal

pub loop-currency-preserved : goal.loop-currency-preserved
loop-currency-preserved c amounts h =
    let so_far = c.loop-currency.invariant amounts h in
    let i = c.loop-currency.currency-index in
    let crumbs = c.args.crumbs.now in
    let crumb = c.loop-currency-item.result in
    let first : drop i crumbs ≡ crumb ∷ drop (i + 1) crumbs =
    drop-cons crumbs i crumb c.loop-currency-test.true ∙ ap (λ x. x ∷ drop (suc i) crumbs) (sym c.loop-currency-item.is)
    ∙ ap (λ k. crumb ∷ drop k crumbs) (sym (add-one i)) in (
      so_far.0 ++ nonzero (crumb ∷ []),
      c.in_ok-add_one.ensures so_far.0 so_far.1,
      step amounts so_far.0 (drop (i + 1) crumbs) crumbs crumb (drop i crumbs) first so_far.2,
    )

pub returns : goal.returns
returns c amounts h =
    let so_far = c.loop-currency.invariant amounts h in
    let none : drop c.loop-currency.currency-index c.args.crumbs.now ≡ [] = drop_all _ _ c.loop-currency-test.false in
    subst (λ (all : List (List ℕ × ℤ)). AreSummed all c.loop-currency.sums)
    (sym (append-nil so_far.0) ∙ ap (λ left. so_far.0 ++ nonzero left) (sym none) ∙ so_far.2) so_far.1

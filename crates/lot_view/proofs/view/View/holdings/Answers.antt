-- Once no account is left the rows are those of all.
use Rattle.std.proofs.Common.{◌≡◌, ◌++◌, [], map, refl, sym, ap, subst, ◌∙◌}
use Rattle.std.specs.List.{AllByRecursion}
use Rattle.std.proofs.lemmas.List.{append-nil}
use Rattle.lot_book.specs.Holding.{entry_of}
use Rattle.lot_view.specs.View.{known}
use Rattle.lot_view.proofs.HoldingLemmas.{KeepsNoZeros, lists}
use Rattle.lot_view.proofs.view.View.holdings.Goals as goal
use Rattle.lot_view.specs.Holdings.{entries_of}

pub returns : goal.returns
returns c =
    let rows = c.loop-account.rows.items in
    let none : c.loop-account.account-iterator ≡ [] = c.in-None.ensures.steps.0 in
    lists (known c.args.self.now) c.args.self.now.held.entries rows (λ account. refl)
    c.into_iter-account-iterator.ensures.into_iter_gives.5
    (c.loop-account.invariant.no_zeros (subst (AllByRecursion KeepsNoZeros) (sym none) tt))
    (sym (append-nil (map entry_of rows))
    ∙ ap (λ left. map entry_of rows ++ entries_of left) (sym none)
    ∙ c.loop-account.invariant.all)

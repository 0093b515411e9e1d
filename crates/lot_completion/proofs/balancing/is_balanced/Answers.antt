-- An elided posting takes up the rest, or nothing is left.
use Rattle.std.proofs.Common.{◌≡◌, ◌∙◌, ap, sym, None}
use Rattle.lot_book.specs.Balance.{elided_postings}
use Rattle.lot_book.specs.Refusals.{not_balanced}
use Rattle.lot_completion.proofs.BalancingLemmas.{any_elided, balanced_whole, elided_takes, is_balanced_by}
use Rattle.lot_completion.proofs.balancing.is_balanced.Goals as goal
use Rattle.lot_completion.proofs.balancing.is_balanced.Goals.{then-has_elided, else-has_elided}

pub returns-in-Ok : goal.returns-in-Ok
returns-in-Ok c is =
    let t = c.args.transaction.now in
    let none : not_balanced (elided_postings 1 t.postings) c.in-Ok.draft.residuals ≡ None =
    elim c.if-has_elided.branch [
      | then-has_elided w ↦ elided_takes 1 t.postings c.in-Ok.draft.residuals (sym (c.has_elided.ensures ∙ ap any_elided c.as_slice-postings.ensures) ∙ w.if-has_elided.true)
      | else-has_elided w ↦ balanced_whole (elided_postings 1 t.postings) c.in-Ok.draft.residuals (c.are_zero-is_zero.ensures (sym w.result-is ∙ is))
    ] in
    is_balanced_by _ _ t c.in-Ok.draft c.in-Ok.ensures.drafts none

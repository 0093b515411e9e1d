-- The entry takes the sum in place, or goes last.
use Rattle.std.proofs.Common.{◌≡◌, Some, None, ◌+ℤ◌, sym, ◌∙◌}
use Rattle.std.specs.Map.{lookup}
use Rattle.indexmap.specs.IndexMap.{insert_entry}
use Rattle.lot_base.specs.Text.{same_text}
use Rattle.lot_posting.proofs.BalanceResiduals.{insert_entry-adds, insert_entry-begins}
use Rattle.lot_posting.proofs.balance.add_to.Goals as goal
use Rattle.lot_posting.proofs.balance.add_to.Goals.{in-Some, in-None}

pub returns : goal.returns
returns c =
    let before = c.args.residuals.now.entries in
    let currency = c.args.currency.now in
    let weight = c.args.weight in
    elim c.match-get.branch [
      | in-Some w ↦
          let sum = w.in-Some.sum.now in
          let found : lookup (same_text currency) before ≡ Some sum = sym w.in-Some.ensures.value in
          let total : c.match-get.sum ≡ sum +ℤ weight = w.sum-is ∙ w.sum_of-sum.ensures in
          c.in_ok-insert.ensures.entries
          ∙ (λ i. insert_entry same_text before (c.in_ok-copy.ensures i) (total i))
          ∙ insert_entry-adds before currency sum weight found
      | in-None w ↦
          let found : lookup (same_text currency) before ≡ None = sym w.in-None.ensures.value in
          c.in_ok-insert.ensures.entries
          ∙ (λ i. insert_entry same_text before (c.in_ok-copy.ensures i) (w.sum-is i))
          ∙ insert_entry-begins before currency weight found
    ]

-- The day is listed for the pair of a posting with braces, and nothing changes at another posting.
use Rattle.std.proofs.Common.{◌≡◌, List, ℕ, ℤ, Option, Some, None, false, cond, sym, ap, ◌∙◌}
use Rattle.std.specs.BTreeMap.{BTreeMap, get}
use Rattle.std.specs.Option.{option_copied}
use Rattle.std.specs.Prelude.{◌&&◌}
use Rattle.lot_base.specs.Text.{same_text}
use Rattle.lot_inv.proofs.InventoryLemmas.{never_less}
use Rattle.lot_book.specs.declared.change.Pair.{Pair}
use Rattle.lot_ledger.specs.Decide.{amount_at_cost}
use Rattle.lot_book.specs.Facts.{posts_at_cost}
use Rattle.lot_ledger.proofs.HeadLemmas.{at_cost-none, at_cost-some, heads-turn, pair-found}
use Rattle.lot_ledger.proofs.heads.heads_of.Goals.{in-Some+in_ok-copy+in_ok-copy-2+in_ok-insert, in_default}
use Rattle.lot_ledger.proofs.heads.heads_of.Goals as goal
use Rattle.lot_book.specs.Change.{pair_cmp}

-- what is listed for a pair
abbrev listed : BTreeMap Pair ℤ → List ℕ → List ℕ → Option ℤ
listed heads account commodity = get pair_cmp heads (record { account = account; commodity = commodity })

pub loop-posting-preserved : goal.loop-posting-preserved
loop-posting-preserved c =
    let items = c.as_slice-posting-items.result.now in
    let day = c.args.transaction.now.day in
    let posting = c.posting-item.result in
    let turn = λ (account commodity : List ℕ).
    heads-turn (posts_at_cost account commodity) items c.loop-posting.posting-index posting day
    (listed c.loop-posting.heads account commodity) (listed c.match-at_cost.heads account commodity)
    c.loop-posting-test.true c.posting-item.is in
    elim c.match-at_cost.branch [
      | in-Some+in_ok-copy+in_ok-copy-2+in_ok-insert w ↦ λ account commodity.
          let had = listed c.loop-posting.heads account commodity in
          let amount = w.in-Some.amount.now in
          let found : amount_at_cost posting.amount ≡ Some amount = sym c.at_cost.ensures ∙ ap option_copied w.in-Some.is in
          let pair : Pair = record { account = w.in_ok-copy.field-0; commodity = w.in_ok-copy-2.field-0 } in
          let changes : listed c.match-at_cost.heads account commodity
          ≡ cond (posts_at_cost account commodity posting) (Some day) had =
          ap (λ heads. listed heads account commodity) w.heads-is
          ∙ w.in_ok-insert.ensures.updates.0 (record { account = account; commodity = commodity })
          ∙ ap (λ b. cond b (Some day) had) (pair-found pair account commodity)
          ∙ ap (λ a. cond (same_text account a && same_text commodity pair.commodity) (Some day) had) w.in_ok-copy.ensures
          ∙ ap (λ a. cond (same_text account posting.account && same_text commodity a) (Some day) had) w.in_ok-copy-2.ensures
          ∙ ap (λ b. cond (same_text account posting.account && b) (Some day) had)
          (sym (at_cost-some commodity posting.amount amount found)) in
          turn account commodity changes ∙ c.loop-posting.invariant account commodity
      | in_default w ↦ λ account commodity.
          let had = listed c.loop-posting.heads account commodity in
          let found : amount_at_cost posting.amount ≡ None = sym c.at_cost.ensures ∙ ap option_copied w.in_default.is in
          let never : posts_at_cost account commodity posting ≡ false =
          ap (λ b. same_text account posting.account && b) (at_cost-none commodity posting.amount found)
          ∙ never_less (same_text account posting.account) in
          let changes : listed c.match-at_cost.heads account commodity
          ≡ cond (posts_at_cost account commodity posting) (Some day) had =
          ap (λ heads. listed heads account commodity) w.heads-is ∙ sym (ap (λ b. cond b (Some day) had) never) in
          turn account commodity changes ∙ c.loop-posting.invariant account commodity
    ]

-- The days that are listed for the postings with braces.
use Rattle.std.specs.Prelude.{◌≡◌, ℕ, ◌+◌, ◌<◌, Bool, true, false, cond, ◌&&◌, ◌||◌, is_some, List, ◌∷◌, length, drop, get_or, Option, None, Some, ℤ}
use Rattle.std.specs.List.{list_any}
use Rattle.std.specs.Ordering.{is_eq}
use Rattle.std.proofs.Common.{refl, sym, ap, ◌∙◌, add-one, drop-cons}
use Rattle.lot_base.specs.Text.{same_text, text_cmp}
use Rattle.lot_base.proofs.TextLemmas.{same_text-ordered}
use Rattle.lot_cost.proofs.OrderLemmas.{eq_then}
use Rattle.lot_command.specs.declared.transaction.Amount.{Amount}
use Rattle.lot_command.specs.declared.transaction.Posting.{Posting}
use Rattle.lot_book.specs.declared.change.Pair.{Pair}
use Rattle.lot_ledger.specs.Decide.{amount_at_cost}
use Rattle.lot_book.specs.Facts.{is_at_cost}
use Rattle.lot_book.specs.Change.{pair_cmp}

-- whether a pair is that of an account and a commodity
pub pair-found : (pair : Pair) (account commodity : List ℕ)
    → is_eq (pair_cmp pair (record { account = account; commodity = commodity }))
    ≡ (same_text account pair.account && same_text commodity pair.commodity)
pair-found pair account commodity =
    eq_then (text_cmp pair.account account) (text_cmp pair.commodity commodity)
    ∙ (λ i. same_text-ordered pair.account account i && same_text-ordered pair.commodity commodity i)

-- an amount with braces
pub at_cost-some : (commodity : List ℕ) (amount : Option Amount) (found : Amount) → amount_at_cost amount ≡ Some found
    → is_at_cost commodity amount ≡ same_text commodity found.commodity
at_cost-some commodity None found is = cc
at_cost-some commodity (Some amount) found is = by (is_some amount.cost) is
  where
    by : (b : Bool) → cond b (Some amount) None ≡ Some found
        → (b && same_text commodity amount.commodity) ≡ same_text commodity found.commodity
    by true e = cc
    by false e = cc

-- no amount, or one without braces
pub at_cost-none : (commodity : List ℕ) (amount : Option Amount) → amount_at_cost amount ≡ None
    → is_at_cost commodity amount ≡ false
at_cost-none commodity None is = refl
at_cost-none commodity (Some amount) is = by (is_some amount.cost) is
  where
    by : (b : Bool) → cond b (Some amount) None ≡ None → (b && same_text commodity amount.commodity) ≡ false
    by true e = cc
    by false e = refl

-- once the first posting that is left is looked at, the others are still to be
pub heads-turn : (posts : Posting → Bool) (items : List Posting) (index : ℕ) (posting : Posting) (day : ℤ) (had now : Option ℤ)
    → index < length items → posting ≡ get_or items index posting → now ≡ cond (posts posting) (Some day) had
    → cond (list_any posts (drop (index + 1) items)) (Some day) now ≡ cond (list_any posts (drop index items)) (Some day) had
heads-turn posts items index posting day had now within at is =
    let left : drop index items ≡ posting ∷ drop (index + 1) items =
    drop-cons items index posting within ∙ (λ i. sym at i ∷ drop (sym (add-one index) i) items) in
    ap (cond (list_any posts (drop (index + 1) items)) (Some day)) is
    ∙ by (posts posting) (list_any posts (drop (index + 1) items))
    ∙ ap (λ ps. cond (list_any posts ps) (Some day) had) (sym left)
  where
    by : (a b : Bool) → cond b (Some day) (cond a (Some day) had) ≡ cond (a || b) (Some day) had
    by true true = refl
    by true false = refl
    by false b = refl

-- What balances a transaction that is refused for crumbs.
use Rattle.std.proofs.Common.{◌≡◌, ◌||◌, if◌then◌else◌, ℕ, ℤ, suc, Bool, true, false, is_none, List, [], ◌∷◌, None, refl, subst}
use Rattle.std.specs.List.{list_any}
use Rattle.lot_command.specs.declared.transaction.Posting.{Posting}
use Rattle.lot_command.specs.declared.transaction.Transaction.{Transaction as TransactionOf}
use Rattle.lot_book.specs.Balance.{elided_postings}
use Rattle.lot_book.specs.Booking.{TieRule}
use Rattle.lot_book.specs.Facts.{Facts}
use Rattle.lot_book.specs.Refusals.{not_balanced}
use Rattle.lot_completion.specs.Balancing.{IsBalanced}
use Rattle.lot_ledger.specs.Decide.{DraftsAll}
use Rattle.lot_posting.specs.declared.draft.Draft.{Draft}

-- whether a posting is elided
abbrev pub any_elided : List Posting → Bool
any_elided postings = list_any (λ (p : Posting). is_none p.amount) postings

-- residuals of zero need no elided posting
pub balanced_whole : (elided : List (ℕ × List ℕ)) (rs : List (List ℕ × ℤ)) → not_balanced [] rs ≡ None → not_balanced elided rs ≡ None
balanced_whole [] rs is = is
balanced_whole (one ∷ more) rs is = refl

-- an elided posting takes up what is left
pub elided_takes : (place : ℕ) (postings : List Posting) (rs : List (List ℕ × ℤ)) → any_elided postings ≡ true
    → not_balanced (elided_postings place postings) rs ≡ None
elided_takes place [] rs any = absurd cc
elided_takes place (p ∷ ps) rs any = at (is_none p.amount) (elided_takes (suc place) ps rs) any
  where
    at : (b : Bool) → (any_elided ps ≡ true → not_balanced (elided_postings (suc place) ps) rs ≡ None) → (b || any_elided ps) ≡ true
        → not_balanced (if b then (place, p.account) ∷ elided_postings (suc place) ps else elided_postings (suc place) ps) rs ≡ None
    at true rest any = refl
    at false rest any = rest any

-- what a draft leaves is what the transaction leaves
pub is_balanced_by : (ties : TieRule) (facts : Facts) (t : TransactionOf) (draft : Draft) → DraftsAll ties facts t draft
    → not_balanced (elided_postings 1 t.postings) draft.residuals ≡ None → IsBalanced ties facts t
is_balanced_by ties facts t draft drafts balanced = record {
  booked = drafts.booked;
  books = drafts.all;
  balanced = subst (λ rs. not_balanced (elided_postings 1 t.postings) rs ≡ None) drafts.is.residuals balanced;
}

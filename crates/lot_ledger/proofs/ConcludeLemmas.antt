-- The last conditions of a transaction, as they are looked at.
use Rattle.std.proofs.Common.{◌≡◌, ◌++◌, ◌∷◌, [], ℕ, List, Option, None, Some, refl, sym, ap, subst, ◌∙◌, ℤ}
use Rattle.std.specs.Option.{option_or}
use Rattle.lot_command.specs.declared.transaction.Posting.{Posting}
use Rattle.lot_command.specs.declared.transaction.Transaction.{Transaction as TransactionOf}
use Rattle.lot_book.specs.declared.leg.Leg.{Leg}
use Rattle.lot_book.specs.declared.refusal.Refusal.{Refusal}
use Rattle.lot_command.specs.declared.command.Command.{Command}
use Rattle.lot_command.specs.declared.command.Command.TheVariants.{Transaction}
use Rattle.lot_book.specs.declared.change.Change.{Change}
use Rattle.lot_posting.specs.declared.draft.Draft.{Draft}
use Rattle.lot_book.specs.declared.refusal.Stop.{Stop}
use Rattle.lot_book.specs.declared.refusal.Stop.TheVariants.{Refused, Memory}
use Rattle.lot_book.specs.Booking.{All, TieRule}
use Rattle.lot_ledger.specs.declared.decision.Outcome.TheVariants as decided
use Rattle.lot_ledger.specs.Decide.{Accepts, Comes, DraftsAll, StopsJudging, conditions_on, legs_with_fill, residual_conditions}
use Rattle.lot_book.specs.Facts.{Facts}
use Rattle.lot_book.specs.Refusals.{Stops, book_full, too_many_lots}
use Rattle.lot_book.specs.Step.{Accept, DecidesByUnder, DecidesUnder, JudgesTransactionUnder, JudgesUnder, Refuse, accept_unless, all_legs, first_conditions, first_of, last_conditions}

option_or-assoc : {X : Type 0} (a b c : Option X) → option_or (option_or a b) c ≡ option_or a (option_or b c)
option_or-assoc None b c = refl
option_or-assoc (Some x) b c = refl

pub first_of-append : (xs ys : List (Option Refusal)) → first_of (xs ++ ys) ≡ option_or (first_of xs) (first_of ys)
first_of-append [] ys = refl
first_of-append (x ∷ xs) ys = ap (option_or x) (first_of-append xs ys) ∙ sym (option_or-assoc x (first_of xs) (first_of ys))

-- the conditions on what is left over go first
pub first_left_over : (facts : Facts) (t : TransactionOf) (legs : List Leg) (rs : List (List ℕ × ℤ)) (refusal : Refusal)
    → first_of (residual_conditions facts t legs rs) ≡ Some refusal → first_of (conditions_on facts t legs rs) ≡ Some refusal
first_left_over facts t legs rs refusal is =
    let others = too_many_lots facts (legs_with_fill facts t legs rs) t.postings ∷ book_full facts ∷ [] in
    first_of-append (residual_conditions facts t legs rs) others ∙ ap (λ found. option_or found (first_of others)) is

-- where none of them holds, the others decide
pub then_lots : (facts : Facts) (t : TransactionOf) (legs now : List Leg) (rs : List (List ℕ × ℤ))
    → first_of (residual_conditions facts t legs rs) ≡ None → now ≡ legs_with_fill facts t legs rs
    → first_of (conditions_on facts t legs rs) ≡ option_or (too_many_lots facts now t.postings) (option_or (book_full facts) None)
then_lots facts t legs now rs none is =
    let others = too_many_lots facts (legs_with_fill facts t legs rs) t.postings ∷ book_full facts ∷ [] in
    first_of-append (residual_conditions facts t legs rs) others
    ∙ ap (λ found. option_or found (first_of others)) none
    ∙ ap (λ ls. option_or (too_many_lots facts ls t.postings) (option_or (book_full facts) None)) (sym is)

-- where no lots and no entries are too many either, none of the conditions holds
pub none_holds : (facts : Facts) (t : TransactionOf) (legs now : List Leg) (rs : List (List ℕ × ℤ)) (items : List Posting)
    → first_of (residual_conditions facts t legs rs) ≡ None → now ≡ legs_with_fill facts t legs rs → items ≡ t.postings
    → too_many_lots facts now items ≡ None → book_full facts ≡ None → first_of (conditions_on facts t legs rs) ≡ None
none_holds facts t legs now rs items none is same few room =
    then_lots facts t legs now rs none is
    ∙ ap (λ found. option_or found (option_or (book_full facts) None)) (ap (too_many_lots facts now) (sym same) ∙ few)
    ∙ ap (λ found. option_or found None) room

-- what the last conditions come to is what becomes of a transaction whose postings with amounts are booked
pub judged_last : (ties : TieRule) (facts : Facts) (t : TransactionOf) (draft : Draft) (found : Stop) → first_of (first_conditions facts t) ≡ None → DraftsAll ties facts t draft
    → Stops (first_of (conditions_on facts t draft.tally.legs draft.residuals)) found → StopsJudging ties facts (Transaction t) found
judged_last ties facts t draft (Refused refusal) none drafts is =
    let same : first_of (conditions_on facts t draft.tally.legs draft.residuals) ≡ first_of (last_conditions facts t drafts.booked) =
    λ i. first_of (conditions_on facts t (drafts.is.legs i) (drafts.is.residuals i)) in
    subst (λ (first : Option Refusal). JudgesTransactionUnder ties facts t first (Refuse refusal)) (sym none)
    (All drafts.booked, drafts.all, ap (λ found. accept_unless found (all_legs facts t drafts.booked)) (sym is ∙ same))
judged_last ties facts t draft Memory none drafts is = tt

-- ---- a command whose key is new

pub refused_new : (ties : TieRule) (facts : Facts) (command kind : Command) (refusal : Refusal) → facts.text ≡ None → command ≡ kind
    → JudgesUnder ties facts kind (Refuse refusal) → DecidesUnder ties facts command (Refuse refusal)
refused_new ties facts command kind refusal none is judged =
    subst (λ (text : Option (List ℕ)). DecidesByUnder ties text facts command (Refuse refusal)) (sym none)
    (subst (λ (c : Command). JudgesUnder ties facts c (Refuse refusal)) (sym is) judged)

pub accepted_new : (ties : TieRule) (facts : Facts) (command kind : Command) (change given : Change) → facts.text ≡ None → command ≡ kind → change ≡ given
    → Accepts ties facts kind given → Comes ties facts command (decided.Accept change)
accepted_new ties facts command kind change given none is same accepts =
    let now : Accepts ties facts command change = subst (λ (c : Command). Accepts ties facts c change) (sym is) (subst (Accepts ties facts kind) (sym same) accepts) in
    (subst (λ (text : Option (List ℕ)). DecidesByUnder ties text facts command (Accept change.legs)) (sym none) now.judged, now.lists)

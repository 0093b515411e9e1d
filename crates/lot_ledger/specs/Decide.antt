-- What deciding a command gives beside its outcome, however ties between lots are decided.
use Rattle.std.specs.Prelude.{◌≡◌, ◌≢◌, ◌⊎◌, ℕ, suc, Bool, true, is_some, if◌then◌else◌, List, [], ◌∷◌, ◌++◌, Option, None, Some, ℤ, ⊤}
use Rattle.std.specs.List.{list_any}
use Rattle.lot_command.specs.declared.command.Command.{Command}
use Rattle.lot_command.specs.declared.command.Command.TheVariants.{Opening, Closing, Declaring, Quoting, Transaction}
use Rattle.lot_command.specs.declared.transaction.Posting.{Posting}
use Rattle.lot_command.specs.declared.transaction.Transaction.{Transaction as TransactionOf}
use Rattle.lot_command.specs.declared.transaction.Amount.{Amount}
use Rattle.lot_book.specs.declared.leg.Leg.{Leg}
use Rattle.lot_book.specs.declared.standing.Standing.{Standing}
use Rattle.lot_book.specs.Leg.{leg_at}
use Rattle.lot_book.specs.declared.refusal.Refusal.{Refusal}
use Rattle.lot_book.specs.Refusals.{bars, book_full, fill_not_allowed, fill_out_of_range, first_currency, inexact_fill, not_balanced, too_many_lots}
use Rattle.lot_book.specs.declared.change.Change.{Change}
use Rattle.lot_ledger.specs.declared.decision.Outcome.{Outcome as Decided}
use Rattle.lot_ledger.specs.declared.decision.Outcome.TheVariants as decided
use Rattle.lot_posting.specs.declared.draft.Draft.{Draft}
use Rattle.lot_book.specs.declared.refusal.Stop.{Stop}
use Rattle.lot_book.specs.declared.refusal.Stop.TheVariants.{Refused, Memory}
use Rattle.lot_book.specs.Balance.{elided_postings, fill_of, left_over, residuals, weights_in}
use Rattle.lot_book.specs.Booking.{All, Booked, BooksAllUnder, Stopped, TieRule, legs_in, line_under}
use Rattle.lot_book.specs.Change.{IsAcceptedUnder, ListsUnder}
use Rattle.lot_book.specs.Facts.{Facts}
use Rattle.lot_posting.specs.Posting.{Books, MayLackMemory as PostingMayLackMemory, StopsPosting, StoresFor}
use Rattle.lot_book.specs.Sale.{sales_in}
use Rattle.lot_book.specs.Step.{first_conditions, first_of}
use Rattle.lot_book.specs.Step.{Accept, DecidesUnder, JudgesUnder, Refuse, Repeat}

-- a command whose key is new is accepted with the change
pub record Accepts (ties : TieRule) (facts : Facts) (command : Command) (change : Change) : Type 0 where
  pub judged : JudgesUnder ties facts command (Accept change.legs)
  pub lists : ListsUnder ties facts command change

-- the outcome that is decided is that of the step
abbrev pub Comes : TieRule → Facts → Command → Decided → Type 0
Comes ties facts command (decided.Accept change) = IsAcceptedUnder ties facts command change
Comes ties facts command decided.Repeat = DecidesUnder ties facts command Repeat

-- deciding stops at the refusal of the step, or out of memory, of which the clause `memory` says where
abbrev pub StopsStep : TieRule → Facts → Command → Stop → Type 0
StopsStep ties facts command (Refused refusal) = DecidesUnder ties facts command (Refuse refusal)
StopsStep ties facts command Memory = ⊤

-- the same of a command whose key is new
abbrev pub StopsJudging : TieRule → Facts → Command → Stop → Type 0
StopsJudging ties facts command (Refused refusal) = JudgesUnder ties facts command (Refuse refusal)
StopsJudging ties facts command Memory = ⊤

-- ---- the postings with amounts

-- a draft is that of the postings that are booked
pub record IsDraft (facts : Facts) (day : ℤ) (draft : Draft) (booked : List Booked) : Type 0 where
  pub legs : draft.tally.legs ≡ legs_in booked
  pub residuals : draft.residuals ≡ residuals (weights_in booked)
  pub sales : draft.sales ≡ sales_in day booked

-- all postings with amounts of a transaction are booked, as the draft has it
pub record DraftsAll (ties : TieRule) (facts : Facts) (t : TransactionOf) (draft : Draft) : Type 0 where
  pub booked : List Booked
  pub all : BooksAllUnder ties facts t.day [] 1 t.postings (All booked)
  pub is : IsDraft facts t.day draft booked

-- booking them stops at the refusal of the first that isn't booked, or out of memory, of which the clause `memory` says where
abbrev pub StopsBooking : TieRule → Facts → TransactionOf → Stop → Type 0
StopsBooking ties facts t (Refused refusal) = BooksAllUnder ties facts t.day [] 1 t.postings (Stopped refusal)
StopsBooking ties facts t Memory = ⊤

-- a posting is booked, or has no amount and leaves the draft
abbrev pub BooksNext : TieRule → Facts → ℤ → ℕ → List ℕ → Option Amount → Draft → Draft → Type 0
BooksNext ties facts day place account None old new = new ≡ old
BooksNext ties facts day place account (Some amount) old new = Books ties facts day place account amount old new

-- it stops at its refusal, or out of memory
abbrev pub StopsNext : TieRule → Facts → ℤ → ℕ → List ℕ → Option Amount → Draft → Stop → Type 0
StopsNext ties facts day place account None old stop = ⊥
StopsNext ties facts day place account (Some amount) old stop =
    StopsPosting (line_under ties facts day old.tally.legs place account amount) stop

-- ---- the fill

-- the first currency of fills that an account doesn't allow
abbrev pub first_barred : Option Standing → List (List ℕ × ℤ) → Option (List ℕ)
first_barred standing fills = first_currency (λ (fill : List ℕ × ℤ). bars standing fill.0) fills

-- plain legs of so many units in each currency, numbered on from a place
abbrev pub filled : ℕ → ℕ → List ℕ → ℕ → List (List ℕ × ℤ) → List Leg
filled entry posting account place [] = []
filled entry posting account place (fill ∷ fills) =
    leg_at entry posting place account fill.0 None fill.1 ∷ filled entry posting account (suc place) fills

-- an amount with braces
abbrev pub amount_at_cost : Option Amount → Option Amount
amount_at_cost None = None
amount_at_cost (Some amount) = if is_some amount.cost then Some amount else None

-- ---- the checks of a transaction, as they are made

-- the elided posting of a transaction, if it has one
abbrev pub IsElided : Option (ℕ × List ℕ) → TransactionOf → Type 0
IsElided None t = elided_postings 1 t.postings ≡ []
IsElided (Some elided) t = elided_postings 1 t.postings ≡ elided ∷ []

-- the legs of the postings with amounts, with those of the fill
abbrev pub legs_with_fill : Facts → TransactionOf → List Leg → List (List ℕ × ℤ) → List Leg
legs_with_fill facts t legs rs = legs ++ fill_of (suc facts.entries) (elided_postings 1 t.postings) rs

-- the conditions on what is left over
abbrev pub residual_conditions : Facts → TransactionOf → List Leg → List (List ℕ × ℤ) → List (Option Refusal)
residual_conditions facts t legs rs =
    inexact_fill (elided_postings 1 t.postings) rs
    ∷ fill_not_allowed facts (elided_postings 1 t.postings) rs
    ∷ fill_out_of_range facts (elided_postings 1 t.postings) legs (fill_of (suc facts.entries) (elided_postings 1 t.postings) rs)
    ∷ not_balanced (elided_postings 1 t.postings) rs
    ∷ []

-- the last conditions of a transaction, on the legs and the residuals of its postings with amounts
abbrev pub conditions_on : Facts → TransactionOf → List Leg → List (List ℕ × ℤ) → List (Option Refusal)
conditions_on facts t legs rs =
    residual_conditions facts t legs rs
    ++ too_many_lots facts (legs_with_fill facts t legs rs) t.postings
    ∷ book_full facts
    ∷ []

-- ---- where memory may lack

-- legs are stored for a posting at that place on no legs so far, or, where it has no amount, the others decide
abbrev pub StoresAt : TieRule → Facts → ℤ → ℕ → List ℕ → Option Amount → Type 0 → Type 0
StoresAt ties facts day place account None Others = Others
StoresAt ties facts day place account (Some amount) Others =
    StoresFor (line_under ties facts day [] place account amount) amount.cost

-- legs are stored for the first posting with an amount, of those from that place on
abbrev pub StoresFirst : TieRule → Facts → ℤ → ℕ → List Posting → Type 0
StoresFirst ties facts day place [] = ⊥
StoresFirst ties facts day place (posting ∷ postings) =
    StoresAt ties facts day place posting.account posting.amount (StoresFirst ties facts day (suc place) postings)

-- judging a command whose key is new may lack memory: it is a transaction, none of the first conditions holds, and legs are
-- stored for its first posting with an amount
abbrev pub JudgingMayLackMemory : TieRule → Facts → Command → Type 0
JudgingMayLackMemory ties facts (Opening o) = ⊥
JudgingMayLackMemory ties facts (Closing c) = ⊥
JudgingMayLackMemory ties facts (Declaring d) = ⊥
JudgingMayLackMemory ties facts (Quoting q) = ⊥
JudgingMayLackMemory ties facts (Transaction t) =
    (first_of (first_conditions facts t) ≡ None) × StoresFirst ties facts t.day 1 t.postings

-- so may deciding a command, also for its text where one stands under its key
abbrev pub MayLackMemory : TieRule → Facts → Command → Type 0
MayLackMemory ties facts command = (facts.text ≢ None) ⊎ JudgingMayLackMemory ties facts command

-- booking a posting may lack memory, if it has an amount
abbrev pub NextMayLackMemory : TieRule → Facts → ℤ → ℕ → List ℕ → Option Amount → Draft → Type 0
NextMayLackMemory ties facts day place account None old = ⊥
NextMayLackMemory ties facts day place account (Some amount) old =
    PostingMayLackMemory old.tally.legs (line_under ties facts day old.tally.legs place account amount)

-- taking up the residuals may lack memory: for the fill, where each residual is that of units, the account allows each that
-- isn't zero, and there is one. Without an elided posting it never does.
abbrev pub FillMayLackMemory : Facts → List (ℕ × List ℕ) → List (List ℕ × ℤ) → Type 0
FillMayLackMemory facts [] rs = ⊥
FillMayLackMemory facts (elided ∷ more) rs =
    (inexact_fill (elided ∷ more) rs ≡ None)
    × (fill_not_allowed facts (elided ∷ more) rs ≡ None)
    × (left_over rs ≢ [])

-- whether some posting has braces
abbrev pub has_braces : List Posting → Bool
has_braces postings = list_any (λ (p : Posting). is_some (amount_at_cost p.amount)) postings

-- so may what follows the postings with amounts, also for the days at cost where no condition holds
abbrev pub EndMayLackMemory : Facts → TransactionOf → List Leg → List (List ℕ × ℤ) → Type 0
EndMayLackMemory facts t legs rs =
    FillMayLackMemory facts (elided_postings 1 t.postings) rs
    ⊎ ((first_of (conditions_on facts t legs rs) ≡ None) × (has_braces t.postings ≡ true))

-- What becomes of a command: it is accepted with its legs, it repeats an entry, or it is refused by the first refusal whose
-- condition holds (docs/RULES.md, Order of refusals).
use Rattle.std.specs.Prelude.{◌≡◌, ℕ, suc, if◌then◌else◌, List, [], ◌∷◌, ◌++◌, Option, None, Some}
use Rattle.std.specs.Option.{option_or}
use Rattle.lot_base.specs.Text.{same_text}
use Rattle.lot_command.specs.Canonical.{canonical}
use Rattle.lot_command.specs.declared.command.Command.{Command}
use Rattle.lot_command.specs.declared.command.Command.TheVariants.{Opening, Closing, Declaring, Quoting, Transaction}
use Rattle.lot_command.specs.declared.key.Key.{Key}
use Rattle.lot_command.specs.declared.transaction.Transaction.{Transaction as TransactionOf}
use Rattle.lot_book.specs.declared.leg.Leg.{Leg}
use Rattle.lot_book.specs.declared.refusal.Refusal.{Refusal}
use Rattle.lot_book.specs.declared.refusal.Refusal.TheVariants.{KeyReused}
use Rattle.lot_book.specs.Balance.{elided_postings, fill_of, residuals, weights_in}
use Rattle.lot_book.specs.Booking.{All, Booked, Bookings, BooksAllUnder, Stopped, TieRule, legs_in}
use Rattle.lot_book.specs.Edition.{Edition, Second, ties_in}
use Rattle.lot_book.specs.Facts.{Entry, Facts, facts_of}
use Rattle.lot_book.specs.Refusals.{already_declared, already_open, back_dated, book_full, closed, closing_again, closing_too_early, closing_unknown, currency_not_allowed, fill_not_allowed, fill_out_of_range, inexact_fill, not_balanced, not_open_yet, too_many_lots, too_many_postings, two_elided, unknown_account}

-- what a command comes to on a book
pub data Outcome : Type 0 where
  Accept : List Leg → Outcome
  Repeat : Outcome
  Refuse : Refusal → Outcome

-- the first refusal whose condition holds
abbrev pub first_of : List (Option Refusal) → Option Refusal
first_of [] = None
first_of (condition ∷ conditions) = option_or condition (first_of conditions)

-- refused by the first condition that holds, else accepted with the legs
abbrev pub accept_unless : Option Refusal → List Leg → Outcome
accept_unless None legs = Accept legs
accept_unless (Some refusal) legs = Refuse refusal

-- ---- transactions

-- the conditions that are looked at before a transaction is booked
abbrev pub first_conditions : Facts → TransactionOf → List (Option Refusal)
first_conditions facts t =
    unknown_account facts t.postings
    ∷ not_open_yet facts t.day t.postings
    ∷ closed facts t.day t.postings
    ∷ currency_not_allowed facts t.postings
    ∷ too_many_postings t.postings
    ∷ two_elided (elided_postings 1 t.postings)
    ∷ back_dated facts t.day t.postings
    ∷ []

-- the legs of the elided posting, once the postings with amounts are booked
abbrev pub fill_legs : Facts → TransactionOf → List Booked → List Leg
fill_legs facts t booked = fill_of (suc facts.entries) (elided_postings 1 t.postings) (residuals (weights_in booked))

-- all legs
abbrev pub all_legs : Facts → TransactionOf → List Booked → List Leg
all_legs facts t booked = legs_in booked ++ fill_legs facts t booked

-- the conditions that are looked at once the postings with amounts are booked
abbrev pub last_conditions : Facts → TransactionOf → List Booked → List (Option Refusal)
last_conditions facts t booked =
    inexact_fill (elided_postings 1 t.postings) (residuals (weights_in booked))
    ∷ fill_not_allowed facts (elided_postings 1 t.postings) (residuals (weights_in booked))
    ∷ fill_out_of_range facts (elided_postings 1 t.postings) (legs_in booked) (fill_legs facts t booked)
    ∷ not_balanced (elided_postings 1 t.postings) (residuals (weights_in booked))
    ∷ too_many_lots facts (all_legs facts t booked) t.postings
    ∷ book_full facts
    ∷ []

abbrev pub concluded : Facts → TransactionOf → Bookings → Outcome
concluded facts t (Stopped refusal) = Refuse refusal
concluded facts t (All booked) = accept_unless (first_of (last_conditions facts t booked)) (all_legs facts t booked)

abbrev pub JudgesTransactionUnder : TieRule → Facts → TransactionOf → Option Refusal → Outcome → Type 0
JudgesTransactionUnder ties facts t (Some refusal) outcome = outcome ≡ Refuse refusal
JudgesTransactionUnder ties facts t None outcome =
    (bookings : Bookings) × BooksAllUnder ties facts t.day [] 1 t.postings bookings × (outcome ≡ concluded facts t bookings)

-- ---- all commands, however ties are decided

-- a command whose key is new
abbrev pub JudgesUnder : TieRule → Facts → Command → Outcome → Type 0
JudgesUnder ties facts (Opening o) outcome =
    outcome ≡ accept_unless (first_of (already_open facts o.account ∷ book_full facts ∷ [])) []
JudgesUnder ties facts (Closing c) outcome =
    outcome ≡ accept_unless (first_of (closing_unknown facts c.account ∷ closing_too_early facts c.account c.day
    ∷ closing_again facts c.account ∷ book_full facts ∷ [])) []
JudgesUnder ties facts (Declaring d) outcome =
    outcome ≡ accept_unless (first_of (already_declared facts d.commodity ∷ book_full facts ∷ [])) []
JudgesUnder ties facts (Quoting q) outcome = outcome ≡ accept_unless (first_of (book_full facts ∷ [])) []
JudgesUnder ties facts (Transaction t) outcome = JudgesTransactionUnder ties facts t (first_of (first_conditions facts t)) outcome

-- a command, by the text that stands under its key
abbrev pub DecidesByUnder : TieRule → Option (List ℕ) → Facts → Command → Outcome → Type 0
DecidesByUnder ties None facts command outcome = JudgesUnder ties facts command outcome
DecidesByUnder ties (Some text) facts command outcome =
    outcome ≡ if same_text text (canonical command) then Repeat else Refuse KeyReused

-- what a command comes to on what a book says
abbrev pub DecidesUnder : TieRule → Facts → Command → Outcome → Type 0
DecidesUnder ties facts command outcome = DecidesByUnder ties facts.text facts command outcome

-- what a command with that key comes to on a book, by an edition
abbrev pub StepIn : Edition → List Entry → Key → Command → Outcome → Type 0
StepIn edition book key command outcome = DecidesUnder (ties_in edition book) (facts_of book key) command outcome

-- the same by edition 2
abbrev pub Step : List Entry → Key → Command → Outcome → Type 0
Step book key command outcome = StepIn Second book key command outcome

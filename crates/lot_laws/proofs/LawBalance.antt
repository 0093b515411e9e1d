-- The transactions of a book balance.
use Rattle.std.specs.Prelude.{◌≡◌, List, [], ◌∷◌, ◌++◌, Option, None, Some}
use Rattle.std.proofs.Common.{refl}
use Rattle.lot_command.specs.declared.command.Command.{Command}
use Rattle.lot_command.specs.declared.command.Command.TheVariants.{Opening, Closing, Declaring, Quoting, Transaction}
use Rattle.lot_command.specs.declared.key.Key.{Key}
use Rattle.lot_command.specs.declared.transaction.Transaction.{Transaction as TransactionOf}
use Rattle.lot_book.specs.declared.leg.Leg.{Leg}
use Rattle.lot_book.specs.declared.refusal.Refusal.{Refusal}
use Rattle.lot_book.specs.Book.{IsBookIn, entry_of}
use Rattle.lot_book.specs.Booking.{All, Booked, Bookings, BooksAllUnder, Stopped, TieRule}
use Rattle.lot_book.specs.Edition.{Edition, Migration, edition_on, ties_in}
use Rattle.lot_book.specs.Facts.{Entry, Facts, facts_of}
use Rattle.lot_laws.specs.Laws.{BooksCommand, IsBalanced}
use Rattle.lot_book.specs.Step.{Accept, JudgesTransactionUnder, StepIn, all_legs, concluded, first_conditions, first_of, last_conditions}
use Rattle.lot_laws.proofs.BalanceLaw.{unrefused_balances}
use Rattle.lot_laws.proofs.LawBooks.{accepted, continued, none_holds}

-- the legs are those of a transaction whose postings are booked, and then no condition holds
pub record IsUnrefused (ties : TieRule) (facts : Facts) (t : TransactionOf) (legs : List Leg) : Type 0 where
  pub booked : List Booked
  pub books : BooksAllUnder ties facts t.day [] 1 t.postings (All booked)
  pub all : legs ≡ all_legs facts t booked
  pub none : first_of (last_conditions facts t booked) ≡ None

unrefused_by : (ties : TieRule) (facts : Facts) (t : TransactionOf) (legs : List Leg) (bookings : Bookings) → BooksAllUnder ties facts t.day [] 1 t.postings bookings
    → Accept legs ≡ concluded facts t bookings → IsUnrefused ties facts t legs
unrefused_by ties facts t legs (Stopped refusal) books e = absurd cc
unrefused_by ties facts t legs (All booked) books e =
    let none = none_holds (first_of (last_conditions facts t booked)) legs (all_legs facts t booked) e in
    record { booked = booked; books = books; all = none.1; none = none.0 }

unrefused_unless : (ties : TieRule) (condition : Option Refusal) (facts : Facts) (t : TransactionOf) (legs : List Leg)
    → JudgesTransactionUnder ties facts t condition (Accept legs) → IsUnrefused ties facts t legs
unrefused_unless ties None facts t legs h = unrefused_by ties facts t legs h.0 h.1 h.2
unrefused_unless ties (Some refusal) facts t legs h = absurd cc

pub accepted_unrefused : (edition : Edition) (book : List Entry) (key : Key) (t : TransactionOf) (legs : List Leg)
    → StepIn edition book key (Transaction t) (Accept legs) → IsUnrefused (ties_in edition book) (facts_of book key) t legs
accepted_unrefused edition book key t legs h =
    let facts = facts_of book key in
    unrefused_unless (ties_in edition book) (first_of (first_conditions facts t)) facts t legs
    (accepted edition book key (Transaction t) legs h).1

pub accepted_balances : (edition : Edition) (book : List Entry) (key : Key) (t : TransactionOf) (legs : List Leg)
    → StepIn edition book key (Transaction t) (Accept legs) → IsBalanced (ties_in edition book) (facts_of book key) t legs
accepted_balances edition book key t legs h =
    let is = accepted_unrefused edition book key t legs h in record {
      booked = is.booked;
      books = is.books;
      all = is.all;
      balances = λ currency. unrefused_balances (facts_of book key) t is.booked currency is.none;
    }

pub book_balances : (migration : Migration) (before more : List Entry) (key : Key) (t : TransactionOf) (legs : List Leg)
    → IsBookIn migration (before ++ entry_of key (Transaction t) legs ∷ more)
    → IsBalanced (ties_in (edition_on migration before) before) (facts_of before key) t legs
book_balances migration before more key t legs h =
    accepted_balances (edition_on migration before) before key t legs
    (continued migration [] before (entry_of key (Transaction t) legs ∷ more) h).0

-- what is booked of an accepted command
pub command_booked : (edition : Edition) (book : List Entry) (key : Key) (command : Command) (legs : List Leg)
    → StepIn edition book key command (Accept legs)
    → (booked : List Booked) × BooksCommand (ties_in edition book) (facts_of book key) command legs booked
command_booked edition book key (Opening o) legs h = ([], ((none_holds _ legs [] (accepted edition book key (Opening o) legs h).1).1, refl))
command_booked edition book key (Closing c) legs h = ([], ((none_holds _ legs [] (accepted edition book key (Closing c) legs h).1).1, refl))
command_booked edition book key (Declaring d) legs h = ([], ((none_holds _ legs [] (accepted edition book key (Declaring d) legs h).1).1, refl))
command_booked edition book key (Quoting q) legs h = ([], ((none_holds _ legs [] (accepted edition book key (Quoting q) legs h).1).1, refl))
command_booked edition book key (Transaction t) legs h =
    let is = accepted_balances edition book key t legs h in (is.booked, (is.all, is.books))

-- A book has one list of sales, by the editions that judged its entries.
use Rattle.std.specs.Prelude.{◌≡◌, ℕ, suc, List, [], length}
use Rattle.std.proofs.Common.{sym, ap, ◌∙◌}
use Rattle.lot_command.specs.declared.command.Command.{Command}
use Rattle.lot_command.specs.declared.command.Command.TheVariants.{Opening, Closing, Declaring, Quoting, Transaction}
use Rattle.lot_book.specs.Booking.{All, Booked, TieRule}
use Rattle.lot_book.specs.Edition.{Migration, edition_on, ties_in}
use Rattle.lot_book.specs.Facts.{Entry, Facts, facts_of}
use Rattle.lot_book.specs.Sale.{SaleParts, AreSalesUnder, sales_in}
use Rattle.lot_laws.proofs.CollectLemmas.{one_collected}
use Rattle.lot_laws.proofs.StepLemmas.{books_one}
use Rattle.lot_stored.specs.Kept.{AreSalesOfEntry, SalesOf, numbered}

pub all_booked : (a b : List Booked) → All a ≡ All b → a ≡ b
all_booked a b e = cc

one_own : (ties : TieRule) (facts : Facts) (command : Command) (a b : List (ℕ × SaleParts))
    → AreSalesUnder ties facts command a → AreSalesUnder ties facts command b → a ≡ b
one_own ties facts (Opening o) a b is other = is ∙ sym other
one_own ties facts (Closing c) a b is other = is ∙ sym other
one_own ties facts (Declaring d) a b is other = is ∙ sym other
one_own ties facts (Quoting q) a b is other = is ∙ sym other
one_own ties facts (Transaction t) a b is other =
    is.2
    ∙ ap (sales_in t.day) (all_booked is.0 other.0 (books_one ties facts t.day [] 1 t.postings (All is.0) (All other.0) is.1 other.1))
    ∙ sym other.2

one_of_entry : (migration : Migration) (before : List Entry) (entry : Entry) (a b : List (ℕ × (ℕ × SaleParts)))
    → AreSalesOfEntry migration before entry a → AreSalesOfEntry migration before entry b → a ≡ b
one_of_entry migration before entry a b is other =
    is.2
    ∙ ap (numbered (suc (length before))) (one_own (ties_in (edition_on migration before) before) (facts_of before entry.key) entry.command is.0 other.0 is.1 other.1)
    ∙ sym other.2

pub one_sales : (migration : Migration) (entries : List Entry) (a b : List (ℕ × (ℕ × SaleParts))) → SalesOf migration entries a → SalesOf migration entries b → a ≡ b
one_sales migration entries a b is other = one_collected (AreSalesOfEntry migration) (one_of_entry migration) [] entries a b is other

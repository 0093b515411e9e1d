-- What a call tells of the book that the tables stand for.
use Rattle.std.specs.Prelude.{List, Result}
use Rattle.sqlite.specs.State.{State}
use Rattle.lot_book.specs.Book.{IsBook}
use Rattle.lot_book.specs.Facts.{Entry, Facts}
use Rattle.lot_book.specs.Openings.{FactsWithOpenings}
use Rattle.lot_stored.specs.StandFor.{AreOfBook, StandFor}
use Rattle.lot_load.specs.Known.{Learns, said_by}
use Rattle.lot_rows.specs.Tables.{Tables, layout}
use Rattle.lot_table.specs.Book.{always}
use Rattle.lot_table.specs.Call.{Answers}
use Rattle.lot_table.specs.declared.fault.Fault.{Fault}

-- this of each book that the tables stand for
abbrev pub OfBook : (List Entry → Type 0) → Tables → Type 0
OfBook says tables = (entries : List Entry) → IsBook entries → StandFor tables entries → says entries

-- The answer is what `says` tells of the book. The call finds damage only where the tables stand for no book.
abbrev pub Tells : {R : Type 0} → (R → List Entry → Type 0) → State → State → Result R Fault → Type 0
Tells {R} says = Answers layout (λ (answer : R) tables. OfBook (says answer) tables) always AreOfBook

-- more is known of the book, and now this too
abbrev pub Teaches : {R : Type 0} → (Facts → Facts → Type 0) → FactsWithOpenings → FactsWithOpenings → State → State → Result R Fault → Type 0
Teaches {R} Knows before after = Tells (λ (answer : R) entries. Learns Knows (said_by entries) before after)

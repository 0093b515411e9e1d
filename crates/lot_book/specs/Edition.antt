-- The editions, and which of them judged an entry (docs/PROMISES.md, Migration).
use Rattle.std.specs.Prelude.{ℕ, nat_lt, if◌then◌else◌, List, ◌++◌, length}
pub use Rattle.lot_booking.specs.declared.edition.Edition.{Edition}
pub use Rattle.lot_booking.specs.declared.edition.Edition.TheVariants.{First, Second}
use Rattle.lot_booking.specs.Method.{ByOpening}
use Rattle.lot_book.specs.Booking.{TieRule, all_by_key}
use Rattle.lot_book.specs.Facts.{Entry, legs_of}
use Rattle.lot_book.specs.OpeningNumber.{opening_in}

abbrev pub edition_number : Edition → ℕ
edition_number First = 1
edition_number Second = 2

-- how an edition decides ties on a book: edition 2 by the opening numbers over the legs of the book and the legs so far of
-- the transaction
abbrev pub ties_in : Edition → List Entry → TieRule
ties_in First book = all_by_key
ties_in Second book = λ before account commodity. ByOpening (opening_in (legs_of book ++ before) account commodity)

-- The migration of a book: not yet, for a book of edition 1; after so many entries, for a book of edition 2. That number is
-- its place of migration, which is 0 where the book was made in edition 2.
pub data Migration : Type 0 where
  NotYet : Migration
  After : ℕ → Migration

-- the edition that judges on a book: of a migrated one the first for as many entries as the migration found, then the second
abbrev pub edition_on : Migration → List Entry → Edition
edition_on NotYet book = First
edition_on (After place) book = if nat_lt (length book) place then First else Second

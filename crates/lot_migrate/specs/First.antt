-- Tables of edition 1 stand for a book (docs/FORMATS.md, Tables).
use Rattle.std.specs.Prelude.{◌≡◌, ℤ, pos, List, [], ◌∷◌, length}
use Rattle.sqlite.specs.State.{State}
use Rattle.lot_book.specs.Book.{IsBookIn}
use Rattle.lot_book.specs.Edition.{NotYet}
use Rattle.lot_book.specs.Facts.{Entry}
use Rattle.lot_rows.specs.Tables.{HasFirst, Tables}
use Rattle.lot_stored.specs.Rows.{marked}
use Rattle.lot_stored.specs.StandFor.{StandFor}

abbrev pub first_edition : ℤ
first_edition = pos 1

-- The tables of edition 1 stand for a book whose entries were judged by edition 1. They are those of edition 2 for the
-- same entries, all of which stand before the place of migration, but for the edition and without the two later tables.
pub record StandForFirst (tables : Tables) (entries : List Entry) : Type 0 where
  pub book : tables.book ≡ marked first_edition ∷ []
  pub judged : IsBookIn NotYet entries
  pub later : Tables
  pub stands : StandFor later entries
  pub place : stands.place ≡ length entries
  pub same : tables ≡ record later { book = tables.book; opening = []; migration = [] }

-- a database with the tables of edition 1 alone, which stand for this book
pub record StandsFirst (s : State) (entries : List Entry) : Type 0 where
  pub tables : Tables
  pub has : HasFirst s tables
  pub stand : StandForFirst tables entries

-- What is known of a book between commands.
use Rattle.std.specs.Prelude.{◌≡◌, IfSome, List, length, Option}
use Rattle.lot_book.specs.Facts.{Entry, Facts}
use Rattle.lot_book.specs.Openings.{FactsWithOpenings}
use Rattle.lot_book.specs.Recorded.{facts_in}
use Rattle.lot_load.specs.Known.{IsPart, KnowsOpenings, KnowsTouched, said_by}
use Rattle.lot_load.specs.declared.kept.Kept.{Kept}
use Rattle.lot_view.specs.View.{known, known_with_openings}
use Rattle.lot_view.specs.declared.touched.Touched.{Touched}

-- the facts that are known
abbrev pub seen : Kept → Facts
seen kept = known kept.view

-- the same, and the opening numbers of the lots that are held
abbrev pub seen_with_openings : Kept → FactsWithOpenings
seen_with_openings kept = known_with_openings kept.view

-- What is known is the book's: the number of its entries, nothing but what it says, and the opening number of each lot that is
-- held. Of what is known whole, all that the book says is known. The text isn't spoken of: it is that of the last command's
-- key.
pub record Keeps (kept : Kept) (entries : List Entry) : Type 0 where
  pub count : (seen kept).entries ≡ length entries
  pub part : IsPart (facts_in entries) (seen kept)
  pub openings : KnowsOpenings (said_by entries) (seen_with_openings kept)
  pub whole : KnowsTouched kept.whole (facts_in entries) (seen kept)

-- so is what is kept, if anything is
abbrev pub IsOf : Option Kept → List Entry → Type 0
IsOf kept entries = IfSome kept (λ k. Keeps k entries)

-- now this is known whole, too, and the text is what it was
pub record Covers (touched : Touched) (entries : List Entry) (before after : Kept) : Type 0 where
  pub keeps : Keeps after entries
  pub text : (seen after).text ≡ (seen before).text
  pub knows : KnowsTouched touched (facts_in entries) (seen after)

-- The table `book`.
use Rattle.std.specs.Prelude.{[], ◌∷◌, IsUtf8}
use Rattle.sqlite.specs.Order.{Row}
use Rattle.sqlite.specs.declared.types.Value.TheVariants.{Int, Text}
use Rattle.lot_rows.specs.declared.book.BookRow.{BookRow}

abbrev pub book_cells : BookRow → Row
book_cells book = Text book.mark ∷ Int book.edition ∷ []

pub record IsBookRow (book : BookRow) : Type 0 where
  pub mark : IsUtf8 book.mark

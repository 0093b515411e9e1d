-- The statements on the table `book`.
use Rattle.std.proofs.Common.{Result, ◌≡◌, negsuc, ℕ, None, List, [], ◌∷◌, map, codes, refl, ap, ◌∙◌, arith}
use Rattle.sqlite.specs.Collation.TheVariants.{Binary}
use Rattle.sqlite.specs.Listing.{understood}
use Rattle.sqlite.specs.Order.{Row}
use Rattle.sqlite.specs.State.{State, Shown}
use Rattle.sqlite.specs.Term.{Term, col, lit}
use Rattle.sqlite.specs.declared.types.Value.TheVariants.{Int, Null}
use Rattle.sqlite_tied.specs.Compute.{everything}
use Rattle.sqlite_value.specs.Keys.{ascending}
use Rattle.sqlite_value.specs.declared.keys.Key.{Key}
use Rattle.lot_table.specs.Rows.{has_key}
use Rattle.lot_table.specs.Statement.{Refused}
use Rattle.lot_table.specs.declared.fault.Fault.TheVariants.{Damaged}
use Rattle.lot_table.proofs.RefusalLemmas.{not_damaged, steady_query}
use Rattle.lot_table.proofs.ReadLemmas.{key_terms, query}
use Rattle.lot_table.proofs.WriteLemmas.{cast_int}
use Rattle.lot_rows.specs.Book.{book_cells}
use Rattle.lot_rows.specs.Tables.{Has, Tables, book_table, shapes, layout}
use Rattle.lot_rows.specs.declared.book.BookRow.{BookRow}
use Rattle.lot_table.specs.Call.{Puts, Runs}
use Rattle.lot_table.specs.declared.fault.Fault.{Fault}
use Rattle.lot_table.proofs.ShapeLemmas.{free}
use Rattle.lot_table.proofs.StatementLemmas.{IsPut, IsTable, puts}
use Rattle.lot_table.proofs.QueryLemmas.{Asks, IsQuery, every_one, selects_where}
use Rattle.sqlite_rules.proofs.ListLemmas.{has_got}

-- ---- put

abbrev put_text : List ℕ
put_text = codes "INSERT OR REPLACE INTO book (mark, edition) VALUES (?1, ?2)"

abbrev put_terms : List Term
put_terms = lit Null ∷ col 0 0 ∷ col 0 1 ∷ []

abbrev is_table : IsTable layout book_table
is_table = record {
  aligned = λ _. refl;
  held = λ _ _ h. h.0;
  is_set = λ _ _. refl;
  present = λ _. (refl, tt);
  place = 0;
  placed = refl;
  free = free shapes book_table.table (has_got layout.schema.tables 0 book_table.table refl) refl;
  uncounted = refl;
  mends = λ _. refl;
  stored = λ x. (refl, (cast_int x.edition, tt));
  judged = λ _ _. (refl, refl, refl, refl);
}

put_is : (x : BookRow) → IsPut layout book_table is_table x put_text
unfolding understood everything
put_is x = record { count = 3; terms = put_terms; means = refl; bare = (refl, refl); whole = (omega arith, refl); given = refl; typed = refl }

pub puts_row : (old new : State) (x : BookRow) {A : Type 0} (result : Result A Fault) → Runs put_text (book_cells x) old new result → Puts layout book_table x old new result
puts_row old new x = puts layout book_table is_table old new put_text x (λ _ _ _. refl) (put_is x)

-- ---- all rows

abbrev pub shows : List Term
shows = col 1 1 ∷ col 1 2 ∷ []

abbrev pub order : List (Term × Key)
order = (col 1 1, ascending Binary) ∷ []

abbrev pub names : List (List ℕ)
names = codes "mark" ∷ codes "edition" ∷ []

abbrev list_text : List ℕ
list_text = codes "SELECT mark, edition FROM book ORDER BY mark"

pub list_is : IsQuery layout.schema book_table.table.tree (key_terms 0 0) shows order names 0 list_text
unfolding understood everything
list_is = record { means = refl; unlisted = refl; bare = (refl, refl); whole = (omega arith, refl); selects = (_, refl, refl) }

list_asks : Asks layout book_table [] (has_key 0 []) list_text
list_asks = record {
  tests = (key_terms 0 0);
  shows = shows;
  order = order;
  names = names;
  is = list_is;
  picks = record { alike = λ _ _. refl; blind = λ _ _ _. refl; shown = λ _. refl; sorts = λ _ _ _. refl; typed = refl };
}

module _ (old new : State) where
  pub list_rows : (rows : List Row) → Shown list_text [] old new rows → (b : Tables) → Has old b → rows ≡ map book_cells b.book
  list_rows rows told b has = selects_where layout book_table is_table [] (has_key 0 []) list_text list_asks old new rows told b has ∙ ap (map book_cells) (every_one book_cells [] b.book)

  pub list_refused : Refused list_text [] old new Damaged → old.step_limit ≡ None → (b : Tables) → Has old b → ⊥
  list_refused refused unlimited b has =
      not_damaged list_text [] old new layout.schema has.0 list_is.bare list_is.whole (query book_table.table.tree [] shows order) names list_is.means list_is.unlisted refl (steady_query book_table.table.tree [] shows order (lit (Int (negsuc 0))) []) unlimited refused

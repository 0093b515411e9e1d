-- What is told of a database with the tables of edition 1 alone, by the question for its edition.
use Rattle.std.proofs.Common.{◌≡◌, ◌∙◌, negsuc, None, List, [], ◌∷◌, map, ap, refl, arith}
use Rattle.sqlite.specs.Listing.{understood}
use Rattle.sqlite.specs.Order.{Row}
use Rattle.sqlite.specs.State.{Shown, State}
use Rattle.sqlite.specs.Term.{Term, col, lit}
use Rattle.sqlite.specs.Collation.TheVariants.{Binary}
use Rattle.sqlite.specs.declared.types.Value.TheVariants.{Int}
use Rattle.sqlite_rules.proofs.ListLemmas.{has_got}
use Rattle.sqlite_tied.specs.Compute.{everything}
use Rattle.sqlite_value.specs.Keys.{ascending}
use Rattle.sqlite_value.specs.declared.keys.Key.{Key}
use Rattle.std.proofs.Common.{ℕ, codes}
use Rattle.lot_table.proofs.QueryLemmas.{Asks, IsQuery, every_one, selects_where}
use Rattle.lot_table.proofs.ReadLemmas.{key_terms, query}
use Rattle.lot_table.proofs.RefusalLemmas.{not_damaged, steady_query}
use Rattle.lot_table.proofs.ShapeLemmas.{free}
use Rattle.lot_table.proofs.StatementLemmas.{IsTable}
use Rattle.lot_table.proofs.WriteLemmas.{cast_int}
use Rattle.lot_table.specs.Rows.{has_key}
use Rattle.lot_table.specs.Statement.{Refused}
use Rattle.lot_table.specs.declared.fault.Fault.TheVariants.{Damaged}
use Rattle.lot_rows.specs.Book.{book_cells}
use Rattle.lot_rows.specs.Tables.{HasFirst, Tables, book_table, first_layout, first_shapes}
use Rattle.lot_store.specs.Create.{marks_text}

abbrev first_table : IsTable first_layout book_table
first_table = record {
  aligned = λ _. refl;
  held = λ _ _ h. h.0;
  is_set = λ _ _. refl;
  present = λ _. (refl, tt);
  place = 0;
  placed = refl;
  free = free first_shapes book_table.table (has_got first_layout.schema.tables 0 book_table.table refl) refl;
  uncounted = refl;
  mends = λ _. refl;
  stored = λ x. (refl, (cast_int x.edition, tt));
  judged = λ _ _. (refl, refl, refl, refl);
}

abbrev shows : List Term
shows = col 1 1 ∷ col 1 2 ∷ []

abbrev order : List (Term × Key)
order = (col 1 1, ascending Binary) ∷ []

abbrev names : List (List ℕ)
names = codes "mark" ∷ codes "edition" ∷ []

marks_is : IsQuery first_layout.schema book_table.table.tree (key_terms 0 0) shows order names 0 marks_text
unfolding understood everything
marks_is = record { means = refl; unlisted = refl; bare = (refl, refl); whole = (omega arith, refl); selects = (_, refl, refl) }

marks_asks : Asks first_layout book_table [] (has_key 0 []) marks_text
marks_asks = record {
  tests = key_terms 0 0;
  shows = shows;
  order = order;
  names = names;
  is = marks_is;
  picks = record { alike = λ _ _. refl; blind = λ _ _ _. refl; shown = λ _. refl; sorts = λ _ _ _. refl; typed = refl };
}

module _ (old new : State) where
  pub first_marks : (rows : List Row) → Shown marks_text [] old new rows → (b : Tables) → HasFirst old b → rows ≡ map book_cells b.book
  first_marks rows told b has =
      selects_where first_layout book_table first_table [] (has_key 0 []) marks_text marks_asks old new rows told b has
      ∙ ap (map book_cells) (every_one book_cells [] b.book)

  pub first_answers : Refused marks_text [] old new Damaged → old.step_limit ≡ None → (b : Tables) → ¬ HasFirst old b
  first_answers refused unlimited b has =
      not_damaged marks_text [] old new first_layout.schema has.0 marks_is.bare marks_is.whole
      (query book_table.table.tree [] shows order) names marks_is.means marks_is.unlisted refl
      (steady_query book_table.table.tree [] shows order (lit (Int (negsuc 0))) []) unlimited refused

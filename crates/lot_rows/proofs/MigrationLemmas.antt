-- The statements on the table `migration`.
use Rattle.std.proofs.Common.{◌≡◌, Result, Vec, ℕ, ℤ, pos, All, List, [], ◌∷◌, codes, refl, ap, arith}
use Rattle.std.specs.declared.alloc.Global.{Global}
use Rattle.sqlite.specs.Collation.TheVariants.{Binary}
use Rattle.sqlite.specs.Listing.{understood}
use Rattle.sqlite.specs.State.{State}
use Rattle.sqlite.specs.Term.{Term, col, lit}
use Rattle.sqlite.specs.declared.types.Value.TheVariants.{Null}
use Rattle.sqlite_tied.specs.Compute.{everything}
use Rattle.sqlite_value.specs.Keys.{ascending}
use Rattle.sqlite_value.specs.declared.keys.Key.{Key}
use Rattle.lot_table.proofs.WriteLemmas.{cast_int}
use Rattle.lot_rows.specs.Migration.{IsMigrationRow, migration_cells}
use Rattle.lot_rows.specs.Tables.{migration_table, shapes, layout}
use Rattle.lot_rows.specs.declared.migration.MigrationRow.{MigrationRow}
use Rattle.lot_table.specs.Call.{Deletes, Lists, Puts, Runs, Selects}
use Rattle.lot_table.specs.Rows.{has_key}
use Rattle.lot_table.specs.declared.fault.Fault.{Fault}
use Rattle.lot_table.proofs.ShapeLemmas.{free}
use Rattle.lot_table.proofs.QueryLemmas.{Asks, IsQuery, every_one, lists}
use Rattle.lot_table.proofs.ReadLemmas.{key_terms}
use Rattle.lot_table.proofs.StatementLemmas.{IsDelete, IsPut, IsTable, deletes_key, puts}
use Rattle.sqlite_rules.proofs.ListLemmas.{has_got}

abbrev put_text : List ℕ
put_text = codes "INSERT OR REPLACE INTO migration (entries) VALUES (?1)"

abbrev put_terms : List Term
put_terms = lit Null ∷ col 0 0 ∷ []

abbrev is_table : IsTable layout migration_table
is_table = record {
  aligned = λ _. refl;
  held = λ _ _ h. h.1.1.1.1.1.1.1.1.1.1.1.1.0;
  is_set = λ _ _. refl;
  present = λ _. (refl, tt);
  place = 12;
  placed = refl;
  free = free shapes migration_table.table (has_got layout.schema.tables 12 migration_table.table refl) refl;
  uncounted = refl;
  mends = λ _. refl;
  stored = λ x. (cast_int (pos x.entries), tt);
  judged = λ _ _. (refl, refl, refl, refl);
}

put_is : (x : MigrationRow) → IsPut layout migration_table is_table x put_text
unfolding understood everything
put_is x = record { count = 2; terms = put_terms; means = refl; bare = (refl, refl); whole = (omega arith, refl); given = refl; typed = refl }

pub puts_row : (old new : State) (x : MigrationRow) {A : Type 0} (result : Result A Fault) → Runs put_text (migration_cells x) old new result → Puts layout migration_table x old new result
puts_row old new x = puts layout migration_table is_table old new put_text x (λ _ _ _. refl) (put_is x)

-- ---- delete

abbrev delete_text : List ℕ
delete_text = codes "DELETE FROM migration WHERE entries = ?1"

delete_is : (x : MigrationRow) → IsDelete layout migration_table is_table (migration_cells x) delete_text
unfolding understood everything
delete_is x = record { means = refl; bare = (refl, refl); whole = (omega arith, refl); some = (refl, tt); typed = refl }

pub deletes_row : (old new : State) (x : MigrationRow) {A : Type 0} (result : Result A Fault) → Runs delete_text (migration_cells x) old new result
    → Deletes layout migration_table (migration_cells x) old new result
deletes_row old new x = deletes_key layout migration_table is_table old new delete_text (migration_cells x) (delete_is x)

-- ---- list

same_row : (x y : MigrationRow) → migration_cells x ≡ migration_cells y → x ≡ y
same_row x y same =
    let number : ◌≡◌ {A = ℤ} (pos x.entries) (pos y.entries) = cc in
    let entries : x.entries ≡ y.entries = cc in
    ap (λ (n : ℕ). record { entries = n }) entries

abbrev pub shows : List Term
shows = col 1 1 ∷ []

abbrev pub order : List (Term × Key)
order = (col 1 1, ascending Binary) ∷ []

abbrev pub names : List (List ℕ)
names = codes "entries" ∷ []

abbrev list_text : List ℕ
list_text = codes "SELECT entries FROM migration ORDER BY entries"

pub list_query : IsQuery layout.schema migration_table.table.tree (key_terms 0 0) shows order names 0 list_text
unfolding understood everything
list_query = record { means = refl; unlisted = refl; bare = (refl, refl); whole = (omega arith, refl); selects = (_, refl, refl) }

list_asks : Asks layout migration_table [] (has_key 0 []) list_text
list_asks = record {
  tests = key_terms 0 0;
  shows = shows;
  order = order;
  names = names;
  is = list_query;
  picks = record { alike = λ _ _. refl; blind = λ _ _ _. refl; shown = λ _. refl; sorts = λ _ _ _. refl; typed = refl };
}

pub list_rows : (old new : State) (result : Result (Vec MigrationRow Global) Fault)
    → Selects migration_cells IsMigrationRow (λ rows found. found.items ≡ rows) (λ found. All IsMigrationRow found.items) list_text [] old new result
    → Lists layout IsMigrationRow (λ b. b.migration) old new result
list_rows old new =
    lists layout migration_table is_table [] (has_key 0 []) list_text list_asks old new IsMigrationRow (λ b. b.migration)
    (λ b. every_one migration_cells [] b.migration) same_row

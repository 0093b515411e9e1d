-- The statements on the table `lot`.
use Rattle.std.proofs.Common.{Result, Vec, ◌≡◌, ℕ, pos, All, List, [], ◌∷◌, codes, refl, arith, ap, ◌++◌}
use Rattle.sqlite.specs.Collation.TheVariants.{Binary}
use Rattle.sqlite.specs.Listing.{understood}
use Rattle.sqlite.specs.State.{State}
use Rattle.sqlite.specs.Term.{Term, col, lit}
use Rattle.sqlite.specs.Order.{Row}
use Rattle.sqlite.specs.declared.types.Value.TheVariants.{Int, Null, Text}
use Rattle.sqlite_tied.specs.Compute.{everything}
use Rattle.sqlite_value.specs.Keys.{ascending}
use Rattle.sqlite_value.specs.declared.keys.Key.{Key}
use Rattle.lot_table.specs.Rows.{has_key, with_key}
use Rattle.lot_table.proofs.ReadLemmas.{key_terms}
use Rattle.lot_table.proofs.WriteLemmas.{cast_int}
use Rattle.lot_rows.specs.Lot.{IsLotRow, lot_cells}
use Rattle.lot_rows.proofs.LotKeyLemmas.{same_lot}
use Rattle.lot_rows.specs.LotKey.{lot_key}
use Rattle.lot_rows.specs.Tables.{lot_table, shapes, layout}
use Rattle.lot_rows.specs.declared.lot.LotRow.{LotRow}
use Rattle.lot_cost.specs.declared.lot_key.LotKey.{LotKey}
use Rattle.lot_table.specs.Call.{Deletes, ListsColumns, Puts, Runs, Selects, Sets}
use Rattle.lot_table.specs.declared.fault.Fault.{Fault}
use Rattle.lot_table.proofs.ShapeLemmas.{free}
use Rattle.lot_table.proofs.StatementLemmas.{IsDelete, IsPut, IsSet, IsTable, deletes_key, puts, sets}
use Rattle.lot_table.proofs.QueryLemmas.{Asks, IsQuery, keyed, lists_columns}
use Rattle.sqlite_rules.proofs.ListLemmas.{has_got}
use Rattle.std.specs.declared.alloc.Global.{Global}

-- ---- put

abbrev put_text : List ℕ
put_text = codes "INSERT OR REPLACE INTO lot (account, commodity, cost_day, cost_currency, cost_number, cost_label, units) VALUES (?1, ?2, ?3, ?4, ?5, ?6, ?7)"

abbrev put_terms : List Term
put_terms = lit Null ∷ col 0 0 ∷ col 0 1 ∷ col 0 2 ∷ col 0 3 ∷ col 0 4 ∷ col 0 5 ∷ col 0 6 ∷ []

abbrev pub is_table : IsTable layout lot_table
is_table = record {
  aligned = λ _. refl;
  held = λ _ _ h. h.1.1.1.1.1.1.1.1.0;
  is_set = λ _ _. refl;
  present = λ _. (refl, (refl, (refl, (refl, (refl, (refl, tt))))));
  place = 8;
  placed = refl;
  free = free shapes lot_table.table (has_got layout.schema.tables 8 lot_table.table refl) refl;
  uncounted = refl;
  mends = λ _. refl;
  stored = λ x. (refl, (refl, (cast_int x.lot.day, (refl, (cast_int (pos x.lot.number), (refl, (cast_int x.units, tt)))))));
  judged = λ _ _. (refl, refl, refl, refl);
}

put_is : (x : LotRow) → IsPut layout lot_table is_table x put_text
unfolding understood everything
put_is x = record { count = 8; terms = put_terms; means = refl; bare = (refl, refl); whole = (omega arith, refl); given = refl; typed = refl }

pub puts_row : (old new : State) (x : LotRow) {A : Type 0} (result : Result A Fault) → Runs put_text (lot_cells x) old new result → Puts layout lot_table x old new result
puts_row old new x = puts layout lot_table is_table old new put_text x (λ _ _ _. refl) (put_is x)

-- ---- set

abbrev set_text : List ℕ
set_text = codes "UPDATE lot SET units = ?7 WHERE account = ?1 AND commodity = ?2 AND cost_day = ?3 AND cost_currency = ?4 AND cost_number = ?5 AND cost_label = ?6"

set_is : (x : LotRow) → IsSet layout lot_table is_table x set_text
unfolding understood everything
set_is x = record {
  shows = col 1 0 ∷ col 1 0 ∷ col 1 1 ∷ col 1 2 ∷ col 1 3 ∷ col 1 4 ∷ col 1 5 ∷ col 1 6 ∷ col 0 6 ∷ [];
  means = refl;
  bare = (refl, refl);
  whole = (omega arith, refl);
  typed = refl;
  becomes = λ y rowid same.
      ap (λ (key : Row). rowid ∷ rowid ∷ key ++ Int x.units ∷ [])
      (same_lot x.account x.commodity x.lot y.account y.commodity y.lot (Int x.units ∷ []) (Int y.units ∷ []) same);
}

pub sets_row : (old new : State) (x : LotRow) {A : Type 0} (result : Result A Fault) → Runs set_text (lot_cells x) old new result → Sets layout lot_table x old new result
sets_row old new x = sets layout lot_table is_table old new set_text x (set_is x) (λ _ _ _. refl)

-- ---- delete

abbrev delete_text : List ℕ
delete_text = codes "DELETE FROM lot WHERE account = ?1 AND commodity = ?2 AND cost_day = ?3 AND cost_currency = ?4 AND cost_number = ?5 AND cost_label = ?6"

delete_is : (account commodity : List ℕ) (lot : LotKey) → IsDelete layout lot_table is_table (lot_key account commodity lot) delete_text
unfolding understood everything
delete_is account commodity lot = record { means = refl; bare = (refl, refl); whole = (omega arith, refl); some = (refl, (refl, (refl, (refl, (refl, (refl, tt)))))); typed = refl }

pub deletes_row : (old new : State) (account commodity : List ℕ) (lot : LotKey) {A : Type 0} (result : Result A Fault) → Runs delete_text (lot_key account commodity lot) old new result → Deletes layout lot_table (lot_key account commodity lot) old new result
deletes_row old new account commodity lot = deletes_key layout lot_table is_table old new delete_text (lot_key account commodity lot) (delete_is account commodity lot)

-- ---- list_of

abbrev pub shows : List Term
shows = col 1 1 ∷ col 1 2 ∷ col 1 3 ∷ col 1 4 ∷ col 1 5 ∷ col 1 6 ∷ col 1 7 ∷ []

abbrev pub order : List (Term × Key)
order = (col 1 1, ascending Binary) ∷ (col 1 2, ascending Binary) ∷ (col 1 3, ascending Binary) ∷ (col 1 4, ascending Binary) ∷ (col 1 5, ascending Binary) ∷ (col 1 6, ascending Binary) ∷ []

abbrev pub names : List (List ℕ)
names = codes "account" ∷ codes "commodity" ∷ codes "cost_day" ∷ codes "cost_currency" ∷ codes "cost_number" ∷ codes "cost_label" ∷ codes "units" ∷ []

abbrev pair_text : List ℕ
pair_text = codes "SELECT account, commodity, cost_day, cost_currency, cost_number, cost_label, units FROM lot WHERE account = ?1 AND commodity = ?2 ORDER BY account, commodity, cost_day, cost_currency, cost_number, cost_label"

pub pair_is : IsQuery layout.schema lot_table.table.tree (key_terms 2 0) shows order names 2 pair_text
unfolding understood everything
pair_is = record { means = refl; unlisted = refl; bare = (refl, refl); whole = (omega arith, refl); selects = (_, refl, refl) }

pair_asks : (account commodity : List ℕ) → Asks layout lot_table (Text account ∷ Text commodity ∷ []) (has_key 2 (Text account ∷ Text commodity ∷ [])) pair_text
pair_asks account commodity = record {
  tests = (key_terms 2 0);
  shows = shows;
  order = order;
  names = names;
  is = pair_is;
  picks = record { alike = keyed lot_cells 2 (Text account ∷ Text commodity ∷ []) (refl, (refl, tt)) (λ _. (refl, (refl, tt))); blind = λ _ _ _. refl; shown = λ _. refl; sorts = λ _ _ _. refl; typed = refl };
}

pub pair_rows : (old new : State) (account commodity : List ℕ) (result : Result (Vec LotRow Global) Fault)
    → Selects lot_cells IsLotRow (λ rows found. found.items ≡ rows) (λ found. All IsLotRow found.items) pair_text (Text account ∷ Text commodity ∷ []) old new result → ListsColumns layout lot_cells IsLotRow (λ b. with_key lot_cells 2 (Text account ∷ Text commodity ∷ []) b.lot) old new result
pair_rows old new account commodity = lists_columns layout lot_table is_table (Text account ∷ Text commodity ∷ []) (has_key 2 (Text account ∷ Text commodity ∷ [])) pair_text (pair_asks account commodity) old new IsLotRow (λ b. with_key lot_cells 2 (Text account ∷ Text commodity ∷ []) b.lot) (λ _. refl)

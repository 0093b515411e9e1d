-- The statements on the table `commodity`.
use Rattle.std.proofs.Common.{Option, Result, slice_get, IfSome, ◌≡◌, ℕ, List, [], ◌∷◌, codes, refl, arith}
use Rattle.sqlite.specs.Collation.TheVariants.{Binary}
use Rattle.sqlite.specs.Listing.{understood}
use Rattle.sqlite.specs.State.{State}
use Rattle.sqlite.specs.Term.{Term, col, lit}
use Rattle.sqlite.specs.declared.types.Value.TheVariants.{Null, Text}
use Rattle.sqlite_tied.specs.Compute.{everything}
use Rattle.sqlite_value.specs.Keys.{ascending}
use Rattle.sqlite_value.specs.declared.keys.Key.{Key}
use Rattle.lot_table.specs.Rows.{has_key, with_key}
use Rattle.lot_table.proofs.ReadLemmas.{key_terms}
use Rattle.lot_table.proofs.WriteLemmas.{cast_int}
use Rattle.lot_rows.specs.Commodity.{IsCommodityRow, commodity_cells}
use Rattle.lot_rows.specs.Tables.{commodity_table, shapes, layout}
use Rattle.lot_rows.specs.declared.commodity.CommodityRow.{CommodityRow}
use Rattle.lot_table.specs.Call.{Finds, Puts, Runs, Selects}
use Rattle.lot_table.specs.declared.fault.Fault.{Fault}
use Rattle.lot_table.proofs.ShapeLemmas.{free}
use Rattle.lot_table.proofs.StatementLemmas.{IsPut, IsTable, puts}
use Rattle.lot_table.proofs.QueryLemmas.{Asks, IsQuery, finds, keyed}
use Rattle.sqlite_rules.proofs.ListLemmas.{has_got}

pub same_row : (x y : CommodityRow) → commodity_cells x ≡ commodity_cells y → x ≡ y
same_row x y same =
    let whole : ◌≡◌ {A = CommodityRow} (record { name = x.name; day = x.day }) (record { name = y.name; day = y.day }) = cc in
    whole

-- ---- put

abbrev put_text : List ℕ
put_text = codes "INSERT OR REPLACE INTO commodity (name, day) VALUES (?1, ?2)"

abbrev put_terms : List Term
put_terms = lit Null ∷ col 0 0 ∷ col 0 1 ∷ []

abbrev pub is_table : IsTable layout commodity_table
is_table = record {
  aligned = λ _. refl;
  held = λ _ _ h. h.1.1.1.0;
  is_set = λ _ _. refl;
  present = λ _. (refl, tt);
  place = 3;
  placed = refl;
  free = free shapes commodity_table.table (has_got layout.schema.tables 3 commodity_table.table refl) refl;
  uncounted = refl;
  mends = λ _. refl;
  stored = λ x. (refl, (cast_int x.day, tt));
  judged = λ _ _. (refl, refl, refl, refl);
}

put_is : (x : CommodityRow) → IsPut layout commodity_table is_table x put_text
unfolding understood everything
put_is x = record { count = 3; terms = put_terms; means = refl; bare = (refl, refl); whole = (omega arith, refl); given = refl; typed = refl }

pub puts_row : (old new : State) (x : CommodityRow) {A : Type 0} (result : Result A Fault) → Runs put_text (commodity_cells x) old new result → Puts layout commodity_table x old new result
puts_row old new x = puts layout commodity_table is_table old new put_text x (λ _ _ _. refl) (put_is x)

-- ---- find

abbrev pub shows : List Term
shows = col 1 1 ∷ col 1 2 ∷ []

abbrev pub order : List (Term × Key)
order = (col 1 1, ascending Binary) ∷ []

abbrev pub names : List (List ℕ)
names = codes "name" ∷ codes "day" ∷ []

abbrev find_text : List ℕ
find_text = codes "SELECT name, day FROM commodity WHERE name = ?1 ORDER BY name"

pub find_is : IsQuery layout.schema commodity_table.table.tree (key_terms 1 0) shows order names 1 find_text
unfolding understood everything
find_is = record { means = refl; unlisted = refl; bare = (refl, refl); whole = (omega arith, refl); selects = (_, refl, refl) }

find_asks : (name : List ℕ) → Asks layout commodity_table (Text name ∷ []) (has_key 1 (Text name ∷ [])) find_text
find_asks name = record {
  tests = (key_terms 1 0);
  shows = shows;
  order = order;
  names = names;
  is = find_is;
  picks = record { alike = keyed commodity_cells 1 (Text name ∷ []) (refl, tt) (λ _. (refl, tt)); blind = λ _ _ _. refl; shown = λ _. refl; sorts = λ _ _ _. refl; typed = refl };
}

pub find_rows : (old new : State) (name : List ℕ) (result : Result (Option CommodityRow) Fault)
    → Selects commodity_cells IsCommodityRow (λ rows found. found ≡ slice_get rows 0) (λ found. IfSome found IsCommodityRow) find_text (Text name ∷ []) old new result → Finds layout IsCommodityRow (λ b. with_key commodity_cells 1 (Text name ∷ []) b.commodity) old new result
find_rows old new name = finds layout commodity_table is_table (Text name ∷ []) (has_key 1 (Text name ∷ [])) find_text (find_asks name) old new IsCommodityRow (λ b. with_key commodity_cells 1 (Text name ∷ []) b.commodity) (λ _. refl) same_row

-- The statements on the table `plain`.
use Rattle.std.proofs.Common.{Option, Result, Vec, slice_get, IfSome, ◌≡◌, ℕ, All, List, [], ◌∷◌, codes, refl, arith, ap₂}
use Rattle.sqlite.specs.Collation.TheVariants.{Binary}
use Rattle.sqlite.specs.Listing.{understood}
use Rattle.sqlite.specs.State.{State}
use Rattle.sqlite.specs.Term.{Term, col, lit}
use Rattle.sqlite.specs.declared.types.Value.TheVariants.{Int, Null, Text}
use Rattle.sqlite_tied.specs.Compute.{everything}
use Rattle.sqlite_value.specs.Keys.{ascending}
use Rattle.sqlite_value.specs.declared.keys.Key.{Key}
use Rattle.lot_table.specs.Rows.{has_key, with_key}
use Rattle.lot_table.proofs.ReadLemmas.{key_terms}
use Rattle.lot_table.proofs.WriteLemmas.{cast_int}
use Rattle.lot_rows.specs.Plain.{IsPlainRow, plain_cells}
use Rattle.lot_rows.proofs.PairLemmas.{same_pair}
use Rattle.lot_rows.specs.Tables.{plain_table, shapes, layout}
use Rattle.lot_rows.specs.declared.plain.PlainRow.{PlainRow}
use Rattle.lot_table.specs.Call.{Deletes, Finds, Lists, Puts, Runs, Selects, Sets}
use Rattle.lot_table.specs.declared.fault.Fault.{Fault}
use Rattle.lot_table.proofs.ShapeLemmas.{free}
use Rattle.lot_table.proofs.StatementLemmas.{IsDelete, IsPut, IsSet, IsTable, deletes_key, puts, sets}
use Rattle.lot_table.proofs.QueryLemmas.{Asks, IsQuery, every_one, finds, keyed, lists}
use Rattle.sqlite_rules.proofs.ListLemmas.{has_got}
use Rattle.std.specs.declared.alloc.Global.{Global}

pub same_row : (x y : PlainRow) → plain_cells x ≡ plain_cells y → x ≡ y
same_row x y same =
    let whole : ◌≡◌ {A = PlainRow} (record { account = x.account; commodity = x.commodity; units = x.units }) (record { account = y.account; commodity = y.commodity; units = y.units }) = cc in
    whole

-- ---- put

abbrev put_text : List ℕ
put_text = codes "INSERT OR REPLACE INTO plain (account, commodity, units) VALUES (?1, ?2, ?3)"

abbrev put_terms : List Term
put_terms = lit Null ∷ col 0 0 ∷ col 0 1 ∷ col 0 2 ∷ []

abbrev pub is_table : IsTable layout plain_table
is_table = record {
  aligned = λ _. refl;
  held = λ _ _ h. h.1.1.1.1.1.1.1.1.1.0;
  is_set = λ _ _. refl;
  present = λ _. (refl, (refl, tt));
  place = 9;
  placed = refl;
  free = free shapes plain_table.table (has_got layout.schema.tables 9 plain_table.table refl) refl;
  uncounted = refl;
  mends = λ _. refl;
  stored = λ x. (refl, (refl, (cast_int x.units, tt)));
  judged = λ _ _. (refl, refl, refl, refl);
}

put_is : (x : PlainRow) → IsPut layout plain_table is_table x put_text
unfolding understood everything
put_is x = record { count = 4; terms = put_terms; means = refl; bare = (refl, refl); whole = (omega arith, refl); given = refl; typed = refl }

pub puts_row : (old new : State) (x : PlainRow) {A : Type 0} (result : Result A Fault) → Runs put_text (plain_cells x) old new result → Puts layout plain_table x old new result
puts_row old new x = puts layout plain_table is_table old new put_text x (λ _ _ _. refl) (put_is x)

-- ---- set

abbrev set_text : List ℕ
set_text = codes "UPDATE plain SET units = ?3 WHERE account = ?1 AND commodity = ?2"

set_is : (x : PlainRow) → IsSet layout plain_table is_table x set_text
unfolding understood everything
set_is x = record {
  shows = col 1 0 ∷ col 1 0 ∷ col 1 1 ∷ col 1 2 ∷ col 0 2 ∷ [];
  means = refl;
  bare = (refl, refl);
  whole = (omega arith, refl);
  typed = refl;
  becomes = λ y rowid same.
      let one = same_pair x.account x.commodity y.account y.commodity (Int x.units ∷ []) (Int y.units ∷ []) same in
      ap₂ (λ account commodity. rowid ∷ rowid ∷ Text account ∷ Text commodity ∷ Int x.units ∷ []) one.0 one.1;
}

pub sets_row : (old new : State) (x : PlainRow) {A : Type 0} (result : Result A Fault) → Runs set_text (plain_cells x) old new result → Sets layout plain_table x old new result
sets_row old new x = sets layout plain_table is_table old new set_text x (set_is x) (λ _ _ _. refl)

-- ---- delete

abbrev delete_text : List ℕ
delete_text = codes "DELETE FROM plain WHERE account = ?1 AND commodity = ?2"

delete_is : (account commodity : List ℕ) → IsDelete layout plain_table is_table (Text account ∷ Text commodity ∷ []) delete_text
unfolding understood everything
delete_is account commodity = record { means = refl; bare = (refl, refl); whole = (omega arith, refl); some = (refl, (refl, tt)); typed = refl }

pub deletes_row : (old new : State) (account commodity : List ℕ) {A : Type 0} (result : Result A Fault) → Runs delete_text (Text account ∷ Text commodity ∷ []) old new result → Deletes layout plain_table (Text account ∷ Text commodity ∷ []) old new result
deletes_row old new account commodity = deletes_key layout plain_table is_table old new delete_text (Text account ∷ Text commodity ∷ []) (delete_is account commodity)

-- ---- find and list

abbrev pub shows : List Term
shows = col 1 1 ∷ col 1 2 ∷ col 1 3 ∷ []

abbrev pub order : List (Term × Key)
order = (col 1 1, ascending Binary) ∷ (col 1 2, ascending Binary) ∷ []

abbrev pub names : List (List ℕ)
names = codes "account" ∷ codes "commodity" ∷ codes "units" ∷ []

abbrev find_text : List ℕ
find_text = codes "SELECT account, commodity, units FROM plain WHERE account = ?1 AND commodity = ?2 ORDER BY account, commodity"

pub find_is : IsQuery layout.schema plain_table.table.tree (key_terms 2 0) shows order names 2 find_text
unfolding understood everything
find_is = record { means = refl; unlisted = refl; bare = (refl, refl); whole = (omega arith, refl); selects = (_, refl, refl) }

find_asks : (account commodity : List ℕ) → Asks layout plain_table (Text account ∷ Text commodity ∷ []) (has_key 2 (Text account ∷ Text commodity ∷ [])) find_text
find_asks account commodity = record {
  tests = (key_terms 2 0);
  shows = shows;
  order = order;
  names = names;
  is = find_is;
  picks = record { alike = keyed plain_cells 2 (Text account ∷ Text commodity ∷ []) (refl, (refl, tt)) (λ _. (refl, (refl, tt))); blind = λ _ _ _. refl; shown = λ _. refl; sorts = λ _ _ _. refl; typed = refl };
}

pub find_rows : (old new : State) (account commodity : List ℕ) (result : Result (Option PlainRow) Fault)
    → Selects plain_cells IsPlainRow (λ rows found. found ≡ slice_get rows 0) (λ found. IfSome found IsPlainRow) find_text (Text account ∷ Text commodity ∷ []) old new result → Finds layout IsPlainRow (λ b. with_key plain_cells 2 (Text account ∷ Text commodity ∷ []) b.plain) old new result
find_rows old new account commodity = finds layout plain_table is_table (Text account ∷ Text commodity ∷ []) (has_key 2 (Text account ∷ Text commodity ∷ [])) find_text (find_asks account commodity) old new IsPlainRow (λ b. with_key plain_cells 2 (Text account ∷ Text commodity ∷ []) b.plain) (λ _. refl) same_row

abbrev account_text : List ℕ
account_text = codes "SELECT account, commodity, units FROM plain WHERE account = ?1 ORDER BY account, commodity"

pub account_is : IsQuery layout.schema plain_table.table.tree (key_terms 1 0) shows order names 1 account_text
unfolding understood everything
account_is = record { means = refl; unlisted = refl; bare = (refl, refl); whole = (omega arith, refl); selects = (_, refl, refl) }

account_asks : (account : List ℕ) → Asks layout plain_table (Text account ∷ []) (has_key 1 (Text account ∷ [])) account_text
account_asks account = record {
  tests = (key_terms 1 0);
  shows = shows;
  order = order;
  names = names;
  is = account_is;
  picks = record { alike = keyed plain_cells 1 (Text account ∷ []) (refl, tt) (λ _. (refl, tt)); blind = λ _ _ _. refl; shown = λ _. refl; sorts = λ _ _ _. refl; typed = refl };
}

pub account_rows : (old new : State) (account : List ℕ) (result : Result (Vec PlainRow Global) Fault)
    → Selects plain_cells IsPlainRow (λ rows found. found.items ≡ rows) (λ found. All IsPlainRow found.items) account_text (Text account ∷ []) old new result → Lists layout IsPlainRow (λ b. with_key plain_cells 1 (Text account ∷ []) b.plain) old new result
account_rows old new account = lists layout plain_table is_table (Text account ∷ []) (has_key 1 (Text account ∷ [])) account_text (account_asks account) old new IsPlainRow (λ b. with_key plain_cells 1 (Text account ∷ []) b.plain) (λ _. refl) same_row

abbrev list_text : List ℕ
list_text = codes "SELECT account, commodity, units FROM plain ORDER BY account, commodity"

pub list_is : IsQuery layout.schema plain_table.table.tree (key_terms 0 0) shows order names 0 list_text
unfolding understood everything
list_is = record { means = refl; unlisted = refl; bare = (refl, refl); whole = (omega arith, refl); selects = (_, refl, refl) }

list_asks : Asks layout plain_table [] (has_key 0 []) list_text
list_asks = record {
  tests = (key_terms 0 0);
  shows = shows;
  order = order;
  names = names;
  is = list_is;
  picks = record { alike = λ _ _. refl; blind = λ _ _ _. refl; shown = λ _. refl; sorts = λ _ _ _. refl; typed = refl };
}

pub list_rows : (old new : State) (result : Result (Vec PlainRow Global) Fault)
    → Selects plain_cells IsPlainRow (λ rows found. found.items ≡ rows) (λ found. All IsPlainRow found.items) list_text [] old new result → Lists layout IsPlainRow (λ b. b.plain) old new result
list_rows old new = lists layout plain_table is_table [] (has_key 0 []) list_text list_asks old new IsPlainRow (λ b. b.plain) (λ b. every_one plain_cells [] b.plain) same_row

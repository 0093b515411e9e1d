-- The statements on the table `head`.
use Rattle.std.proofs.Common.{Option, Result, slice_get, IfSome, ◌≡◌, ℕ, List, [], ◌∷◌, codes, refl, arith, ap₂}
use Rattle.sqlite.specs.Collation.TheVariants.{Binary}
use Rattle.sqlite.specs.Listing.{understood}
use Rattle.sqlite.specs.State.{State}
use Rattle.sqlite.specs.Term.{Term, col, lit}
use Rattle.sqlite.specs.declared.types.Value.TheVariants.{Int, Null, Text}
use Rattle.sqlite_tied.specs.Compute.{everything}
use Rattle.sqlite_value.specs.Keys.{ascending}
use Rattle.sqlite_value.specs.declared.keys.Key.{Key}
use Rattle.lot_table.specs.Rows.{has_key, with_key}
use Rattle.lot_table.proofs.ReadLemmas.{key_terms}
use Rattle.lot_table.proofs.WriteLemmas.{cast_int}
use Rattle.lot_rows.specs.Head.{IsHeadRow, head_cells}
use Rattle.lot_rows.proofs.PairLemmas.{same_pair}
use Rattle.lot_rows.specs.Tables.{head_table, shapes, layout}
use Rattle.lot_rows.specs.declared.head.HeadRow.{HeadRow}
use Rattle.lot_table.specs.Call.{Finds, Puts, Runs, Selects, Sets}
use Rattle.lot_table.specs.declared.fault.Fault.{Fault}
use Rattle.lot_table.proofs.ShapeLemmas.{free}
use Rattle.lot_table.proofs.StatementLemmas.{IsPut, IsSet, IsTable, puts, sets}
use Rattle.lot_table.proofs.QueryLemmas.{Asks, IsQuery, finds, keyed}
use Rattle.sqlite_rules.proofs.ListLemmas.{has_got}

pub same_row : (x y : HeadRow) → head_cells x ≡ head_cells y → x ≡ y
same_row x y same =
    let whole : ◌≡◌ {A = HeadRow} (record { account = x.account; commodity = x.commodity; day = x.day }) (record { account = y.account; commodity = y.commodity; day = y.day }) = cc in
    whole

-- ---- put

abbrev put_text : List ℕ
put_text = codes "INSERT OR REPLACE INTO head (account, commodity, day) VALUES (?1, ?2, ?3)"

abbrev put_terms : List Term
put_terms = lit Null ∷ col 0 0 ∷ col 0 1 ∷ col 0 2 ∷ []

abbrev pub is_table : IsTable layout head_table
is_table = record {
  aligned = λ _. refl;
  held = λ _ _ h. h.1.1.1.1.1.1.1.1.1.1.0;
  is_set = λ _ _. refl;
  present = λ _. (refl, (refl, tt));
  place = 10;
  placed = refl;
  free = free shapes head_table.table (has_got layout.schema.tables 10 head_table.table refl) refl;
  uncounted = refl;
  mends = λ _. refl;
  stored = λ x. (refl, (refl, (cast_int x.day, tt)));
  judged = λ _ _. (refl, refl, refl, refl);
}

put_is : (x : HeadRow) → IsPut layout head_table is_table x put_text
unfolding understood everything
put_is x = record { count = 4; terms = put_terms; means = refl; bare = (refl, refl); whole = (omega arith, refl); given = refl; typed = refl }

pub puts_row : (old new : State) (x : HeadRow) {A : Type 0} (result : Result A Fault) → Runs put_text (head_cells x) old new result → Puts layout head_table x old new result
puts_row old new x = puts layout head_table is_table old new put_text x (λ _ _ _. refl) (put_is x)

-- ---- set

abbrev set_text : List ℕ
set_text = codes "UPDATE head SET day = ?3 WHERE account = ?1 AND commodity = ?2"

set_is : (x : HeadRow) → IsSet layout head_table is_table x set_text
unfolding understood everything
set_is x = record {
  shows = col 1 0 ∷ col 1 0 ∷ col 1 1 ∷ col 1 2 ∷ col 0 2 ∷ [];
  means = refl;
  bare = (refl, refl);
  whole = (omega arith, refl);
  typed = refl;
  becomes = λ y rowid same.
      let one = same_pair x.account x.commodity y.account y.commodity (Int x.day ∷ []) (Int y.day ∷ []) same in
      ap₂ (λ account commodity. rowid ∷ rowid ∷ Text account ∷ Text commodity ∷ Int x.day ∷ []) one.0 one.1;
}

pub sets_row : (old new : State) (x : HeadRow) {A : Type 0} (result : Result A Fault) → Runs set_text (head_cells x) old new result → Sets layout head_table x old new result
sets_row old new x = sets layout head_table is_table old new set_text x (set_is x) (λ _ _ _. refl)

-- ---- find

abbrev pub shows : List Term
shows = col 1 1 ∷ col 1 2 ∷ col 1 3 ∷ []

abbrev pub order : List (Term × Key)
order = (col 1 1, ascending Binary) ∷ (col 1 2, ascending Binary) ∷ []

abbrev pub names : List (List ℕ)
names = codes "account" ∷ codes "commodity" ∷ codes "day" ∷ []

abbrev find_text : List ℕ
find_text = codes "SELECT account, commodity, day FROM head WHERE account = ?1 AND commodity = ?2 ORDER BY account, commodity"

pub find_is : IsQuery layout.schema head_table.table.tree (key_terms 2 0) shows order names 2 find_text
unfolding understood everything
find_is = record { means = refl; unlisted = refl; bare = (refl, refl); whole = (omega arith, refl); selects = (_, refl, refl) }

find_asks : (account commodity : List ℕ) → Asks layout head_table (Text account ∷ Text commodity ∷ []) (has_key 2 (Text account ∷ Text commodity ∷ [])) find_text
find_asks account commodity = record {
  tests = (key_terms 2 0);
  shows = shows;
  order = order;
  names = names;
  is = find_is;
  picks = record { alike = keyed head_cells 2 (Text account ∷ Text commodity ∷ []) (refl, (refl, tt)) (λ _. (refl, (refl, tt))); blind = λ _ _ _. refl; shown = λ _. refl; sorts = λ _ _ _. refl; typed = refl };
}

pub find_rows : (old new : State) (account commodity : List ℕ) (result : Result (Option HeadRow) Fault)
    → Selects head_cells IsHeadRow (λ rows found. found ≡ slice_get rows 0) (λ found. IfSome found IsHeadRow) find_text (Text account ∷ Text commodity ∷ []) old new result → Finds layout IsHeadRow (λ b. with_key head_cells 2 (Text account ∷ Text commodity ∷ []) b.head) old new result
find_rows old new account commodity = finds layout head_table is_table (Text account ∷ Text commodity ∷ []) (has_key 2 (Text account ∷ Text commodity ∷ [])) find_text (find_asks account commodity) old new IsHeadRow (λ b. with_key head_cells 2 (Text account ∷ Text commodity ∷ []) b.head) (λ _. refl) same_row

-- The statements on the table `allowed`.
use Rattle.std.proofs.Common.{Result, Vec, ◌≡◌, ℕ, pos, All, List, [], ◌∷◌, codes, refl, arith}
use Rattle.sqlite.specs.Collation.TheVariants.{Binary}
use Rattle.sqlite.specs.Listing.{understood}
use Rattle.sqlite.specs.State.{State}
use Rattle.sqlite.specs.Term.{Term, col, lit}
use Rattle.sqlite.specs.declared.types.Value.TheVariants.{Null, Text}
use Rattle.sqlite_tied.specs.Compute.{everything}
use Rattle.sqlite_value.specs.Keys.{ascending}
use Rattle.sqlite_value.specs.declared.keys.Key.{Key}
use Rattle.lot_table.specs.Rows.{has_key, with_key}
use Rattle.lot_table.proofs.ReadLemmas.{key_terms}
use Rattle.lot_table.proofs.WriteLemmas.{cast_int}
use Rattle.lot_rows.specs.Allowed.{IsAllowedRow, allowed_cells}
use Rattle.lot_rows.specs.Tables.{allowed_table, shapes, layout}
use Rattle.lot_rows.specs.declared.allowed.AllowedRow.{AllowedRow}
use Rattle.lot_table.specs.Call.{Lists, Puts, Runs, Selects}
use Rattle.lot_table.specs.declared.fault.Fault.{Fault}
use Rattle.lot_table.proofs.ShapeLemmas.{free}
use Rattle.lot_table.proofs.StatementLemmas.{IsPut, IsTable, puts}
use Rattle.lot_table.proofs.QueryLemmas.{Asks, IsQuery, keyed, lists}
use Rattle.sqlite_rules.proofs.ListLemmas.{has_got}
use Rattle.std.specs.declared.alloc.Global.{Global}

pub same_row : (x y : AllowedRow) → allowed_cells x ≡ allowed_cells y → x ≡ y
same_row x y same =
    let whole : ◌≡◌ {A = AllowedRow} (record { account = x.account; place = x.place; commodity = x.commodity }) (record { account = y.account; place = y.place; commodity = y.commodity }) = cc in
    whole

-- ---- put

abbrev put_text : List ℕ
put_text = codes "INSERT OR REPLACE INTO allowed (account, place, commodity) VALUES (?1, ?2, ?3)"

abbrev put_terms : List Term
put_terms = lit Null ∷ col 0 0 ∷ col 0 1 ∷ col 0 2 ∷ []

abbrev pub is_table : IsTable layout allowed_table
is_table = record {
  aligned = λ _. refl;
  held = λ _ _ h. h.1.1.0;
  is_set = λ _ _. refl;
  present = λ _. (refl, (refl, tt));
  place = 2;
  placed = refl;
  free = free shapes allowed_table.table (has_got layout.schema.tables 2 allowed_table.table refl) refl;
  uncounted = refl;
  mends = λ _. refl;
  stored = λ x. (refl, (cast_int (pos x.place), (refl, tt)));
  judged = λ _ _. (refl, refl, refl, refl);
}

put_is : (x : AllowedRow) → IsPut layout allowed_table is_table x put_text
unfolding understood everything
put_is x = record { count = 4; terms = put_terms; means = refl; bare = (refl, refl); whole = (omega arith, refl); given = refl; typed = refl }

pub puts_row : (old new : State) (x : AllowedRow) {A : Type 0} (result : Result A Fault) → Runs put_text (allowed_cells x) old new result → Puts layout allowed_table x old new result
puts_row old new x = puts layout allowed_table is_table old new put_text x (λ _ _ _. refl) (put_is x)

-- ---- list_of

abbrev pub shows : List Term
shows = col 1 1 ∷ col 1 2 ∷ col 1 3 ∷ []

abbrev pub order : List (Term × Key)
order = (col 1 1, ascending Binary) ∷ (col 1 2, ascending Binary) ∷ []

abbrev pub names : List (List ℕ)
names = codes "account" ∷ codes "place" ∷ codes "commodity" ∷ []

abbrev account_text : List ℕ
account_text = codes "SELECT account, place, commodity FROM allowed WHERE account = ?1 ORDER BY account, place"

pub account_is : IsQuery layout.schema allowed_table.table.tree (key_terms 1 0) shows order names 1 account_text
unfolding understood everything
account_is = record { means = refl; unlisted = refl; bare = (refl, refl); whole = (omega arith, refl); selects = (_, refl, refl) }

account_asks : (account : List ℕ) → Asks layout allowed_table (Text account ∷ []) (has_key 1 (Text account ∷ [])) account_text
account_asks account = record {
  tests = (key_terms 1 0);
  shows = shows;
  order = order;
  names = names;
  is = account_is;
  picks = record { alike = keyed allowed_cells 1 (Text account ∷ []) (refl, tt) (λ _. (refl, tt)); blind = λ _ _ _. refl; shown = λ _. refl; sorts = λ _ _ _. refl; typed = refl };
}

pub account_rows : (old new : State) (account : List ℕ) (result : Result (Vec AllowedRow Global) Fault)
    → Selects allowed_cells IsAllowedRow (λ rows found. found.items ≡ rows) (λ found. All IsAllowedRow found.items) account_text (Text account ∷ []) old new result → Lists layout IsAllowedRow (λ b. with_key allowed_cells 1 (Text account ∷ []) b.allowed) old new result
account_rows old new account = lists layout allowed_table is_table (Text account ∷ []) (has_key 1 (Text account ∷ [])) account_text (account_asks account) old new IsAllowedRow (λ b. with_key allowed_cells 1 (Text account ∷ []) b.allowed) (λ _. refl) same_row

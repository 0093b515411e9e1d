-- The statements on the table `account`.
use Rattle.std.proofs.Common.{if◌then◌else◌, Result, slice_get, IfSome, true, ◌≡◌, ℕ, ℤ, None, List, [], ◌∷◌, codes, refl, sym, ap, ◌∙◌, arith}
use Rattle.sqlite.specs.Collation.TheVariants.{Binary}
use Rattle.sqlite.specs.Listing.{understood}
use Rattle.sqlite.specs.State.{State}
use Rattle.sqlite.specs.Term.{Term, col, lit}
use Rattle.sqlite.specs.declared.types.Value.TheVariants.{Int, Null, Text}
use Rattle.sqlite_tied.specs.Compute.{everything}
use Rattle.sqlite_value.specs.Keys.{ascending}
use Rattle.sqlite_value.specs.declared.keys.Key.{Key}
use Rattle.lot_table.specs.Rows.{has_key, with_key}
use Rattle.lot_table.proofs.CastLemmas.{cast_maybe_int}
use Rattle.lot_table.proofs.ReadLemmas.{key_terms}
use Rattle.lot_table.proofs.WriteLemmas.{cast_int}
use Rattle.lot_rows.specs.Account.{IsAccountRow, account_cells}
use Rattle.lot_rows.specs.Tables.{account_table, shapes, layout}
use Rattle.lot_rows.specs.declared.account.AccountRow.{AccountRow}
use Rattle.std.proofs.Common.{Option, Some, slice_index, ◌==◌}
use Rattle.sqlite.specs.Values.{or_null}
use Rattle.lot_cost.specs.Method.{word_of}
use Rattle.lot_cost.specs.declared.method.Method.TheVariants.{Strict, Fifo, Lifo, Hifo, Unmatched}
use Rattle.lot_cost.specs.declared.method.Method.{Method}
use Rattle.lot_table.specs.Call.{Finds, Puts, Runs, Selects}
use Rattle.lot_table.specs.declared.fault.Fault.{Fault}
use Rattle.lot_table.proofs.ShapeLemmas.{free}
use Rattle.lot_table.proofs.StatementLemmas.{IsPut, IsTable, puts}
use Rattle.lot_table.proofs.QueryLemmas.{Asks, IsQuery, finds, keyed}
use Rattle.sqlite_rules.proofs.ListLemmas.{has_got}
use Rattle.sqlite_rules.specs.Steps.{is_typed}
use Rattle.sqlite_typing.specs.Types.{accepts_terms}
use Rattle.std.proofs.Common.{pos}

same_days : (a b : Option ℤ) → or_null Int a ≡ or_null Int b → a ≡ b
same_days None None e = refl
same_days None (Some b) e = absurd cc
same_days (Some a) None e = absurd cc
same_days (Some a) (Some b) e = cc

-- the method of a word
abbrev method_of : List ℕ → Method
method_of word =
    if slice_index word 0 == 83 then Strict else (if slice_index word 0 == 70 then Fifo else (if slice_index word 0 == 76 then Lifo else (if slice_index word 0 == 72 then Hifo else Unmatched)))

word_back : (method : Method) → method_of (word_of method) ≡ method
word_back Strict = refl
word_back Fifo = refl
word_back Lifo = refl
word_back Hifo = refl
word_back Unmatched = refl

pub same_row : (x y : AccountRow) → account_cells x ≡ account_cells y → x ≡ y
same_row x y same =
    let days : or_null Int x.closed ≡ or_null Int y.closed = cc in
    let words : word_of x.method ≡ word_of y.method = cc in
    let closed : x.closed ≡ y.closed = same_days x.closed y.closed days in
    let method : x.method ≡ y.method = sym (word_back x.method) ∙ ap method_of words ∙ word_back y.method in
    let whole : ◌≡◌ {A = AccountRow} (record { name = x.name; opened = x.opened; closed = x.closed; method = x.method }) (record { name = y.name; opened = y.opened; closed = y.closed; method = y.method }) = cc in
    whole

-- ---- put

abbrev put_text : List ℕ
put_text = codes "INSERT OR REPLACE INTO account (name, opened, closed, method) VALUES (?1, ?2, ?3, ?4)"

abbrev put_terms : List Term
put_terms = lit Null ∷ col 0 0 ∷ col 0 1 ∷ col 0 2 ∷ col 0 3 ∷ []

-- each value is of its column, whichever is there
pub typed : (name : List ℕ) (opened : ℤ) (closed : Option ℤ) (method : List ℕ) (id : ℤ) → (is_typed account_table.table (Int id ∷ Text name ∷ Int opened ∷ or_null Int closed ∷ Text method ∷ []) ≡ true) × (accepts_terms put_terms (Text name ∷ Int opened ∷ or_null Int closed ∷ Text method ∷ []) ≡ true)
typed name opened None method id = (refl, refl)
typed name opened (Some day) method id = (refl, refl)

abbrev pub is_table : IsTable layout account_table
is_table = record {
  aligned = λ _. refl;
  held = λ _ _ h. h.1.0;
  is_set = λ _ _. refl;
  present = λ _. (refl, tt);
  place = 1;
  placed = refl;
  free = free shapes account_table.table (has_got layout.schema.tables 1 account_table.table refl) refl;
  uncounted = refl;
  mends = λ _. refl;
  stored = λ x. (refl, (cast_int x.opened, (cast_maybe_int (λ day. day) x.closed, (refl, tt))));
  judged = λ x id. (refl, (typed x.name x.opened x.closed (word_of x.method) id).0, refl, refl);
}

put_is : (x : AccountRow) → IsPut layout account_table is_table x put_text
unfolding understood everything
put_is x = record { count = 5; terms = put_terms; means = refl; bare = (refl, refl); whole = (omega arith, refl); given = refl; typed = (typed x.name x.opened x.closed (word_of x.method) (pos 0)).1 }

pub puts_row : (old new : State) (x : AccountRow) {A : Type 0} (result : Result A Fault) → Runs put_text (account_cells x) old new result → Puts layout account_table x old new result
puts_row old new x = puts layout account_table is_table old new put_text x (λ _ _ _. refl) (put_is x)

-- ---- find

abbrev pub shows : List Term
shows = col 1 1 ∷ col 1 2 ∷ col 1 3 ∷ col 1 4 ∷ []

abbrev pub order : List (Term × Key)
order = (col 1 1, ascending Binary) ∷ []

abbrev pub names : List (List ℕ)
names = codes "name" ∷ codes "opened" ∷ codes "closed" ∷ codes "method" ∷ []

abbrev find_text : List ℕ
find_text = codes "SELECT name, opened, closed, method FROM account WHERE name = ?1 ORDER BY name"

pub find_is : IsQuery layout.schema account_table.table.tree (key_terms 1 0) shows order names 1 find_text
unfolding understood everything
find_is = record { means = refl; unlisted = refl; bare = (refl, refl); whole = (omega arith, refl); selects = (_, refl, refl) }

find_asks : (name : List ℕ) → Asks layout account_table (Text name ∷ []) (has_key 1 (Text name ∷ [])) find_text
find_asks name = record {
  tests = (key_terms 1 0);
  shows = shows;
  order = order;
  names = names;
  is = find_is;
  picks = record { alike = keyed account_cells 1 (Text name ∷ []) (refl, tt) (λ _. (refl, tt)); blind = λ _ _ _. refl; shown = λ _. refl; sorts = λ _ _ _. refl; typed = refl };
}

pub find_rows : (old new : State) (name : List ℕ) (result : Result (Option AccountRow) Fault)
    → Selects account_cells IsAccountRow (λ rows found. found ≡ slice_get rows 0) (λ found. IfSome found IsAccountRow) find_text (Text name ∷ []) old new result → Finds layout IsAccountRow (λ b. with_key account_cells 1 (Text name ∷ []) b.account) old new result
find_rows old new name = finds layout account_table is_table (Text name ∷ []) (has_key 1 (Text name ∷ [])) find_text (find_asks name) old new IsAccountRow (λ b. with_key account_cells 1 (Text name ∷ []) b.account) (λ _. refl) same_row

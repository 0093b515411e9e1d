-- The statements on the table `entry`.
use Rattle.std.proofs.Common.{Option, Result, slice_get, IfSome, true, ◌≡◌, ◌⊎◌, inl, inr, ◌&&◌, ◌||◌, Ordering, Less, Equal, Greater, is_eq, option_map, reverse, take, ap₂, ℕ, pos, false, None, All, List, [], ◌∷◌, map, codes, refl, sym, ap, subst, ◌∙◌, arith}
use Rattle.std.proofs.Math.Bool.{or-false}
use Rattle.sqlite.specs.Collation.TheVariants.{Binary}
use Rattle.sqlite.specs.Listing.{understood}
use Rattle.sqlite.specs.Order.{Row}
use Rattle.sqlite.specs.State.{State, Shown}
use Rattle.sqlite.specs.Term.{Term, col, lit}
use Rattle.sqlite.specs.declared.types.Value.TheVariants.{Int, Null, Text}
use Rattle.sqlite_tied.specs.Compute.{everything}
use Rattle.sqlite_value.specs.Keys.{ascending}
use Rattle.sqlite_value.specs.declared.keys.Key.{Key}
use Rattle.sqlite.proofs.Callers.{IsPlain, command_of}
use Rattle.lot_table.specs.Statement.{IsSelect, Refused, ShowsDamage}
use Rattle.lot_table.specs.declared.fault.Fault.TheVariants.{Damaged}
use Rattle.lot_table.proofs.WriteLemmas.{cast_int}
use Rattle.lot_rows.specs.Entry.{IsEntryRow, IsNumberRow, IsUnnamed, entry_cells, greatest_number, is_named, named, number_cells}
use Rattle.lot_rows.specs.declared.entry.NumberRow.{NumberRow}
use Rattle.lot_table.proofs.GreatestLemmas.{greatest, greatest_shown, order as greatest_order, shows as greatest_shows}
use Rattle.lot_table.proofs.ReadLemmas.{agree_is, compared, plain_overlay}
use Rattle.lot_table.proofs.RefusalLemmas.{IsWhole, not_damaged, steady_query}
use Rattle.lot_table.proofs.MakeLemmas.{all_push}
use Rattle.sqlite.specs.Command.TheVariants.{Select}
use Rattle.sqlite.specs.Listing.{reads_listing}
use Rattle.sqlite.specs.Query.{IsAnswer}
use Rattle.sqlite.specs.Term.{holds, op2}
use Rattle.sqlite.specs.declared.types.Value.{Value}
use Rattle.sqlite.proofs.Callers.{reads_as}
use Rattle.sqlite_rules.proofs.ListLemmas.{all_has}
use Rattle.sqlite_rules.specs.Lists.{Has}
use Rattle.sqlite_schema.specs.Rules.{agree}
use Rattle.sqlite_sql.specs.declared.ops.BinaryOp.TheVariants.{Compare}
use Rattle.sqlite_sql.specs.declared.ops.CompareOp.TheVariants.{Eq}
use Rattle.sqlite_value.specs.Keys.{first_key, plain}
use Rattle.sqlite_value.specs.Order.{value_cmp}
use Rattle.std.proofs.lemmas.List.Elements.{recursion_from_All, All-from_recursion}
use Rattle.std.proofs.lemmas.List.{reverse-append}
use Rattle.std.specs.List.{AllByRecursion, list_all}
use Rattle.std.specs.Ordering.{ordering_then}
use Rattle.lot_rows.specs.Tables.{Has as HasBook, IsNewEntry, Tables, entry_table, shapes, layout}
use Rattle.lot_rows.specs.declared.entry.EntryRow.{EntryRow}
use Rattle.lot_table.proofs.BookLemmas.{if_ok}
use Rattle.lot_table.specs.Book.{always}
use Rattle.lot_table.specs.Call.{Answers, Finds, PutsWhere, Runs, Selects}
use Rattle.lot_table.specs.declared.fault.Fault.{Fault}
use Rattle.lot_table.proofs.ShapeLemmas.{free}
use Rattle.lot_table.proofs.StatementLemmas.{IsAdd, IsTable, adds_where}
use Rattle.lot_table.proofs.QueryLemmas.{Asks, IsQuery, finds}
use Rattle.sqlite_rules.proofs.ListLemmas.{has_got}

pub same_row : (x y : EntryRow) → entry_cells x ≡ entry_cells y → x ≡ y
same_row x y same =
    let whole : ◌≡◌ {A = EntryRow} (record { number = x.number; source = x.source; name = x.name; body = x.body }) (record { number = y.number; source = y.source; name = y.name; body = y.body }) = cc in
    whole

-- ---- add

abbrev add_text : List ℕ
add_text = codes "INSERT INTO entry (number, source, name, body) VALUES (?1, ?2, ?3, ?4)"

abbrev add_terms : List Term
add_terms = lit Null ∷ col 0 0 ∷ col 0 1 ∷ col 0 2 ∷ col 0 3 ∷ []

abbrev is_table : IsTable layout entry_table
is_table = record {
  aligned = λ _. refl;
  held = λ _ _ h. h.1.1.1.1.1.0;
  is_set = λ _ _. refl;
  present = λ _. (refl, tt);
  place = 5;
  placed = refl;
  free = free shapes entry_table.table (has_got layout.schema.tables 5 entry_table.table refl) refl;
  uncounted = refl;
  mends = λ _. refl;
  stored = λ x. (cast_int (pos x.number), (refl, (refl, (refl, tt))));
  judged = λ _ _. (refl, refl, refl, refl);
}

add_is : (x : EntryRow) → IsAdd layout entry_table is_table x add_text
unfolding understood everything
add_is x = record { count = 5; terms = add_terms; means = refl; bare = (refl, refl); whole = (omega arith, refl); given = refl; typed = refl }

-- the source and the name of the row that is put are those of no row
apart : (x : EntryRow) (es : List EntryRow) → IsUnnamed x es → (v : Value) (y : EntryRow) → Has es y → (agree plain (2 ∷ 3 ∷ []) (v ∷ entry_cells y) (2 ∷ 3 ∷ []) (Int (pos 0) ∷ entry_cells x) || false) ≡ false
unfolding first_key
apart x es unnamed v y has =
    or-false _ ∙ agree_is 2 1 v (Int (pos 0)) (entry_cells y) (entry_cells x) (refl, (refl, tt)) (refl, (refl, tt)) ∙ all_has (λ e. is_named x.source x.name (entry_cells e) ≡ false) es y unnamed has

pub adds_row : (old new : State) (x : EntryRow) {A : Type 0} (result : Result A Fault) → Runs add_text (entry_cells x) old new result → PutsWhere layout entry_table (IsNewEntry x) x old new result
unfolding first_key
adds_row old new x =
    adds_where layout entry_table is_table old new add_text x (λ r. agree plain (2 ∷ 3 ∷ []) r (2 ∷ 3 ∷ []) (Int (pos 0) ∷ entry_cells x) || false) (λ _ _ _. refl)
    (IsNewEntry x) (add_is x) (λ b new. (new.0, apart x b.entry new.1))

-- ---- find

abbrev pub shows : List Term
shows = col 1 1 ∷ col 1 2 ∷ col 1 3 ∷ col 1 4 ∷ []

abbrev pub order : List (Term × Key)
order = (col 1 1, ascending Binary) ∷ []

abbrev pub names : List (List ℕ)
names = codes "number" ∷ codes "source" ∷ codes "name" ∷ codes "body" ∷ []

abbrev tests : List Term
tests = op2 (Compare Eq Binary) (col 1 2) (col 0 0) ∷ op2 (Compare Eq Binary) (col 1 3) (col 0 1) ∷ []

abbrev find_text : List ℕ
find_text = codes "SELECT number, source, name, body FROM entry WHERE source = ?1 AND name = ?2 ORDER BY number"

pub find_is : IsQuery layout.schema entry_table.table.tree tests shows order names 2 find_text
unfolding understood everything
find_is = record { means = refl; unlisted = refl; bare = (refl, refl); whole = (omega arith, refl); selects = (_, refl, refl) }

both_equal : (a b : Ordering) → (is_eq a && (is_eq b && true)) ≡ is_eq (ordering_then a (ordering_then b Equal))
both_equal Less b = refl
both_equal Equal Less = refl
both_equal Equal Equal = refl
both_equal Equal Greater = refl
both_equal Greater b = refl

alike : (source name : List ℕ) (v : Value) (x : EntryRow) → list_all (holds ((Text source ∷ Text name ∷ []) ∷ (v ∷ entry_cells x) ∷ [])) tests ≡ is_named source name (entry_cells x)
alike source name v x =
    ap₂ (λ a b. a && (b && true)) (compared (Text x.source) (Text source) refl refl) (compared (Text x.name) (Text name) refl refl)
    ∙ both_equal (value_cmp (Text x.source) (Text source)) (value_cmp (Text x.name) (Text name))

find_asks : (source name : List ℕ) → Asks layout entry_table (Text source ∷ Text name ∷ []) (is_named source name) find_text
find_asks source name = record {
  tests = tests;
  shows = shows;
  order = order;
  names = names;
  is = find_is;
  picks = record { alike = alike source name; blind = λ _ _ _. refl; shown = λ _. refl; sorts = λ _ _ _. refl; typed = refl };
}

pub find_rows : (old new : State) (source name : List ℕ) (result : Result (Option EntryRow) Fault)
    → Selects entry_cells IsEntryRow (λ rows found. found ≡ slice_get rows 0) (λ found. IfSome found IsEntryRow) find_text (Text source ∷ Text name ∷ []) old new result
    → Finds layout IsEntryRow (λ b. named source name b.entry) old new result
find_rows old new source name =
    finds layout entry_table is_table (Text source ∷ Text name ∷ []) (is_named source name) find_text (find_asks source name) old new IsEntryRow (λ b. named source name b.entry) (λ _. refl) same_row

-- ---- the greatest number

abbrev at : ℕ
at = entry_table.table.tree

abbrev greatest_text : List ℕ
greatest_text = codes "SELECT number FROM entry ORDER BY number DESC LIMIT 1"

greatest_is : (command_of (understood layout.schema greatest_text) ≡ Select (record { lets = []; body = greatest at }) (codes "number" ∷ [])) × (reads_listing layout.schema greatest_text ≡ false)
    × IsPlain (understood layout.schema greatest_text) × IsWhole greatest_text 0 (understood layout.schema greatest_text)
unfolding understood everything
greatest_is = (refl, refl, (refl, refl), (omega arith, refl))

pub greatest_selects : IsSelect greatest_text
unfolding everything
greatest_selects = (_, refl, refl)

all_back : {X : Type 0} (P : X → Type 0) (xs : List X) → AllByRecursion P xs → AllByRecursion P (reverse xs)
all_back P [] all = tt
all_back P (x ∷ xs) all = subst (AllByRecursion P) (sym (reverse-append (x ∷ []) xs)) (all_push P (reverse xs) x (all_back P xs all.1) all.0)

module _ (old new : State) where
  greatest_rows : (rows : List Row) → Shown greatest_text [] old new rows → (b : Tables) → HasBook old b → rows ≡ take 1 (map (λ (e : EntryRow). Int (pos e.number) ∷ []) (reverse b.entry))
  greatest_rows rows told b has =
      let command = Select (record { lets = []; body = greatest at }) (codes "number" ∷ []) in
      let read = reads_as greatest_text [] old new layout.schema has.0 command greatest_is.0 greatest_is.2 greatest_is.1 rows told in
      greatest_shown entry_cells (λ (e : EntryRow). Int (pos e.number) ∷ []) at old.now.trees (λ _. refl) b.entry (is_table.held old.now.trees b has.1.held) rows
      (subst (λ d. IsAnswer (greatest at) d [] rows) (plain_overlay old.now.trees) (read.answer Null))

  -- the first of the numbers is that of the last row
  first_number : (found : List NumberRow) (back : List EntryRow) → map number_cells found ≡ take 1 (map (λ (e : EntryRow). Int (pos e.number) ∷ []) back)
      → option_map (λ (n : NumberRow). n.number) (slice_get found 0) ≡ option_map (λ (e : EntryRow). e.number) (slice_get back 0)
  first_number [] [] same = refl
  first_number [] (e ∷ back) same = absurd cc
  first_number (n ∷ found) [] same = absurd cc
  first_number (n ∷ found) (e ∷ back) same = cc

  greatests : (found : List NumberRow) → Shown greatest_text [] old new (map number_cells found) → (b : Tables) → HasBook old b
      → option_map (λ (n : NumberRow). n.number) (slice_get found 0) ≡ greatest_number b.entry
  greatests found told b has = first_number found (reverse b.entry) (greatest_rows (map number_cells found) told b has)

  greatest_damage : Refused greatest_text [] old new Damaged ⊎ ShowsDamage number_cells IsNumberRow greatest_text [] old new → old.step_limit ≡ None → (b : Tables) → HasBook old b → All IsEntryRow b.entry → ⊥
  greatest_damage (inl refused) unlimited b has all =
      not_damaged greatest_text [] old new layout.schema has.0 greatest_is.2 greatest_is.3 (greatest at) (codes "number" ∷ []) greatest_is.0 greatest_is.1 refl (steady_query at [] greatest_shows greatest_order (lit (Int (pos 1))) []) unlimited refused
  greatest_damage (inr (rows, told, bad)) unlimited b has all =
      go (reverse b.entry) (all_back IsEntryRow b.entry (recursion_from_All IsEntryRow b.entry all)) (greatest_rows rows told b has)
    where
      go : (es : List EntryRow) → AllByRecursion IsEntryRow es → rows ≡ take 1 (map (λ (e : EntryRow). Int (pos e.number) ∷ []) es) → ⊥
      go [] good is = bad [] (All-from_recursion IsNumberRow [] tt) is
      go (e ∷ es) good is = bad (record { number = e.number } ∷ []) (All-from_recursion IsNumberRow (record { number = e.number } ∷ []) (good.0.number, tt)) is

  pub greatest_answers : (result : Result (Option NumberRow) Fault) → Selects number_cells IsNumberRow (λ rows found. found ≡ slice_get rows 0) (λ found. IfSome found IsNumberRow) greatest_text [] old new result
      → Answers layout (λ row b. option_map (λ (n : NumberRow). n.number) row ≡ greatest_number b.entry) always (λ b. All IsEntryRow b.entry) old new result
  greatest_answers result selects = record {
    says = λ clean. if_ok result _ _ (λ row told b has. ap (option_map (λ (n : NumberRow). n.number)) told.2 ∙ greatests told.0 told.1 b has) (selects.shown clean);
    good = if_ok result _ _ (λ _ _. tt) selects.good;
    same = selects.same;
    damaged = λ clean damaged. greatest_damage (selects.damaged clean damaged);
    device = selects.device;
    undone = selects.undone;
    crash = selects.crash;
  }

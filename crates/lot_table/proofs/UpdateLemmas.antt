-- What UPDATE makes of the row of a key, and why it is refused, whatever the table is.
use Rattle.std.proofs.Common.{◌≡◌, ◌⊎◌, inl, inr, ℕ, ℤ, Bool, true, false, not, ◌||◌, cond, Option, None, Some, Ok, Err, List, [], ◌∷◌, map, filter, refl, sym, ap, ap₂, subst, ◌∙◌, Ordering, Less, is_eq, true≢false, IsPermutation}
use Rattle.std.specs.List.{AllByRecursion, list_any}
use Rattle.std.specs.Cmp.{IsTotalOrder}
use Rattle.std.specs.Ordering.{ordering_reverse}
use Rattle.std.proofs.lemmas.Bool.{false_from_ne_true}
use Rattle.std.proofs.lemmas.List.Sorted.{IsPermutation-sym, length_permutation}
use Rattle.sqlite.specs.Order.{Row}
use Rattle.sqlite.specs.Tree.{IsAscending, Trees, put_row, rowid}
use Rattle.sqlite.specs.View.{IsShaped}
use Rattle.sqlite.specs.Term.{Term, eval_all}
use Rattle.sqlite.specs.Cast.{cast_row}
use Rattle.sqlite.specs.Schema.{Schema}
use Rattle.sqlite.specs.Table as declared
use Rattle.sqlite.specs.Effect.{Answers, Database}
use Rattle.sqlite.specs.Rows.{Edited, Task, Written}
use Rattle.sqlite.specs.Does.{OnRows, Tally}
use Rattle.sqlite.specs.Command.TheVariants.{Update}
use Rattle.sqlite.specs.declared.error.Error.{Error}
use Rattle.sqlite.specs.declared.run.Mode.{Mode}
use Rattle.sqlite.proofs.Callers.{one_permutation}
use Rattle.sqlite_keyed.proofs.ListLemmas.{IsPermutation-filter, filter-map}
use Rattle.sqlite_rules.proofs.ListLemmas.{all_from, has_filtered, has_kept, some_has}
use Rattle.sqlite_rules.proofs.PlaceLemmas.{tied_same}
use Rattle.sqlite_rules.specs.Action.{works}
use Rattle.sqlite_rules.specs.Calls.{ids_of}
use Rattle.sqlite_rules.specs.Edit.{Edit, edit_of, edited, is_taken, without_all}
use Rattle.sqlite_rules.specs.Keys.{conflicts}
use Rattle.sqlite_rules.specs.Lists.{Has}
use Rattle.sqlite_rules.specs.Steps.{IsJudged}
use Rattle.sqlite_rules.specs.declared.error.Rowids.TheVariants.{Given}
use Rattle.sqlite_schema.specs.Rules.{Keeps}
use Rattle.sqlite_schema.specs.declared.schema.Constraint.TheVariants.{Unique}
use Rattle.sqlite_schema.specs.declared.schema.Keys.TheVariants.{Enforced}
use Rattle.sqlite_sql.proofs.QueryLemmas.{key_cmp_total}
use Rattle.sqlite_sql.specs.Program.{QueryOverflows}
use Rattle.sqlite_trees.specs.declared.store.Shape.TheVariants.{Table}
use Rattle.sqlite_typing.specs.Types.{accepts_program}
use Rattle.sqlite_value.specs.Keys.{rising}
use Rattle.sqlite_value.specs.Order.{value_cmp}
use Rattle.sqlite_value.specs.declared.value.Value.TheVariants.{Int}
use Rattle.lot_cost.proofs.OrderLemmas.{is_equal}
use Rattle.lot_table.specs.Rows.{HasRows, columns, has_key, key_order}
use Rattle.lot_table.proofs.DeleteLemmas.{answers}
use Rattle.lot_table.proofs.EditLemmas.{IsFree, StopsPut, never_stops, same_stop, stops_put}
use Rattle.lot_table.proofs.KeyLemmas.{AreNamed, filter_alike, not_passed, spares, taken_out}
use Rattle.lot_table.proofs.ReadLemmas.{arranged, passes, query, shown_same}
use Rattle.lot_table.proofs.StopLemmas.{Interrupts, ends, unqueried}
use Rattle.lot_table.proofs.WriteLemmas.{KeepsOthers, fails_here, same_value, steps, went}

-- ---- the row of a key

module _ (width : ℕ) (key : Row) where
  total : IsTotalOrder (key_order width)
  total = key_cmp_total (rising width []) 0

  none_behind : (r : Row) (rows : List Row) → has_key width key r ≡ true → AllByRecursion (λ s. key_order width r s ≡ Less) rows → filter (has_key width key) rows ≡ []
  none_behind r [] has below = refl
  none_behind r (s ∷ rows) has below =
      let less : key_order width key s ≡ Less = sym (total.congr r key s (is_equal _ has)) ∙ below.0 in
      let apart : has_key width key s ≡ false = ap is_eq (total.antisymm s key ∙ ap ordering_reverse less) in
      ap (λ b. cond b (s ∷ filter (has_key width key) rows) (filter (has_key width key) rows)) apart ∙ none_behind r rows has below.1

  one_has : (rows : List Row) → IsAscending (λ a b. key_order width a b ≡ Less) rows → list_any (has_key width key) rows ≡ true
      → (c : Row) × (filter (has_key width key) rows ≡ c ∷ [])
  one_has [] up some = absurd (true≢false (sym some))
  one_has (r ∷ rows) up some = by (has_key width key r) refl (one_has rows up.1)
    where
      by : (b : Bool) → has_key width key r ≡ b → (list_any (has_key width key) rows ≡ true → (c : Row) × (filter (has_key width key) rows ≡ c ∷ []))
          → (c : Row) × (filter (has_key width key) (r ∷ rows) ≡ c ∷ [])
      by true has more = (r, ap (λ b. cond b (r ∷ filter (has_key width key) rows) (filter (has_key width key) rows)) has ∙ ap (λ l. r ∷ l) (none_behind r rows has up.0))
      by false other more =
          let found = more (rw other at some) in
          (found.0, ap (λ b. cond b (r ∷ filter (has_key width key) rows) (filter (has_key width key) rows)) other ∙ found.1)

  only : (rows : List Row) (c : Row) → map columns rows ≡ c ∷ [] → (r : Row) × (rows ≡ r ∷ [])
  only [] c is = absurd cc
  only (r ∷ []) c is = (r, refl)
  only (r ∷ s ∷ rows) c is = absurd cc

  -- one stored row has a key that is there
  pub stored_one : (tree rows : List Row) → HasRows width tree rows → list_any (has_key width key) rows ≡ true
      → (r : Row) × (filter (λ r. has_key width key (columns r)) tree ≡ r ∷ [])
  stored_one tree rows kept some =
      let one = one_has rows kept.rises some in
      let same = subst (IsPermutation (filter (has_key width key) (map columns tree))) one.1 (IsPermutation-filter (has_key width key) _ _ kept.same) in
      only (filter (λ r. has_key width key (columns r)) tree) one.0
      (sym (filter-map (has_key width key) columns tree) ∙ one_permutation one.0 _ (IsPermutation-sym _ _ same))

-- ---- what is done to it

-- the stored row of the key, which gets other columns
module _ (schema : Schema) (table : declared.Table) (limit : Option ℕ) (params : Row) (width : ℕ) (tests shows : List Term) (row : Row) (db : Trees) (shaped : IsShaped Table (db table.tree))
    (alike : (r : Row) → Has (db table.tree) r → passes table.tree tests shows [] params db r ≡ has_key width row (columns r))
    (id : ℤ) (old : Row) (one : filter (λ r. has_key width row (columns r)) (db table.tree) ≡ (Int id ∷ old) ∷ [])
    (sets : eval_all shows (params ∷ (Int id ∷ old) ∷ []) ≡ Int id ∷ Int id ∷ row) where
  abbrev task : Task
  task = record { limit = limit; keys = Enforced; schema = schema; table = table; params = params }

  abbrev at : ℕ
  at = table.tree

  abbrev new : Row
  new = Int id ∷ row

  abbrev is_its : Row → Bool
  is_its r = has_key width row (columns r)

  abbrev left : List Row
  left = filter (spares width row) (db at)

  its : Has (db at) (Int id ∷ old) × (is_its (Int id ∷ old) ≡ true)
  its = has_filtered is_its (db at) (Int id ∷ old) (subst (λ l. Has l (Int id ∷ old)) (sym one) (inl refl))

  found_as : (rows : List Row) → Answers (record { schema = schema; trees = db }) (record { lets = []; body = query at tests shows [] }) params rows → rows ≡ (Int id ∷ new) ∷ []
  found_as rows answer =
      let same = shown_same at tests shows [] params db rows (arranged at tests shows [] params db rows (answers at tests shows [] _ params rows answer)) in
      let picked : filter (passes at tests shows [] params db) (db at) ≡ (Int id ∷ old) ∷ [] = filter_alike _ is_its (db at) (all_from _ (db at) alike) ∙ one in
      one_permutation _ rows (subst (λ l. IsPermutation (map (λ r. eval_all shows (params ∷ r ∷ [])) l) rows) picked same) ∙ ap (λ r. r ∷ []) sets

  edit_as : (rows : List Row) → rows ≡ (Int id ∷ new) ∷ [] → edit_of db table (ids_of rows) Given 1 rows ≡ edit_of db table (id ∷ []) Given 0 (new ∷ [])
  edit_as rows is = ap (λ l. edit_of db table (ids_of l) Given 1 l) is

  left_as : without_all (db at) (id ∷ []) ≡ left
  left_as = taken_out (db at) is_its ((Int id ∷ []) ∷ []) shaped (record {
    sound = λ x h. elim h [ inl same ↦ (Int id ∷ old, its.0, its.1, same) | inr none ↦ absurd none ];
    complete = λ r h k. elim (subst (λ l. Has l r) one (has_kept is_its (db at) r h k)) [ inl same ↦ inl (ap (λ y. rowid y ∷ []) same) | inr none ↦ absurd none ];
  })

  -- no other row has its rowid
  pub free_left : is_taken left new ≡ false
  free_left = false_from_ne_true _ (λ taken.
      let other = some_has (λ r. is_eq (value_cmp (rowid r) (Int id))) left taken in
      let kept = has_filtered (spares width row) (db at) other.0 other.1 in
      let same : other.0 ≡ Int id ∷ old = tied_same (db at) other.0 (Int id ∷ old) shaped.0 kept.0 its.0 (is_equal _ other.2) in
      true≢false (sym its.1 ∙ sym (ap is_its same) ∙ not_passed _ kept.1))

  pub updates : (unreferred : (olds news : List Row) → works schema Enforced 0 table.tree olds news ≡ []) → cast_row table new ≡ new → (mode : Mode) (place : ℕ) (out : Tally × Database)
      → OnRows task mode None (Update place (record { lets = []; body = query at tests shows [] })) db (Ok out)
      → (out.1.trees at ≡ put_row new left) × KeepsOthers schema at db out.1.trees
  updates unreferred casts mode place out h =
      let w = went h in
      let now = went w.2 in
      let last = went now.2 in
      let found = went w.1 in
      let done = went found.2 in
      let s = steps task unreferred db done.0 (ids_of found.0) Given 1 found.0 done.1 in
      let trees : out.1 ≡ record { schema = schema; trees = w.0.trees } = ap (λ (o : Tally × Database). o.1) (same_value {E = Option Error} last.2) in
      let written : out.1.trees ≡ done.0 = ap (λ (d : Database). d.trees) trees ∙ ap (λ (o : Written). o.trees) (same_value {E = Option Error} done.2) in (
        ap (λ (t : Trees). t at) written ∙ s.0 ∙ ap (edited db) (edit_as found.0 (found_as found.0 found.1))
            ∙ ap (λ r. put_row r (without_all (db at) (id ∷ []))) casts ∙ ap (put_row new) left_as,
        subst (KeepsOthers schema at db) (sym written) s.1,
      )

  -- ---- why it is refused

  pub stops_set : (free : IsFree schema table) (sound : Keeps Unique schema db) (judged : IsJudged table new None) (casts : cast_row table new ≡ new)
      (clashes : (r : Row) → Has (db at) r → conflicts None schema.indexes table new r ≡ (is_eq (value_cmp (rowid r) (Int id)) || is_its r))
      (typed : accepts_program schema [] (query at tests shows []) params ≡ true) (steady : (trees : Trees) → QueryOverflows (query at tests shows []) trees params → ⊥)
      (mode : Mode) (place : ℕ) (stop : Option Error) → OnRows task mode None (Update place (record { lets = []; body = query at tests shows [] })) db (Err stop)
      → StopsPut schema table id row stop ⊎ Interrupts limit stop
  stops_set free sound judged casts clashes typed steady mode place stop h = go h
    where
      apart : (r : Row) → Has (without_all (db at) (id ∷ [])) r → conflicts None schema.indexes table new r ≡ false
      apart r h =
          let here = subst (λ l. Has l r) left_as h in
          let kept = has_filtered (spares width row) (db at) r here in
          clashes r kept.0 ∙ ap₂ ◌||◌ (fails_here (λ y. is_eq (value_cmp (rowid y) (Int id))) left r free_left here) (not_passed _ kept.1)

      go : OnRows task mode None (Update place (record { lets = []; body = query at tests shows [] })) db (Err stop) → StopsPut schema table id row stop ⊎ Interrupts limit stop
      go (inr (w, wrote, h)) = absurd (ends schema table free limit params db sound shaped mode w stop h)
      go (inl (kept, inl (unread, h, is), named)) =
          inr (subst (Interrupts limit) (sym (same_stop {A = Tally × Database} named ∙ same_stop {A = Written} is)) (unqueried schema table free limit params db sound shaped (query at tests shows []) typed steady unread h))
      go (inl (kept, inr (rows, answer, inl (step, h, is)), named)) =
          inl (subst (StopsPut schema table id row) (sym (same_stop {A = Tally × Database} named ∙ same_stop {A = Written} is))
          (stops_put schema table free db shaped.0 sound (id ∷ []) id row judged (subst (λ l. is_taken l new ≡ false) (sym left_as) free_left) apart casts step
          (subst (λ (e : Edit). Edited schema Enforced db e (Err step)) (edit_as rows (found_as rows answer)) h)))
      go (inl (kept, inr (rows, answer, inr (next, done, h)), named)) = absurd (let e = h in cc)

-- ---- no row of the key

no_permutation : (rows : List Row) → IsPermutation {X = Row} [] rows → rows ≡ []
no_permutation [] same = refl
no_permutation (r ∷ rows) same = absurd (let long = length_permutation [] (r ∷ rows) same in cc)

pub filter_none : {A : Type 0} (p : A → Bool) (xs : List A) → ((x : A) → Has xs x → p x ≡ false) → filter p xs ≡ []
filter_none p [] fails = refl
filter_none p (x ∷ xs) fails = ap (λ b. cond b (x ∷ filter p xs) (filter p xs)) (fails x (inl refl)) ∙ filter_none p xs (λ y h. fails y (inr h))

module _ (schema : Schema) (table : declared.Table) (limit : Option ℕ) (params : Row) (tests shows : List Term) (db : Trees)
    (none : filter (passes table.tree tests shows [] params db) (db table.tree) ≡ []) where
  abbrev task_none : Task
  task_none = record { limit = limit; keys = Enforced; schema = schema; table = table; params = params }

  abbrev here : ℕ
  here = table.tree

  found_none : (rows : List Row) → Answers (record { schema = schema; trees = db }) (record { lets = []; body = query here tests shows [] }) params rows → rows ≡ []
  found_none rows answer =
      let same = shown_same here tests shows [] params db rows (arranged here tests shows [] params db rows (answers here tests shows [] _ params rows answer)) in
      no_permutation rows (subst (λ l. IsPermutation (map (λ r. eval_all shows (params ∷ r ∷ [])) l) rows) none same)

  pub updates_none : (unreferred : (olds news : List Row) → works schema Enforced 0 table.tree olds news ≡ []) (mode : Mode) (place : ℕ) (out : Tally × Database)
      → OnRows task_none mode None (Update place (record { lets = []; body = query here tests shows [] })) db (Ok out)
      → (out.1.trees here ≡ db here) × KeepsOthers schema here db out.1.trees
  updates_none unreferred mode place out h =
      let w = went h in
      let now = went w.2 in
      let last = went now.2 in
      let found = went w.1 in
      let done = went found.2 in
      let s = steps task_none unreferred db done.0 (ids_of found.0) Given 1 found.0 done.1 in
      let trees : out.1 ≡ record { schema = schema; trees = w.0.trees } = ap (λ (o : Tally × Database). o.1) (same_value {E = Option Error} last.2) in
      let written : out.1.trees ≡ done.0 = ap (λ (d : Database). d.trees) trees ∙ ap (λ (o : Written). o.trees) (same_value {E = Option Error} done.2) in (
        ap (λ (t : Trees). t here) written ∙ s.0 ∙ ap (λ l. edited db (edit_of db table (ids_of l) Given 1 l)) (found_none found.0 found.1),
        subst (KeepsOthers schema here db) (sym written) s.1,
      )

  pub stops_none : (free : IsFree schema table) (shaped : IsShaped Table (db table.tree)) (sound : Keeps Unique schema db)
      (typed : accepts_program schema [] (query here tests shows []) params ≡ true) (steady : (trees : Trees) → QueryOverflows (query here tests shows []) trees params → ⊥)
      (mode : Mode) (place : ℕ) (stop : Option Error) → OnRows task_none mode None (Update place (record { lets = []; body = query here tests shows [] })) db (Err stop) → Interrupts limit stop
  stops_none free shaped sound typed steady mode place stop (inr (w, wrote, h)) = absurd (ends schema table free limit params db sound shaped mode w stop h)
  stops_none free shaped sound typed steady mode place stop (inl (kept, inl (unread, h, is), named)) =
      subst (Interrupts limit) (sym (same_stop {A = Tally × Database} named ∙ same_stop {A = Written} is)) (unqueried schema table free limit params db sound shaped (query here tests shows []) typed steady unread h)
  stops_none free shaped sound typed steady mode place stop (inl (kept, inr (rows, answer, inl (step, h, is)), named)) =
      absurd (never_stops schema table free db shaped.0 sound [] step
      (subst (λ l. Edited schema Enforced db (edit_of db table (ids_of l) Given 1 l) (Err step)) (found_none rows answer) h))
  stops_none free shaped sound typed steady mode place stop (inl (kept, inr (rows, answer, inr (next, done, h)), named)) = absurd (let e = h in cc)

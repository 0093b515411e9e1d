-- What INSERT, INSERT OR REPLACE and DELETE make of a table, whatever the table is.
use Rattle.std.proofs.Common.{◌≡◌, ◌≢◌, ◌⊎◌, inl, inr, ℕ, ◌/◌, ℤ, pos, Bool, true, false, not, ◌||◌, cond, Option, None, Some, Ok, Err, List, [], ◌∷◌, ◌++◌, map, filter, drop, length, slice_get, fold, refl, sym, ap, subst, ◌∙◌, is_eq, is_lt, int_cmp, MatchBool, true≢false}
use Rattle.std.specs.List.{AllByRecursion, list_any}
use Rattle.sqlite.specs.Order.{Row}
use Rattle.sqlite.specs.Table as declared
use Rattle.sqlite.specs.Schema.{Schema}
use Rattle.sqlite.specs.Tree.{Trees, rowid, put_row}
use Rattle.sqlite.specs.View.{IsShaped}
use Rattle.sqlite.specs.Term.{Term}
use Rattle.sqlite.specs.Ops.{unary}
use Rattle.sqlite.specs.Cast.{cast, cast_row}
use Rattle.sqlite.specs.Effect.{Database}
use Rattle.sqlite.specs.declared.error.Error.{Error}
use Rattle.sqlite.specs.Kind.TheVariants.{Integer}
use Rattle.sqlite.specs.Rows.{Task, Written, Edited, Puts, Clears, Part, Outcome, Gives, Tries, TriesEach, CountsIn, count_of, higher, sequence, nothing, rowids_for, stamped, mended}
use Rattle.sqlite.specs.Does.{Tally, OnRows}
use Rattle.sqlite.specs.declared.run.Mode.{Mode}
use Rattle.sqlite.specs.Source.TheVariants.{Values}
use Rattle.sqlite.specs.Command.{Command}
use Rattle.sqlite.specs.Command.TheVariants.{Insert, InsertOr}
use Rattle.sqlite.specs.Effect.{value_rows}
use Rattle.sqlite_schema.specs.declared.command.Conflict.TheVariants.{Replace}
use Rattle.sqlite_value.specs.Order.{value_cmp}
use Rattle.sqlite_value.specs.declared.value.Value.{Value}
use Rattle.sqlite_value.specs.declared.value.Value.TheVariants.{Null, Int}
use Rattle.sqlite_trees.specs.declared.store.Shape.TheVariants.{Table}
use Rattle.sqlite_rules.specs.declared.error.Rowids.TheVariants.{Chosen, Above, Given}
use Rattle.sqlite_rules.specs.declared.error.Rowids.{Rowids}
use Rattle.sqlite_schema.specs.Rules.{Keeps}
use Rattle.sqlite_schema.specs.declared.schema.Constraint.TheVariants.{Unique}
use Rattle.sqlite_rules.specs.Edit.{edit_of, edited, taken_by, without_all, is_taken, next_rowid, with_rowid}
use Rattle.sqlite_rules.specs.Calls.{ids_of}
use Rattle.sqlite_rules.specs.Action.{works}
use Rattle.sqlite_rules.specs.Keys.{conflicts, AreConflicts}
use Rattle.sqlite_rules.specs.Lists.{Has}
use Rattle.sqlite_rules.proofs.ListLemmas.{some_from}
use Rattle.std.proofs.lemmas.Bool.{cases_Bool}
use Rattle.sqlite_rules.proofs.PlaceLemmas.{next_is_free}
use Rattle.sqlite_keyed.proofs.ListLemmas.{all_both}
use Rattle.sqlite.proofs.Callers.{one_step}
use Rattle.lot_table.specs.Rows.{columns, has_key}
use Rattle.lot_table.proofs.KeyLemmas.{spares, AreNamed, taken_out}

-- each other table is as it was
abbrev pub KeepsOthers : Schema → ℕ → Trees → Trees → Type 0
KeepsOthers schema tree old new = AllByRecursion (λ (t : declared.Table). t.tree ≢ tree → new t.tree ≡ old t.tree) schema.tables

pub others_then : (schema : Schema) (tree : ℕ) (a b c : Trees) → KeepsOthers schema tree a b → KeepsOthers schema tree b c → KeepsOthers schema tree a c
others_then schema tree a b c p q = all_both _ _ _ (λ t f g other. g other ∙ f other) schema.tables p q

-- a part that gave a value did not stop on the way
pub went : {B E R : Type 0} {b : B} {Stops : E → Type 0} → ((stop : E) × Stops stop × (◌≡◌ {A = Rattle.std.proofs.Common.Result B E} (Ok b) (Err stop))) ⊎ R → R
went (inl stopped) = absurd (let e = stopped.2 in cc)
went (inr on) = on

pub fails_here : {X : Type 0} (p : X → Bool) (xs : List X) (x : X) → list_any p xs ≡ false → Has xs x → p x ≡ false
fails_here p xs x none h = elim (cases_Bool (p x)) [ inl here ↦ absurd (true≢false (sym (some_from p xs x h here) ∙ none)) | inr fails ↦ fails ]

pub same_value : {B E : Type 0} {a b : B} → ◌≡◌ {A = Rattle.std.proofs.Common.Result B E} (Ok a) (Ok b) → a ≡ b
same_value e = cc

either : (b : Bool) (x : Value) → cond b x x ≡ x
either true x = refl
either false x = refl

pub cast_null : cast Integer Null ≡ Null
unfolding unary
cast_null = either _ Null

pub cast_int : (n : ℤ) → cast Integer (Int n) ≡ Int n
unfolding unary
cast_int n = either _ (Int n)

module _ (task : Task) (unreferred : (olds news : List Row) → works task.schema task.keys 0 task.table.tree olds news ≡ []) where
  abbrev at : ℕ
  at = task.table.tree

  -- one step, which sets off no action
  pub steps : (db next : Trees) (gone : List ℤ) (rowids : Rowids) (from : ℕ) (sources : List Row) → Edited task.schema task.keys db (edit_of db task.table gone rowids from sources) (Ok next)
      → (next at ≡ edited db (edit_of db task.table gone rowids from sources)) × KeepsOthers task.schema at db next
  steps db next gone rowids from sources h =
      let a = one_step task.schema task.keys db next (edit_of db task.table gone rowids from sources) (unreferred _ _) h in (a.rows, a.tables)

  -- a table that counts nothing
  uncounted_is : task.table.is_counted ≡ false → {A : Type 0} (b : Bool) (P Q : Part A) (o : Outcome A) → MatchBool (cond task.table.is_counted b false) (P o) (Q o) → Q o
  uncounted_is uncounted b P Q o h = subst (λ c. MatchBool (cond c b false) (P o) (Q o)) uncounted h

  -- INSERT of one row
  module _ (row : Row) (uncounted : task.table.is_counted ≡ false) (casts : (v : Value) → cast_row task.table (v ∷ row) ≡ cast Integer v ∷ row) (db : Trees) where
    abbrev Added : Trees → Type 0
    Added new = (new at ≡ put_row (Int (next_rowid (db at)) ∷ row) (db at)) × KeepsOthers task.schema at db new × Keeps Unique task.schema new

    numbered_row : (top : ℤ) → with_rowid (rowids_for task.table top) (db at) (cast_row task.table (Null ∷ row)) ≡ Int (next_rowid (db at)) ∷ row
    numbered_row top =
        ap (with_rowid (rowids_for task.table top) (db at)) (casts Null ∙ ap (λ v. v ∷ row) cast_null)
        ∙ ap (λ b. with_rowid (cond b (Above top) Chosen) (db at) (Null ∷ row)) uncounted

    added : (rows : List Row) (top : ℤ) (next : Trees) → rows ≡ (Null ∷ row) ∷ []
        → Edited task.schema task.keys db (edit_of db task.table [] (rowids_for task.table top) 0 rows) (Ok next) → Added next
    added rows top next is h =
        let edit = edit_of db task.table [] (rowids_for task.table top) 0 rows in
        let a = one_step task.schema task.keys db next edit (unreferred (taken_by db edit) edit.news) h in
        (a.rows ∙ ap (λ l. edited db (edit_of db task.table [] (rowids_for task.table top) 0 l)) is ∙ ap (λ r. put_row r (db at)) (numbered_row top), a.tables, a.fits.rules Unique (λ e. cc))

    pub adds : (mode : Mode) (terms : List Term) (count : ℕ) (place : ℕ) (out : Tally × Database) → value_rows (stamped task.table task.params) count (length terms / count) terms ≡ (Null ∷ row) ∷ []
        → OnRows task mode None (Insert place (Values terms count)) db (Ok out) → Added out.1.trees × (out.1.schema ≡ task.schema)
    adds mode terms count place out given h =
        let w = went h in
        let now = went w.2 in
        let last = went now.2 in
        let from = went w.1 in
        let counter = went from.2 in
        let mid = went counter.2 in
        let done = went mid.2 in
        let news = (edit_of db task.table [] (rowids_for task.table (count_of counter.0)) 0 from.0).news in
        let top = fold higher (count_of counter.0) news in
        let next : done.0 ≡ mid.0 = same_value {E = Option Error} (uncounted_is uncounted (is_lt (int_cmp (count_of counter.0) top)) (CountsIn task mid.0 counter.0 top (sequence task.schema)) (Gives mid.0) (Ok done.0) done.1) in
        let trees : out.1 ≡ record { schema = task.schema; trees = w.0.trees } = ap (λ (o : Tally × Database). o.1) (same_value {E = Option Error} last.2) in
        let written : w.0.trees ≡ mid.0 = ap (λ (o : Written). o.trees) (same_value {E = Option Error} done.2) ∙ next in
        (subst Added (sym (ap (λ (d : Database). d.trees) trees ∙ written)) (added from.0 (count_of counter.0) mid.0 (from.1.1 ∙ given) mid.1), ap (λ (d : Database). d.schema) trees)

  puts : (db : Trees) (new : Row) (done : Written) → cast_row task.table new ≡ new → Puts task new db (Ok done)
      → (done.trees at ≡ put_row new (db at)) × KeepsOthers task.schema at db done.trees
  puts db new done casts h =
      let a = went h in
      let s = steps db a.0 [] Given 0 (new ∷ []) a.1 in
      let same : done.trees ≡ a.0 = ap (λ (w : Written). w.trees) (same_value {E = Option Error} a.2) in
      (ap (λ (t : Trees). t at) same ∙ s.0 ∙ ap (λ r. put_row r (db at)) casts, subst (KeepsOthers task.schema at db) (sym same) s.1)

  clears : (db : Trees) (new : Row) (found : List Row) (done : Written) → cast_row task.table new ≡ new → Clears task Replace new db found (Ok done)
      → (done.trees at ≡ put_row new (without_all (db at) (ids_of found))) × KeepsOthers task.schema at db done.trees
  clears db new [] done casts h = puts db new done casts h
  clears db new (x ∷ more) done casts h =
      let a = went h in
      let s = steps db a.0 (ids_of (x ∷ more)) Given 0 [] a.1 in
      let p = puts a.0 new done casts a.2 in
      (p.0 ∙ ap (put_row new) s.0, others_then task.schema at db a.0 done.trees s.1 p.1)

  abbrev Replaced : ℕ → Row → Trees → Trees → Type 0
  Replaced width row db new =
      (is_taken (db at) (Int (next_rowid (db at)) ∷ row) ≡ false) × (new at ≡ put_row (Int (next_rowid (db at)) ∷ row) (filter (spares width row) (db at))) × KeepsOthers task.schema at db new

  module _ (width : ℕ) (row : Row) (uncounted : task.table.is_counted ≡ false) (mends : mended Replace task.table (Null ∷ row) ≡ Null ∷ row)
      (casts : (v : Value) → cast_row task.table (v ∷ row) ≡ cast Integer v ∷ row) (db : Trees)
      (clash : (r : Row) (id : ℤ) → Has (db at) r → conflicts None task.schema.indexes task.table (Int id ∷ row) r ≡ (is_eq (value_cmp (rowid r) (Int id)) || has_key width row (columns r)))
      (shaped : IsShaped Table (db at)) where
    named : (id : ℤ) (found : List Row) → is_taken (db at) (Int id ∷ row) ≡ false → AreConflicts None task.schema.indexes task.table (db at) (Int id ∷ row) found
        → AreNamed (db at) (λ r. has_key width row (columns r)) found
    named id found free are =
        let apart = λ (r : Row) (h : Has (db at) r). clash r id h ∙ ap (λ b. b || has_key width row (columns r)) (fails_here (λ x. is_eq (value_cmp (rowid x) (Int id))) (db at) r free h) in
        record {
          sound = λ x h. let r = are.sound x h in (r.0, r.1, sym (apart r.0 r.1) ∙ r.2, r.3);
          complete = λ r h k. are.complete r h (apart r h ∙ k);
        }

    settled : (one : Written) → is_taken (db at) (Int (next_rowid (db at)) ∷ row) ≡ false → Tries task Replace [] (Int (next_rowid (db at)) ∷ row) db (Ok one) → Replaced width row db one.trees
    settled one free (inl refused) = absurd (let e = refused.1 in cc)
    settled one free (inr (Some why, judged, h)) = absurd (let e = h in cc)
    settled one free (inr (None, judged, h)) =
        let id = next_rowid (db at) in
        let c = clears db (Int id ∷ row) h.0 one (casts (Int id) ∙ ap (λ v. v ∷ row) (cast_int id)) h.2 in
        (free, c.0 ∙ ap (put_row (Int id ∷ row)) (taken_out (db at) _ h.0 shaped (named id h.0 free h.1)), c.1)

    new_row : (top : ℤ) → with_rowid (rowids_for task.table top) (db at) (cast_row task.table (mended Replace task.table (Null ∷ row))) ≡ Int (next_rowid (db at)) ∷ row
    new_row top =
        ap (λ r. with_rowid (rowids_for task.table top) (db at) (cast_row task.table r)) mends ∙ ap (with_rowid (rowids_for task.table top) (db at)) (casts Null ∙ ap (λ v. v ∷ row) cast_null)
        ∙ ap (λ b. with_rowid (cond b (Above top) Chosen) (db at) (Null ∷ row)) uncounted

    one_row : (rows : List Row) (top : ℤ) (out : Written × ℤ) → rows ≡ (Null ∷ row) ∷ [] → TriesEach task Replace [] rows top (nothing db) (Ok out) → Replaced width row db out.0.trees
    one_row rows top out is h =
        let a = went (subst (λ l. TriesEach task Replace [] l top (nothing db) (Ok out)) is h) in
        let same : out.0.trees ≡ a.0.trees = ap (λ (o : Written × ℤ). o.0.trees) (same_value {E = Option Error} a.2) in
        let s = settled a.0 (next_is_free Chosen (db at) row shaped.0 shaped.1) (subst (λ r. Tries task Replace [] r db (Ok a.0)) (new_row top) a.1) in
        subst (Replaced width row db) (sym same) s

    -- INSERT OR REPLACE of one row, whose key is the only UNIQUE
    pub replaces : (mode : Mode) (terms : List Term) (count : ℕ) (place : ℕ) (out : Tally × Database) → value_rows (stamped task.table task.params) count (length terms / count) terms ≡ (Null ∷ row) ∷ []
        → OnRows task mode None (InsertOr place Replace (Values terms count) []) db (Ok out) → Replaced width row db out.1.trees × (out.1.schema ≡ task.schema)
    replaces mode terms count place out given h =
        let w = went h in
        let now = went w.2 in
        let last = went now.2 in
        let from = went w.1 in
        let counter = went from.2 in
        let tried = went counter.2 in
        let done = went tried.2 in
        let next : done.0 ≡ tried.0.0.trees = same_value {E = Option Error} (uncounted_is uncounted (is_lt (int_cmp (count_of counter.0) tried.0.1)) (CountsIn task tried.0.0.trees counter.0 tried.0.1 (sequence task.schema)) (Gives tried.0.0.trees) (Ok done.0) done.1) in
        let trees : out.1 ≡ record { schema = task.schema; trees = w.0.trees } = ap (λ (o : Tally × Database). o.1) (same_value {E = Option Error} last.2) in
        let written : w.0.trees ≡ tried.0.0.trees = ap (λ (o : Written). o.trees) (same_value {E = Option Error} done.2) ∙ next in
        (subst (Replaced width row db) (sym (ap (λ (d : Database). d.trees) trees ∙ written)) (one_row from.0 _ tried.0 (from.1.1 ∙ given) tried.1), ap (λ (d : Database). d.schema) trees)

-- a statement on rows leaves the schema
pub schema_kept : (task : Task) (mode : Mode) (command : Command) (db : Trees) (out : Tally × Database) → OnRows task mode None command db (Ok out) → out.1.schema ≡ task.schema
schema_kept task mode command db out h =
    let w = went h in
    let now = went w.2 in
    let last = went now.2 in
    ap (λ (o : Tally × Database). o.1.schema) (same_value {E = Option Error} last.2)

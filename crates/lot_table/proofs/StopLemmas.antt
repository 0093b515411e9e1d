-- Why INSERT and INSERT OR REPLACE of one row and DELETE are refused, whatever the table is: for lack of room alone.
use Rattle.std.proofs.Common.{IsSome, ◌≡◌, ◌⊎◌, inl, inr, ℕ, ◌/◌, ℤ, Bool, true, false, not, cond, Option, None, Some, Err, List, [], ◌∷◌, filter, fold, length, refl, sym, ap, subst, ◌∙◌, MatchBool, true≢false, is_lt, int_cmp}
use Rattle.std.proofs.lemmas.Bool.{false_from_ne_true}
use Rattle.sqlite.specs.Command.TheVariants.{Insert, InsertOr}
use Rattle.sqlite.specs.Does.{OnRows, Concludes, Tally}
use Rattle.sqlite.specs.Effect.{Database, value_rows}
use Rattle.sqlite.specs.Order.{Row}
use Rattle.sqlite.specs.Rows.{Clears, Edited, Puts, Task, Tries, TriesEach, Written, count_of, higher, mended, nothing, rowids_for, stamped}
use Rattle.sqlite.specs.Schema.{Schema}
use Rattle.sqlite.specs.Source.TheVariants.{Values}
use Rattle.sqlite.specs.Table as declared
use Rattle.sqlite.specs.Term.{Term}
use Rattle.sqlite.specs.Tree.{Trees}
use Rattle.sqlite.specs.View.{IsShaped}
use Rattle.sqlite.specs.Cast.{cast, cast_row}
use Rattle.sqlite.specs.Kind.TheVariants.{Integer}
use Rattle.sqlite.specs.declared.error.Error.TheVariants.{SqliteFailure}
use Rattle.sqlite.specs.declared.error.Error.{Error}
use Rattle.sqlite.specs.declared.error.ErrorCode.TheVariants as code
use Rattle.sqlite.specs.declared.run.Mode.{Mode}
use Rattle.sqlite_rules.proofs.ListLemmas.{has_filtered, some_from, some_has}
use Rattle.sqlite_rules.proofs.PlaceLemmas.{next_is_free}
use Rattle.sqlite_rules.proofs.TableLemmas.{without_all_has}
use Rattle.sqlite_rules.specs.Calls.{ids_of}
use Rattle.sqlite_rules.specs.Edit.{taken_by, edit_of, is_taken, next_rowid, with_rowid, without_all}
use Rattle.sqlite_rules.specs.Keys.{AreConflicts, conflicts}
use Rattle.sqlite_rules.specs.Lists.{Has}
use Rattle.sqlite_rules.specs.Steps.{IsJudged}
use Rattle.sqlite_rules.specs.declared.error.Refusal.TheVariants.{BadReference, Mismatch, NoRowid, TooDeep, Violates}
use Rattle.sqlite_rules.specs.declared.error.Refusal.{Refusal}
use Rattle.sqlite_rules.specs.declared.error.Rowids.TheVariants.{Chosen, Given}
use Rattle.sqlite_schema.specs.Rules.{Keeps}
use Rattle.sqlite_schema.specs.declared.command.Conflict.TheVariants.{Replace}
use Rattle.sqlite_schema.specs.declared.schema.Constraint.TheVariants.{Check, Datatype, ForeignKey, NotNull, PrimaryKey, Unique}
use Rattle.sqlite_schema.specs.declared.schema.Keys.TheVariants.{Enforced}
use Rattle.sqlite_trees.specs.Tree.{IsTable}
use Rattle.sqlite_trees.specs.declared.store.Shape.TheVariants.{Table}
use Rattle.sqlite_value.specs.declared.value.Value.TheVariants.{Int, Null}
use Rattle.sqlite_value.specs.declared.value.Value.{Value}
use Rattle.lot_table.proofs.KeyLemmas.{not_passed, taken_out}
use Rattle.lot_table.proofs.WriteLemmas.{cast_int, cast_null}
use Rattle.sqlite.proofs.Callers.{one_step}
use Rattle.sqlite_keyed.proofs.ListLemmas.{ascending-filter}
use Rattle.sqlite_schema.specs.declared.command.Upsert.{Upsert}
use Rattle.sqlite_typing.specs.Types.{accepts_program, accepts_terms}
use Rattle.sqlite_rules.specs.declared.error.Rowids.TheVariants.{Above}
use Rattle.sqlite.specs.Command.TheVariants.{Delete}
use Rattle.sqlite.specs.Query.{Query}
use Rattle.sqlite.specs.Rows.{Queried, Sourced}
use Rattle.sqlite_sql.specs.Program.{QueryOverflows}
use Rattle.lot_table.proofs.EditLemmas.{IsFree, StopsPut, never_stops, same_stop, stops_put}

-- the limit on steps was reached
abbrev pub Interrupts : Option ℕ → Option Error → Type 0
Interrupts limit stop = (stop ≡ Some (SqliteFailure code.OperationInterrupted)) × IsSome limit

module _ (schema : Schema) (table : declared.Table) (free : IsFree schema table) (limit : Option ℕ) (params : Row) (db : Trees) (sound : Keeps Unique schema db) (shaped : IsShaped Table (db table.tree)) where
  abbrev task : Task
  task = record { limit = limit; keys = Enforced; schema = schema; table = table; params = params }

  -- what is done once the rows are written never stops
  pub ends : (mode : Mode) (w : Written) (stop : Option Error) → Concludes task mode None w (Err stop) → ⊥
  ends mode w stop (inl untested) = untested.1.0 (free.refers _ w.trees)
  ends mode w stop (inr (among, tested, inl unshown)) = let e = unshown.1 in cc
  ends mode w stop (inr (among, tested, inr (shown, gives, h))) = let e = h in cc

  module _ (row : Row) (uncounted : table.is_counted ≡ false) (mends : mended Replace table (Null ∷ row) ≡ Null ∷ row) (casts : (v : Value) → cast_row table (v ∷ row) ≡ cast Integer v ∷ row)
      (judged : (id : ℤ) → IsJudged table (Int id ∷ row) None) where
    abbrev id : ℤ
    id = next_rowid (db table.tree)

    abbrev new : Row
    new = Int id ∷ row

    stored : cast_row table new ≡ new
    stored = casts (Int id) ∙ ap (λ v. v ∷ row) (cast_int id)

    unused : is_taken (db table.tree) new ≡ false
    unused = next_is_free Chosen (db table.tree) row shaped.0 shaped.1

    refuted : (why : Refusal) → IsJudged table new (Some why) → ⊥
    refuted Mismatch h = true≢false h
    refuted NoRowid h = h
    refuted BadReference h = h
    refuted TooDeep h = h
    refuted (Violates Datatype) h = true≢false (sym (judged id).1 ∙ h)
    refuted (Violates NotNull) h = true≢false (sym (judged id).2 ∙ h)
    refuted (Violates Check) h = true≢false (sym (judged id).3 ∙ h)
    refuted (Violates PrimaryKey) h = h
    refuted (Violates Unique) h = h
    refuted (Violates ForeignKey) h = h

    left_are : (found : List Row) → AreConflicts None schema.indexes table (db table.tree) new found
        → without_all (db table.tree) (ids_of found) ≡ filter (λ r. not (conflicts None schema.indexes table new r)) (db table.tree)
    left_are found are = taken_out (db table.tree) (conflicts None schema.indexes table new) found shaped (record { sound = are.sound; complete = are.complete })

    -- no row that is left conflicts with the new one
    left_apart : (found : List Row) → AreConflicts None schema.indexes table (db table.tree) new found → (r : Row) → Has (without_all (db table.tree) (ids_of found)) r → conflicts None schema.indexes table new r ≡ false
    left_apart found are r h =
        let kept = has_filtered _ (db table.tree) r (subst (λ l. Has l r) (left_are found are) h) in
        not_passed _ kept.1

    still_unused : (found : List Row) → is_taken (without_all (db table.tree) (ids_of found)) new ≡ false
    still_unused found = false_from_ne_true _ (λ taken.
        let r = some_has _ _ taken in
        true≢false (sym (some_from _ (db table.tree) r.0 (without_all_has (ids_of found) (db table.tree) r.0 r.1) r.2) ∙ unused))

    stops_puts : (mid : Trees) (stop : Option Error) → IsTable (mid table.tree) → Keeps Unique schema mid → is_taken (mid table.tree) new ≡ false
        → ((r : Row) → Has (mid table.tree) r → conflicts None schema.indexes table new r ≡ false) → Puts task new mid (Err stop) → StopsPut schema table id row stop
    stops_puts mid stop ordered unique free_id apart (inl h) = subst (StopsPut schema table id row) (sym (same_stop {A = Written} h.2)) (stops_put schema table free mid ordered unique [] id row (judged id) free_id apart stored h.0 h.1)
    stops_puts mid stop ordered unique free_id apart (inr (next, done, h)) = absurd (let e = h in cc)

    stops_clears : (found : List Row) (stop : Option Error) → AreConflicts None schema.indexes table (db table.tree) new found → Clears task Replace new db found (Err stop) → StopsPut schema table id row stop
    stops_clears [] stop are h = stops_puts db stop shaped.0 sound unused (left_apart [] are) h
    stops_clears (x ∷ more) stop are (inl h) = absurd (never_stops schema table free db shaped.0 sound (ids_of (x ∷ more)) h.0 h.1)
    stops_clears (x ∷ more) stop are (inr (mid, done, h)) =
        let gone = ids_of (x ∷ more) in
        let a = one_step schema Enforced db mid (edit_of db table gone Given 0 []) (free.unreferred (taken_by db (edit_of db table gone Given 0 [])) []) done in
        let here : mid table.tree ≡ without_all (db table.tree) gone = a.rows in
        stops_puts mid stop (subst IsTable (sym (here ∙ left_are (x ∷ more) are)) (ascending-filter _ _ (db table.tree) shaped.0)) (a.fits.rules Unique (λ e. cc)) (subst (λ l. is_taken l new ≡ false) (sym here) (still_unused (x ∷ more)))
        (λ r h. left_apart (x ∷ more) are r (subst (λ l. Has l r) here h)) h

    stops_tries : (clauses : List Upsert) (stop : Option Error) → clauses ≡ [] → Tries task Replace clauses new db (Err stop) → StopsPut schema table id row stop
    stops_tries clauses stop none (inl h) = subst (StopsPut schema table id row) (sym (same_stop {A = Written} h.1)) (refl, h.0)
    stops_tries clauses stop none (inr (Some why, refuses, h)) = absurd (refuted why refuses)
    stops_tries clauses stop none (inr (None, passes, h)) = let it = rw none at h in stops_clears it.0 stop it.1 it.2

    otherwise : (P : Type 0) {Q : Type 0} (b : Bool) → b ≡ false → MatchBool b P Q → Q
    otherwise P b off h = rw off at h

    numbered_row : (top : ℤ) → with_rowid (rowids_for table top) (db table.tree) (cast_row table (Null ∷ row)) ≡ new
    numbered_row top =
        ap (with_rowid (rowids_for table top) (db table.tree)) (casts Null ∙ ap (λ v. v ∷ row) cast_null)
        ∙ ap (λ b. with_rowid (cond b (Above top) Chosen) (db table.tree) (Null ∷ row)) uncounted

    new_row : (top : ℤ) → with_rowid (rowids_for table top) (db table.tree) (cast_row table (mended Replace table (Null ∷ row))) ≡ new
    new_row top = ap (λ r. with_rowid (rowids_for table top) (db table.tree) (cast_row table r)) mends ∙ numbered_row top

    stops_each : (rows : List Row) (top : ℤ) (stop : Option Error) → rows ≡ (Null ∷ row) ∷ [] → TriesEach task Replace [] rows top (nothing db) (Err stop) → StopsPut schema table id row stop
    stops_each rows top stop is h = elim (subst (λ l. TriesEach task Replace [] l top (nothing db) (Err stop)) is h) [
      | inl stopped ↦ subst (StopsPut schema table id row) (sym (same_stop {A = Written × ℤ} stopped.2)) (stops_tries [] stopped.0 refl (subst (λ r. Tries task Replace [] r db (Err stopped.0)) (new_row top) stopped.1))
      | inr on ↦ absurd (let e = on.2 in cc)
    ]

    unsourced : (terms : List Term) (count : ℕ) (stop : Option Error) → accepts_terms terms (stamped table params) ≡ true
        → Sourced limit (record { schema = schema; trees = db }) (stamped table params) (Values terms count) (Err stop) → Interrupts limit stop
    unsourced terms count None typed h = absurd h
    unsourced terms count (Some e) typed (inl mistyped) = absurd (true≢false (sym typed ∙ mistyped.1))
    unsourced terms count (Some e) typed (inr limited) = (ap (λ x. Some x) limited.0, limited.1)

    -- INSERT OR REPLACE of one row
    pub stops_replace : (mode : Mode) (terms : List Term) (count : ℕ) (place : ℕ) (stop : Option Error) → value_rows (stamped table params) count (length terms / count) terms ≡ (Null ∷ row) ∷ []
        → accepts_terms terms (stamped table params) ≡ true → OnRows task mode None (InsertOr place Replace (Values terms count) []) db (Err stop) → StopsPut schema table id row stop ⊎ Interrupts limit stop
    stops_replace mode terms count place stop given typed (inr (w, wrote, h)) = absurd (ends mode w stop h)
    stops_replace mode terms count place stop given typed (inl (kept, inl (unread, refuses, is), named)) =
        inr (subst (Interrupts limit) (sym (same_stop {A = Tally × Database} named ∙ same_stop {A = Written} is)) (unsourced terms count unread typed refuses))
    stops_replace mode terms count place stop given typed (inl (kept, inr (rows, source, inl (uncounts, h, is)), named)) =
        absurd (let e = otherwise _ table.is_counted uncounted h in cc)
    stops_replace mode terms count place stop given typed (inl (kept, inr (rows, source, inr (counter, counted, inl (tries, h, is))), named)) =
        inl (subst (StopsPut schema table id row) (sym (same_stop {A = Tally × Database} named ∙ same_stop {A = Written} is)) (stops_each rows _ tries (source.1 ∙ given) h))
    stops_replace mode terms count place stop given typed (inl (kept, inr (rows, source, inr (counter, counted, inr (done, tried, inl (counts, h, is)))), named)) =
        absurd (let e = otherwise _ (cond table.is_counted (is_lt (int_cmp (count_of counter) done.1)) false) (ap (λ c. cond c (is_lt (int_cmp (count_of counter) done.1)) false) uncounted) h in cc)
    stops_replace mode terms count place stop given typed (inl (kept, inr (rows, source, inr (counter, counted, inr (done, tried, inr (next, on, h)))), named)) = absurd (let e = h in cc)

    -- INSERT of one row, whose key no row has
    module _ (apart : (r : Row) → Has (db table.tree) r → conflicts None schema.indexes table new r ≡ false) where
      stops_added : (rows : List Row) (top : ℤ) (stop : Option Error) → rows ≡ (Null ∷ row) ∷ []
          → Edited schema Enforced db (edit_of db table [] (rowids_for table top) 0 rows) (Err stop) → StopsPut schema table id row stop
      stops_added rows top stop is h =
          let one : edit_of db table [] (rowids_for table top) 0 ((Null ∷ row) ∷ []) ≡ edit_of db table [] Given 0 (new ∷ []) = ap (λ r. record { table = table; gone = []; news = r ∷ [] }) (numbered_row top ∙ sym stored) in
          stops_put schema table free db shaped.0 sound [] id row (judged id) unused apart stored stop
          (subst (λ e. Edited schema Enforced db e (Err stop)) (ap (λ l. edit_of db table [] (rowids_for table top) 0 l) is ∙ one) h)

      pub stops_add : (mode : Mode) (terms : List Term) (count : ℕ) (place : ℕ) (stop : Option Error) → value_rows (stamped table params) count (length terms / count) terms ≡ (Null ∷ row) ∷ []
          → accepts_terms terms (stamped table params) ≡ true → OnRows task mode None (Insert place (Values terms count)) db (Err stop) → StopsPut schema table id row stop ⊎ Interrupts limit stop
      stops_add mode terms count place stop given typed (inr (w, wrote, h)) = absurd (ends mode w stop h)
      stops_add mode terms count place stop given typed (inl (kept, inl (unread, refuses, is), named)) =
          inr (subst (Interrupts limit) (sym (same_stop {A = Tally × Database} named ∙ same_stop {A = Written} is)) (unsourced terms count unread typed refuses))
      stops_add mode terms count place stop given typed (inl (kept, inr (rows, source, inl (uncounts, h, is)), named)) =
          absurd (let e = otherwise _ table.is_counted uncounted h in cc)
      stops_add mode terms count place stop given typed (inl (kept, inr (rows, source, inr (counter, counted, inl (step, h, is))), named)) =
          inl (subst (StopsPut schema table id row) (sym (same_stop {A = Tally × Database} named ∙ same_stop {A = Written} is)) (stops_added rows (count_of counter) step (source.1 ∙ given) h))
      stops_add mode terms count place stop given typed (inl (kept, inr (rows, source, inr (counter, counted, inr (mid, went, inl (counts, h, is)))), named)) =
          let top = fold higher (count_of counter) (edit_of db table [] (rowids_for table (count_of counter)) 0 rows).news in
          absurd (let e = otherwise _ (cond table.is_counted (is_lt (int_cmp (count_of counter) top)) false) (ap (λ c. cond c (is_lt (int_cmp (count_of counter) top)) false) uncounted) h in cc)
      stops_add mode terms count place stop given typed (inl (kept, inr (rows, source, inr (counter, counted, inr (mid, went, inr (next, on, h)))), named)) = absurd (let e = h in cc)

  -- DELETE of the rows that a query finds
  module _ (body : Query) (typed : accepts_program schema [] body params ≡ true) (steady : (trees : Trees) → QueryOverflows body trees params → ⊥) where
    pub unqueried : (stop : Option Error) → Queried limit (record { schema = schema; trees = db }) (record { lets = []; body = body }) params (Err stop) → Interrupts limit stop
    unqueried None h = absurd h
    unqueried (Some e) (inl mistyped) = absurd (true≢false (sym typed ∙ mistyped.1))
    unqueried (Some e) (inr (inl overflows)) = absurd (steady _ overflows.1)
    unqueried (Some e) (inr (inr limited)) = (ap (λ x. Some x) limited.0, limited.1)

    pub stops_delete : (mode : Mode) (place : ℕ) (stop : Option Error) → OnRows task mode None (Delete place (record { lets = []; body = body })) db (Err stop) → Interrupts limit stop
    stops_delete mode place stop (inr (w, wrote, h)) = absurd (ends mode w stop h)
    stops_delete mode place stop (inl (kept, inl (unread, h, is), named)) =
        subst (Interrupts limit) (sym (same_stop {A = Tally × Database} named ∙ same_stop {A = Written} is)) (unqueried unread h)
    stops_delete mode place stop (inl (kept, inr (rows, answer, inl (step, h, is)), named)) = absurd (never_stops schema table free db shaped.0 sound (ids_of rows) step h)
    stops_delete mode place stop (inl (kept, inr (rows, answer, inr (next, done, h)), named)) = absurd (let e = h in cc)

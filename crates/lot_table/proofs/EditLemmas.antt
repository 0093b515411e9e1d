-- Why an edit of a table is refused, whatever the table is: one that takes rows out never, and one that puts a row in for
-- lack of room alone.
use Rattle.std.proofs.Common.{◌≡◌, ◌≢◌, ◌⊎◌, inl, inr, ℕ, zero, suc, ℤ, nat_lt, Bool, true, false, not, ◌&&◌, ◌||◌, cond, Option, None, Some, option_map, Result, Err, List, [], ◌∷◌, length, length-append, refl, sym, ap, subst, ◌∙◌, true≢false, eqb, eq-eqb, eqb-true, arith}
use Rattle.std.proofs.lemmas.Bool.{and_parts, and_from, or_right, not_from_false, false_from_ne_true, cases_Bool}
use Rattle.std.proofs.lemmas.Cmp.{tied_itself}
use Rattle.std.specs.List.{list_all, list_any}
use Rattle.std.specs.Ordering.{is_eq, match_ordering}
use Rattle.std.specs.declared.cmp.Ordering.{Ordering}
use Rattle.std.specs.declared.cmp.Ordering.TheVariants.{Less, Equal, Greater}
use Rattle.sqlite_value.specs.Order.{value_cmp}
use Rattle.sqlite.specs.Effect.{edit_error}
use Rattle.sqlite.specs.Order.{Row}
use Rattle.sqlite.specs.Rows.{Edited}
use Rattle.sqlite.specs.Schema.{Schema}
use Rattle.sqlite.specs.Table as declared
use Rattle.sqlite.specs.Tree.{IsAscending, Trees, put_row, rowid}
use Rattle.sqlite.specs.Cast.{cast_row}
use Rattle.sqlite.specs.declared.error.Error.TheVariants.{SqliteFailure}
use Rattle.sqlite.specs.declared.error.Error.{Error}
use Rattle.sqlite.specs.declared.error.ErrorCode.TheVariants as code
use Rattle.sqlite_rules.proofs.EditLemmas.{turns}
use Rattle.sqlite_keyed.proofs.ListLemmas.{all_from_test}
use Rattle.sqlite_rules.proofs.ListLemmas.{all_from, all_has, some_from, some_has, test_from}
use Rattle.sqlite_rules.proofs.RuleLemmas.{unique_kept}
use Rattle.sqlite_rules.proofs.TableLemmas.{has_put, put_has}
use Rattle.sqlite_rules.specs.Action.{Leads, works}
use Rattle.sqlite_rules.specs.Edit.{Edit, IsOversized, IsRefused, edit_of, edited, are_fresh, is_taken, left_by, without_all}
use Rattle.sqlite_rules.specs.Keys.{are_unique, conflicts, shares}
use Rattle.sqlite_rules.specs.Lists.{Has}
use Rattle.sqlite_rules.specs.Steps.{IsJudged}
use Rattle.sqlite_rules.specs.declared.error.Refusal.TheVariants.{BadReference, Mismatch, NoRowid, TooDeep, Violates}
use Rattle.sqlite_rules.specs.declared.error.Refusal.{Refusal}
use Rattle.sqlite_rules.specs.declared.error.Rowids.TheVariants.{Given}
use Rattle.sqlite_schema.specs.Rules.{Keeps, Refers, agree, clashes, differ, guards, is_key_if_to, is_key_of, references_fit}
use Rattle.sqlite_schema.specs.declared.schema.Among.{Among}
use Rattle.sqlite_schema.specs.declared.schema.Constraint.TheVariants.{Check, Datatype, ForeignKey, NotNull, PrimaryKey, Unique}
use Rattle.sqlite_schema.specs.declared.schema.Index.{Index}
use Rattle.sqlite_schema.specs.declared.schema.Keys.TheVariants.{Enforced}
use Rattle.sqlite_sql.specs.Ops.{binary, fits_i64}
use Rattle.sqlite_trees.specs.Tree.{IsTable, with_tree}
use Rattle.sqlite_value.proofs.OrderLemmas.{value_cmp_total}
use Rattle.sqlite_value.specs.declared.value.Value.TheVariants.{Int}

-- ---- what a table asks of a row, beside its keys

-- no foreign key has to do with the table, whose tree is its own
pub record IsFree (schema : Schema) (table : declared.Table) : Type 0 where
  pub listed : Has schema.tables table
  pub apart : IsAscending (λ (a b : declared.Table). a.tree ≡ b.tree → ⊥) schema.tables
  pub points : list_all (is_key_of schema) table.references ≡ true
  pub pointed : list_all (λ (t : declared.Table). list_all (is_key_if_to schema table) t.references) schema.tables ≡ true
  pub refers : (among : Among) (db : Trees) → Refers among schema db
  pub unreferred : (olds news : List Row) → works schema Enforced 0 table.tree olds news ≡ []

-- what stops a put of a row with this rowid
abbrev pub StopsPut : Schema → declared.Table → ℤ → Row → Option Error → Type 0
StopsPut schema table id row None = IsOversized schema table (Int id ∷ row)
StopsPut schema table id row (Some e) = (e ≡ SqliteFailure code.NoRowid) × (fits_i64 id ≡ false)

pub same_stop : {A E : Type 0} {a b : E} → ◌≡◌ {A = Result A E} (Err a) (Err b) → a ≡ b
same_stop e = cc

set_here : (db : Trees) (tree : ℕ) (rows : List Row) → with_tree db tree rows tree ≡ rows
set_here db tree rows = ap (λ b. cond b rows (db tree)) (eq-eqb tree tree refl)

set_there : (db : Trees) (tree t : ℕ) (rows : List Row) → t ≢ tree → with_tree db tree rows t ≡ db t
set_there db tree t rows other = elim (cases_Bool (eqb t tree)) [ inl same ↦ absurd (other (eqb-true t tree same)) | inr apart ↦ rw apart refl ]

differs_not : (id : ℤ) → differ (Int id) (Int id) ≡ true → ⊥
unfolding binary
differs_not id h = let none : differ (Int id) (Int id) ≡ false = rw (tied_itself value_cmp_total (Int id)) refl in true≢false (sym h ∙ none)

and_none : (b : Bool) → not (b && false) ≡ true
and_none true = refl
and_none false = refl

module _ (schema : Schema) (table : declared.Table) (free : IsFree schema table) where
  abbrev at : ℕ
  at = table.tree

  fitting : (adds removes : Bool) → references_fit schema table adds removes ≡ true
  fitting true true = and_from _ _ free.points free.pointed
  fitting true false = and_from _ _ free.points refl
  fitting false true = free.pointed
  fitting false false = refl

  never_settles : (next : Trees) (n : ℕ) (why : Option Refusal) → Leads schema Enforced n next [] (Err why) → ⊥
  never_settles next zero why h = let e = h.1 in cc
  never_settles next (suc n) why h = omega (arith, ap length h.2, length-append h.0 (h.1 ∷ []))

  -- no action follows an edit, so that it stops at its own step
  stopped : (db : Trees) (gone : List ℤ) (sources : List Row) (stop : Option Error) → Edited schema Enforced db (edit_of db table gone Given 0 sources) (Err stop)
      → ((why : Refusal) × IsRefused schema Enforced db (edit_of db table gone Given 0 sources) why × (stop ≡ Some (edit_error why)))
      ⊎ ((row : Row) × Has (edit_of db table gone Given 0 sources).news row × IsOversized schema table row × (stop ≡ None))
  stopped db gone sources stop (why, inl refused, named) = inl (refused.0, refused.1, named ∙ ap (option_map edit_error) (same_stop {A = Trees} refused.2))
  stopped db gone sources stop (why, inr (inl big), named) = inr (big.0, big.1, big.2, named ∙ ap (option_map edit_error) (same_stop {A = Trees} big.3))
  stopped db gone sources stop (why, inr (inr on), named) = absurd (never_settles on.0 on.2.0 why (rw (free.unreferred _ _) at on.2.1))

  module _ (db : Trees) (ordered : IsTable (db at)) (keeps : Keeps Unique schema db) where
    abbrev edit : List ℤ → List Row → Edit
    edit gone news = record { table = table; gone = gone; news = news }

    -- the new rows clash with none, so that the keys stay unique
    stay_unique : (gone : List ℤ) (news : List Row) → are_fresh (left_by db (edit gone news)) news ≡ true
        → are_unique schema.indexes (with_tree db at (edited db (edit gone news))) table news ≡ true → Keeps Unique schema (with_tree db at (edited db (edit gone news)))
    stay_unique gone news fresh unique =
        let next = with_tree db at (edited db (edit gone news)) in
        let turn = turns schema db next (edit gone news) free.apart free.listed ordered fresh (set_here db at _) (all_from _ schema.tables (λ t _ other. set_there db at t.tree _ other)) in
        unique_kept schema db next table _ _ news turn unique keeps

    -- taking rows out is never refused
    takes_out : (gone : List ℤ) (why : Refusal) → IsRefused schema Enforced db (edit gone []) why → ⊥
    takes_out gone (Violates Datatype) h = true≢false h
    takes_out gone (Violates NotNull) h = true≢false h
    takes_out gone (Violates Check) h = true≢false h
    takes_out gone (Violates PrimaryKey) h = true≢false h
    takes_out gone (Violates Unique) h = h (stay_unique gone [] refl (test_from _ schema.indexes (λ i _. and_none (guards i table))))
    takes_out gone (Violates ForeignKey) h = h
    takes_out gone Mismatch h = true≢false h
    takes_out gone NoRowid h = true≢false h
    takes_out gone BadReference h = true≢false (sym (fitting false (nat_lt 0 (length gone))) ∙ h)
    takes_out gone TooDeep h = h

    pub never_stops : (gone : List ℤ) (stop : Option Error) → Edited schema Enforced db (edit_of db table gone Given 0 []) (Err stop) → ⊥
    never_stops gone stop h = elim (stopped db gone [] stop h) [ inl refused ↦ takes_out gone refused.0 refused.1 | inr big ↦ big.1 ]

    -- rows may go in the same step
    module _ (gone : List ℤ) (id : ℤ) (row : Row) (judged : IsJudged table (Int id ∷ row) None) (unused : is_taken (without_all (db at) gone) (Int id ∷ row) ≡ false)
        (apart : (r : Row) → Has (without_all (db at) gone) r → conflicts None schema.indexes table (Int id ∷ row) r ≡ false) where
      abbrev new : Row
      new = Int id ∷ row

      abbrev left : List Row
      left = without_all (db at) gone

      abbrev next : Trees
      next = with_tree db at (put_row new left)

      clash_not : (i : Index) → Has schema.indexes i → guards i table ≡ true → clashes i.order i.columns (next at) new ≡ true → ⊥
      clash_not i listed on clash =
          let other = some_has _ (next at) clash in
          let parts = and_parts _ _ other.2 in
          elim (put_has new left other.0 (subst (λ l. Has l other.0) (set_here db at _) other.1)) [
            | inl same ↦ differs_not id (subst (λ r. differ (rowid r) (Int id) ≡ true) same parts.1)
            | inr old ↦ true≢false (sym (or_right _ _ (some_from (shares None table new other.0) schema.indexes i listed (and_from _ _ (and_from _ _ on refl) parts.0))) ∙ apart other.0 old)
          ]

      unique : are_unique schema.indexes next table (new ∷ []) ≡ true
      unique = test_from _ schema.indexes (λ i listed. not_from_false _ (false_from_ne_true _ (λ both.
          let parts = and_parts _ _ both in
          let clash = some_has (clashes i.order i.columns (next at)) (new ∷ []) parts.1 in
          elim clash.1 [ inl is ↦ clash_not i listed parts.0 (subst (λ r. clashes i.order i.columns (next at) r ≡ true) is clash.2) | inr none ↦ none ])))

      fresh : are_fresh left (new ∷ []) ≡ true
      fresh = and_from _ _ (not_from_false _ unused) refl

      alone : (b : Bool) → (b && true) ≡ false → b ≡ false
      alone true h = h
      alone false h = refl

      -- putting the row in is refused only for its rowid
      puts_in : (why : Refusal) → IsRefused schema Enforced db (edit gone (new ∷ [])) why → (why ≡ NoRowid) × (fits_i64 id ≡ false)
      puts_in (Violates Datatype) h = absurd (true≢false (sym judged.1 ∙ alone _ h))
      puts_in (Violates NotNull) h = absurd (true≢false (sym judged.2 ∙ alone _ h))
      puts_in (Violates Check) h = absurd (true≢false (sym judged.3 ∙ alone _ h))
      puts_in (Violates PrimaryKey) h = absurd (true≢false (sym fresh ∙ h))
      puts_in (Violates Unique) h = absurd (h (stay_unique gone (new ∷ []) fresh unique))
      puts_in (Violates ForeignKey) h = absurd h
      puts_in Mismatch h = absurd (true≢false h)
      puts_in NoRowid h = (refl, alone _ h)
      puts_in BadReference h = absurd (true≢false (sym (fitting true (nat_lt 0 (length gone))) ∙ h))
      puts_in TooDeep h = absurd h

      -- so it stops for lack of room alone
      pub stops_put : cast_row table new ≡ new → (stop : Option Error) → Edited schema Enforced db (edit_of db table gone Given 0 (new ∷ [])) (Err stop) → StopsPut schema table id row stop
      stops_put casts stop h = elim (stopped db gone (new ∷ []) stop h) [
        | inl refused ↦
            let is = puts_in refused.0 (subst (λ r. IsRefused schema Enforced db (edit gone (r ∷ [])) refused.0) casts refused.1) in
            subst (StopsPut schema table id row) (sym (refused.2 ∙ ap (λ why. Some (edit_error why)) is.0)) (refl, is.1)
        | inr big ↦
            let same : big.0 ≡ new = elim (subst (λ r. Has (r ∷ []) big.0) casts big.1) [ inl is ↦ is | inr none ↦ absurd none ] in
            subst (StopsPut schema table id row) (sym big.3) (subst (IsOversized schema table) same big.2)
      ]

-- ---- a row that went in

-- a row that was there is there still
pub had_put : (row : Row) (rows : List Row) (r : Row) → is_taken rows row ≡ false → Has rows r → Has (put_row row rows) r
had_put row [] r free h = absurd h
had_put row (y ∷ rows) r free h = by (value_cmp (rowid y) (rowid row)) free h (had_put row rows r)
  where
    by : (o : Ordering) → (is_eq o || is_taken rows row) ≡ false → (r ≡ y) ⊎ Has rows r → (is_taken rows row ≡ false → Has rows r → Has (put_row row rows) r)
        → Has (match_ordering o (y ∷ put_row row rows) (row ∷ rows) (row ∷ y ∷ rows)) r
    by Less free (inl same) more = inl same
    by Less free (inr later) more = inr (more free later)
    by Equal free h more = absurd (true≢false free)
    by Greater free h more = inr h

differs : (a b : ℤ) (o : Ordering) → value_cmp (Int a) (Int b) ≡ o → is_eq o ≡ false → differ (Int a) (Int b) ≡ true
unfolding binary
differs a b Less is apart = rw is refl
differs a b Equal is apart = absurd (true≢false apart)
differs a b Greater is apart = rw is refl

-- it shares no unique key with a row that was there
pub shares_none : (schema : Schema) (table : declared.Table) (listed : Has schema.tables table) (db next : Trees) (id : ℤ) (row : Row) → is_taken (db table.tree) (Int id ∷ row) ≡ false
    → next table.tree ≡ put_row (Int id ∷ row) (db table.tree) → Keeps Unique schema next → (other : ℤ) (old : Row) → Has (db table.tree) (Int other ∷ old)
    → list_any (shares None table (Int id ∷ row) (Int other ∷ old)) schema.indexes ≡ false
shares_none schema table listed db next id row free put keeps other old there = false_from_ne_true _ (λ shared.
    let new = Int id ∷ row in
    let was = Int other ∷ old in
    let i = some_has (shares None table new was) schema.indexes shared in
    let parts = and_parts _ _ i.2 in
    let apart : is_eq (value_cmp (Int other) (Int id)) ≡ false = fails_in (λ r. is_eq (value_cmp (rowid r) (Int id))) (db table.tree) was free there in
    let here : Has (next table.tree) was = subst (λ l. Has l was) (sym put) (had_put new (db table.tree) was free there) in
    let clash : clashes i.0.order i.0.columns (next table.tree) new ≡ true =
    some_from (λ r. agree i.0.order i.0.columns r i.0.columns new && differ (rowid r) (Int id)) (next table.tree) was here (and_from _ _ parts.1 (differs other id (value_cmp (Int other) (Int id)) refl apart)) in
    let passes = all_has _ (next table.tree) new (all_has _ schema.tables table keeps listed) (subst (λ l. Has l new) (sym put) (has_put new (db table.tree))) in
    let kept : not (guards i.0 table && clashes i.0.order i.0.columns (next table.tree) new) ≡ true = all_has _ schema.indexes i.0 (all_from_test _ schema.indexes passes) i.1 in
    true≢false (sym kept ∙ ap not (and_from _ _ (and_parts _ _ parts.0).0 clash)))
  where
    fails_in : (p : Row → Bool) (rows : List Row) (r : Row) → list_any p rows ≡ false → Has rows r → p r ≡ false
    fails_in p rows r none h = false_from_ne_true _ (λ here. true≢false (sym (some_from p rows r h here) ∙ none))

-- What an added row, a put, a change and a delete by key make of a table whose key is its first columns.
use Rattle.std.proofs.Common.{◌≡◌, inl, ℕ, ◌/◌, ℤ, Bool, false, not, ◌||◌, IsTrue, true, true≢false, subst₂, None, Ok, List, [], ◌∷◌, filter, length, map, refl, sym, ap, ap₂, subst, ◌∙◌, is_eq}
use Rattle.std.proofs.Math.Bool.{and-true, or-false}
use Rattle.std.proofs.lemmas.Bool.{false_from_ne_true, or_left}
use Rattle.sqlite.specs.Order.{Row}
use Rattle.sqlite.specs.Schema.{Schema}
use Rattle.sqlite.specs.Table.{Table}
use Rattle.sqlite_schema.specs.declared.schema.Index.{Index}
use Rattle.sqlite_value.specs.declared.keys.Key.{Key}
use Rattle.sqlite.specs.Tree.{Trees, put_row, rowid}
use Rattle.sqlite.specs.View.{is_int}
use Rattle.std.specs.List.{list_all, list_any}
use Rattle.sqlite.specs.Term.{Term, col, holds}
use Rattle.sqlite.specs.Ops.{is_null}
use Rattle.sqlite.specs.Cast.{cast, cast_row}
use Rattle.sqlite.specs.Kind.TheVariants.{Integer}
use Rattle.sqlite.specs.Effect.{Database, value_rows}
use Rattle.sqlite.specs.Rows.{Task, stamped, mended}
use Rattle.sqlite.specs.Does.{Tally, OnRows}
use Rattle.sqlite.specs.declared.run.Mode.{Mode}
use Rattle.sqlite.specs.Source.TheVariants.{Values}
use Rattle.sqlite.specs.Command.TheVariants.{Insert, InsertOr, Delete}
use Rattle.sqlite.specs.declared.types.Value.{Value}
use Rattle.sqlite.specs.declared.types.Value.TheVariants.{Null, Int}
use Rattle.sqlite_schema.specs.declared.command.Conflict.TheVariants.{Replace}
use Rattle.sqlite_schema.specs.Rules.{agree}
use Rattle.sqlite_value.specs.Order.{value_cmp}
use Rattle.sqlite_value.specs.Keys.{plain, first_key}
use Rattle.sqlite_rules.specs.Action.{works}
use Rattle.sqlite_rules.specs.Keys.{conflicts, shares}
use Rattle.sqlite_rules.specs.Lists.{Has}
use Rattle.sqlite_rules.proofs.TableLemmas.{int_is}
use Rattle.sqlite_rules.proofs.ListLemmas.{all_from, all_has, has_filtered}
use Rattle.sqlite_rules.proofs.PlaceLemmas.{next_is_free}
use Rattle.sqlite_rules.specs.Edit.{id_in, next_rowid}
use Rattle.sqlite_rules.specs.declared.error.Rowids.TheVariants.{Chosen}
use Rattle.sqlite_keyed.specs.Lists.{insert_sorted}
use Rattle.sqlite_keyed.proofs.ListLemmas.{filter-map, filter_all}
use Rattle.lot_table.specs.Rowids.{StayInReach}
use Rattle.lot_table.specs.Rows.{columns, key_order, has_key, HasRows, is_there, put_in, with_row, without_key}
use Rattle.lot_table.proofs.KeyLemmas.{kept_with, kept_without, has_mapped, mapped_has, spares}
use Rattle.lot_table.proofs.WriteLemmas.{KeepsOthers, adds, fails_here, replaces}
use Rattle.lot_table.proofs.RowidLemmas.{all_in_reach, left_in_reach, next_in_reach, put_in_reach}
use Rattle.lot_table.proofs.ReadLemmas.{compared, query, passes, IsPresent, key_terms, key_places, tests_are, agree_is}
use Rattle.lot_table.proofs.EditLemmas.{shares_none}
use Rattle.lot_table.proofs.UpdateLemmas.{stored_one}
use Rattle.lot_table.proofs.DeleteLemmas.{deletes, has_permuted, insert_sorted-map}

-- The table of this tree has these rows now, each other one is as it was, and no rowid is given but the next one.
abbrev pub Becomes : Schema → ℕ → ℕ → List Row → Trees → Trees → Type 0
Becomes schema tree width rows old new = HasRows width (new tree) rows × KeepsOthers schema tree old new × StayInReach 1 (old tree) (new tree)

-- ---- the rows of a table whose key is its first columns

stored_as : (r : Row) (row : Row) → IsTrue (is_int (rowid r)) → columns r ≡ row → r ≡ rowid r ∷ row
stored_as [] row keyed e = absurd (true≢false (sym keyed))
stored_as (v ∷ c) row keyed e = ap (λ l. v ∷ l) e

any_mapped : {A B : Type 0} (p : B → Bool) (f : A → B) (xs : List A) → list_any p (map f xs) ≡ list_any (λ x. p (f x)) xs
any_mapped p f [] = refl
any_mapped p f (x ∷ xs) = ap (λ b. p (f x) || b) (any_mapped p f xs)

module _ {X : Type 0} (encode : X → Row) (width : ℕ) (present : (x : X) → IsPresent width 0 (encode x)) where
  -- a stored row is that of a value in the list, after its rowid
  pub value_of_row : (stored : List Row) (xs : List X) → HasRows width stored (map encode xs) → (r : Row) → Has stored r → (x : X) × Has xs x × (r ≡ rowid r ∷ encode x)
  value_of_row stored xs kept r h =
      let m = has_mapped encode xs (columns r) (has_permuted _ _ (columns r) kept.same (mapped_has columns stored r h)) in
      (m.0, m.1, stored_as r (encode m.0) (all_has (λ y. IsTrue (is_int (rowid y))) stored r kept.shaped.1 h) m.2)

  -- the stored rows that tests pick, which say something of the columns
  pub picked_rows : (tests : List Term) (params : Row) (p : Row → Bool) → ((v : Value) (x : X) → list_all (holds (params ∷ (v ∷ encode x) ∷ [])) tests ≡ p (encode x)) → (tree : ℕ) (shows : List Term)
      (order : List (Term × Key)) (db : Trees) (xs : List X) → HasRows width (db tree) (map encode xs) → (r : Row) → Has (db tree) r → passes tree tests shows order params db r ≡ p (columns r)
  picked_rows tests params p alike tree shows order db xs kept r h =
      let k = value_of_row (db tree) xs kept r h in
      subst (λ y. passes tree tests shows order params db y ≡ p (columns y)) (sym k.2) (alike (rowid r) k.0)

  -- The rows that a new one conflicts with are those of its key, where its rowid is free and no row has one of its other
  -- unique keys.
  module _ (table : Table) (indexes : List Index) (x : X) (rest : Row → Bool)
      (shape : (v : Value) (d : Row) (id : ℤ) → conflicts None indexes table (Int id ∷ encode x) (v ∷ d)
      ≡ (agree plain (0 ∷ []) (v ∷ d) (0 ∷ []) (Int id ∷ encode x) || (agree plain (key_places width 0) (v ∷ d) (key_places width 0) (Int id ∷ encode x) || rest (v ∷ d)))) where
    pub clash : (stored : List Row) (xs : List X) → ((v : Value) (y : X) → Has xs y → rest (v ∷ encode y) ≡ false) → HasRows width stored (map encode xs) → (r : Row) (id : ℤ) → Has stored r
        → conflicts None indexes table (Int id ∷ encode x) r ≡ (is_eq (value_cmp (rowid r) (Int id)) || has_key width (encode x) (columns r))
    unfolding first_key
    clash stored xs apart kept r id h =
        let k = value_of_row stored xs kept r h in
        let keyed = ap is_null (int_is (rowid r) (all_has (λ y. IsTrue (is_int (rowid y))) stored r kept.shaped.1 h)) in
        subst (λ y. conflicts None indexes table (Int id ∷ encode x) y ≡ (is_eq (value_cmp (rowid y) (Int id)) || has_key width (encode x) (columns y))) (sym k.2)
        (shape (rowid r) (encode k.0) id ∙ ap₂ ◌||◌ (and-true _ ∙ compared (rowid r) (Int id) keyed refl)
        (ap₂ ◌||◌ (agree_is width 0 (rowid r) (Int id) (encode k.0) (encode x) (present k.0) (present x)) (apart (rowid r) k.0 k.1) ∙ or-false _))

  module _ (task : Task) (unreferred : (olds news : List Row) → works task.schema task.keys 0 task.table.tree olds news ≡ []) (db : Trees) (xs : List X) (kept : HasRows width (db task.table.tree) (map encode xs)) where
    abbrev at : ℕ
    at = task.table.tree

    -- the row of a value is put among the rows as the value among the values
    pub put_as : (x : X) → with_row width (encode x) (map encode xs) ≡ map encode (put_in encode width x xs)
    put_as x =
        ap (insert_sorted (key_order width) (encode x)) (filter-map (λ y. not (has_key width (encode x) y)) encode xs) ∙ insert_sorted-map (key_order width) encode x (without_key encode width (encode x) xs)

    -- no stored row has a key that no value has
    pub apart : (key : Row) → is_there encode width key xs ≡ false → (r : Row) → Has (db at) r → has_key width key (columns r) ≡ false
    apart key lacks r h =
        let k = value_of_row (db at) xs kept r h in
        subst (λ y. has_key width key (columns y) ≡ false) (sym k.2) (fails_here (λ x. has_key width key (encode x)) xs k.0 lacks k.1)

    -- the stored row of a key that is there is that of a value
    pub the_row : (key : Row) → is_there encode width key xs ≡ true
        → (id : ℤ) × (y : X) × (has_key width key (encode y) ≡ true) × (filter (λ r. has_key width key (columns r)) (db at) ≡ (Int id ∷ encode y) ∷ [])
    the_row key some =
        let one = stored_one width key (db at) (map encode xs) kept (any_mapped (has_key width key) encode xs ∙ some) in
        let its = has_filtered (λ r. has_key width key (columns r)) (db at) one.0 (subst (λ l. Has l one.0) (sym one.1) (inl refl)) in
        let value = value_of_row (db at) xs kept one.0 its.0 in
        let keyed = int_is (rowid one.0) (all_has (λ y. IsTrue (is_int (rowid y))) (db at) one.0 kept.shaped.1 its.0) in
        let whole : one.0 ≡ Int (id_in (rowid one.0)) ∷ encode value.0 = value.2 ∙ ap (λ v. v ∷ encode value.0) keyed in
        (id_in (rowid one.0), value.0, sym (ap (λ r. has_key width key (columns r)) value.2) ∙ its.1, one.1 ∙ ap (λ r. r ∷ []) whole)

    -- INSERT went well, so that no row had the key.
    pub adds_row : (x : X) → task.table.is_counted ≡ false → ((v : Value) → cast_row task.table (v ∷ encode x) ≡ cast Integer v ∷ encode x) → Has task.schema.tables task.table → (rest : Row → Bool)
        → ((v : Value) (d : Row) (id : ℤ) → list_any (shares None task.table (Int id ∷ encode x) (v ∷ d)) task.schema.indexes ≡ (agree plain (key_places width 0) (v ∷ d) (key_places width 0) (Int id ∷ encode x) || rest (v ∷ d)))
        → (mode : Mode) (terms : List Term) (count place : ℕ) (out : Tally × Database) → value_rows (stamped task.table task.params) count (length terms / count) terms ≡ (Null ∷ encode x) ∷ []
        → OnRows task mode None (Insert place (Values terms count)) db (Ok out)
        → Becomes task.schema at width (map encode (put_in encode width x xs)) db out.1.trees
    adds_row x uncounted casts listed rest keyed mode terms count place out given ran =
        let id = next_rowid (db at) in
        let new = Int id ∷ encode x in
        let r = adds task unreferred (encode x) uncounted casts db mode terms count place out given ran in
        let free = next_is_free Chosen (db at) (encode x) kept.shaped.0 kept.shaped.1 in
        let lacks : is_there encode width (encode x) xs ≡ false = false_from_ne_true _ (λ there.
        let its = the_row (encode x) there in
        let old = Int its.0 ∷ encode its.1 in
        let here : Has (db at) old = (has_filtered (λ y. has_key width (encode x) (columns y)) (db at) old (subst (λ l. Has l old) (sym its.3) (inl refl))).0 in
        let apart = shares_none task.schema task.table listed db out.1.trees id (encode x) free r.0.0 r.0.2 its.0 (encode its.1) here in
        let same = agree_is width 0 (Int its.0) (Int id) (encode its.1) (encode x) (present its.1) (present x) ∙ its.2 in
        true≢false (sym (keyed (Int its.0) (encode its.1) id ∙ or_left _ (rest old) same) ∙ apart)) in
        let all = kept_with width (db at) (map encode xs) new kept refl free in
        let left : filter (spares width (encode x)) (db at) ≡ db at = filter_all (spares width (encode x)) (db at) (all_from _ (db at) (λ y h. ap not (apart (encode x) lacks y h))) in
        let raised = put_in_reach 1 (db at) (db at) new (all_in_reach 1 (db at)) (next_in_reach (db at)) in
        (subst₂ (HasRows width) (ap (put_row new) left ∙ sym r.0.0) (put_as x) all, r.0.1, subst (StayInReach 1 (db at)) (sym r.0.0) raised)

    pub puts_row : (x : X) → task.table.is_counted ≡ false → mended Replace task.table (Null ∷ encode x) ≡ Null ∷ encode x → ((v : Value) → cast_row task.table (v ∷ encode x) ≡ cast Integer v ∷ encode x)
        → ((r : Row) (id : ℤ) → Has (db at) r → conflicts None task.schema.indexes task.table (Int id ∷ encode x) r ≡ (is_eq (value_cmp (rowid r) (Int id)) || has_key width (encode x) (columns r)))
        → (mode : Mode) (terms : List Term) (count place : ℕ) (out : Tally × Database) → value_rows (stamped task.table task.params) count (length terms / count) terms ≡ (Null ∷ encode x) ∷ []
        → OnRows task mode None (InsertOr place Replace (Values terms count) []) db (Ok out)
        → Becomes task.schema at width (map encode (put_in encode width x xs)) db out.1.trees
    puts_row x uncounted mends casts clashes mode terms count place out given ran =
        let r = replaces task unreferred width (encode x) uncounted mends casts db clashes kept.shaped mode terms count place out given ran in
        let new = Int (next_rowid (db at)) ∷ encode x in
        let all = kept_with width (db at) (map encode xs) new kept refl r.0.0 in
        let raised = put_in_reach 1 (db at) _ new (left_in_reach 1 (db at) (spares width (encode x))) (next_in_reach (db at)) in
        (subst₂ (HasRows width) (sym r.0.1) (put_as x) all, r.0.2, subst (StayInReach 1 (db at)) (sym r.0.1) raised)

    pub deletes_row : (key : Row) → IsPresent width 0 key → task.params ≡ key → (mode : Mode) (place : ℕ) (out : Tally × Database)
        → OnRows task mode None (Delete place (record { lets = []; body = query at (key_terms width 0) (col 1 0 ∷ []) [] })) db (Ok out)
        → Becomes task.schema at width (map encode (without_key encode width key xs)) db out.1.trees
    deletes_row key some same mode place out ran =
        let alike : (r : Row) → Has (db at) r → passes at (key_terms width 0) (col 1 0 ∷ []) [] task.params db r ≡ has_key width key (columns r) =
        subst (λ p. (r : Row) → Has (db at) r → passes at (key_terms width 0) (col 1 0 ∷ []) [] p db r ≡ has_key width key (columns r)) (sym same) (picked_rows (key_terms width 0) key (has_key width key) (λ v x. tests_are width 0 v (encode x) key (present x) some) at (col 1 0 ∷ []) [] db xs kept) in
        let r = deletes task unreferred width (key_terms width 0) key db kept.shaped alike mode place out ran in
        let all = kept_without width (db at) (map encode xs) key kept in
        (subst₂ (HasRows width) (sym r.0) (filter-map (λ y. not (has_key width key y)) encode xs) all, r.1, subst (StayInReach 1 (db at)) (sym r.0) (left_in_reach 1 (db at) (spares width key)))

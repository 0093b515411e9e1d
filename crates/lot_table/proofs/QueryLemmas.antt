-- What a query of one table of a book answers, whatever the table is, and that it is refused only by the disk and for want
-- of memory.
use Rattle.std.proofs.Common.{negsuc, ◌≡◌, ◌⊎◌, ℕ, Bool, false, true, None, Option, Result, refl, ap₂, All, IfSome, Vec, slice_get, List, [], ◌∷◌, length, map, filter, sym, ap, subst, ◌∙◌}
use Rattle.std.specs.List.{list_all}
use Rattle.sqlite.specs.Command.TheVariants.{Select}
use Rattle.sqlite.specs.Listing.{understood, reads_listing}
use Rattle.sqlite.specs.Order.{Row}
use Rattle.sqlite.specs.Query.{output_cmp}
use Rattle.sqlite.specs.Schema.{Schema}
use Rattle.sqlite.specs.State.{State, Shown}
use Rattle.sqlite.specs.Term.{Term, eval_all, holds, lit}
use Rattle.sqlite.specs.declared.types.Value.TheVariants.{Int, Null}
use Rattle.sqlite.specs.declared.types.Value.{Value}
use Rattle.sqlite_keyed.proofs.ListLemmas.{filter_all}
use Rattle.sqlite_rules.proofs.ListLemmas.{all_from}
use Rattle.sqlite_typing.specs.Types.{accepts_program}
use Rattle.sqlite_value.specs.declared.keys.Key.{Key}
use Rattle.sqlite.proofs.Callers.{IsPlain, command_of, reads_as}
use Rattle.std.specs.declared.alloc.Global.{Global}
use Rattle.lot_table.specs.Book.{BookTable, Layout, Has}
use Rattle.lot_table.specs.Call.{Answers, Finds, Lists, ListsColumns, Selects}
use Rattle.lot_table.specs.declared.fault.Fault.{Fault}
use Rattle.lot_table.proofs.BookLemmas.{if_ok}
use Rattle.sqlite.specs.Tree.{Trees}
use Rattle.lot_table.specs.Rows.{has_key, key_order, with_key}
use Rattle.lot_table.specs.Statement.{IsSelect, Refused, ShowsDamage}
use Rattle.lot_table.specs.declared.fault.Fault.TheVariants.{Damaged}
use Rattle.lot_table.proofs.DeleteLemmas.{answers}
use Rattle.lot_table.proofs.ReadLemmas.{IsPresent, key_terms, out, picked, query, tests_are}
use Rattle.lot_table.proofs.RefusalLemmas.{IsWhole, not_damaged, steady_query, undamaged}
use Rattle.lot_table.proofs.StatementLemmas.{IsTable}
use Rattle.lot_table.proofs.TableLemmas.{picked_rows}

-- columns that tell the row tell the rows
same_rows : {X : Type 0} (encode : X → Row) → ((x y : X) → encode x ≡ encode y → x ≡ y) → (xs ys : List X) → map encode xs ≡ map encode ys → xs ≡ ys
same_rows encode same [] [] e = refl
same_rows encode same [] (y ∷ ys) e = absurd cc
same_rows encode same (x ∷ xs) [] e = absurd cc
same_rows encode same (x ∷ xs) (y ∷ ys) e =
    let first : encode x ≡ encode y = cc in
    let rest : map encode xs ≡ map encode ys = cc in
    ap₂ (λ z zs. z ∷ zs) (same x y first) (same_rows encode same xs ys rest)

-- the text is a query of one table, with so many parameters
pub record IsQuery (schema : Schema) (tree : ℕ) (tests shows : List Term) (order : List (Term × Key)) (names : List (List ℕ)) (count : ℕ) (text : List ℕ) : Type 0 where
  pub means : command_of (understood schema text) ≡ Select (record { lets = []; body = query tree tests shows order }) names
  pub unlisted : reads_listing schema text ≡ false
  pub bare : IsPlain (understood schema text)
  pub whole : IsWhole text count (understood schema text)
  pub selects : IsSelect text

-- the query answers the rows that pass a test, in the order of the key
pub record Picks {B X : Type 0} (layout : Layout B) (t : BookTable B X) (tests shows : List Term) (order : List (Term × Key)) (params : Row) (p : Row → Bool) : Type 0 where
  pub alike : (v : Value) (x : X) → list_all (holds (params ∷ (v ∷ t.encode x) ∷ [])) tests ≡ p (t.encode x)
  pub blind : (trees : Trees) (v : Value) (c : Row) → out t.table.tree tests shows order params trees (v ∷ c) ≡ out t.table.tree tests shows order params trees (Null ∷ c)
  pub shown : (x : X) → eval_all shows (params ∷ (Null ∷ t.encode x) ∷ []) ≡ t.encode x
  pub sorts : (trees : Trees) (c d : Row)
      → output_cmp (query t.table.tree tests shows order) (out t.table.tree tests shows order params trees (Null ∷ c)) (out t.table.tree tests shows order params trees (Null ∷ d)) ≡ key_order t.width c d
  pub typed : accepts_program layout.schema [] (query t.table.tree tests shows order) params ≡ true

-- the text asks for the rows that pass a test, with these parameters
pub record Asks {B X : Type 0} (layout : Layout B) (t : BookTable B X) (params : Row) (p : Row → Bool) (text : List ℕ) : Type 0 where
  pub tests : List Term
  pub shows : List Term
  pub order : List (Term × Key)
  pub names : List (List ℕ)
  pub is : IsQuery layout.schema t.table.tree tests shows order names (length params) text
  pub picks : Picks layout t tests shows order params p

module _ {B X : Type 0} (layout : Layout B) (t : BookTable B X) (is : IsTable layout t) (params : Row) (p : Row → Bool) (text : List ℕ) (asks : Asks layout t params p text) (old new : State) where
  open asks use {tests, shows, order, names, picks}

  abbrev at : ℕ
  at = t.table.tree

  pub selects_where : (rows : List Row) → Shown text params old new rows → (b : B) → Has layout old b → rows ≡ map t.encode (filter (λ x. p (t.encode x)) (t.rows b))
  selects_where rows told b has =
      let command = Select (record { lets = []; body = query at tests shows order }) names in
      let read = reads_as text params old new layout.schema has.0 command asks.is.means asks.is.bare asks.is.unlisted rows told in
      let kept = is.held old.now.trees b has.1.held in
      picked at tests shows order params old.now.trees t.encode t.width (t.rows b) kept (picks.blind old.now.trees) picks.shown (picks.sorts old.now.trees) p
      (picked_rows t.encode t.width is.present tests params p picks.alike at shows order old.now.trees (t.rows b) kept) rows (answers at tests shows order old.now params rows read)

  -- where it answers Damaged, one of them is a row that no book has
  finds_damage : (good : X → Type 0) → Refused text params old new Damaged ⊎ ShowsDamage t.encode good text params old new → old.step_limit ≡ None → (b : B) → Has layout old b
      → All good (filter (λ x. p (t.encode x)) (t.rows b)) → ⊥
  finds_damage good told unlimited b has =
      undamaged t.encode good text params old new (filter (λ x. p (t.encode x)) (t.rows b))
      (not_damaged text params old new layout.schema has.0 asks.is.bare asks.is.whole (query at tests shows order) names asks.is.means asks.is.unlisted picks.typed
      (steady_query at tests shows order (lit (Int (negsuc 0))) params) unlimited) (λ rows shows. selects_where rows shows b has) told

  module _ (good : X → Type 0) (xs : B → List X) (picked : (b : B) → filter (λ x. p (t.encode x)) (t.rows b) ≡ xs b) where
    -- what is made of these rows is what the call says of the book
    answers_as : {R : Type 0} (From : List X → R → Type 0) (Good : R → Type 0) (Says : R → B → Type 0) → ((rows : List X) (answer : R) (b : B) → map t.encode rows ≡ map t.encode (xs b) → From rows answer → Says answer b)
        → (result : Result R Fault) → Selects t.encode good From Good text params old new result → Answers layout Says Good (λ b. All good (xs b)) old new result
    answers_as From Good Says tells result selects = record {
      says = λ clean. if_ok result _ _ (λ answer told b has. tells told.0 answer b (selects_where (map t.encode told.0) told.1 b has ∙ ap (map t.encode) (picked b)) told.2) (selects.shown clean);
      good = selects.good;
      same = selects.same;
      damaged = λ clean is unlimited b has all. finds_damage good (selects.damaged clean is) unlimited b has (subst (All good) (sym (picked b)) all);
      device = selects.device;
      undone = selects.undone;
      crash = selects.crash;
    }

    pub lists_columns : (result : Result (Vec X Global) Fault) → Selects t.encode good (λ rows found. found.items ≡ rows) (λ found. All good found.items) text params old new result
        → ListsColumns layout t.encode good xs old new result
    lists_columns = answers_as (λ rows found. found.items ≡ rows) _ _ (λ rows found b told from. ap (map t.encode) from ∙ told)

    -- where the columns tell the row
    module _ (same : (x y : X) → t.encode x ≡ t.encode y → x ≡ y) where
      pub lists : (result : Result (Vec X Global) Fault) → Selects t.encode good (λ rows found. found.items ≡ rows) (λ found. All good found.items) text params old new result → Lists layout good xs old new result
      lists = answers_as (λ rows found. found.items ≡ rows) _ _ (λ rows found b told from. from ∙ same_rows t.encode same rows (xs b) told)

      pub finds : (result : Result (Option X) Fault) → Selects t.encode good (λ rows found. found ≡ slice_get rows 0) (λ found. IfSome found good) text params old new result → Finds layout good xs old new result
      finds = answers_as (λ rows found. found ≡ slice_get rows 0) _ _ (λ rows found b told from. from ∙ ap (λ l. slice_get l 0) (same_rows t.encode same rows (xs b) told))

-- the columns of a key are tested
pub keyed : {X : Type 0} (encode : X → Row) (n : ℕ) (key : Row) → IsPresent n 0 key → ((x : X) → IsPresent n 0 (encode x)) → (v : Value) (x : X)
    → list_all (holds (key ∷ (v ∷ encode x) ∷ [])) (key_terms n 0) ≡ has_key n key (encode x)
keyed encode n key some present v x = tests_are n 0 v (encode x) key (present x) some

-- with no key all are picked
pub every_one : {X : Type 0} (encode : X → Row) (key : Row) (xs : List X) → with_key encode 0 key xs ≡ xs
every_one encode key xs = filter_all _ xs (all_from _ xs (λ _ _. refl))

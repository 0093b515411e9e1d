-- What the text of a page answers: the first rows that pass its tests, in the order of the key.
use Rattle.std.proofs.Common.{inl, inr, ◌≡◌, ℕ, Bool, false, true, None, pos, Ok, Err, Result, Vec, IfErr, IfOk, OnErr, OnOk, List, [], ◌∷◌, drop, filter, length, map, take, refl, sym, ap, subst, ◌∙◌}
use Rattle.std.specs.List.{list_all}
use Rattle.std.specs.declared.alloc.Global.{Global}
use Rattle.sqlite.specs.Command.TheVariants.{Select}
use Rattle.sqlite.specs.Listing.{understood, reads_listing}
use Rattle.sqlite.specs.Order.{Row}
use Rattle.sqlite.specs.Query.{IsAnswer, Output, Query, output_cmp}
use Rattle.sqlite.specs.State.{HasCleanDisk, IsUnchanged, Shown, State, Survives}
use Rattle.sqlite.specs.Term.{Term, col, eval_all, holds}
use Rattle.sqlite.specs.Tree.{Trees}
use Rattle.sqlite.specs.declared.types.Value.TheVariants.{Int, Null}
use Rattle.sqlite.specs.declared.types.Value.{Value}
use Rattle.sqlite_keyed.proofs.ListLemmas.{filter-map}
use Rattle.sqlite_sql.specs.Program.{QueryOverflows}
use Rattle.sqlite_typing.specs.Types.{accepts_program}
use Rattle.sqlite_value.specs.declared.keys.Key.{Key}
use Rattle.sqlite.proofs.Callers.{IsPlain, command_of, reads_as}
use Rattle.lot_table.proofs.BookLemmas.{if_ok}
use Rattle.lot_page.specs.Page.{Takes}
use Rattle.lot_page.proofs.PlaceLemmas.{drop_none}
use Rattle.lot_rows.specs.Tables.{Has, Tables, layout}
use Rattle.lot_table.specs.Book.{BookTable, Holds, IsUndone, always}
use Rattle.lot_table.specs.Rows.{HasRows, key_order}
use Rattle.lot_table.specs.Statement.{DiskFailed, IsSelect, Refused}
use Rattle.lot_table.specs.declared.fault.Fault.TheVariants.{Damaged, Device}
use Rattle.lot_table.specs.declared.fault.Fault.{Fault}
use Rattle.lot_table.proofs.ReadLemmas.{IsPresent, out, picked, plain_overlay, query}
use Rattle.lot_table.proofs.RefusalLemmas.{IsWhole, not_damaged}
use Rattle.lot_table.proofs.TableLemmas.{picked_rows}

-- ---- the form of the query

-- with no limit, and as a page
abbrev pub unpaged : ℕ → List Term → List Term → List (Term × Key) → Query
unpaged tree tests shows order = query tree tests shows order

abbrev pub paged : ℕ → List Term → List Term → List (Term × Key) → Query
paged tree tests shows order = record (unpaged tree tests shows order) { limit = col 0 0 }

-- how many rows at most, and the columns of a key
abbrev pub asking : ℕ → Row → Row
asking most key = Int (pos most) ∷ key

-- The text asks for a page of the rows that pass the tests. What it asks by gives the columns of a key.
pub record Asks {X K : Type 0} (t : BookTable Tables X) (key : K → Row) (passes : K → Row → Bool) (most : ℕ) (tests shows : List Term) (order : List (Term × Key)) (names : List (List ℕ)) (text : List ℕ) : Type 0 where
  pub means : command_of (understood layout.schema text) ≡ Select (record { lets = []; body = paged t.table.tree tests shows order }) names
  pub unlisted : reads_listing layout.schema text ≡ false
  pub bare : IsPlain (understood layout.schema text)
  pub whole : (k : K) → IsWhole text (length (asking most (key k))) (understood layout.schema text)
  pub selects : IsSelect text
  pub held : (trees : Trees) (b : Tables) → Holds layout trees b → HasRows t.width (trees t.table.tree) (map t.encode (t.rows b))
  pub present : (x : X) → IsPresent t.width 0 (t.encode x)
  pub picks : (k : K) (v : Value) (x : X) → list_all (holds (asking most (key k) ∷ (v ∷ t.encode x) ∷ [])) tests ≡ passes k (t.encode x)
  pub blind : (params : Row) (trees : Trees) (v : Value) (c : Row) → out t.table.tree tests shows order params trees (v ∷ c) ≡ out t.table.tree tests shows order params trees (Null ∷ c)
  pub shown : (params : Row) (x : X) → eval_all shows (params ∷ (Null ∷ t.encode x) ∷ []) ≡ t.encode x
  pub sorts : (params : Row) (trees : Trees) (c d : Row)
      → output_cmp (unpaged t.table.tree tests shows order) (out t.table.tree tests shows order params trees (Null ∷ c)) (out t.table.tree tests shows order params trees (Null ∷ d)) ≡ key_order t.width c d
  pub typed : (k : K) → accepts_program layout.schema [] (paged t.table.tree tests shows order) (asking most (key k)) ≡ true

-- ---- the limit

-- an answer is a part of an answer with no limit
unlimited : (tree : ℕ) (tests shows : List Term) (order : List (Term × Key)) (db : Trees) (most : ℕ) (key : Row) (rows : List Row) → IsAnswer (paged tree tests shows order) db (asking most key) rows
    → (all : List Row) × IsAnswer (unpaged tree tests shows order) db (asking most key) all × (rows ≡ take most (drop 0 all))
unlimited tree tests shows order db most key rows a = (
  map (λ (o : Output). o.1) a.ordered,
  record { staged = a.staged; grouped = a.grouped; kept = a.kept; distinct = a.distinct; ordered = a.ordered; same = a.same; sorted = a.sorted; shown = refl },
  a.shown,
)

-- a page of one table adds nothing up
steady : (tree : ℕ) (tests shows : List Term) (order : List (Term × Key)) (params : Row) (db : Trees) → QueryOverflows (paged tree tests shows order) db params → ⊥
steady tree tests shows order params db (inl grouped) = grouped
steady tree tests shows order params db (inr folded) = folded.4

always_ok : {R : Type 0} (result : Result R Fault) → IfOk result always
always_ok (Ok found) = tt
always_ok (Err fault) = tt

-- ---- the page

-- the call with that text takes those of the table's rows that pass
abbrev pub TakesBy : {X K : Type 0} → BookTable Tables X → (K → Row) → (K → Row → Bool) → ℕ → List ℕ
    → State → State → K → Type 0
TakesBy t key passes most text old new k =
    (result : Result (Vec Row Global) Fault)
    → (HasCleanDisk new
    → IfOk result (λ rows. Shown text (asking most (key k)) old new rows.items))
    → (HasCleanDisk new → OnOk result (IsUnchanged old new))
    → (HasCleanDisk new → IfErr result (Refused text (asking most (key k)) old new))
    → (HasCleanDisk new → result ≡ Err Device → DiskFailed old new)
    → (HasCleanDisk new → OnErr result (IsUndone old new))
    → Survives old new (λ _. ⊥)
    → Takes t.encode t.rows most (passes k) old new result

module _ {X K : Type 0} (t : BookTable Tables X) (key : K → Row) (passes : K → Row → Bool) (most : ℕ) (tests shows : List Term) (order : List (Term × Key)) (names : List (List ℕ)) (text : List ℕ)
    (is : Asks t key passes most tests shows order names text) (old new : State) (k : K) where
  abbrev tree : ℕ
  tree = t.table.tree

  abbrev params : Row
  params = asking most (key k)

  rows_shown : (rows : List Row) → Shown text params old new rows → (b : Tables) → Has old b → rows ≡ take most (filter (passes k) (map t.encode (t.rows b)))
  rows_shown rows told b has =
      let command = Select (record { lets = []; body = paged tree tests shows order }) names in
      let read = reads_as text params old new layout.schema has.0 command is.means is.bare is.unlisted rows told in
      let kept = is.held old.now.trees b has.1 in
      let all = unlimited tree tests shows order old.now.trees most (key k) rows (subst (λ d. IsAnswer (paged tree tests shows order) d params rows) (plain_overlay old.now.trees) (read.answer Null)) in
      let those = picked tree tests shows order params old.now.trees t.encode t.width (t.rows b) kept (is.blind params old.now.trees) (is.shown params) (is.sorts params old.now.trees) (passes k)
      (picked_rows t.encode t.width is.present tests params (passes k) (is.picks k) tree shows order old.now.trees (t.rows b) kept) all.0 all.1 in
      all.2 ∙ ap (take most) (drop_none all.0 ∙ those ∙ sym (filter-map (passes k) t.encode (t.rows b)))

  never_damaged : Refused text params old new Damaged → old.step_limit ≡ None → (b : Tables) → ¬ Has old b
  never_damaged refused unlimited b has =
      not_damaged text params old new layout.schema has.0 is.bare (is.whole k) (paged tree tests shows order) names is.means is.unlisted (is.typed k) (steady tree tests shows order params) unlimited refused

  if_damaged : {R : Type 0} (result : Result R Fault) (Why : Fault → Type 0) → IfErr result Why → result ≡ Err Damaged → Why Damaged
  if_damaged (Ok found) Why told is = absurd cc
  if_damaged (Err fault) Why told is = let same : fault ≡ Damaged = cc in subst Why same told

  pub answers : TakesBy t key passes most text old new k
  answers result shown same refused device undone crash = record {
    says = λ clean. if_ok result _ _ (λ rows told b has. rows_shown rows.items told b has) (shown clean);
    good = always_ok result;
    same = same;
    damaged = λ clean is unlimited b has _. never_damaged (if_damaged result (Refused text params old new) (refused clean) is) unlimited b has;
    device = device;
    undone = undone;
    crash = crash;
  }

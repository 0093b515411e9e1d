-- CREATE TABLE adds an empty table to those that are there, whatever its shape, and they keep their rows.
use Rattle.std.proofs.Common.{◌≡◌, ◌<◌, ◌+◌, Bool, inl, inr, add-one, drop, suc, false, get_or, length, map, take, ℕ, None, Option, Result, Ok, Err, IfErr, IsErrAnd, List, [], ◌∷◌, ◌++◌, refl, sym, ap, subst, ◌∙◌}
use Rattle.std.proofs.Math.Seq.{drop-cons, take-suc}
use Rattle.std.proofs.lemmas.List.Sorted.{IsPermutation-refl}
use Rattle.std.proofs.lemmas.List.{map-append, take-append-drop}
use Rattle.std.specs.List.{AllByRecursion}
use Rattle.lot_table.proofs.WriteLemmas.{same_value, went}
use Rattle.lot_table.specs.Book.{IsUndone}
use Rattle.lot_table.specs.Make.{RanEach}
use Rattle.lot_table.specs.Rows.{HasRows}
use Rattle.sqlite.proofs.Callers.{IsPlain, command_of, runs_as, statement_of}
use Rattle.sqlite.specs.Change.{created, next_tree}
use Rattle.sqlite.specs.Command.TheVariants.{CreateTable}
use Rattle.sqlite.specs.Compile.{table_defined_by}
use Rattle.sqlite.specs.Does.{Tally, lacks_sequence}
use Rattle.sqlite.specs.Effect.{Database, IsDatabase}
use Rattle.sqlite.specs.Held.{Held, state}
use Rattle.sqlite.specs.Listing.{understood}
use Rattle.sqlite.specs.Order.{Row}
use Rattle.sqlite.specs.Schema.{Schema}
use Rattle.sqlite.specs.State.{Executes, KeepsCommit, Shows, State, Writes}
use Rattle.sqlite.specs.Store.{Ghosts}
use Rattle.sqlite.specs.Table.{Table}
use Rattle.sqlite.specs.Tree.{Trees}
use Rattle.sqlite.specs.declared.error.Error.{Error}
use Rattle.sqlite_catalog.proofs.AlterLemmas.{rows_trans}
use Rattle.sqlite_catalog.specs.Change.{KeepsRows}

-- ---- what a transaction keeps of the last commit

pub keeps_shown : (a b : State) (now : Database) (inside : Bool) → Shows a b now a.committed inside → KeepsCommit a b
keeps_shown a b now inside shows = record { was_open = λ _. shows.was_open; committed = λ _. shows.committed_is }

pub keeps_undone : (a b : State) → IsUndone a b → KeepsCommit a b
keeps_undone a b (inl same) = keeps_shown a b a.now a.in_transaction same.0
keeps_undone a b (inr undone) = record { was_open = undone.was_open; committed = λ live. (undone.undone live).1 }

pub keeps_then : (a b c : State) → KeepsCommit a b → KeepsCommit b c → KeepsCommit a c
keeps_then a b c first second = record { was_open = λ live. first.was_open (second.was_open live); committed = λ live. second.committed live ∙ first.committed (second.was_open live) }

-- ---- texts in their order

pub taken : {X : Type 0} (f : X → List ℕ) (xs : List X) (n : ℕ) (d : X) → n < length xs → map f (take (n + 1) xs) ≡ map f (take n xs) ++ f (get_or xs n d) ∷ []
taken f xs n d low = rw add-one (ap (map f) (take-suc xs n d low) ∙ map-append f (take n xs) (get_or xs n d ∷ []))

pub told_on : {T E : Type 0} (r : Result T E) (error : E) (P : E → Type 0) → IsErrAnd r (λ e. e ≡ error) → P error → IfErr r P
told_on (Ok x) error P is h = tt
told_on (Err e) error P is h = subst P (sym is) h

-- those before a place, the one there and those behind it
pub split_at : {X : Type 0} (f : X → List ℕ) (xs : List X) (n : ℕ) (d : X) → n < length xs → map f xs ≡ map f (take n xs) ++ f (get_or xs n d) ∷ map f (drop (suc n) xs)
split_at f xs n d low = ap (map f) (sym (take-append-drop n xs) ∙ ap (λ l. take n xs ++ l) (drop-cons xs n d low)) ∙ map-append f (take n xs) (get_or xs n d ∷ drop (suc n) xs)

pub ran_then : {S : Type 0} (g : Ghosts S) (done : List (List ℕ)) (text : List ℕ) (a b c : Held S) (changed : ℕ) → RanEach g done a b → Executes text [] (state g b) (state g c) (Ok changed) → RanEach g (done ++ text ∷ []) a c
ran_then g [] text a b c changed ran last = (c, changed, subst (λ h. Executes text [] (state g h) (state g c) (Ok changed)) (sym ran) last, refl)
ran_then g (t ∷ done) text a b c changed ran last = (ran.0, ran.1, ran.2, ran_then g done text ran.0 b c changed ran.3 last)

-- ---- one more table

pub all_push : {X : Type 0} (P : X → Type 0) (xs : List X) (x : X) → AllByRecursion P xs → P x → AllByRecursion P (xs ++ x ∷ [])
all_push P [] x all last = (last, tt)
all_push P (y ∷ ys) x all last = (all.0, all_push P ys x all.1 last)

-- the text makes a table of this schema, and that is the schema afterwards
pub record Makes (before after : Schema) (text : List ℕ) : Type 0 where
  pub table : Table
  pub means : command_of (understood before text) ≡ CreateTable
  pub bare : IsPlain (understood before text)
  pub whole : statement_of text (understood before text) ≡ text
  pub defined : table_defined_by text ≡ Ok table
  pub made : created before table ≡ after
  pub uncounted : lacks_sequence after ≡ false

-- after it: the table has no row, and those before it have theirs
pub record Adds (before after : Schema) (old new : State) : Type 0 where
  pub tables : new.now.schema ≡ after
  pub kept : KeepsRows before.tables old.now.trees new.now.trees
  pub empty : new.now.trees (next_tree before) ≡ []
  pub sound : IsDatabase new.now

pub adds_one : (old new : State) (before after : Schema) (text : List ℕ) → Makes before after text
    → (changed : ℕ) → old.now.schema ≡ before → Executes text [] old new (Ok changed)
    → Adds before after old new
adds_one old new before after text is changed had ran =
    let w = subst (λ t. Writes old new None CreateTable t [] changed) is.whole (runs_as text [] old new before had CreateTable is.means is.bare changed ran) in
    let all = went w.changed in
    let first = went all.1 in
    let made = first.1 in
    let both : Ok made.table ≡ Ok is.table = sym made.defined ∙ is.defined in
    let same : made.table ≡ is.table = cc in
    let schema : first.0.schema ≡ after = made.is ∙ ap (λ s. created s made.table) had ∙ ap (created before) same ∙ is.made in
    let counted : lacks_sequence first.0.schema ≡ false = ap lacks_sequence schema ∙ is.uncounted in
    let now : new.now ≡ first.0 = ap (λ (o : Tally × Database). o.1) (same_value {E = Option Error} all.2) ∙ same_value {E = Option Error} (rw counted at first.2) in
    let last : first.0.trees (next_tree before) ≡ [] = subst (λ s. first.0.trees (next_tree s) ≡ []) had made.empty in
    let others : KeepsRows before.tables old.now.trees first.0.trees = subst (λ (s : Schema). KeepsRows s.tables old.now.trees first.0.trees) had made.others in
    record {
      tables = ap (λ (d : Database). d.schema) now ∙ schema;
      kept = subst (λ (d : Database). KeepsRows before.tables old.now.trees d.trees) (sym now) others;
      empty = subst (λ (d : Database). d.trees (next_tree before) ≡ []) (sym now) last;
      sound = w.sound;
    }

-- a database of these tables and no others, with these stored rows
pub record Stores (rows : Trees) (schema : Schema) (s : State) : Type 0 where
  pub tables : s.now.schema ≡ schema
  pub stored : KeepsRows schema.tables rows s.now.trees
  pub sound : IsDatabase s.now

pub makes_one : (rows : Trees) (old new : State) (before after : Schema) (text : List ℕ)
    → Makes before after text → (changed : ℕ) → Stores rows before old → rows (next_tree before) ≡ []
    → Executes text [] old new (Ok changed) → Stores rows after new
makes_one rows old new before after text is changed had none ran =
    let it = adds_one old new before after text is changed had.tables ran in
    let new_table : Table = record is.table { tree = next_tree before } in
    let others : KeepsRows before.tables rows new.now.trees = rows_trans before.tables rows old.now.trees new.now.trees had.stored it.kept in
    let pushed : KeepsRows (created before is.table).tables rows new.now.trees =
    all_push (λ t. new.now.trees t.tree ≡ rows t.tree) before.tables new_table others (it.empty ∙ sym none) in
    record {
      tables = it.tables;
      stored = subst (λ (s : Schema). KeepsRows s.tables rows new.now.trees) is.made pushed;
      sound = it.sound;
    }

-- a table with no stored row has no row
pub no_rows : (width : ℕ) (stored : List Row) → stored ≡ [] → HasRows width stored []
no_rows width stored empty = subst (λ s. HasRows width s []) (sym empty) (record { shaped = (tt, tt); same = IsPermutation-refl []; rises = tt })

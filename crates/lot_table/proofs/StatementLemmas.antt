-- What the changes of one table of a book do and why they are refused, whatever the table is.
use Rattle.std.specs.List.{list_any}
use Rattle.std.proofs.Common.{Bool, cond, negsuc, ◌≡◌, ◌⊎◌, inl, inr, ℕ, ℤ, ◌/◌, true, false, ◌||◌, slice_get, Option, Some, None, Result, Ok, Err, IsSome, List, [], ◌∷◌, filter, map, length, ap₂, subst₂, refl, sym, ap, subst, ◌∙◌, is_eq}
use Rattle.sqlite.specs.Command.TheVariants.{Insert, InsertOr, Delete, Update}
use Rattle.sqlite.specs.Command.{Command}
use Rattle.sqlite.specs.Does.{Does, OnRows, Tally}
use Rattle.sqlite.specs.Effect.{Database, value_rows}
use Rattle.sqlite.specs.Listing.{understood}
use Rattle.sqlite.specs.Order.{Row}
use Rattle.sqlite.specs.Rows.{Task, stamped, mended}
use Rattle.sqlite.specs.Source.TheVariants.{Values}
use Rattle.sqlite.specs.Source.{Source}
use Rattle.sqlite.specs.State.{State, Fails, mode_of}
use Rattle.sqlite.specs.Table as declared
use Rattle.sqlite.specs.Cast.{cast_row}
use Rattle.sqlite.specs.Query.{Query}
use Rattle.sqlite.specs.Term.{Term, col, eval_all}
use Rattle.sqlite.specs.Tree.{Trees, rowid}
use Rattle.sqlite.specs.declared.error.Error.TheVariants.{SqliteFailure}
use Rattle.sqlite.specs.declared.error.Error.{Error}
use Rattle.sqlite.specs.declared.error.ErrorCode.TheVariants as code
use Rattle.sqlite.specs.declared.types.Value.{Value}
use Rattle.sqlite.specs.declared.types.Value.TheVariants.{Null, Int}
use Rattle.sqlite_catalog.specs.Listing.{IsSound}
use Rattle.sqlite_rules.proofs.ListLemmas.{has_filtered}
use Rattle.sqlite_rules.proofs.PlaceLemmas.{next_is_free}
use Rattle.sqlite_rules.specs.Edit.{next_rowid}
use Rattle.sqlite_rules.specs.declared.error.Rowids.TheVariants.{Chosen}
use Rattle.sqlite_rules.specs.Keys.{conflicts, shares}
use Rattle.sqlite_rules.specs.Lists.{Has}
use Rattle.sqlite_rules.specs.Steps.{IsJudged}
use Rattle.sqlite_schema.specs.Rules.{agree}
use Rattle.sqlite_schema.specs.declared.command.Conflict.TheVariants.{Replace}
use Rattle.sqlite_schema.specs.declared.schema.Constraint.TheVariants.{Unique}
use Rattle.sqlite_schema.specs.declared.schema.Keys.TheVariants.{Enforced}
use Rattle.sqlite_sql.specs.Term.{lit}
use Rattle.sqlite_trees.specs.declared.error.StoreError.TheVariants as store
use Rattle.sqlite_typing.specs.Types.{accepts_program, accepts_terms}
use Rattle.sqlite_value.specs.Keys.{plain}
use Rattle.sqlite_value.specs.Order.{value_cmp}
use Rattle.sqlite.proofs.Callers.{IsPlain, command_of, statement_of, runs_as}
use Rattle.lot_table.specs.Book.{Slot, AreHeld, BookTable, with_rows, Layout, Holds, Has as HasBook, Turns, always}
use Rattle.lot_table.specs.Call.{Adds, Changes, Deletes, HasKey, LacksKey, LacksRoom, LacksRoomInPlace, PutsWhere, Puts, Runs, Sets}
use Rattle.lot_table.specs.Fault.{fault_of}
use Rattle.lot_table.specs.Rowids.{EachStaysInReach, StayInReach}
use Rattle.lot_table.specs.Rows.{columns, has_key, HasRows, is_there, put_in, set_in, without_key}
use Rattle.lot_table.specs.Statement.{DiskFailed, Ran, RefusedChange}
use Rattle.lot_table.specs.declared.fault.Fault.TheVariants.{Damaged, Device}
use Rattle.lot_table.specs.declared.fault.Fault.{Fault}
use Rattle.lot_table.proofs.BookLemmas.{held_all, on_ok}
use Rattle.lot_table.proofs.CastLemmas.{AreStored, row_stored}
use Rattle.lot_table.proofs.EditLemmas.{IsFree, StopsPut}
use Rattle.lot_table.proofs.HaltLemmas.{halted, is_change}
use Rattle.lot_table.proofs.KeyLemmas.{kept_set, spares}
use Rattle.lot_table.proofs.ReadLemmas.{query, IsPresent, key_terms, key_places, passes, tests_are}
use Rattle.lot_table.proofs.RefusalLemmas.{IsWhole, steady_query}
use Rattle.lot_table.proofs.RowidLemmas.{all_in_reach, had_in_reach, left_in_reach, one_in_reach, put_in_reach}
use Rattle.lot_table.proofs.StopLemmas.{Interrupts, stops_add, stops_delete, stops_replace}
use Rattle.lot_table.proofs.TableLemmas.{Becomes, adds_row, apart, clash, deletes_row, picked_rows, put_as, puts_row, the_row}
use Rattle.lot_table.proofs.UpdateLemmas.{filter_none, free_left, stops_none, stops_set, updates, updates_none}
use Rattle.lot_table.proofs.WriteLemmas.{cast_int, fails_here as none_here, schema_kept}

-- where the list of a table is in a book, that the layout has it there, and that each row has what the table asks for
pub record IsTable {B X : Type 0} (layout : Layout B) (t : BookTable B X) : Type 0 where
  -- the slots have the trees of the tables, in their order
  pub aligned : (b : B) → map (λ (slot : Slot). slot.tree) (layout.slots b) ≡ map (λ (d : declared.Table). d.tree) layout.schema.tables
  pub held : (trees : Trees) (b : B) → AreHeld trees (layout.slots b) → HasRows t.width (trees t.table.tree) (map t.encode (t.rows b))
  pub is_set : (b : B) (xs : List X) → map (with_rows t.table.tree t.width (map t.encode xs)) (layout.slots b) ≡ layout.slots (t.with_rows xs b)
  -- no column of the key is NULL
  pub present : (x : X) → IsPresent t.width 0 (t.encode x)
  -- its place among the tables
  pub place : ℕ
  pub placed : slice_get layout.schema.tables place ≡ Some t.table
  pub free : IsFree layout.schema t.table
  pub uncounted : t.table.is_counted ≡ false
  pub mends : (x : X) → mended Replace t.table (Null ∷ t.encode x) ≡ Null ∷ t.encode x
  pub stored : (x : X) → AreStored t.table.columns (t.encode x)
  pub judged : (x : X) (id : ℤ) → IsJudged t.table (Int id ∷ t.encode x) None

-- the text is a command by which a row goes into the table; its columns are the parameters
pub record IsRow {B X : Type 0} (layout : Layout B) (t : BookTable B X) (By : Source → Command) (x : X) (text : List ℕ) : Type 0 where
  pub count : ℕ
  pub terms : List Term
  pub means : command_of (understood layout.schema text) ≡ By (Values terms count)
  pub bare : IsPlain (understood layout.schema text)
  pub whole : IsWhole text (length (t.encode x)) (understood layout.schema text)
  pub given : value_rows (stamped t.table (t.encode x)) count (length terms / count) terms ≡ (Null ∷ t.encode x) ∷ []
  pub typed : accepts_terms terms (stamped t.table (t.encode x)) ≡ true

-- the text puts the row, in the place of the one of its key if there is one
abbrev pub IsPut : {B X : Type 0} (layout : Layout B) (t : BookTable B X) → IsTable layout t → X → List ℕ → Type 0
IsPut layout t is = IsRow layout t (λ from. InsertOr is.place Replace from [])

-- the text adds the row
abbrev pub IsAdd : {B X : Type 0} (layout : Layout B) (t : BookTable B X) → IsTable layout t → X → List ℕ → Type 0
IsAdd layout t is = IsRow layout t (Insert is.place)

-- The text changes the row of the key of a row whose columns are the parameters.
pub record IsSet {B X : Type 0} (layout : Layout B) (t : BookTable B X) (is : IsTable layout t) (x : X) (text : List ℕ) : Type 0 where
  pub shows : List Term
  pub means : command_of (understood layout.schema text) ≡ Update is.place (record { lets = []; body = query t.table.tree (key_terms t.width 0) shows [] })
  pub bare : IsPlain (understood layout.schema text)
  pub whole : IsWhole text (length (t.encode x)) (understood layout.schema text)
  pub typed : accepts_program layout.schema [] (query t.table.tree (key_terms t.width 0) shows []) (t.encode x) ≡ true
  -- at the rowid of a row with its key
  pub becomes : (y : X) (rowid : Value) → has_key t.width (t.encode x) (t.encode y) ≡ true → eval_all shows (t.encode x ∷ (rowid ∷ t.encode y) ∷ []) ≡ rowid ∷ rowid ∷ t.encode x

-- the text deletes the row of a key, which is the parameters
pub record IsDelete {B X : Type 0} (layout : Layout B) (t : BookTable B X) (is : IsTable layout t) (key : Row) (text : List ℕ) : Type 0 where
  pub means : command_of (understood layout.schema text) ≡ Delete is.place (record { lets = []; body = query t.table.tree (key_terms t.width 0) (col 1 0 ∷ []) [] })
  pub bare : IsPlain (understood layout.schema text)
  pub whole : IsWhole text (length key) (understood layout.schema text)
  pub some : IsPresent t.width 0 key
  pub typed : accepts_program layout.schema [] (query t.table.tree (key_terms t.width 0) (col 1 0 ∷ []) []) key ≡ true

-- ---- why a change fails

-- the store fails for the disk, since memory is out, or since the change is too big
pub failed_as : (old new : State) (big : Type 0) (e : Error) → Fails old new big e → (fault_of e ≡ Damaged → ⊥) × (fault_of e ≡ Device → DiskFailed old new ⊎ big)
failed_as old new big e (store.OutOfMemory, is, cause, undone, told) = let same = ap fault_of is in (λ damaged. absurd cc, λ device. absurd cc)
failed_as old new big e (store.Io, is, cause, undone, told) = let same = ap fault_of is in (λ damaged. absurd cc, λ device. inl (inl cause))
failed_as old new big e (store.Corrupt, is, cause, undone, told) = let same = ap fault_of is in (λ damaged. absurd cc, λ device. inl (inl cause))
failed_as old new big e (store.Full, is, cause, undone, told) = let same = ap fault_of is in (λ damaged. absurd cc, λ device. inl (inl cause))
failed_as old new big e (store.Broken, is, cause, undone, told) = let same = ap fault_of is in (λ damaged. absurd cc, λ device. inl (inr cause))
failed_as old new big e (store.Unstorable, is, cause, undone, told) = let same = ap fault_of is in (λ damaged. absurd cc, λ device. inr cause)

-- what stops a change that needs room
abbrev StopsFor : Type 0 → Option Error → Type 0
StopsFor Room None = Room
StopsFor Room (Some e) = (e ≡ SqliteFailure code.NoRowid) × Room

some_same : {E : Type 0} {a b : E} → Some a ≡ Some b → a ≡ b
some_same e = cc

module _ (old new : State) (Big Room : Type 0) (doing : Error → Type 0) where
  -- a change whose refusals are these is never refused for damage, and for the device where it lacks room
  fails_as : (big : Big → Room) (refused : (e : Error) → doing e → ((e ≡ SqliteFailure code.NoRowid) × Room) ⊎ ((e ≡ SqliteFailure code.OperationInterrupted) × IsSome old.step_limit))
      → (fault : Fault) (e : Error) → fault ≡ fault_of e → Fails old new Big e ⊎ doing e → (fault ≡ Damaged → old.step_limit ≡ None → ⊥) × (fault ≡ Device → DiskFailed old new ⊎ Room)
  fails_as big refused fault e is (inl fails) =
      let why = failed_as old new Big e fails in
      (λ damaged unlimited. why.0 (sym is ∙ damaged), λ device. elim (why.1 (sym is ∙ device)) [ inl disk ↦ inl disk | inr too ↦ inr (big too) ])
  fails_as big refused fault e is (inr h) = elim (refused e h) [
    | inl (same, room) ↦ let named = is ∙ ap fault_of same in (λ damaged unlimited. absurd cc, λ device. inr room)
    | inr (same, some) ↦ let named = is ∙ ap fault_of same in (λ damaged unlimited. let none = rw unlimited at some in absurd cc, λ device. absurd cc)
  ]

module _ {B X : Type 0} (layout : Layout B) (t : BookTable B X) (is : IsTable layout t) where
  abbrev at : ℕ
  at = t.table.tree

  abbrev task : State → Row → Task
  task old params = record { limit = old.step_limit; keys = Enforced; schema = layout.schema; table = t.table; params = params }

  -- the book with these rows of this table is what the file has
  turned : (old new : State) (f : List X → List X) (sound : IsSound layout.schema new.now.trees) (b : B) → Holds layout old.now.trees b
      → Becomes layout.schema at t.width (map t.encode (f (t.rows b))) old.now.trees new.now.trees → Holds layout new.now.trees (t.with_rows (f (t.rows b)) b)
  turned old new f sound b holds wrote = record {
    sound = sound;
    held = subst (AreHeld new.now.trees) (is.is_set b (f (t.rows b)))
        (held_all at t.width (map t.encode (f (t.rows b))) old.now.trees new.now.trees wrote.0 (layout.slots b) layout.schema.tables (is.aligned b) wrote.1 holds.held);
  }

  -- ---- one statement

  -- What a command makes of the list of the table in a book that fits, and that only a lack of room stops it there, or the
  -- limit on steps.
  record Works (old : State) (params : Row) (command : Command) (fits : B → Type 0) (f : List X → List X) (Room : Trees → Type 0) : Type 0 where
    makes : (b : B) → Holds layout old.now.trees b → (out : Tally × Database) → OnRows (task old params) (mode_of old) None command old.now.trees (Ok out)
        → Becomes layout.schema at t.width (map t.encode (f (t.rows b))) old.now.trees out.1.trees
    stops : (b : B) → Holds layout old.now.trees b → fits b → (stop : Option Error) → OnRows (task old params) (mode_of old) None command old.now.trees (Err stop)
        → StopsFor (Room old.now.trees) stop ⊎ Interrupts old.step_limit stop

  module _ (old new : State) (text : List ℕ) (params : Row) (command : Command) (change : is_change command ≡ true)
      (means : command_of (understood layout.schema text) ≡ command) (bare : IsPlain (understood layout.schema text)) (whole : IsWhole text (length params) (understood layout.schema text))
      (on_table : (out : Result (Tally × Database) (Option Error)) → Does old.step_limit (mode_of old) params (record old.now { schema = layout.schema }) (statement_of text (understood layout.schema text)) None command out
      → OnRows (task old params) (mode_of old) None command old.now.trees out)
      (ended : old.now.schema ≡ layout.schema → Ran text params old new
      → (tally : Tally) × Does old.step_limit (mode_of old) params old.now (statement_of text (understood layout.schema text)) None command (Ok (tally, new.now)) × IsSound new.now.schema new.now.trees)
      (fits : B → Type 0) (f : List X → List X) (Room : Trees → Type 0) (works : Works old params command fits f Room) where
    does_here : old.now.schema ≡ layout.schema → (out : Result (Tally × Database) (Option Error))
        → Does old.step_limit (mode_of old) params old.now (statement_of text (understood layout.schema text)) None command out → OnRows (task old params) (mode_of old) None command old.now.trees out
    does_here book out h =
        on_table out (subst (λ s. Does old.step_limit (mode_of old) params (record old.now { schema = s }) (statement_of text (understood layout.schema text)) None command out) book h)

    wrote : Ran text params old new → old.now.schema ≡ layout.schema → (new.now.schema ≡ layout.schema) × IsSound layout.schema new.now.trees
        × ((b : B) → Holds layout old.now.trees b → Becomes layout.schema at t.width (map t.encode (f (t.rows b))) old.now.trees new.now.trees)
    wrote ran book =
        let w = ended book ran in
        let does : OnRows (task old params) (mode_of old) None command old.now.trees (Ok (w.0, new.now)) = does_here book (Ok (w.0, new.now)) w.1 in
        let kept = schema_kept (task old params) (mode_of old) command old.now.trees (w.0, new.now) does in
        (kept, subst (λ s. IsSound s new.now.trees) kept w.2, λ b holds. works.makes b holds (w.0, new.now) does)

    turns_here : Ran text params old new → Turns layout always (λ b. t.with_rows (f (t.rows b)) b) old new
    turns_here ran = record { book = λ book. (wrote ran book).0; lists = λ book b holds ok. turned old new f (wrote ran book).1 b holds ((wrote ran book).2 b holds) }

    rowids_here : Ran text params old new → (b : B) → HasBook layout old b → EachStaysInReach 1 layout.schema old.now.trees new.now.trees
    rowids_here ran b has =
        let it = (wrote ran has.0).2 b has.1 in
        one_in_reach at old.now.trees new.now.trees it.2 layout.schema.tables it.1

    stops_here : (b : B) → fits b → HasBook layout old b → (stop : Option Error)
        → Does old.step_limit (mode_of old) params old.now (statement_of text (understood layout.schema text)) None command (Err stop) → StopsFor (Room old.now.trees) stop ⊎ Interrupts old.step_limit stop
    stops_here b fit has stop h = works.stops b has.1 fit stop (does_here has.0 (Err stop) h)

    fails_here : (b : B) → fits b → HasBook layout old b → (fault : Fault) → RefusedChange text params old new fault
        → (fault ≡ Damaged → old.step_limit ≡ None → ⊥) × (fault ≡ Device → DiskFailed old new ⊎ Room old.now.trees)
    fails_here b fit has fault (e, named, refused) =
        fails_as old new _ (Room old.now.trees) _
        (λ h. elim (stops_here b fit has None h) [ inl room ↦ room | inr (same, some) ↦ absurd cc ])
        (λ error h. elim (stops_here b fit has (Some error) h) [ inl (same, room) ↦ inl (same, room) | inr (same, some) ↦ inr (some_same same, some) ])
        fault e named (halted command change text params old new layout.schema has.0 bare whole means e refused)

    changes : {A : Type 0} (result : Result A Fault) → Runs text params old new result → Changes layout fits (λ b. t.with_rows (f (t.rows b)) b) Room old new result
    changes result runs = record {
      inside = runs.inside;
      turns = λ clean. on_ok result _ _ turns_here (runs.ran clean);
      rowids = λ clean. on_ok result _ _ rowids_here (runs.ran clean);
      damaged = λ clean same unlimited b fit has. (fails_here b fit has Damaged (runs.refused clean Damaged same)).0 refl unlimited;
      device = λ clean same b fit has. (fails_here b fit has Device (runs.refused clean Device same)).1 refl;
      undone = runs.undone;
      crash = runs.crash;
    }

  -- ---- INSERT and INSERT OR REPLACE of a row

  module _ (old new : State) (text : List ℕ) (x : X) where
    abbrev row : Row
    row = t.encode x

    abbrev Room : Trees → Type 0
    Room = LacksRoom layout.schema t.table row

    lacks_room : (stop : Option Error) → StopsPut layout.schema t.table (next_rowid (old.now.trees at)) row stop ⊎ Interrupts old.step_limit stop
        → StopsFor (Room old.now.trees) stop ⊎ Interrupts old.step_limit stop
    lacks_room None (inl big) = inl (inr big)
    lacks_room (Some e) (inl (same, unfit)) = inl (same, inl unfit)
    lacks_room stop (inr interrupted) = inr interrupted

    -- the keys that the row shares with another: the key of the table, and those of the rest
    module _ (rest : Row → Bool) (shape : (v : Value) (d : Row) (id : ℤ) → list_any (shares None t.table (Int id ∷ row) (v ∷ d)) layout.schema.indexes
        ≡ (agree plain (key_places t.width 0) (v ∷ d) (key_places t.width 0) (Int id ∷ row) || rest (v ∷ d))) where
      -- the rows that it conflicts with are those of its key, where none shares the rest
      clashes : (b : B) → ((v : Value) (y : X) → Has (t.rows b) y → rest (v ∷ t.encode y) ≡ false) → HasRows t.width (old.now.trees at) (map t.encode (t.rows b)) → (r : Row) (id : ℤ) → Has (old.now.trees at) r
          → conflicts None layout.schema.indexes t.table (Int id ∷ row) r ≡ (is_eq (value_cmp (rowid r) (Int id)) || has_key t.width row (columns r))
      clashes b unshared kept =
          clash t.encode t.width is.present t.table layout.schema.indexes x rest (λ v d id. ap (λ shared. agree plain (0 ∷ []) (v ∷ d) (0 ∷ []) (Int id ∷ row) || shared) (shape v d id)) (old.now.trees at) (t.rows b) unshared kept

      pub adds_where : (fits : B → Type 0) → IsAdd layout t is x text → ((b : B) → fits b → LacksKey t x b × ((v : Value) (y : X) → Has (t.rows b) y → rest (v ∷ t.encode y) ≡ false))
          → {A : Type 0} (result : Result A Fault) → Runs text row old new result → PutsWhere layout t fits x old new result
      adds_where fits add lacks =
          changes old new text row (Insert is.place (Values add.terms add.count)) refl add.means add.bare add.whole (λ out h. rw is.placed at h)
          (λ book ran. let w = runs_as text row old new layout.schema book (Insert is.place (Values add.terms add.count)) add.means add.bare ran.0 ran.1 in (w.tally, w.changed, w.sound))
          fits (put_in t.encode t.width x) Room (record {
            makes = λ b holds out does.
                adds_row t.encode t.width is.present (task old row) is.free.unreferred old.now.trees (t.rows b) (is.held old.now.trees b holds.held) x is.uncounted (row_stored t.table row (is.stored x)) is.free.listed rest shape (mode_of old)
                add.terms add.count is.place out add.given does;
            stops = λ b holds ok stop h.
                let rows = is.held old.now.trees b holds.held in
                let id = next_rowid (old.now.trees at) in
                let free = next_is_free Chosen (old.now.trees at) row rows.shaped.0 rows.shaped.1 in
                lacks_room stop (stops_add layout.schema t.table is.free old.step_limit row old.now.trees (holds.sound.obeys.rules Unique) rows.shaped row is.uncounted (is.mends x)
                (row_stored t.table row (is.stored x)) (is.judged x)
                (λ r h. clashes b (lacks b ok).1 rows r id h ∙ ap₂ ◌||◌ (none_here (λ y. is_eq (value_cmp (rowid y) (Int id))) (old.now.trees at) r free h) (apart t.encode t.width is.present (task old row) is.free.unreferred old.now.trees (t.rows b) rows row (lacks b ok).0 r h))
                (mode_of old) add.terms add.count is.place stop add.given add.typed h);
          })

    -- where the table has no other unique key
    module _ (shape : (v : Value) (d : Row) (id : ℤ) → list_any (shares None t.table (Int id ∷ row) (v ∷ d)) layout.schema.indexes
        ≡ (agree plain (key_places t.width 0) (v ∷ d) (key_places t.width 0) (Int id ∷ row) || false)) where
      pub puts : IsPut layout t is x text → {A : Type 0} (result : Result A Fault) → Runs text row old new result → Puts layout t x old new result
      puts put =
          changes old new text row (InsertOr is.place Replace (Values put.terms put.count) []) refl put.means put.bare put.whole (λ out h. rw is.placed at h)
          (λ book ran. let w = runs_as text row old new layout.schema book (InsertOr is.place Replace (Values put.terms put.count) []) put.means put.bare ran.0 ran.1 in (w.tally, w.changed, w.sound))
          always (put_in t.encode t.width x) Room (record {
            makes = λ b holds out does.
                let rows = is.held old.now.trees b holds.held in
                puts_row t.encode t.width is.present (task old row) is.free.unreferred old.now.trees (t.rows b) rows x is.uncounted (is.mends x) (row_stored t.table row (is.stored x)) (clashes (λ _. false) shape b (λ _ _ _. refl) rows) (mode_of old)
                put.terms put.count is.place out put.given does;
            stops = λ b holds ok stop h.
                lacks_room stop (stops_replace layout.schema t.table is.free old.step_limit row old.now.trees (holds.sound.obeys.rules Unique) (is.held old.now.trees b holds.held).shaped row is.uncounted (is.mends x)
                (row_stored t.table row (is.stored x)) (is.judged x) (mode_of old) put.terms put.count is.place stop put.given put.typed h);
          })

      pub adds : IsAdd layout t is x text → {A : Type 0} (result : Result A Fault) → Runs text row old new result → Adds layout t x old new result
      adds add = adds_where (λ _. false) shape (LacksKey t x) add (λ b lacks. (lacks, λ _ _ _. refl))

  -- ---- UPDATE of the row of a key

  module _ (old new : State) (text : List ℕ) (x : X) (set : IsSet layout t is x text)
      (shape : (v : Value) (d : Row) (id : ℤ) → list_any (shares None t.table (Int id ∷ t.encode x) (v ∷ d)) layout.schema.indexes
      ≡ (agree plain (key_places t.width 0) (v ∷ d) (key_places t.width 0) (Int id ∷ t.encode x) || false)) where
    abbrev set_row : Row
    set_row = t.encode x

    abbrev picks : Query
    picks = query at (key_terms t.width 0) set.shows []

    module _ (b : B) (holds : Holds layout old.now.trees b) where
      rows : HasRows t.width (old.now.trees at) (map t.encode (t.rows b))
      rows = is.held old.now.trees b holds.held

      alike : (r : Row) → Has (old.now.trees at) r → passes at (key_terms t.width 0) set.shows [] set_row old.now.trees r ≡ has_key t.width set_row (columns r)
      alike =
          picked_rows t.encode t.width is.present (key_terms t.width 0) set_row (has_key t.width set_row) (λ v y. tests_are t.width 0 v (t.encode y) set_row (is.present y) (is.present x)) at set.shows [] old.now.trees (t.rows b) rows

      module _ (there : HasKey t x b) where
        its : (id : ℤ) × (y : X) × (has_key t.width set_row (t.encode y) ≡ true) × (filter (λ r. has_key t.width set_row (columns r)) (old.now.trees at) ≡ (Int id ∷ t.encode y) ∷ [])
        its = the_row t.encode t.width is.present (task old set_row) is.free.unreferred old.now.trees (t.rows b) rows set_row there

        stored : Has (old.now.trees at) (Int its.0 ∷ t.encode its.1)
        stored = (has_filtered (λ r. has_key t.width set_row (columns r)) (old.now.trees at) _ (subst (λ l. Has l (Int its.0 ∷ t.encode its.1)) (sym its.3) (inl refl))).0

        casts : cast_row t.table (Int its.0 ∷ set_row) ≡ Int its.0 ∷ set_row
        casts = row_stored t.table set_row (is.stored x) (Int its.0) ∙ ap (λ v. v ∷ set_row) (cast_int its.0)

        changed_there : (out : Tally × Database) → OnRows (task old set_row) (mode_of old) None (Update is.place (record { lets = []; body = picks })) old.now.trees (Ok out)
            → Becomes layout.schema at t.width (map t.encode (put_in t.encode t.width x (t.rows b))) old.now.trees out.1.trees
        changed_there out does =
            let becomes = set.becomes its.1 (Int its.0) its.2 in
            let done = updates layout.schema t.table old.step_limit set_row t.width (key_terms t.width 0) set.shows set_row old.now.trees rows.shaped alike its.0 (t.encode its.1) its.3 becomes is.free.unreferred casts (mode_of old) is.place out does in
            let free = free_left layout.schema t.table old.step_limit set_row t.width (key_terms t.width 0) set.shows set_row old.now.trees rows.shaped alike its.0 (t.encode its.1) its.3 becomes in (
              subst₂ (HasRows t.width) (sym done.0) (put_as t.encode t.width is.present (task old set_row) is.free.unreferred old.now.trees (t.rows b) rows x)
                  (kept_set t.width (old.now.trees at) (map t.encode (t.rows b)) (Int its.0 ∷ set_row) rows refl free),
              done.1,
              subst (StayInReach 1 (old.now.trees at)) (sym done.0)
                  (put_in_reach 1 (old.now.trees at) _ (Int its.0 ∷ set_row) (left_in_reach 1 (old.now.trees at) (spares t.width set_row))
                  (had_in_reach 1 (old.now.trees at) (Int its.0 ∷ t.encode its.1) stored)),
            )

        stopped_there : (stop : Option Error) → OnRows (task old set_row) (mode_of old) None (Update is.place (record { lets = []; body = picks })) old.now.trees (Err stop)
            → StopsFor (LacksRoomInPlace layout t x old.now.trees) stop ⊎ Interrupts old.step_limit stop
        stopped_there stop h =
            in_place stop (stops_set layout.schema t.table old.step_limit set_row t.width (key_terms t.width 0) set.shows set_row old.now.trees rows.shaped alike its.0 (t.encode its.1) its.3 (set.becomes its.1 (Int its.0) its.2)
            is.free (holds.sound.obeys.rules Unique) (is.judged x its.0) casts
            (λ r h. clashes old new text x (λ _. false) shape b (λ _ _ _. refl) rows r its.0 h)
            set.typed (steady_query at (key_terms t.width 0) set.shows [] (lit (Int (negsuc 0))) set_row) (mode_of old) is.place stop h)
          where
            in_place : (stop : Option Error) → StopsPut layout.schema t.table its.0 set_row stop ⊎ Interrupts old.step_limit stop
                → StopsFor (LacksRoomInPlace layout t x old.now.trees) stop ⊎ Interrupts old.step_limit stop
            in_place None (inl big) = inl (its.0, t.encode its.1, stored, its.2, inr big)
            in_place (Some e) (inl (same, unfit)) = inl (same, (its.0, t.encode its.1, stored, its.2, inl unfit))
            in_place stop (inr interrupted) = inr interrupted

      none_picked : LacksKey t x b → filter (passes at (key_terms t.width 0) set.shows [] set_row old.now.trees) (old.now.trees at) ≡ []
      none_picked lacks = filter_none _ (old.now.trees at) (λ r h. alike r h ∙ apart t.encode t.width is.present (task old set_row) is.free.unreferred old.now.trees (t.rows b) rows set_row lacks r h)

      -- no row has its key, so that nothing changes
      nothing_changed : LacksKey t x b → (out : Tally × Database) → OnRows (task old set_row) (mode_of old) None (Update is.place (record { lets = []; body = picks })) old.now.trees (Ok out)
          → Becomes layout.schema at t.width (map t.encode (t.rows b)) old.now.trees out.1.trees
      nothing_changed lacks out does =
          let none = none_picked lacks in
          let same = updates_none layout.schema t.table old.step_limit set_row (key_terms t.width 0) set.shows old.now.trees none is.free.unreferred (mode_of old) is.place out does in (
            subst (λ l. HasRows t.width l (map t.encode (t.rows b))) (sym same.0) rows,
            same.1,
            subst (StayInReach 1 (old.now.trees at)) (sym same.0) (all_in_reach 1 (old.now.trees at)),
          )

      changed : (out : Tally × Database) → OnRows (task old set_row) (mode_of old) None (Update is.place (record { lets = []; body = picks })) old.now.trees (Ok out)
          → Becomes layout.schema at t.width (map t.encode (set_in t.encode t.width x (t.rows b))) old.now.trees out.1.trees
      changed out does = by (is_there t.encode t.width set_row (t.rows b)) (λ there. changed_there there out does) (λ lacks. nothing_changed lacks out does)
        where
          by : (has : Bool) → (has ≡ true → Becomes layout.schema at t.width (map t.encode (put_in t.encode t.width x (t.rows b))) old.now.trees out.1.trees)
              → (has ≡ false → Becomes layout.schema at t.width (map t.encode (t.rows b)) old.now.trees out.1.trees)
              → Becomes layout.schema at t.width (map t.encode (cond has (put_in t.encode t.width x (t.rows b)) (t.rows b))) old.now.trees out.1.trees
          by true there lacks = there refl
          by false there lacks = lacks refl

      stopped : (stop : Option Error) → OnRows (task old set_row) (mode_of old) None (Update is.place (record { lets = []; body = picks })) old.now.trees (Err stop)
          → StopsFor (LacksRoomInPlace layout t x old.now.trees) stop ⊎ Interrupts old.step_limit stop
      stopped stop h = by (is_there t.encode t.width set_row (t.rows b)) refl
        where
          by : (has : Bool) → is_there t.encode t.width set_row (t.rows b) ≡ has → StopsFor (LacksRoomInPlace layout t x old.now.trees) stop ⊎ Interrupts old.step_limit stop
          by true there = stopped_there there stop h
          by false lacks =
              inr (stops_none layout.schema t.table old.step_limit set_row (key_terms t.width 0) set.shows old.now.trees (none_picked lacks) is.free rows.shaped (holds.sound.obeys.rules Unique)
              set.typed (steady_query at (key_terms t.width 0) set.shows [] (lit (Int (negsuc 0))) set_row) (mode_of old) is.place stop h)

    pub sets : {A : Type 0} (result : Result A Fault) → Runs text set_row old new result → Sets layout t x old new result
    sets =
        changes old new text set_row (Update is.place (record { lets = []; body = picks })) refl set.means set.bare set.whole (λ out h. rw is.placed at h)
        (λ book ran. let w = runs_as text set_row old new layout.schema book (Update is.place (record { lets = []; body = picks })) set.means set.bare ran.0 ran.1 in (w.tally, w.changed, w.sound))
        always (set_in t.encode t.width x) (LacksRoomInPlace layout t x) (record { makes = changed; stops = λ b holds ok. stopped b holds })

  -- ---- DELETE of the row of a key

  module _ (old new : State) (text : List ℕ) (key : Row) (delete : IsDelete layout t is key text) where
    pub deletes_key : {A : Type 0} (result : Result A Fault) → Runs text key old new result → Deletes layout t key old new result
    deletes_key =
        let rows = query at (key_terms t.width 0) (col 1 0 ∷ []) [] in
        changes old new text key (Delete is.place (record { lets = []; body = rows })) refl delete.means delete.bare delete.whole (λ out h. rw is.placed at h)
        (λ book ran. let w = runs_as text key old new layout.schema book (Delete is.place (record { lets = []; body = rows })) delete.means delete.bare ran.0 ran.1 in (w.tally, w.changed, w.sound)) always (without_key t.encode t.width key) (λ _. ⊥) (record {
          makes = λ b holds out does.
              deletes_row t.encode t.width is.present (task old key) is.free.unreferred old.now.trees (t.rows b) (is.held old.now.trees b holds.held) key delete.some refl (mode_of old) is.place out does;
          stops = λ b holds ok stop h.
              inr (stops_delete layout.schema t.table is.free old.step_limit key old.now.trees (holds.sound.obeys.rules Unique) (is.held old.now.trees b holds.held).shaped rows delete.typed
              (steady_query at (key_terms t.width 0) (col 1 0 ∷ []) [] (lit (Int (negsuc 0))) key) (mode_of old) is.place stop h);
        })

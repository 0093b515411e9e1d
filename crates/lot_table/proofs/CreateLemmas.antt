-- CREATE TABLE in any database: it is refused where its name is taken, and else it makes the table or finds no room.
use Rattle.std.proofs.Common.{◌≡◌, ◌≢◌, ◌⊎◌, inl, inr, ℕ, ◌+◌, ◌≤◌, Bool, true, false, not, ◌&&◌, ◌||◌, ◌==◌, if◌then◌else◌, Option, Some, None, is_some, Result, Ok, Err, List, [], ◌∷◌, ◌++◌, length, map, take, codes, refl, sym, ap, subst, ◌∙◌, true≢false, slice_range}
use Rattle.std.proofs.Math.Bool.{or-false}
use Rattle.std.proofs.lemmas.Bool.{and_parts, cases_Bool, or_parts}
use Rattle.std.proofs.lemmas.List.Folds.{list_any-append}
use Rattle.std.specs.List.{position_from, list_all, list_any}
use Rattle.std.specs.Option.{option_or}
use Rattle.lot_table.proofs.HaltLemmas.{halted}
use Rattle.lot_table.proofs.RefusalLemmas.{IsWhole}
use Rattle.lot_table.proofs.EditLemmas.{same_stop}
use Rattle.lot_table.proofs.WriteLemmas.{same_value, went}
use Rattle.sqlite.proofs.Callers.{IsPlain, command_of, runs_as, statement_of}
use Rattle.sqlite.specs.Does.{Does, MakesTable, Tally, lacks_sequence, sequence_text}
use Rattle.sqlite.specs.Effect.{Database}
use Rattle.sqlite.specs.Held.{Held, state}
use Rattle.sqlite.specs.Listing.{understood}
use Rattle.sqlite.specs.Schema.{Schema}
use Rattle.sqlite.specs.State.{Executes, ExecutesIn, ExecutesInside, Fails, State, Writes, mode_of}
use Rattle.sqlite.specs.Store.{Ghosts}
use Rattle.sqlite.specs.Table.{Table}
use Rattle.sqlite.specs.declared.error.Error.TheVariants.{SqlInputError}
use Rattle.sqlite.specs.declared.error.Error.{Error}
use Rattle.sqlite_ast.specs.declared.CreateTable as ast
use Rattle.sqlite_ast.specs.declared.Statement.TheVariants as written
use Rattle.sqlite_catalog.proofs.StepLemmas.{no_index, no_table, no_view}
use Rattle.sqlite_catalog.specs.Change.{automatics, created, is_used, next_tree}
use Rattle.sqlite_catalog.specs.Listing.{automatic}
use Rattle.sqlite_catalog.specs.declared.error.Refusal.TheVariants as why
use Rattle.sqlite.specs.declared.run.Mode.{Mode}
use Rattle.sqlite_tied.specs.Compute.{everything}
use Rattle.lot_table.specs.Make.{RanEach, RefusedMaking, is_taken, make_fault_of}
use Rattle.lot_table.specs.declared.make.MakeFault.TheVariants.{Taken}
use Rattle.lot_table.specs.declared.make.MakeFault.{MakeFault}
use Rattle.sqlite_resolve.specs.Compile.{command, compiled, create_table, creates, first, is_attached, is_reserved, meaning, planned, returning, table_defined_by, table_in, timed, with_command}
use Rattle.sqlite_resolve.specs.Define as define
use Rattle.sqlite_resolve.specs.Lowering.{Checked, and_then}
use Rattle.sqlite_resolve.specs.declared.compiled.Compiled.{Compiled}
use Rattle.sqlite_resolve.specs.declared.error.CompileError.TheVariants.{Exists, Unsupported}
use Rattle.sqlite_resolve.specs.declared.error.CompileError.{CompileError}
use Rattle.sqlite_schema.specs.Names.{index_named, same_name, table_named, view_named}
use Rattle.sqlite_schema.specs.declared.command.Command.TheVariants.{CreateTable}
use Rattle.sqlite_schema.specs.declared.command.Command.{Command}
use Rattle.sqlite_syntax.specs.declared.statement.Parsed.{Parsed}
use Rattle.sqlite_trees.specs.declared.error.StoreError.TheVariants as store

-- ---- names

some_from : {X : Type 0} (p : X → Bool) (from : ℕ) (xs : List X) → is_some (position_from p from xs) ≡ list_any p xs
some_from p from [] = refl
some_from p from (x ∷ xs) = elim (cases_Bool (p x)) [ inl here ↦ rw here refl | inr other ↦ rw other (some_from p (from + 1) xs) ]

more_named : {X : Type 0} (p : X → Bool) (xs ys : List X) → list_any p ys ≡ false → is_some (position_from p 0 (xs ++ ys)) ≡ is_some (position_from p 0 xs)
more_named p xs ys none = some_from p 0 (xs ++ ys) ∙ list_any-append p xs ys ∙ ap (λ b. list_any p xs || b) none ∙ or-false (list_any p xs) ∙ sym (some_from p 0 xs)

-- whether an index that the table has for its keys has the name
abbrev pub adds_index : Table → List ℕ → ℕ → ℕ → List (List ℕ) → Bool
adds_index table name at tree keys = list_any (λ i. same_name i.name name) (automatics table at tree keys)

same_indexes : (table : Table) (name : List ℕ) (a b at m n : ℕ) (keys : List (List ℕ)) → adds_index (record table { tree = a }) name at m keys ≡ adds_index (record table { tree = b }) name at n keys
same_indexes table name a b at m n [] = refl
same_indexes table name a b at m n (key ∷ keys) =
    ap (λ r. same_name (automatic table at key 0).name name || r) (same_indexes table name a b (at + 1) (m + 1) (n + 1) keys)

-- the name of SQLite's own table, which counts
abbrev pub counter_name : List ℕ
counter_name = codes "sqlite_sequence"

-- whether the table or one of its indexes has the name
abbrev pub adds : Table → List ℕ → Bool
adds table name = same_name table.name name || adds_index (record table { tree = 0 }) name 0 0 table.uniques

-- a table that adds no such name leaves the name as it is
pub used_after : (schema : Schema) (table : Table) (name : List ℕ) → adds table name ≡ false → is_used (created schema table) name ≡ is_used schema name
used_after schema table name none =
    let parts = or_parts (same_name table.name name) _ none in
    let new : Table = record table { tree = next_tree schema } in
    let own : list_any (λ t. same_name t.name name) (new ∷ []) ≡ false = rw parts.0 refl in
    let its : adds_index new name 0 (new.tree + 1) table.uniques ≡ false = same_indexes table name (next_tree schema) 0 0 (new.tree + 1) 0 table.uniques ∙ parts.1 in
    let tables = more_named (λ (t : Table). same_name t.name name) schema.tables (new ∷ []) own in
    let indexes = more_named (λ i. same_name i.name name) schema.indexes (automatics new 0 (new.tree + 1) table.uniques) its in
    rw (tables, indexes) refl

-- ---- what a text that makes a table is compiled to

some_or : (t i v : Option ℕ) → (is_some t || is_some i || is_some v) ≡ true
    → ◌≡◌ {A = Checked Bool} (if is_some i then Err Exists else (if is_some (option_or t v) then (if false then Ok false else Err Exists) else Ok true)) (Err Exists)
some_or (Some t) (Some i) v some = refl
some_or (Some t) None v some = refl
some_or None (Some i) v some = refl
some_or None None (Some v) some = refl
some_or None None None some = absurd (true≢false (sym some))

-- the text makes the table, wherever its name isn't taken
pub record Creates (text : List ℕ) (table : Table) : Type 0 where
  pub parsed : Parsed
  pub def : ast.CreateTable
  pub read : first text ≡ Ok parsed
  pub makes : parsed.statement ≡ written.CreateTable def
  pub always : def.if_missing ≡ false
  pub named : def.name ≡ table.name
  pub defined : define.table parsed.formats def ≡ Ok table
  pub plain : (length table.computed == length table.stamps.places && not def.resolves) ≡ true
  pub unreserved : same_name (take 7 table.name) (codes "sqlite_") ≡ false
  pub whole : length text ≤ parsed.tail
  pub bare : parsed.names ≡ []
  pub all : slice_range text parsed.start parsed.end ≡ text

module _ (text : List ℕ) (table : Table) (c : Creates text table) where
  abbrev plan : Command → Compiled
  plan k = with_command c.parsed ([], (k, None))

  joined : (r : Checked Command) → and_then (and_then (and_then r (λ k. Ok (k, None))) (λ found. Ok ([], found))) (λ found. Ok (with_command c.parsed found)) ≡ and_then r (λ k. Ok (plan k))
  joined (Ok k) = refl
  joined (Err e) = refl

  compiled_as : (schema : Schema) → compiled schema text ≡ and_then (create_table schema c.parsed.formats c.def) (λ k. Ok (plan k))
  unfolding compiled planned meaning timed returning command
  compiled_as schema = rw (c.read, c.makes) (joined (create_table schema c.parsed.formats c.def))

  pub table_is : table_defined_by text ≡ Ok table
  unfolding table_defined_by table_in
  table_is = rw (c.read, c.makes) c.defined

  free_in : (schema : Schema) → is_used schema table.name ≡ false → create_table schema c.parsed.formats c.def ≡ Ok CreateTable
  unfolding create_table creates is_attached is_reserved
  free_in schema free = rw (c.defined, c.named, no_table schema table.name free, no_index schema table.name free, no_view schema table.name free, c.unreserved, c.plain) refl

  taken_in : (schema : Schema) → is_used schema table.name ≡ true → (e : CompileError) × (create_table schema c.parsed.formats c.def ≡ Err e) × ((e ≡ Exists) ⊎ (e ≡ Unsupported))
  unfolding create_table creates is_reserved
  taken_in schema used = elim (cases_Bool (is_attached schema table.name)) [
    | inl other ↦ (Unsupported, rw (c.named, other) refl, inr refl)
    | inr own ↦ (Exists, rw (c.named, own, c.unreserved, c.always, some_or (table_named schema table.name) (index_named schema table.name) (view_named schema table.name) used) refl, inl refl)
  ]

  pub makes_it : (schema : Schema) → is_used schema table.name ≡ false → understood schema text ≡ Ok (plan CreateTable)
  unfolding understood
  makes_it schema free = let is : compiled schema text ≡ Ok (plan CreateTable) = compiled_as schema ∙ ap (λ r. and_then r (λ k. Ok (plan k))) (free_in schema free) in rw is refl

  pub is_refused : (schema : Schema) → is_used schema table.name ≡ true → (e : CompileError) × (understood schema text ≡ Err e)
  unfolding understood
  is_refused schema used =
      let it = taken_in schema used in
      let is : compiled schema text ≡ Err it.0 = compiled_as schema ∙ ap (λ r. and_then r (λ k. Ok (plan k))) it.1 in
      elim it.2 [ inl exists ↦ (Exists, rw (is, exists) refl) | inr kept ↦ (Unsupported, rw (is, kept) refl) ]

  module _ (schema : Schema) (free : is_used schema table.name ≡ false) where
    pub means : command_of (understood schema text) ≡ CreateTable
    means = ap command_of (makes_it schema free)

    pub bare_in : IsPlain (understood schema text)
    bare_in = subst IsPlain (sym (makes_it schema free)) (refl, refl)

    whole_in : IsWhole text 0 (understood schema text)
    whole_in = subst (IsWhole text 0) (sym (makes_it schema free)) (c.whole, ap length c.bare)

    pub all_in : statement_of text (understood schema text) ≡ text
    all_in = ap (statement_of text) (makes_it schema free) ∙ c.all

    abbrev pub Making : State → Result (Tally × Database) (Option Error) → Type 0
    Making old = Does old.step_limit (mode_of old) [] old.now text None CreateTable

    -- the store fails, or what the command does is refused
    pub making_halts : (old new : State) → old.now.schema ≡ schema → (e : Error) → ExecutesInside 0 text [] old new (Err e) → Fails old new (Making old (Err None)) e ⊎ Making old (Err (Some e))
    making_halts old new has e refused =
        subst (λ t. Fails old new (Does old.step_limit (mode_of old) [] old.now t None CreateTable (Err None)) e ⊎ Does old.step_limit (mode_of old) [] old.now t None CreateTable (Err (Some e))) all_in
        (halted CreateTable refl text [] old new schema has bare_in whole_in means e refused)

-- ---- why it halts

-- A part that stops is the making of the table, or that of SQLite's own table, which counts for a table that there is.
pub making_stops : (limit : Option ℕ) (mode : Mode) (db : Database) (text : List ℕ) (stop : Option Error) → Does limit mode [] db text None CreateTable (Err stop)
    → MakesTable text db (Err stop) ⊎ ((after : Database) × MakesTable text db (Ok after) × (lacks_sequence after.schema ≡ true) × MakesTable sequence_text after (Err stop))
making_stops limit mode db text stop (inr (after, made, gives)) = absurd (let e = gives in cc)
making_stops limit mode db text stop (inl (kept, inl (first, stops, is), named)) =
    inl (subst (λ s. MakesTable text db (Err s)) (sym (same_stop {A = Tally × Database} named ∙ same_stop {A = Database} is)) stops)
making_stops limit mode db text stop (inl (kept, inr (after, made, counts), named)) = elim (cases_Bool (lacks_sequence after.schema)) [
  | inl lacks ↦ inr (after, made, lacks, subst (λ s. MakesTable sequence_text after (Err s)) (sym (same_stop {A = Tally × Database} named)) (rw lacks at counts))
  | inr has ↦ absurd (let e = rw has at counts in cc)
]

-- a table whose text can be read is never refused for a name that is taken
never_exists : (text : List ℕ) (table : Table) (db : Database) (e : Error) → table_defined_by text ≡ Ok table → MakesTable text db (Err (Some e)) → e ≢ SqlInputError Exists
never_exists text table db e defined (inl unread) same = absurd (let is = sym same ∙ unread.1 in cc)
never_exists text table db e defined (inr (why.Invalid fault, refuses, is)) same = absurd (let both = sym defined ∙ refuses in cc)
never_exists text table db e defined (inr (why.NameTaken, refuses, is)) same = absurd (let it = sym same ∙ is in cc)
never_exists text table db e defined (inr (why.BadName, refuses, is)) same = absurd (let it = sym same ∙ is in cc)
never_exists text table db e defined (inr (why.BadKey, refuses, is)) same = absurd (let it = sym same ∙ is in cc)
never_exists text table db e defined (inr (why.BadText, refuses, is)) same = absurd (let it = sym same ∙ is in cc)
never_exists text table db e defined (inr (why.TooBig, refuses, is)) same = absurd (let it = sym same ∙ is in cc)
never_exists text table db e defined (inr (why.Violates rule, refuses, is)) same = absurd (let it = sym same ∙ is in cc)

store_not : (old new : State) (big : Type 0) (e : Error) → Fails old new big e → e ≢ SqlInputError Exists
store_not old new big e (store.OutOfMemory, is, cause, undone, told) same = absurd (let it = sym same ∙ is in cc)
store_not old new big e (store.Io, is, cause, undone, told) same = absurd (let it = sym same ∙ is in cc)
store_not old new big e (store.Corrupt, is, cause, undone, told) same = absurd (let it = sym same ∙ is in cc)
store_not old new big e (store.Full, is, cause, undone, told) same = absurd (let it = sym same ∙ is in cc)
store_not old new big e (store.Broken, is, cause, undone, told) same = absurd (let it = sym same ∙ is in cc)
store_not old new big e (store.Unstorable, is, cause, undone, told) same = absurd (let it = sym same ∙ is in cc)

-- SQLite's own table, which counts for others
counter_read : (own : Table) × (table_defined_by sequence_text ≡ Ok own) × (own.name ≡ counter_name) × (own.uniques ≡ [])
unfolding understood everything
counter_read = (_, refl, refl, refl)

exists_if_taken : (e : Error) → make_fault_of e ≡ Taken → e ≡ SqlInputError Exists
exists_if_taken (SqlInputError Exists) taken = refl
exists_if_taken e taken = absurd cc

-- where the name isn't taken, the fault doesn't say that it is
pub taken_if : (text : List ℕ) (table : Table) → Creates text table → (old new : State) (fault : MakeFault) → RefusedMaking text old new fault → fault ≡ Taken → is_used old.now.schema table.name ≡ true
taken_if text table c old new fault (e, named, refused) taken = elim (cases_Bool (is_used old.now.schema table.name)) [
  | inl used ↦ used
  | inr free ↦
      let exists = exists_if_taken e (sym named ∙ taken) in
      elim (making_halts text table c old.now.schema free old new refl e refused) [
        | inl fails ↦ absurd (store_not old new _ e fails exists)
        | inr stops ↦ elim (making_stops old.step_limit (mode_of old) old.now text (Some e) stops) [
          | inl own ↦ absurd (never_exists text table old.now e (table_is text table c) own exists)
          | inr (after, made, lacks, counts) ↦ absurd (never_exists sequence_text counter_read.0 after e counter_read.1 counts exists)
        ]
      ]
]

-- ---- a text that ran

-- whether a table that is made leaves the name as it is
abbrev pub is_other : Table → List ℕ → Bool
is_other table name = not (adds table name || same_name counter_name name)

off : (b : Bool) → not b ≡ true → b ≡ false
off true h = sym h
off false h = refl

counter_adds : (name : List ℕ) → same_name counter_name name ≡ false → adds counter_read.0 name ≡ false
counter_adds name other = rw (counter_read.2, counter_read.3, other) refl

module _ (text : List ℕ) (table : Table) (c : Creates text table) (old new : State) (changed : ℕ) (ran : Executes text [] old new (Ok changed)) where
  pub was_free : is_used old.now.schema table.name ≡ false
  unfolding ExecutesIn
  was_free = elim (cases_Bool (is_used old.now.schema table.name)) [
    | inl used ↦ let refused = (is_refused text table c old.now.schema used).1 in absurd (let e = sym ran.1.is ∙ refused in cc)
    | inr free ↦ free
  ]

  pub same_use : (name : List ℕ) → is_other table name ≡ true → is_used new.now.schema name ≡ is_used old.now.schema name
  same_use name other =
      let parts = or_parts (adds table name) (same_name counter_name name) (off _ other) in
      let s = old.now.schema in
      let w = subst (λ t. Writes old new None CreateTable t [] changed) (all_in text table c s was_free) (runs_as text [] old new s refl CreateTable (means text table c s was_free) (bare_in text table c s was_free) changed ran) in
      let all = went w.changed in
      let first = went all.1 in
      let made = first.1 in
      let both : Ok made.table ≡ Ok table = sym made.defined ∙ table_is text table c in
      let same : made.table ≡ table = cc in
      let own : is_used first.0.schema name ≡ is_used s name = ap (λ d. is_used d name) (made.is ∙ ap (created s) same) ∙ used_after s table name parts.0 in
      let now : new.now ≡ all.0 = ap (λ (o : Tally × Database). o.1) (same_value {E = Option Error} all.2) in
      ap (λ (d : Database). is_used d.schema name) now ∙ elim (cases_Bool (lacks_sequence first.0.schema)) [
        | inl lacks ↦
            let counts : MakesTable sequence_text first.0 (Ok all.0) = rw lacks at first.2 in
            let either : Ok counts.table ≡ Ok counter_read.0 = sym counts.defined ∙ counter_read.1 in
            let it : counts.table ≡ counter_read.0 = cc in
            ap (λ d. is_used d name) (counts.is ∙ ap (created first.0.schema) it) ∙ used_after first.0.schema counter_read.0 name (counter_adds name parts.1) ∙ own
        | inr has ↦ ap (λ (d : Database). is_used d.schema name) (same_value {E = Option Error} (rw has at first.2)) ∙ own
      ]

-- ---- texts in their order

-- each makes its table, and leaves the names of those after it as they are
abbrev pub CreatesEach : List (List ℕ × Table) → Type 0
CreatesEach [] = Unit {0}
CreatesEach (step ∷ more) = Creates step.0 step.1 × (list_all (λ (later : List ℕ × Table). is_other step.1 later.1.name) more ≡ true) × CreatesEach more

abbrev pub names_of : List (List ℕ × Table) → List (List ℕ)
names_of = map (λ (step : List ℕ × Table). step.1.name)

abbrev pub texts_of : List (List ℕ × Table) → List (List ℕ)
texts_of = map (λ (step : List ℕ × Table). step.0)

-- the names of later tables are as they were
later_use : (table : Table) (more : List (List ℕ × Table)) (old new : Schema) → ((name : List ℕ) → is_other table name ≡ true → is_used new name ≡ is_used old name)
    → list_all (λ (later : List ℕ × Table). is_other table later.1.name) more ≡ true → is_taken (names_of more) new ≡ is_taken (names_of more) old
later_use table [] old new same apart = refl
later_use table (step ∷ more) old new same apart =
    let parts = and_parts _ _ apart in
    ap (λ b. b || is_taken (names_of more) new) (same step.1.name parts.0) ∙ ap (λ b. is_used old step.1.name || b) (later_use table more old new same parts.1)

module _ {S : Type 0} (g : Ghosts S) where
  -- where each text ran, no name was taken
  pub none_taken : (steps : List (List ℕ × Table)) (old new : Held S) → CreatesEach steps → RanEach g (texts_of steps) old new → is_taken (names_of steps) (state g old).now.schema ≡ false
  none_taken [] old new each ran = refl
  none_taken (step ∷ more) old new each ran =
      let mid = ran.0 in
      let rest = none_taken more mid new each.2 ran.3 in
      let same = same_use step.0 step.1 each.0 (state g old) (state g mid) ran.1 ran.2 in
      rw (was_free step.0 step.1 each.0 (state g old) (state g mid) ran.1 ran.2) (sym (later_use step.1 more (state g old).now.schema (state g mid).now.schema same each.1) ∙ rest)

  -- where one is refused for a name that is taken, one of the names was
  pub one_taken : (steps : List (List ℕ × Table)) (done left : List (List ℕ)) (text : List ℕ) (old mid new : Held S) (fault : MakeFault) → CreatesEach steps → texts_of steps ≡ done ++ text ∷ left
      → RanEach g done old mid → RefusedMaking text (state g mid) (state g new) fault → fault ≡ Taken → is_taken (names_of steps) (state g old).now.schema ≡ true
  one_taken [] [] left text old mid new fault each order ran refused taken = absurd cc
  one_taken [] (t ∷ done) left text old mid new fault each order ran refused taken = absurd cc
  one_taken (step ∷ more) [] left text old mid new fault each order ran refused taken =
      let here : step.0 ≡ text = cc in
      let used = taken_if step.0 step.1 each.0 (state g mid) (state g new) fault (subst (λ t. RefusedMaking t (state g mid) (state g new) fault) (sym here) refused) taken in
      rw (subst (λ h. is_used (state g h).now.schema step.1.name ≡ true) (sym ran) used) refl
  one_taken (step ∷ more) (t ∷ done) left text old mid new fault each order ran refused taken =
      let here : step.0 ≡ t = cc in
      let rest : texts_of more ≡ done ++ text ∷ left = cc in
      let first : Executes step.0 [] (state g old) (state g ran.0) (Ok ran.1) = subst (λ t. Executes t [] (state g old) (state g ran.0) (Ok ran.1)) (sym here) ran.2 in
      let found = one_taken more done left text ran.0 mid new fault each.2 rest ran.3 refused taken in
      let same = same_use step.0 step.1 each.0 (state g old) (state g ran.0) ran.1 first in
      rw (was_free step.0 step.1 each.0 (state g old) (state g ran.0) ran.1 first) (sym (later_use step.1 more (state g old).now.schema (state g ran.0).now.schema same each.1) ∙ found)

-- Tables that are made one after another in a database of known tables: only a disk that fails, or memory that is out, refuses
-- them.
use Rattle.std.proofs.Common.{◌≡◌, ◌≢◌, ◌⊎◌, inl, inr, ℕ, ◌+◌, ◌*◌, ◌^◌, ◌<◌, ◌≤◌, true, false, ltb, Option, Some, None, Ok, Err, List, [], ◌∷◌, ◌++◌, length, codes, sym, ap, subst, ◌∙◌, true≢false, arith, IsTrue, IsUtf8}
use Rattle.std.proofs.lemmas.Bool.{and_parts}
use Rattle.std.proofs.lemmas.Bool.Decides.{nat_tests}
use Rattle.std.proofs.lemmas.Str.Ascii.{IsAscii-cons, IsAscii-nil}
use Rattle.std.proofs.lemmas.Str.{IsUtf8-from_ascii}
use Rattle.std.specs.List.{AllByRecursion, list_all, list_any}
use Rattle.std.specs.Str.{IsAscii}
use Rattle.lot_table.proofs.CreateLemmas.{Creates, CreatesEach, Making, all_in, bare_in, making_halts, making_stops, means, table_is, texts_of}
use Rattle.lot_table.proofs.MakeLemmas.{Makes, Stores, adds_one, makes_one}
use Rattle.lot_table.proofs.StatementLemmas.{failed_as}
use Rattle.lot_table.proofs.WriteLemmas.{fails_here}
use Rattle.lot_table.specs.Fault.{fault_of}
use Rattle.lot_table.specs.Make.{HaltedIn, RanEach, RefusedMaking, make_fault_of}
use Rattle.lot_table.specs.Statement.{DiskFailed}
use Rattle.lot_table.specs.declared.fault.Fault.TheVariants.{Damaged, Device}
use Rattle.lot_table.specs.declared.fault.Fault.{Fault}
use Rattle.lot_table.specs.declared.make.MakeFault.TheVariants.{Failed}
use Rattle.lot_table.specs.declared.make.MakeFault.{MakeFault}
use Rattle.sqlite.proofs.Callers.{runs_as}
use Rattle.sqlite.specs.Does.{MakesTable, lacks_sequence}
use Rattle.sqlite.specs.Effect.{Database}
use Rattle.sqlite.specs.Held.{Held, state}
use Rattle.sqlite.specs.Schema.{Schema}
use Rattle.sqlite.specs.State.{Executes, State, mode_of}
use Rattle.sqlite.specs.Store.{Ghosts}
use Rattle.sqlite.specs.Table.{Table}
use Rattle.sqlite.specs.Tree.{Trees}
use Rattle.sqlite.specs.declared.error.Error.TheVariants.{SqlInputError}
use Rattle.sqlite.specs.declared.error.Error.{Error}
use Rattle.sqlite.specs.declared.types.Value.TheVariants.{Text}
use Rattle.sqlite_catalog.specs.Change.{automatics, created, is_used, next_tree}
use Rattle.sqlite_catalog.specs.Listing.{is_fit, is_formed}
use Rattle.sqlite_catalog.specs.declared.error.Refusal.TheVariants as why
use Rattle.sqlite_disk.specs.Disk.{MoreFaults}
use Rattle.sqlite_resolve.specs.declared.error.CompileError.TheVariants.{Exists}
use Rattle.sqlite_rules.specs.Lists.{Has}
use Rattle.sqlite_schema.specs.Rules.{index_reals, table_reals}
use Rattle.sqlite_schema.specs.declared.schema.Index.{Index}
use Rattle.sqlite.specs.Command.TheVariants.{CreateTable}

-- ---- texts of ASCII

ascii : (bs : List ℕ) → list_all (λ b. ltb b 128) bs ≡ true → IsAscii bs
ascii [] all = IsAscii-nil
ascii (b ∷ bs) all = let parts = and_parts (ltb b 128) _ all in IsAscii-cons b bs (grind (arith, nat_tests, parts.0)) (ascii bs parts.1)

-- ---- one table

-- the table has a place in a database of these tables, which then has it
pub record Fits (before after : Schema) (text : List ℕ) (table : Table) : Type 0 where
  pub made : created before table ≡ after
  pub free : is_used before table.name ≡ false
  pub free_indexes : list_any (λ i. is_used before i.name) (automatics table 0 0 table.uniques) ≡ false
  pub room : next_tree before + length table.uniques < 65536
  pub uncounted : lacks_sequence after ≡ false
  pub plain : list_all (λ b. ltb b 128) text ≡ true
  pub plain_name : list_all (λ b. ltb b 128) table.name ≡ true
  pub short : 2 * length table.name + length text + 200 < 10 ^ 9
  pub formed : is_formed table ≡ true
  pub listed : is_fit (Text (codes "table")) (Text table.name) (Text table.name) (Text text) ≡ true
  pub reals : table_reals table < 2 ^ 64
  pub key_reals : AllByRecursion (λ key. index_reals (table_reals table) key < 2 ^ 64) table.uniques

pub makes_of : (before after : Schema) (text : List ℕ) (table : Table) → Creates text table → Fits before after text table → Makes before after text
makes_of before after text table c fits = record {
  table = table;
  means = means text table c before fits.free;
  bare = bare_in text table c before fits.free;
  whole = all_in text table c before fits.free;
  defined = table_is text table c;
  made = fits.made;
  uncounted = fits.uncounted;
}

all_has : {X : Type 0} (P : X → Type 0) (xs : List X) (x : X) → AllByRecursion P xs → Has xs x → P x
all_has P [] x all h = absurd h
all_has P (y ∷ ys) x all (inl same) = subst P (sym same) all.0
all_has P (y ∷ ys) x all (inr later) = all_has P ys x all.1 later

never_stops : (before after : Schema) (text : List ℕ) (table : Table) → Creates text table → Fits before after text table → (db : Database) → db.schema ≡ before → (stop : Option Error) → MakesTable text db (Err stop) → ⊥
never_stops before after text table c fits db is None (t, defined, long) =
    let both : Ok t ≡ Ok table = sym defined ∙ table_is text table c in
    let same : t ≡ table = cc in
    let short = fits.short in
    absurd (omega (arith, subst (λ (u : Table). 10 ^ 9 ≤ 2 * length u.name + length text + 200) same long, short))
never_stops before after text table c fits db is (Some e) (inl unread) = unread.0 (IsUtf8-from_ascii text (ascii text fits.plain))
never_stops before after text table c fits db is (Some e) (inr (why.Invalid fault, refuses, it)) = let both = sym (table_is text table c) ∙ refuses in absurd cc
never_stops before after text table c fits db is (Some e) (inr (why.NameTaken, (t, defined, inl used), it)) =
    let both : Ok t ≡ Ok table = sym defined ∙ table_is text table c in
    let same : t ≡ table = cc in
    true≢false (sym (ap (λ (s : Schema). is_used s table.name) (sym is) ∙ subst (λ (u : Table). is_used db.schema u.name ≡ true) same used) ∙ fits.free)
never_stops before after text table c fits db is (Some e) (inr (why.NameTaken, (t, defined, inr (index, has, used)), it)) =
    let both : Ok t ≡ Ok table = sym defined ∙ table_is text table c in
    let same : t ≡ table = cc in
    let mine : Has (automatics table 0 0 table.uniques) index = subst (λ (u : Table). Has (automatics u 0 0 u.uniques) index) same has in
    true≢false (sym (ap (λ (s : Schema). is_used s index.name) (sym is) ∙ used) ∙ fails_here (λ (i : Index). is_used before i.name) (automatics table 0 0 table.uniques) index fits.free_indexes mine)
never_stops before after text table c fits db is (Some e) (inr (why.BadName, (t, defined, bad), it)) =
    let both : Ok t ≡ Ok table = sym defined ∙ table_is text table c in
    let same : t ≡ table = cc in
    elim bad [
      | inl unread ↦ unread (subst (λ (u : Table). IsUtf8 u.name) (sym same) (IsUtf8-from_ascii table.name (ascii table.name fits.plain_name)))
      | inr reserved ↦ true≢false (sym (rw same at reserved.0) ∙ c.unreserved)
    ]
never_stops before after text table c fits db is (Some e) (inr (why.TooBig, (t, defined, big), it)) =
    let both : Ok t ≡ Ok table = sym defined ∙ table_is text table c in
    let same : t ≡ table = cc in
    elim big [
      | inl full ↦ let room = fits.room in absurd (omega (arith, room, rw (same, is) at full))
      | inr more ↦ elim more [
        | inl reals ↦ let few = fits.reals in absurd (omega (arith, few, rw same at reals))
        | inr (key, has, reals) ↦ let few = all_has (λ k. index_reals (table_reals table) k < 2 ^ 64) table.uniques key fits.key_reals (rw same at has) in absurd (omega (arith, few, rw same at reals))
      ]
    ]
never_stops before after text table c fits db is (Some e) (inr (why.BadKey, (t, defined, bad), it)) =
    let both : Ok t ≡ Ok table = sym defined ∙ table_is text table c in
    let same : t ≡ table = cc in
    true≢false (sym fits.formed ∙ rw same at bad)
never_stops before after text table c fits db is (Some e) (inr (why.BadText, (t, defined, bad), it)) =
    let both : Ok t ≡ Ok table = sym defined ∙ table_is text table c in
    let same : t ≡ table = cc in
    true≢false (sym fits.listed ∙ rw same at bad)
never_stops before after text table c fits db is (Some e) (inr (why.Violates rule, refuses, it)) = refuses

failed_is : (e : Error) (fault : Fault) → make_fault_of e ≡ Failed fault → fault_of e ≡ fault
failed_is (SqlInputError Exists) fault is = absurd cc
failed_is e fault is = cc

-- what the fault of one text says
abbrev pub Excused : State → State → MakeFault → Type 0
Excused old new fault = (fault ≢ Failed Damaged) × (fault ≡ Failed Device → DiskFailed old new)

refused_as : (before after : Schema) (text : List ℕ) (table : Table) → Creates text table → Fits before after text table → (old new : State) → old.now.schema ≡ before → (fault : MakeFault) → RefusedMaking text old new fault → Excused old new fault
refused_as before after text table c fits old new is fault (e, named, refused) = elim (making_halts text table c before fits.free old new is e refused) [
  | inl fails ↦
      let why = failed_as old new _ e fails in (
        λ damaged. why.0 (failed_is e Damaged (sym named ∙ damaged)),
        λ device. elim (why.1 (failed_is e Device (sym named ∙ device))) [ inl disk ↦ disk | inr stops ↦ absurd (impossible None stops) ],
      )
  | inr stops ↦ absurd (impossible (Some e) stops)
]
  where
    impossible : (stop : Option Error) → Making text table c before fits.free old (Err stop) → ⊥
    impossible stop stops = elim (making_stops old.step_limit (mode_of old) old.now text stop stops) [
      | inl own ↦ never_stops before after text table c fits old.now is stop own
      | inr (now, made, lacks, counts) ↦
          let both : Ok made.table ≡ Ok table = sym made.defined ∙ table_is text table c in
          let same : made.table ≡ table = cc in
          let schema : now.schema ≡ after = made.is ∙ ap (created old.now.schema) same ∙ ap (λ s. created s table) is ∙ fits.made in
          true≢false (sym lacks ∙ ap lacks_sequence schema ∙ fits.uncounted)
    ]

-- ---- one table after another

-- each has its place behind those before it
abbrev pub FitsEach : (ℕ → Schema) → ℕ → List (List ℕ × Table) → Type 0
FitsEach upto n [] = Unit {0}
FitsEach upto n (step ∷ more) = Fits (upto n) (upto (n + 1)) step.0 step.1 × FitsEach upto (n + 1) more

-- none of these rows is in the tree of one that is made
abbrev pub AreNew : Trees → (ℕ → Schema) → ℕ → List (List ℕ × Table) → Type 0
AreNew rows upto n [] = Unit {0}
AreNew rows upto n (step ∷ more) = (rows (next_tree (upto n)) ≡ []) × AreNew rows upto (n + 1) more

module _ {S : Type 0} (g : Ghosts S) (upto : ℕ → Schema) where
  fresh_halts : (n : ℕ) (steps : List (List ℕ × Table)) (done left : List (List ℕ)) (text : List ℕ) (old mid new : Held S) (fault : MakeFault) → CreatesEach steps → FitsEach upto n steps
      → texts_of steps ≡ done ++ text ∷ left → RanEach g done old mid → (state g old).now.schema ≡ upto n
      → RefusedMaking text (state g mid) (state g new) fault → (fault ≢ Failed Damaged) × (fault ≡ Failed Device → MoreFaults (state g mid).faults (state g new).faults ⊎ ((state g old).is_open ≡ false))
  fresh_halts n [] [] left text old mid new fault each fit order ran had refused = absurd cc
  fresh_halts n [] (t ∷ done) left text old mid new fault each fit order ran had refused = absurd cc
  fresh_halts n (step ∷ more) [] left text old mid new fault each fit order ran had refused =
      let here : step.0 ≡ text = cc in
      let first : RefusedMaking step.0 (state g mid) (state g new) fault = subst (λ t. RefusedMaking t (state g mid) (state g new) fault) (sym here) refused in
      let it = refused_as (upto n) (upto (n + 1)) step.0 step.1 each.0 fit.0 (state g mid) (state g new) (subst (λ h. (state g h).now.schema ≡ upto n) ran had) fault first in
      (it.0, λ device. subst (λ h. MoreFaults (state g mid).faults (state g new).faults ⊎ ((state g h).is_open ≡ false)) (sym ran) (it.1 device))
  fresh_halts n (step ∷ more) (t ∷ done) left text old mid new fault each fit order ran had refused =
      let here : step.0 ≡ t = cc in
      let rest : texts_of more ≡ done ++ text ∷ left = cc in
      let first : Executes step.0 [] (state g old) (state g ran.0) (Ok ran.1) = subst (λ t. Executes t [] (state g old) (state g ran.0) (Ok ran.1)) (sym here) ran.2 in
      let made = adds_one (state g old) (state g ran.0) (upto n) (upto (n + 1)) step.0 (makes_of (upto n) (upto (n + 1)) step.0 step.1 each.0 fit.0) ran.1 had first in
      let it = fresh_halts (n + 1) more done left text ran.0 mid new fault each.2 fit.1 rest ran.3 made.tables refused in
      let is_open : IsTrue (state g ran.0).is_open =
      (runs_as step.0 [] (state g old) (state g ran.0) (upto n) had CreateTable (means step.0 step.1 each.0 (upto n) fit.0.free) (bare_in step.0 step.1 each.0 (upto n) fit.0.free) ran.1 first).shown.is_open in
      (it.0, λ device. elim (it.1 device) [ inl more ↦ inl more | inr shut ↦ absurd (true≢false (sym is_open ∙ shut)) ])

  -- where one is refused, the disk failed, or memory ran out
  pub excused : (n : ℕ) (steps : List (List ℕ × Table)) (old new : Held S) (fault : MakeFault) → CreatesEach steps → FitsEach upto n steps → (state g old).now.schema ≡ upto n
      → HaltedIn g (texts_of steps) old new fault → Excused (state g old) (state g new) fault
  excused n steps old new fault each fit had halted =
      let why = fresh_halts n steps halted.done halted.left halted.text old halted.mid new fault each fit halted.order halted.ran had halted.refused in
      (why.0, λ device. elim (why.1 device) [ inl more ↦ inl (let counts = halted.counts in omega (arith, counts, more)) | inr shut ↦ inr shut ])

  -- each is made: the tables have these stored rows, those that are new none
  pub makes_all : (rows : Trees) (n : ℕ) (steps : List (List ℕ × Table)) (old new : Held S) → CreatesEach steps
      → FitsEach upto n steps → AreNew rows upto n steps → RanEach g (texts_of steps) old new
      → Stores rows (upto n) (state g old) → Stores rows (upto (length steps + n)) (state g new)
  makes_all rows n [] old new each fit none ran had =
      subst (λ k. Stores rows (upto k) (state g new)) (omega arith) (subst (λ h. Stores rows (upto n) (state g h)) ran had)
  makes_all rows n (step ∷ more) old new each fit none ran had =
      let is = makes_of (upto n) (upto (n + 1)) step.0 step.1 each.0 fit.0 in
      let made = makes_one rows (state g old) (state g ran.0) (upto n) (upto (n + 1)) step.0 is ran.1 had none.0 ran.2 in
      subst (λ k. Stores rows (upto k) (state g new)) (omega arith) (makes_all rows (n + 1) more ran.0 new each.2 fit.1 none.1 ran.3 made)

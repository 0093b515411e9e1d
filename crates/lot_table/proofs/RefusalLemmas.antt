-- A query of one table of a book is refused where memory is out or the disk fails, and for no other cause.
use Rattle.std.proofs.Common.{◌≡◌, ◌≢◌, ◌⊎◌, inl, inr, ℕ, ◌≤◌, true, false, true≢false, Option, None, IsSome, Ok, Err, Result, List, [], length, All, map, append-nil, sym, ap, subst, ◌∙◌}
use Rattle.sqlite.specs.Clock.{timed}
use Rattle.sqlite.specs.Command.TheVariants.{Select, Rows}
use Rattle.sqlite.specs.Command.{Command}
use Rattle.sqlite.specs.Effect.{Database, RefusesToRead}
use Rattle.sqlite.specs.Listing.{understood, reads_listing, IsSourceOf}
use Rattle.sqlite.specs.Order.{Row}
use Rattle.sqlite.specs.Schema.{Schema}
use Rattle.sqlite.specs.State.{State, Fails, FailsToQuery, IsNoStatement, IsNotRun, IsTooLate, Shown, store_error}
use Rattle.sqlite.specs.Term.{Term}
use Rattle.sqlite.specs.declared.error.Error.{Error}
use Rattle.sqlite_resolve.specs.declared.compiled.Compiled.{Compiled}
use Rattle.sqlite_resolve.specs.declared.error.CompileError.{CompileError}
use Rattle.sqlite.specs.Query.{Query}
use Rattle.sqlite.specs.Tree.{Trees}
use Rattle.sqlite_sql.specs.Program.{QueryOverflows}
use Rattle.sqlite_trees.specs.declared.error.StoreError.TheVariants as store
use Rattle.sqlite_trees.specs.declared.error.StoreError.{StoreError}
use Rattle.sqlite_typing.specs.Types.{accepts_program}
use Rattle.sqlite_value.specs.declared.keys.Key.{Key}
use Rattle.sqlite.proofs.Callers.{IsPlain, command_of}
use Rattle.lot_table.specs.Fault.{fault_of}
use Rattle.lot_table.specs.Statement.{DiskFailed, IsSelect, Refused, ShowsDamage}
use Rattle.lot_table.specs.declared.fault.Fault.TheVariants.{Damaged, Device}
use Rattle.lot_table.proofs.ReadLemmas.{query}
use Rattle.lot_table.proofs.SelectLemmas.{silent_text}

-- the text is one statement with so many parameters
abbrev pub IsWhole : List ℕ → ℕ → Result Compiled CompileError → Type 0
IsWhole text count (Ok c) = (length text ≤ c.tail) × (length c.names ≡ count)
IsWhole text count (Err e) = ⊥

none_fails : (cause : StoreError) → fault_of (store_error cause) ≢ Damaged
none_fails store.OutOfMemory same = absurd cc
none_fails store.Io same = absurd cc
none_fails store.Corrupt same = absurd cc
none_fails store.Full same = absurd cc
none_fails store.Broken same = absurd cc
none_fails store.Unstorable same = absurd cc

not_failed : (old new : State) (big : Type 0) (e : Error) → Fails old new big e → Damaged ≢ fault_of e
not_failed old new big e fails damaged = none_fails fails.0 (sym (damaged ∙ ap fault_of fails.1))

module _ (text : List ℕ) (params : Row) (old new : State) (schema : Schema) (has : old.now.schema ≡ schema) (bare : IsPlain (understood schema text)) (whole : IsWhole text (length params) (understood schema text)) where
  -- the text is a statement
  pub is_statement : (e : Error) → IsNoStatement old text params e → ⊥
  is_statement e (inl unread) = subst (IsWhole text (length params)) (ap (λ s. understood s text) (sym has) ∙ unread.1) whole
  is_statement e (inr read) =
      let known = ap (λ s. understood s text) (sym has) ∙ read.1 in
      let one = subst (IsWhole text (length params)) known whole in
      let plain = subst IsPlain known bare in
      elim read.2 [
        | inl many ↦ many.0 one.0
        | inr other ↦ elim other [ inl miscounted ↦ miscounted.0 (sym one.1) | inr clock ↦ clock.0 plain.1 ]
      ]

  not_unrun : (e : Error) → IsNotRun old new text params e → Damaged ≢ fault_of e
  unfolding IsNotRun
  not_unrun e (inr fails) damaged = not_failed old new ⊥ e fails damaged
  not_unrun e (inl (none, same)) damaged = is_statement e none

  module _ (body : Query) (names : List (List ℕ)) (means : command_of (understood schema text) ≡ Select (record { lets = []; body = body }) names) (unlisted : reads_listing schema text ≡ false)
      (typed : accepts_program schema [] body params ≡ true) (steady : (db : Trees) → QueryOverflows body db params → ⊥) (unlimited : old.step_limit ≡ None) where
    abbrev command : Command
    command = Select (record { lets = []; body = body }) names

    not_refused : (db : Database) (e : Error) → db ≡ old.now → RefusesToRead old.step_limit command db params e → ⊥
    not_refused db e is (inl mistyped) =
        true≢false (sym (subst (λ s. accepts_program s [] body params ≡ true) (sym (ap (λ (d : Database). d.schema) is ∙ has)) typed) ∙ mistyped.1)
    not_refused db e is (inr (inl overflows)) = steady _ overflows.1
    not_refused db e is (inr (inr limited)) = true≢false (sym (subst IsSome unlimited limited.1))

    -- where the rows are those of the book, no limit on steps is set, and the parameters have their kinds
    pub not_damaged : Refused text params old new Damaged → ⊥
    unfolding FailsToQuery
    not_damaged (e, damaged, inl unrun) = not_unrun e unrun damaged
    not_damaged (e, damaged, inr (c, it, fails)) =
        let known : understood schema text ≡ Ok c = ap (λ s. understood s text) (sym has) ∙ it.is in
        let plain = subst IsPlain known bare in
        let read = rw (plain.0, plain.1, append-nil params) at fails in
        let db : read.0 ≡ old.now = subst (λ b. IsSourceOf b old.now read.0) (ap (λ s. reads_listing s text) has ∙ unlisted) read.1 in
        not_refused read.0 e db (subst (λ k. RefusesToRead old.step_limit k read.0 params e) (ap command_of (sym known) ∙ means) read.2)

-- a query of one table adds nothing up
pub steady_query : (tree : ℕ) (tests shows : List Term) (order : List (Term × Key)) (limit : Term) (params : Row) (db : Trees) → QueryOverflows (record (query tree tests shows order) { limit = limit }) db params → ⊥
steady_query tree tests shows order limit params db (inl grouped) = grouped
steady_query tree tests shows order limit params db (inr folded) = folded.4

-- ---- the disk

device_cause : (old new : State) (e : Error) → Fails old new ⊥ e → fault_of e ≡ Device → DiskFailed old new
device_cause old new e (store.OutOfMemory, is, cause, undone, told) device = absurd (let same = ap fault_of is in cc)
device_cause old new e (store.Io, is, cause, undone, told) device = inl cause
device_cause old new e (store.Corrupt, is, cause, undone, told) device = inl cause
device_cause old new e (store.Full, is, cause, undone, told) device = inl cause
device_cause old new e (store.Broken, is, cause, undone, told) device = inr cause
device_cause old new e (store.Unstorable, is, cause, undone, told) device = absurd cause

device_read : (limit : Option ℕ) (command : Command) (db : Database) (params : Row) (e : Error) → RefusesToRead limit command db params e → fault_of e ≡ Device → ⊥
device_read limit (Select q names) db params e (inl mistyped) device = let same = ap fault_of mistyped.0 in cc
device_read limit (Select q names) db params e (inr (inl overflows)) device = let same = ap fault_of overflows.0 in cc
device_read limit (Select q names) db params e (inr (inr limited)) device = let same = ap fault_of limited.0 in cc
device_read limit (Rows values width names) db params e limited device = let same = ap fault_of limited.0 in cc
device_read limit _ db params e is device = let same = ap fault_of is in cc

pub device_failed : (text : List ℕ) (params : Row) (old new : State) (e : Error) → IsSelect text → FailsToQuery text params old new e → fault_of e ≡ Device → DiskFailed old new
unfolding FailsToQuery IsNotRun
device_failed text params old new e selects (inl (inl (inl unread, same))) device = absurd (let is = ap fault_of unread.2 in cc)
device_failed text params old new e selects (inl (inl (inr (c, known, inl many), same))) device = absurd (let is = ap fault_of many.1 in cc)
device_failed text params old new e selects (inl (inl (inr (c, known, inr (inl miscounted)), same))) device = absurd (let is = ap fault_of miscounted.1 in cc)
device_failed text params old new e selects (inl (inl (inr (c, known, inr (inr clock)), same))) device = absurd (let is = ap fault_of clock.1 in cc)
device_failed text params old new e selects (inl (inr fails)) device = device_cause old new e fails device
device_failed text params old new e selects (inr (c, it, fails)) device =
    let none = silent_text text selects.0 selects.1 selects.2 old.now.schema c it.is in
    let read = rw none at fails in
    absurd (device_read old.step_limit c.command read.0 (timed params c.formats it.now) e read.2 device)

-- a query is refused in a transaction as it is outside of one
pub never_late : (text : List ℕ) (params : Row) (old new : State) (e : Error) → IsSelect text
    → FailsToQuery text params old new e ⊎ IsTooLate text params old new e → FailsToQuery text params old new e
never_late text params old new e selects (inl fails) = fails
never_late text params old new e selects (inr (c, it, some, out, code, same)) =
    absurd (let none = subst IsSome (silent_text text selects.0 selects.1 selects.2 old.now.schema c it.is) some in cc)

-- a query answers what it should of a table, so that only rows that no book has are damage
pub undamaged : {X : Type 0} (encode : X → Row) (good : X → Type 0) (text : List ℕ) (params : Row) (old new : State) (xs : List X) → (Refused text params old new Damaged → ⊥)
    → ((rows : List Row) → Shown text params old new rows → rows ≡ map encode xs) → Refused text params old new Damaged ⊎ ShowsDamage encode good text params old new → All good xs → ⊥
undamaged encode good text params old new xs never told (inl refused) all = never refused
undamaged encode good text params old new xs never told (inr (rows, shown, bad)) all = bad xs all (told rows shown)

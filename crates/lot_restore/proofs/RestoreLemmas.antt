-- What a dump comes to whose transaction is committed, or rolled back.
use Rattle.std.proofs.Common.{◌≡◌, ◌≢◌, ◌∙◌, ◌⊎◌, inl, inr, ℕ, List, [], Option, IsTrue, Result, Ok, Err, None, OnErr, OnOk, Bool, true, false, ap, arith, refl, sym}
use Rattle.std.specs.Prelude.{IfErr, IfOk}
use Rattle.sqlite.specs.Held.{Held, state}
use Rattle.sqlite.specs.State.{HasCause, HasCleanDisk, IsRolledBack, KeepsCommit, KeepsCounts, Shows, State, Survives, store_error}
use Rattle.sqlite_trees.specs.declared.error.StoreError.{StoreError}
use Rattle.sqlite_trees.specs.declared.error.StoreError.TheVariants as store
use Rattle.sqlite.specs.Steps.{FailsToCommit}
use Rattle.sqlite.specs.declared.error.Error.TheVariants.{SqliteFailure}
use Rattle.sqlite.specs.declared.error.ErrorCode.TheVariants as code
use Rattle.sqlite.specs.Store.{Ghosts}
use Rattle.sqlite.specs.Tree.{Trees}
use Rattle.sqlite.specs.declared.error.Error.{Error}
use Rattle.lot_book.specs.Facts.{Entry}
use Rattle.lot_load.specs.Kept.{IsOf}
use Rattle.lot_io.specs.Writes.{WriteCalls}
use Rattle.lot_store.proofs.ApplyLemmas.{stands_along}
use Rattle.lot_stored.specs.StandFor.{Left, Stands}
use Rattle.lot_store.proofs.CommitLemmas.{commit_leaves}
use Rattle.lot_rows.specs.Tables.{Tables}
use Rattle.lot_write.specs.declared.write.Write.{Write as WriteOf}
use Rattle.lot_store.specs.Step.{LeavesTables}
use Rattle.lot_restore.specs.Judge.{StandsAt}
use Rattle.lot_restore.specs.Restoring.{Fails, FailsInside, IsOpenWith, JudgesWhole, LacksRoom, LeavesAs, LeavesBook, MayMake, RestoresDump, Terms, how_of, place_of, restored_outcome}
use Rattle.lot_restore.specs.declared.fault.RestoreFault.{RestoreFault}
use Rattle.lot_restore.specs.declared.fault.RestoreFault.TheVariants.{Book, Sum as OfSum, Text, Write}
use Rattle.lot_store.specs.declared.fault.CreateFault.TheVariants as create
use Rattle.lot_table.specs.Statement.{DiskFailed}
use Rattle.lot_write.specs.Call.{Stops}
use Rattle.lot_write.specs.Writes.{AreNumbered, writes_of}
use Rattle.lot_restore.specs.declared.restoring.Restored.{Restored}
use Rattle.lot_restore.specs.declared.restoring.Restored.TheVariants.{InPart, NotMade, Whole}

left_in : (s : State) (entries : List Entry) → Stands s entries → Left s.now.trees entries
left_in s entries stands = record { book = stands.book; tables = stands.tables; holds = stands.has.1; stand = stands.stand }

-- ---- the database is that of the connection

module _ {S : Type 0} (g : Ghosts S) (old last fin : Held S) (asked : Terms) (input before written : Option (List ℕ)) (how : Restored)
    (judges : JudgesWhole asked input before written (state g last) how)
    (kept : HasCleanDisk (state g last) → KeepsCommit (state g (record old { in_transaction = true })) (state g last)) where
  -- ---- it is rolled back

  undone_as : (HasCleanDisk (state g fin) → IsTrue (state g old).is_open → (state g old).now ≡ (state g old).committed)
      → (HasCleanDisk (state g fin) → HasCleanDisk (state g last))
      → (HasCleanDisk (state g fin) → IsRolledBack (state g last) (state g fin)) → HasCleanDisk (state g fin)
      → LeavesTables (state g old) (state g fin)
  undone_as settled early back clean opened =
      let live = (back clean).was_open opened in
      let was = kept (early clean) in
      let both = (back clean).undone opened in
      (both.0 ∙ was.committed live ∙ sym (settled clean (was.was_open live)), both.1 ∙ was.committed live)

  pub made_none : how ≡ NotMade
      → (HasCleanDisk (state g fin) → IsTrue (state g old).is_open → (state g old).now ≡ (state g old).committed)
      → (HasCleanDisk (state g fin) → HasCleanDisk (state g last))
      → (HasCleanDisk (state g fin) → IsRolledBack (state g last) (state g fin))
      → RestoresDump asked input before written (state g old) (state g fin) NotMade
  made_none none settled early back = (
    judges.0,
    sym none ∙ judges.1,
    judges.2,
    λ clean. tt,
    λ clean opened.
        let restored = judges.3 (early clean) in
        (restored.book, restored.restores, undone_as settled early back clean),
  )

  -- ---- it is committed, or not

  module _ (inside : HasCleanDisk (state g last) → IsTrue (state g last).in_transaction)
      (crash : Survives (state g (record old { in_transaction = true })) (state g last) (λ _. ⊥))
      (survives : Survives (state g last) (state g fin) (λ db. db ≡ (state g last).now.trees))
      (settled : HasCleanDisk (state g fin) → IsTrue (state g old).is_open → (state g old).now ≡ (state g old).committed)
      (made : (how ≡ Whole) ⊎ (how ≡ InPart)) where
    early : HasCleanDisk (state g fin) → HasCleanDisk (state g last)
    early clean = omega (arith, clean, survives.clean)

    at_along : (book : List Entry) (place : ℕ) → (state g fin).now ≡ (state g last).now → StandsAt (IsOf None) (state g last) book place
        → StandsAt (IsOf None) (state g fin) book place
    at_along book place same at = record {
      stands = stands_along (state g last) (state g fin) book same at.stands;
      placed = at.placed;
      kept = at.kept;
    }

    opened_as : (h : Restored) → (h ≡ Whole) ⊎ (h ≡ InPart) → IsTrue (state g fin).is_open → IsOpenWith h (state g fin)
    opened_as h (inl whole) opened = rw whole opened
    opened_as h (inr part) opened = rw part opened

    leaves_as : (h : Restored) → (h ≡ Whole) ⊎ (h ≡ InPart) → (book : List Entry) (place : ℕ) → StandsAt (IsOf None) (state g fin) book place
        → (state g fin).now ≡ (state g fin).committed → LeavesAs h book place (state g old) (state g fin)
    leaves_as h (inl whole) book place at committed = rw whole (at, committed)
    leaves_as h (inr part) book place at committed = rw part (at, committed)

    made_whole : (HasCleanDisk (state g fin) → Shows (state g last) (state g fin) (state g last).now (state g last).now false)
        → RestoresDump asked input before written (state g old) (state g fin) how
    made_whole shows = (
      judges.0,
      judges.1,
      judges.2,
      λ clean. opened_as how made (shows clean).is_open,
      λ clean opened.
          let restored = judges.3 (early clean) in (
            restored.book,
            restored.restores,
            leaves_as how made restored.book (place_of asked judges.0)
                (at_along restored.book (place_of asked judges.0) (shows clean).now_is restored.stands) ((shows clean).now_is ∙ sym (shows clean).committed_is),
          ),
    )

    -- the fault of a commit
    faults : (e : Error) → (restored_outcome {A = Unit {0}} how (Err e) ≡ Err (Book create.Memory)) ⊎ (restored_outcome {A = Unit {0}} how (Err e) ≡ Err (Book create.InDoubt))
    faults (SqliteFailure code.OutOfMemory) = inl refl
    faults other = inr refl

    pub ends_ok : (r : Result (Unit {0}) Error)
        → (HasCleanDisk (state g fin) → OnOk r (IsTrue (state g last).in_transaction
        × Shows (state g last) (state g fin) (state g last).now (state g last).now false × KeepsCounts (state g last) (state g fin) × ((state g fin).marks ≡ [])))
        → IfOk (restored_outcome how r) (RestoresDump asked input before written (state g old) (state g fin))
    ends_ok (Ok done) ok = made_whole (λ clean. (ok clean).1)
    ends_ok (Err e) ok = by (faults e)
      where
        by : (restored_outcome {A = Unit {0}} how (Err e) ≡ Err (Book create.Memory)) ⊎ (restored_outcome {A = Unit {0}} how (Err e) ≡ Err (Book create.InDoubt))
            → IfOk (restored_outcome {A = Unit {0}} how (Err e)) (RestoresDump asked input before written (state g old) (state g fin))
        by (inl is) = rw is tt
        by (inr is) = rw is tt

    not_both : IsTrue (state g last).in_transaction → (state g last).in_transaction ≡ false → ⊥
    not_both is none = cc

    rolled_back : (e : Error) → HasCleanDisk (state g fin) → FailsToCommit (state g last) (state g fin) e → IsRolledBack (state g last) (state g fin)
    rolled_back e clean (inl fails) = fails.3
    rolled_back e clean (inr (named, out, same)) = absurd (not_both (inside (early clean)) out)

    pub ends_unchanged : (r : Result (Unit {0}) Error) → (HasCleanDisk (state g fin) → IfErr r (FailsToCommit (state g last) (state g fin)))
        → HasCleanDisk (state g fin) → OnErr (restored_outcome how r) (LeavesTables (state g old) (state g fin))
    ends_unchanged (Ok done) err clean = tt
    ends_unchanged (Err e) err clean = by (faults e)
      where
        leaves : LeavesTables (state g old) (state g fin)
        leaves = undone_as settled early (λ c. rolled_back e c (err c)) clean

        by : (restored_outcome {A = Unit {0}} how (Err e) ≡ Err (Book create.Memory)) ⊎ (restored_outcome {A = Unit {0}} how (Err e) ≡ Err (Book create.InDoubt))
            → OnErr (restored_outcome {A = Unit {0}} how (Err e)) (LeavesTables (state g old) (state g fin))
        by (inl is) = rw is leaves
        by (inr is) = rw is leaves

    since : DiskFailed (state g last) (state g fin) → HasCleanDisk (state g fin) → DiskFailed (state g old) (state g fin)
    since (inl more) clean = inl (omega (arith, more, crash.counts))
    since (inr shut) clean = by (state g old).is_open refl
      where
        never : IsTrue (state g last).is_open → (state g last).is_open ≡ false → ⊥
        never opened shut = cc

        by : (was : Bool) → (state g old).is_open ≡ was → DiskFailed (state g old) (state g fin)
        by false is = inr is
        by true is =
            elim (crash.closes (early clean) is) [ inl opened ↦ absurd (never opened shut) | inr more ↦ inl (omega (arith, more, survives.counts)) ]

    pub ends_failed : (r : Result (Unit {0}) Error) (calls : Option WriteCalls)
        → (HasCleanDisk (state g fin) → IfErr r (FailsToCommit (state g last) (state g fin)))
        → IfErr (restored_outcome how r) (Fails asked input (state g old) (state g fin) calls)
    ends_failed (Ok done) calls err = tt
    ends_failed (Err e) calls err = by (faults e)
      where
        cause : (k : StoreError) → restored_outcome {A = Unit {0}} how (Err (store_error k)) ≡ Err (Book create.InDoubt)
            → HasCause (state g last) (state g fin) ⊥ k → DiskFailed (state g last) (state g fin)
        cause store.OutOfMemory is why = absurd cc
        cause store.Io is more = inl more
        cause store.Corrupt is more = inl more
        cause store.Full is more = inl more
        cause store.Broken is shut = inr shut
        cause store.Unstorable is none = absurd none

        doubt : restored_outcome {A = Unit {0}} how (Err e) ≡ Err (Book create.InDoubt) → HasCleanDisk (state g fin)
            → FailsToCommit (state g last) (state g fin) e → DiskFailed (state g last) (state g fin)
        doubt is clean (inl (k, named, why, back, tells)) = cause k (ap (λ (x : Error). restored_outcome {A = Unit {0}} how (Err x)) (sym named) ∙ is) why
        doubt is clean (inr (named, out, same)) = absurd (not_both (inside (early clean)) out)

        by : (restored_outcome {A = Unit {0}} how (Err e) ≡ Err (Book create.Memory)) ⊎ (restored_outcome {A = Unit {0}} how (Err e) ≡ Err (Book create.InDoubt))
            → IfErr (restored_outcome {A = Unit {0}} how (Err e)) (Fails asked input (state g old) (state g fin) calls)
        by (inl is) = rw is tt
        by (inr is) = rw is (λ clean. since (doubt is clean (err clean)) clean)

    -- what the commit leaves
    leaves_book : HasCleanDisk (state g last) → LeavesBook asked input (state g last).now.trees
    leaves_book clean =
        let restored = judges.3 clean in
        (judges.0, not_none how made judges.1, restored.book, restored.restores, left_in (state g last) restored.book restored.stands.stands)
      where
        not_none : (h : Restored) → (h ≡ Whole) ⊎ (h ≡ InPart) → h ≡ how_of asked judges.0 → how_of asked judges.0 ≢ NotMade
        not_none h (inl whole) is none = let both : Whole ≡ NotMade = sym whole ∙ is ∙ none in absurd cc
        not_none h (inr part) is none = let both : InPart ≡ NotMade = sym part ∙ is ∙ none in absurd cc

    may_make : (h : Restored) → (h ≡ Whole) ⊎ (h ≡ InPart) → (r : Result (Unit {0}) Error) → LeavesBook asked input (state g last).now.trees
        → MayMake asked input (restored_outcome h r) (state g last).now.trees
    may_make h (inl whole) (Ok done) leaves = rw whole leaves
    may_make h (inr part) (Ok done) leaves = rw part leaves
    may_make h how (Err (SqliteFailure code.OutOfMemory)) leaves = leaves
    may_make h how (Err other) leaves = leaves

    pub ends_crash : (r : Result (Unit {0}) Error) → Survives (state g old) (state g fin) (MayMake asked input (restored_outcome how r))
    ends_crash r =
        commit_leaves g old (record old { in_transaction = true }) last fin (MayMake asked input (restored_outcome how r)) refl crash
        (λ clean. may_make how made r (leaves_book clean)) survives

-- ---- a fault inside

-- outside a transaction nothing is said of what was written
stops_undone : (writes : List WriteOf) (tables : Tables) (before : Trees) (a b : State) → b.in_transaction ≡ false → Stops writes tables before a → Stops writes tables before b
stops_undone writes tables before a b outside stops = record {
  made = stops.made;
  next = stops.next;
  left = stops.left;
  trees = stops.trees;
  split = stops.split;
  holds = stops.holds;
  reach = stops.reach;
  lacks = stops.lacks;
  stands = λ inside. cc;
}

lacks_undone : (a b : State) → b.in_transaction ≡ false → LacksRoom a → LacksRoom b
lacks_undone a b apart (place, done, next, before, (verdicts, book, restores, tables, lacks)) = (
  place,
  done,
  next,
  before,
  (
    verdicts,
    book,
    restores,
    tables,
    record {
      known = lacks.known;
      change = lacks.change;
      agrees = lacks.agrees;
      accepted = lacks.accepted;
      lacks = by lacks.lacks;
    },
  ),
)
  where
    by : (¬ AreNumbered lacks.change) ⊎ Stops (writes_of lacks.known.facts next.key next.command lacks.change) tables before a
        → (¬ AreNumbered lacks.change) ⊎ Stops (writes_of lacks.known.facts next.key next.command lacks.change) tables before b
    by (inl numbers) = inl numbers
    by (inr stops) = inr (stops_undone (writes_of lacks.known.facts next.key next.command lacks.change) tables before a b apart stops)

pub fails_whole : {S : Type 0} (g : Ghosts S) (old last fin : Held S) (asked : Terms) (input : Option (List ℕ)) (calls : Option WriteCalls) (fault : RestoreFault)
    → Survives (state g last) (state g fin) (λ _. ⊥) → fin.in_transaction ≡ false
    → FailsInside asked input (state g (record old { in_transaction = true })) (state g last) calls fault
    → Fails asked input (state g old) (state g fin) calls fault
fails_whole g old last fin asked input calls fault undone outside inside = by fault inside
  where
    early : HasCleanDisk (state g fin) → HasCleanDisk (state g last)
    early clean = omega (arith, clean, undone.clean)

    since : DiskFailed (state g (record old { in_transaction = true })) (state g last) → DiskFailed (state g old) (state g fin)
    since (inl more) = inl (omega (arith, more, undone.counts))
    since (inr shut) = inr shut

    device : DiskFailed (state g (record old { in_transaction = true })) (state g last) ⊎ LacksRoom (state g last)
        → DiskFailed (state g old) (state g fin) ⊎ LacksRoom (state g fin)
    device (inl failed) = inl (since failed)
    device (inr lacks) = inr (lacks_undone (state g last) (state g fin) outside lacks)

    by : (f : RestoreFault) → FailsInside asked input (state g (record old { in_transaction = true })) (state g last) calls f
        → Fails asked input (state g old) (state g fin) calls f
    by (Book create.NotABook) it = λ clean opened. absurd (it (early clean) opened)
    by (Book create.Device) it = λ clean. device (it (early clean))
    by (Book create.InDoubt) it = λ clean. since (it (early clean))
    by (Book create.Memory) it = tt
    by (Text fault) it = it
    by (OfSum fault) it = it
    by Write it = it

-- A book that a walk reads: what its calls leave of it, and what a fault tells.
use Rattle.std.proofs.Common.{◌≡◌, ◌≢◌, ◌∙◌, Bool, false, true, List, Option, Some, None, Result, Ok, Err, IsFalse, IsTrue, refl, sym, ap, subst}
use Rattle.std.specs.Prelude.{IfSome}
use Rattle.sqlite.specs.Held.{state}
use Rattle.sqlite.specs.State.{HasCleanDisk, State, Survives}
use Rattle.sqlite.specs.Store.{Ghosts}
use Rattle.lot_book.specs.Facts.{Entry}
use Rattle.lot_stored.specs.StandFor.{Stands}
use Rattle.lot_page.specs.Cursor.{Stays}
use Rattle.lot_report.specs.declared.fault.RowFault.{RowFault}
use Rattle.lot_report.specs.declared.fault.RowFault.TheVariants.{Spent}
use Rattle.lot_rows.specs.Tables.{Tables}
use Rattle.lot_book_report.specs.Show.{HoldsOfBook, HoldsOfTables, ReadsBook, UnlessStopped, condition_after}
use Rattle.lot_book_report.specs.declared.fault.ShowFault.{ShowFault}
use Rattle.lot_book_report.specs.declared.fault.ShowFault.TheVariants.{Row as AtRow, Walk as AtWalk}
use Rattle.lot_store.proofs.ApplyLemmas.{stands_along}
use Rattle.lot_rows.proofs.StateLemmas.{early, survives_both, survives_same}
use Rattle.lot_walk.proofs.PlaceLemmas.{failed_after, stays_itself, stays_then}
use Rattle.lot_store.specs.Step.{LeavesTables}
use Rattle.lot_store.specs.Walk.{HasGiven, Walks, condition_of, is_at_end, is_at_fault}
use Rattle.lot_store.specs.declared.book.Book.{Book}
use Rattle.lot_store.specs.declared.book.Condition.{Condition}
use Rattle.lot_store.specs.declared.book.Condition.TheVariants.{NeedsReopen as Unusable}
use Rattle.lot_store.specs.declared.fault.StoreFault.{StoreFault}
use Rattle.lot_store.specs.declared.fault.StoreFault.TheVariants.{Damaged, Device, InDoubt, NeedsReopen, Memory}
use Rattle.lot_store.specs.declared.walk.Stage.{Stage}
use Rattle.lot_store.specs.declared.walk.Stage.TheVariants.{Going, Complete, Ended as AtFault}
use Rattle.lot_store.specs.declared.walk.Walk.{Walk}
use Rattle.lot_store.specs.declared.walk.WalkFault.{WalkFault}
use Rattle.lot_store.specs.declared.walk.WalkFault.TheVariants.{Ended, Failed}

-- tables are those of a state's database alone
pub stands_still : (old new : State) (entries : List Entry) → Stays old new → Stands old entries → Stands new entries
stands_still old new entries same stands = stands_along old new entries same.now stands

stays_left : (old new : State) → Stays old new → LeavesTables old new
stays_left old new same opened = (same.now, same.committed)

-- what is left after reading that changed nothing
left_after : (old mid new : State) → Stays old mid → LeavesTables mid new → LeavesTables old new
left_after old mid new same left opened = let (now, committed) = left opened in (now ∙ same.now, committed ∙ same.committed)

pub never_both : (b : Bool) → IsFalse b → IsTrue b → ⊥
never_both true at_false at_true = cc
never_both false at_false at_true = cc

pub is_false : (b : Bool) → (IsTrue b → false ≡ true) → IsFalse b
is_false true spent = absurd (never_both false refl (spent refl))
is_false false spent = refl

-- neither a row nor the end comes from a stage but these
goes_on : (stage : Stage) → (IsTrue (is_at_end stage) → ⊥) → (IsTrue (is_at_fault stage) → ⊥) → stage ≡ Going
goes_on Going whole ended = refl
goes_on Complete whole ended = absurd (whole refl)
goes_on AtFault whole ended = absurd (ended refl)

module _ {S : Type 0} (g : Ghosts S) where
  -- it was read without a fault
  pub record IsRead (old new : Book S g) : Type 0 where
    pub condition : new.condition ≡ old.condition
    pub same : HasCleanDisk (state g new.conn) → Stays (state g old.conn) (state g new.conn)
    pub crash : Survives (state g old.conn) (state g new.conn) (λ _. ⊥)

  pub read_none : (old new : Book S g) → new ≡ old → IsRead old new
  read_none old new is = subst (λ (book : Book S g). IsRead old book) (sym is) (record {
    condition = refl;
    same = λ clean. stays_itself (state g old.conn);
    crash = survives_same (state g old.conn) _;
  })

  pub read_then : (old mid new : Book S g) → IsRead old mid → IsRead mid new → IsRead old new
  read_then old mid new one two = record {
    condition = two.condition ∙ one.condition;
    same = λ clean. stays_then (state g old.conn) (state g mid.conn) (state g new.conn) (one.same (early (state g mid.conn) (state g new.conn) two.crash clean)) (two.same clean);
    crash = survives_both (state g old.conn) (state g mid.conn) (state g new.conn) one.crash two.crash;
  }

  -- the book is handed back as a walk left it
  pub handed : {A : Type 0} (old mid new : Book S g) (result : Result A ShowFault) → new ≡ mid → ReadsBook {A = A} g old mid result → ReadsBook {A = A} g old new result
  handed {A} old mid new result is reads = subst (λ (book : Book S g). ReadsBook {A = A} g old book result) (sym is) reads

  pub handed_holds : (old mid new : Book S g) (Fact : List Entry → Type 0) → new ≡ mid → HoldsOfBook g old mid Fact → HoldsOfBook g old new Fact
  handed_holds old mid new Fact is holds = subst (λ (book : Book S g). HoldsOfBook g old book Fact) (sym is) holds

  pub handed_tables : (old mid new : Book S g) (Fact : Tables → Type 0) → new ≡ mid → HoldsOfTables g old mid Fact → HoldsOfTables g old new Fact
  handed_tables old mid new Fact is holds = subst (λ (book : Book S g). HoldsOfTables g old book Fact) (sym is) holds

  -- ---- where the book doesn't stop the report

  module _ {A : Type 0} (old new : Book S g) where
    pub reads_whole : (made : A) → IsRead old new → old.condition ≢ Unusable → ReadsBook {A = A} g old new (Ok made)
    reads_whole made read usable = record {
      reopen = (λ is. cc, λ spent. absurd (usable spent));
      condition = read.condition;
      failed = λ clean is. cc;
      damaged = λ clean is. cc;
      sure = λ is. cc;
      going = λ is. cc;
      unspent = λ is. cc;
      same = read.same;
      left = λ clean. stays_left (state g old.conn) (state g new.conn) (read.same clean);
      crash = read.crash;
    }

    pub reads_cut : (fault : RowFault) → fault ≢ Spent → IsRead old new → old.condition ≢ Unusable → ReadsBook {A = A} g old new (Err (AtRow fault))
    reads_cut fault fresh read usable = record {
      reopen = (λ is. cc, λ spent. absurd (usable spent));
      condition = read.condition;
      failed = λ clean is. cc;
      damaged = λ clean is. cc;
      sure = λ is. cc;
      going = λ is. cc;
      unspent = λ is. let spent : fault ≡ Spent = cc in fresh spent;
      same = read.same;
      left = λ clean. stays_left (state g old.conn) (state g new.conn) (read.same clean);
      crash = read.crash;
    }

    -- memory ends beside the book
    pub reads_short : IsRead old new → old.condition ≢ Unusable → ReadsBook {A = A} g old new (Err (AtWalk (Failed Memory)))
    reads_short read usable = record {
      reopen = (λ is. cc, λ spent. absurd (usable spent));
      condition = read.condition;
      failed = λ clean is. cc;
      damaged = λ clean is. cc;
      sure = λ is. cc;
      going = λ is. cc;
      unspent = λ is. cc;
      same = λ clean. tt;
      left = λ clean. stays_left (state g old.conn) (state g new.conn) (read.same clean);
      crash = read.crash;
    }

  -- what follows reading without a fault
  module _ {A : Type 0} (old mid new : Book S g) (read : IsRead old mid) where
    unless_then : (result : Result A ShowFault) → HasCleanDisk (state g new.conn) → HasCleanDisk (state g mid.conn)
        → UnlessStopped result (Stays (state g mid.conn) (state g new.conn)) → UnlessStopped result (Stays (state g old.conn) (state g new.conn))
    unless_then (Ok made) clean was same = stays_then (state g old.conn) (state g mid.conn) (state g new.conn) (read.same was) same
    unless_then (Err (AtWalk fault)) clean was same = tt
    unless_then (Err (AtRow fault)) clean was same = stays_then (state g old.conn) (state g mid.conn) (state g new.conn) (read.same was) same

    pub reads_then : (result : Result A ShowFault) → ReadsBook {A = A} g mid new result → ReadsBook {A = A} g old new result
    reads_then result reads = record {
      reopen = (λ is. sym read.condition ∙ reads.reopen.0 is, λ spent. reads.reopen.1 (read.condition ∙ spent));
      condition = reads.condition ∙ ap (λ (before : Condition). condition_after before result) read.condition;
      failed = λ clean is.
          let was = early (state g mid.conn) (state g new.conn) reads.crash clean in
          failed_after (state g old.conn) (state g mid.conn) (state g new.conn) (read.same was) read.crash (reads.failed clean is);
      damaged = λ clean is entries stands.
          let was = early (state g mid.conn) (state g new.conn) reads.crash clean in
          reads.damaged clean is entries (stands_still (state g old.conn) (state g mid.conn) entries (read.same was) stands);
      sure = reads.sure;
      going = reads.going;
      unspent = reads.unspent;
      same = λ clean. unless_then result clean (early (state g mid.conn) (state g new.conn) reads.crash clean) (reads.same clean);
      left = λ clean.
          let was = early (state g mid.conn) (state g new.conn) reads.crash clean in
          left_after (state g old.conn) (state g mid.conn) (state g new.conn) (read.same was) (reads.left clean);
      crash = survives_both (state g old.conn) (state g mid.conn) (state g new.conn) read.crash reads.crash;
    }

  -- a value that was made of a book without a fault
  pub was_read : {A : Type 0} (old new : Book S g) (made : A) → ReadsBook {A = A} g old new (Ok made) → IsRead old new
  was_read old new made reads = record { condition = reads.condition; same = reads.same; crash = reads.crash }

  -- ---- a call of a walk

  -- no call of the walk had a fault
  pub record IsReading {Place : Type 0} (start : Book S g) (walk : Walk S Place g) : Type 0 where
    pub going : walk.stage ≡ Going
    pub read : IsRead start walk.book.now

  pub reads_from : {Place : Type 0} (start : Book S g) (walk : Walk S Place g) → walk.stage ≡ Going → walk.book.now ≡ start → IsReading start walk
  reads_from start walk going same = record { going = going; read = read_none start walk.book.now same }

  module _ {Place Row Asked Shown : Type 0} (shown : Row → Shown) (IsGood : Row → Type 0) (AreAll : Asked → List Entry → List Shown → Type 0)
      (IsBehind : Place → Tables → Asked → List Entry → List Shown → Type 0) (start : Book S g) where
    module _ (before after : Walk S Place g) (reading : IsReading start before) where
      abbrev pub Called : Result (Option Row) WalkFault → Type 0
      Called result = Walks g shown IsGood AreAll IsBehind before after result

      pub was_clean : (result : Result (Option Row) WalkFault) → Called result → HasCleanDisk (state g after.book.now.conn) → HasCleanDisk (state g before.book.now.conn)
      was_clean result walks clean = early (state g before.book.now.conn) (state g after.book.now.conn) walks.crash clean

      pub read_on : (found : Option Row) → Called (Ok found) → IsRead start after.book.now
      read_on found walks =
          read_then start before.book.now after.book.now reading.read
          (record { condition = walks.condition; same = walks.same; crash = walks.crash })

      pub usable : (found : Option Row) → Called (Ok found) → start.condition ≢ Unusable
      usable found walks spent =
          let is : ◌≡◌ {A = Result (Option Row) WalkFault} (Ok found) (Err (Failed NeedsReopen)) = walks.reopen.1 (reading.going, reading.read.condition ∙ spent) in cc

      pub walks_on : (row : Row) → Called (Ok (Some row)) → IsReading start after
      walks_on row walks = record {
        going = goes_on after.stage
            (λ whole. let is : ◌≡◌ {A = Result (Option Row) WalkFault} (Ok (Some row)) (Ok None) = walks.completes.1 whole in cc)
            (λ ended. let is : false ≡ true = walks.ends.1 ended in cc);
        read = read_on (Some row) walks;
      }

      pub goes_if_some : (found : Option Row) → Called (Ok found) → IfSome found (λ row. after.stage ≡ Going)
      goes_if_some (Some row) walks = (walks_on row walks).going
      goes_if_some None walks = tt

      pub walked_out : Called (Ok None) → IsRead start after.book.now
      walked_out walks = read_on None walks

      never_ended : IsTrue (is_at_fault before.stage) → ⊥
      never_ended ended = let no : false ≡ true = subst (λ (stage : Stage). IsTrue (is_at_fault stage)) reading.going ended in cc

      pub is_failure : (fault : WalkFault) → Called (Err fault) → (cause : StoreFault) × (fault ≡ Failed cause)
      is_failure (Failed cause) walks = (cause, refl)
      is_failure Ended walks = absurd (never_ended (walks.ended.0 refl))

      -- what a walk gave, of the books that the tables stand for
      pub stops : {A : Type 0} (fault : WalkFault)
          → (HasCleanDisk (state g before.book.now.conn) → (entries : List Entry) → Stands (state g start.conn) entries
          → (asked : Asked) × (given : List Shown) × HasGiven g AreAll IsBehind before asked entries given)
          → Called (Err fault) → ReadsBook {A = A} g start after.book.now (Err (AtWalk fault))
      stops fault gave walks = record {
        reopen = (
          λ is. let at : ◌≡◌ {A = Result (Option Row) WalkFault} (Err fault) (Err (Failed NeedsReopen)) = cc in sym reading.read.condition ∙ (walks.reopen.0 at).1,
          λ spent. let at : ◌≡◌ {A = Result (Option Row) WalkFault} (Err fault) (Err (Failed NeedsReopen)) = walks.reopen.1 (reading.going, reading.read.condition ∙ spent) in cc,
        );
        condition = condition fault walks;
        failed = λ clean is.
            let at : ◌≡◌ {A = Result (Option Row) WalkFault} (Err fault) (Err (Failed Device)) = cc in
            failed_after (state g start.conn) (state g before.book.now.conn) (state g after.book.now.conn) (reading.read.same (was clean)) reading.read.crash (walks.failed clean at);
        damaged = λ clean is entries stands.
            let at : ◌≡◌ {A = Result (Option Row) WalkFault} (Err fault) (Err (Failed Damaged)) = cc in
            let (asked, given, has) = gave (was clean) entries stands in
            walks.damaged clean at asked entries given has;
        sure = λ is. let at : ◌≡◌ {A = Result (Option Row) WalkFault} (Err fault) (Err (Failed InDoubt)) = cc in walks.sure at;
        going = λ is. let at : ◌≡◌ {A = Result (Option Row) WalkFault} (Err fault) (Err Ended) = cc in never_ended (walks.ended.0 at);
        unspent = λ is. cc;
        same = λ clean. tt;
        left = λ clean. left_after (state g start.conn) (state g before.book.now.conn) (state g after.book.now.conn) (reading.read.same (was clean)) (walks.left clean);
        crash = survives_both (state g start.conn) (state g before.book.now.conn) (state g after.book.now.conn) reading.read.crash walks.crash;
      }
        where
          was : HasCleanDisk (state g after.book.now.conn) → HasCleanDisk (state g before.book.now.conn)
          was clean = early (state g before.book.now.conn) (state g after.book.now.conn) walks.crash clean

          condition : (fault : WalkFault) → Called (Err fault)
              → after.book.now.condition ≡ condition_of {A = Unit {0}} start.condition (Err fault)
          condition (Failed Device) walks = walks.condition
          condition (Failed InDoubt) walks = walks.condition ∙ reading.read.condition
          condition (Failed NeedsReopen) walks = walks.condition ∙ reading.read.condition
          condition (Failed Damaged) walks = walks.condition ∙ reading.read.condition
          condition (Failed Memory) walks = walks.condition ∙ reading.read.condition
          condition Ended walks = walks.condition ∙ reading.read.condition

-- A command of a dump in the open transaction: what its entry makes of the tables, and what it comes to.
use Rattle.std.proofs.Common.{◌≡◌, ◌≢◌, ◌∙◌, ◌⊎◌, inl, inr, ℕ, suc, IfOk, IsTrue, List, [], ◌∷◌, ◌++◌, All, None, Ok, Err, Result, length, refl, sym, ap, subst, subst₂}
use Rattle.std.specs.Result.{result_ok}
use Rattle.sqlite.specs.Effect.{Database}
use Rattle.sqlite.specs.State.{HasCleanDisk, IsUnchanged, KeepsCommit, State, Survives}
use Rattle.lot_command.specs.Sayable.{IsSayable}
use Rattle.lot_command.specs.declared.command.Command.{Command}
use Rattle.lot_command.specs.declared.key.Key.{Key}
use Rattle.lot_book.specs.Agree.{Agrees}
use Rattle.lot_book.specs.Book.{IsBook, entry_of}
use Rattle.lot_book.specs.Booking.{all_by_key}
use Rattle.lot_book.specs.Change.{IsAcceptedUnder}
use Rattle.lot_book.specs.Edition.{Edition, First, Second}
use Rattle.lot_book.specs.Facts.{Entry, Facts, facts_of}
use Rattle.lot_book.specs.Openings.{AgreesWithOpenings, FactsWithOpenings, IsAcceptedWith, facts_with_openings, ties_for, ties_on}
use Rattle.lot_book.specs.Step.{Accept, DecidesUnder, Refuse, Repeat}
use Rattle.lot_book.specs.declared.change.Change.{Change}
use Rattle.lot_book.specs.declared.refusal.Refusal.{Refusal}
use Rattle.lot_book.specs.declared.refusal.Stop.{Stop}
use Rattle.lot_book.specs.declared.verdict.Verdict.TheVariants.{Accepted, Refused, Repeated}
use Rattle.lot_laws.proofs.RecordedBook.{key_was_new}
use Rattle.lot_laws.proofs.StepOpenings.{step_where_agreed}
use Rattle.lot_ledger.specs.Decide.{Comes, StopsStep}
use Rattle.lot_ledger.specs.declared.decision.Outcome.{Outcome}
use Rattle.lot_load.specs.Kept.{IsOf, Keeps, seen, seen_with_openings}
use Rattle.lot_load.specs.declared.kept.Kept.{Kept as KeptOf}
use Rattle.lot_rows.proofs.StateLemmas.{early, has_still, survives_both}
use Rattle.lot_rows.specs.Tables.{Has, Tables, layout}
use Rattle.lot_stored.specs.Rows.{migration_row}
use Rattle.lot_stored.specs.StandFor.{AreOfBook, StandFor}
use Rattle.lot_table.proofs.BookLemmas.{on_ok}
use Rattle.lot_table.proofs.MakeLemmas.{keeps_then, keeps_undone}
use Rattle.lot_table.specs.Book.{always}
use Rattle.lot_table.specs.Call.{Answers}
use Rattle.lot_table.specs.Statement.{DiskFailed}
use Rattle.lot_table.specs.declared.fault.Fault.{Fault}
use Rattle.lot_table.specs.declared.fault.Fault.TheVariants as table
use Rattle.lot_view.specs.View.{known, known_with_openings}
use Rattle.lot_view.specs.declared.view.View.{View}
use Rattle.lot_write.proofs.PlaceLemmas.{all_placed, placed_already}
use Rattle.lot_write.specs.Call.{Stops, WritesAll}
use Rattle.lot_write.specs.Write.{AreFit, IsGood, placed_at, written_all}
use Rattle.lot_write.specs.Writes.{AreNumbered, ListsInOrder, writes_of}
use Rattle.lot_write.specs.declared.write.Write.{Write}
use Rattle.lot_restore.specs.Judge.{Enters, HasNoRoomBy, IsPlacedAt, IsPlacedFor, JudgesNextBy, MayJudge, PutsPlace, StandsAt, entered}
use Rattle.lot_restore.specs.Restored.{place_by}
use Rattle.lot_restore.proofs.PlaceLemmas.{failed_since}

-- ---- the entry of an accepted command in the tables

-- writes leave the place of migration
still_placed : (place : ℕ) (writes : List Write) (tables : Tables) → IsPlacedAt place tables → IsPlacedAt place (written_all writes tables)
still_placed place writes tables is =
    ap (λ (t : Tables). (written_all writes t).migration) (sym (placed_already place tables is))
    ∙ ap (λ (t : Tables). t.migration) (all_placed place writes tables)

pub enters_first : {A B : Type 0} (entries : ℕ) (writes : List Write) (old mid new : State) (done : A) (result : Result B Fault)
    → WritesAll writes old mid (Ok done) → PutsPlace entries mid new result → Enters First entries writes old new result
enters_first entries writes old mid new done result wrote put = record {
  inside = put.inside;
  turns = λ clean. on_ok result _ _ (λ turns tables placed has.
      turns (written_all writes tables) (still_placed entries writes tables placed) (has_written clean tables has)) (put.turns clean);
  damaged = λ clean is unlimited tables fit placed has.
      put.damaged clean is (wrote.crash.limit ∙ unlimited) (written_all writes tables) (has_written clean tables has);
  device = λ clean is tables fit placed has.
      inl (failed_since old mid new wrote.crash put.crash clean
      (put.device clean is (written_all writes tables) (still_placed entries writes tables placed) (has_written clean tables has)));
  kept = λ clean. keeps_then old mid new (wrote.kept (early mid new put.crash clean)) (put.kept clean);
  crash = survives_both old mid new wrote.crash put.crash;
}
  where
    has_written : HasCleanDisk new → (tables : Tables) → Has old tables → Has mid (written_all writes tables)
    has_written clean tables has =
        let turns = wrote.turns (early mid new put.crash clean) in (turns.book has.0, turns.lists has.0 tables has.1 tt)

pub enters_second : {A B : Type 0} (entries : ℕ) (writes : List Write) (old new : State) (done : A) (end : B)
    → WritesAll writes old new (Ok done) → Enters Second entries writes old new (Ok end)
enters_second entries writes old new done end wrote = record {
  inside = wrote.inside;
  turns = λ clean tables placed has. let turns = wrote.turns clean in (turns.book has.0, turns.lists has.0 tables has.1 tt);
  damaged = λ clean is. absurd cc;
  device = λ clean is. absurd cc;
  kept = wrote.kept;
  crash = wrote.crash;
}

pub enters_none : {A B : Type 0} (edition : Edition) (entries : ℕ) (writes : List Write) (old new : State) (fault : Fault)
    → WritesAll {A = A} writes old new (Err fault) → Enters {A = B} edition entries writes old new (Err fault)
enters_none edition entries writes old new fault wrote = record {
  inside = λ clean. tt;
  turns = λ clean. tt;
  damaged = λ clean is unlimited tables fit placed has.
      let it : fault ≡ table.Damaged = cc in wrote.damaged clean (ap Err it) unlimited tables fit has;
  device = λ clean is tables fit placed has.
      let it : fault ≡ table.Device = cc in wrote.device clean (ap Err it) tables fit has;
  kept = wrote.kept;
  crash = wrote.crash;
}

-- ---- the laws of what is written

-- the contracts of the laws, of edition 1 and of edition 2
abbrev pub FirstStands : Type 0
FirstStands =
    (tables : Tables) (entries : List Entry) (known : Facts) (key : Key) (command : Command) (change : Change)
    → StandFor (placed_at (length entries) tables) entries → Agrees known (facts_of entries key) command
    → IsAcceptedUnder all_by_key known command change → ListsInOrder command change → IsSayable command → All IsGood (writes_of known key command change)
    → AreFit (writes_of known key command change) tables
    × StandFor (placed_at (suc (length entries)) (written_all (writes_of known key command change) tables)) (entries ++ entry_of key command change.legs ∷ [])

abbrev pub SecondStands : Type 0
SecondStands =
    (tables : Tables) (entries : List Entry) (known : FactsWithOpenings) (key : Key) (command : Command) (change : Change) → IsBook entries → StandFor tables entries
    → AgreesWithOpenings known (facts_with_openings entries key) command → known.facts.text ≡ None → IsAcceptedWith known command change → ListsInOrder command change → IsSayable command
    → All IsGood (writes_of known.facts key command change)
    → AreFit (writes_of known.facts key command change) tables
    × StandFor (written_all (writes_of known.facts key command change) tables) (entries ++ entry_of key command change.legs ∷ [])

-- behind the entry the tables stand for the book with it, and have the place that is then its own
record Behind (edition : Edition) (known : FactsWithOpenings) (key : Key) (command : Command) (change : Change) (tables : Tables) (entries : List Entry) (place : ℕ)
    : Type 0 where
  fit : AreFit (writes_of known.facts key command change) tables
  stand : StandFor (entered edition (length entries) (writes_of known.facts key command change) tables) (entries ++ entry_of key command change.legs ∷ [])
  placed : IsPlacedAt (place_by edition Accepted place) (entered edition (length entries) (writes_of known.facts key command change) tables)

behind : (first : FirstStands) (second : SecondStands) (edition : Edition) (known : FactsWithOpenings) (key : Key) (command : Command) (change : Change)
    (tables : Tables) (entries : List Entry) (place : ℕ) → IsBook entries → StandFor tables entries → IsPlacedAt place tables → MayJudge edition entries place
    → AgreesWithOpenings known (facts_with_openings entries key) command → IsAcceptedUnder (ties_for edition known) known.facts command change
    → ListsInOrder command change → IsSayable command → All IsGood (writes_of known.facts key command change)
    → Behind edition known key command change tables entries place
behind first second First known key command change tables entries place book stand placed may agrees comes ordered sayable good =
    let here = placed_already (length entries) tables (subst (λ (n : ℕ). IsPlacedAt n tables) may placed) in
    let it = first tables entries known.facts key command change (subst (λ (t : Tables). StandFor t entries) (sym here) stand) agrees.facts comes ordered sayable good in
    record { fit = it.0; stand = it.1; placed = ap (λ (n : ℕ). migration_row (suc n) ∷ []) (sym may) }
behind first second Second known key command change tables entries place book stand placed may agrees comes ordered sayable good =
    let new = (key_was_new (ties_on known) known.facts command change.legs known.facts.text comes.0).0 in
    let it = second tables entries known key command change book stand agrees new comes ordered sayable good in
    record { fit = it.0; stand = it.1; placed = still_placed place (writes_of known.facts key command change) tables placed }

placed_for : (edition : Edition) (count : ℕ) (tables : Tables) (entries : List Entry) (place : ℕ) → count ≡ length entries → IsPlacedAt place tables
    → MayJudge edition entries place → IsPlacedFor edition count tables
placed_for First count tables entries place is placed may = subst (λ (n : ℕ). IsPlacedAt n tables) (may ∙ sym is) placed
placed_for Second count tables entries place is placed may = tt

-- the place stays where a command is no entry
pub repeats_place : (edition : Edition) (place : ℕ) → place_by edition Repeated place ≡ place
repeats_place First place = refl
repeats_place Second place = refl

pub refuses_place : (edition : Edition) (refusal : Refusal) (place : ℕ) → place_by edition (Refused refusal) place ≡ place
refuses_place First refusal place = refl
refuses_place Second refusal place = refl

-- ---- a command, after what it looks at was read

-- what is known of a book that the tables stand for, of which was what was kept
abbrev pub LooksAt : (Kept Looked : List Entry → Type 0) → FactsWithOpenings → Key → Command → State → Type 0
LooksAt Kept Looked known key command old =
    (entries : List Entry) (place : ℕ) → StandsAt Kept old entries place → Looked entries × AgreesWithOpenings known (facts_with_openings entries key) command

module _ (edition : Edition) (Kept Looked : List Entry → Type 0) (key : Key) (command : Command) (known : FactsWithOpenings) (old mid : State)
    (inside : HasCleanDisk old → IsTrue old.in_transaction) (same : HasCleanDisk mid → IsUnchanged old mid)
    (looks : HasCleanDisk mid → LooksAt Kept Looked known key command old) (crash : Survives old mid (λ _. ⊥)) where
  stays : HasCleanDisk mid → (entries : List Entry) (place : ℕ) → StandsAt Kept old entries place → StandsAt Looked mid entries place
  stays clean entries place at = record {
    stands = record { book = at.stands.book; tables = at.stands.tables; has = has_still old mid at.stands.tables (same clean) at.stands.has; stand = at.stands.stand };
    placed = at.placed;
    kept = (looks clean entries place at).0;
  }

  still : HasCleanDisk mid → IsTrue mid.in_transaction
  still clean = (same clean).0.mode ∙ inside (early old mid crash clean)

  keeps : HasCleanDisk mid → KeepsCommit old mid
  keeps clean = record { was_open = λ _. (same clean).0.was_open; committed = λ _. (same clean).0.committed_is }

  pub repeats_by : DecidesUnder (ties_for edition known) known.facts command Repeat → JudgesNextBy edition Kept Looked key command old mid (Ok Repeated)
  repeats_by decides = record {
    judged = λ clean entries place at may. (
      entries,
      (step_where_agreed edition known entries key command Repeat (looks clean entries place at).1 decides, refl),
      subst (λ (n : ℕ). StandsAt Looked mid entries n) (sym (repeats_place edition place)) (stays clean entries place at),
    );
    inside = still;
    changes = λ clean. (same clean).0.now_is;
    rest = keeps;
    damaged = λ clean is. absurd cc;
    device = λ clean is. absurd cc;
    crash = crash;
  }

  pub refuses_by : (refusal : Refusal) → DecidesUnder (ties_for edition known) known.facts command (Refuse refusal)
      → JudgesNextBy edition Kept Looked key command old mid (Ok (Refused refusal))
  refuses_by refusal decides = record {
    judged = λ clean entries place at may. (
      entries,
      (step_where_agreed edition known entries key command (Refuse refusal) (looks clean entries place at).1 decides, refl),
      subst (λ (n : ℕ). StandsAt Looked mid entries n) (sym (refuses_place edition refusal place)) (stays clean entries place at),
    );
    inside = still;
    changes = λ clean. (same clean).0.now_is;
    rest = keeps;
    damaged = λ clean is. absurd cc;
    device = λ clean is. absurd cc;
    crash = crash;
  }

  -- it comes to a fault before a row is written
  pub unwritten_by : (KeptThen : List Entry → Type 0) (fault : Fault) → fault ≢ table.Damaged
      → (HasCleanDisk mid → fault ≡ table.Device → (change : Change) × IsAcceptedUnder (ties_for edition known) known.facts command change × ¬ AreNumbered change)
      → JudgesNextBy edition Kept KeptThen key command old mid (Err fault)
  unwritten_by KeptThen fault apart numbers = record {
    judged = λ clean. tt;
    inside = λ clean. tt;
    changes = λ clean. tt;
    rest = keeps;
    damaged = λ clean is. let it : fault ≡ table.Damaged = cc in absurd (apart it);
    device = λ clean is entries place at may.
        let it : fault ≡ table.Device = cc in
        let why = numbers clean it in
        inr (record { known = known; change = why.0; agrees = (looks clean entries place at).1; accepted = why.1; lacks = inl why.2 });
    crash = crash;
  }

  -- ---- a command that is accepted: its entry is made or not

  module _ (first : FirstStands) (second : SecondStands) (change : Change) (writes : List Write) (are : writes ≡ writes_of known.facts key command change)
      (comes : IsAcceptedUnder (ties_for edition known) known.facts command change) (ordered : ListsInOrder command change) (sayable : IsSayable command)
      (good : All IsGood writes) (count : ℕ) (counted : count ≡ known.facts.entries) (new : State) where
    and_then : HasCleanDisk mid → (entries : List Entry) (place : ℕ) → (at : StandsAt Kept old entries place) → MayJudge edition entries place
        → Behind edition known key command change at.stands.tables entries place
    and_then clean entries place at may =
        behind first second edition known key command change at.stands.tables entries place at.stands.book at.stands.stand at.placed may
        (looks clean entries place at).1 comes ordered sayable (subst (All IsGood) are good)

    fit : HasCleanDisk mid → (entries : List Entry) (place : ℕ) → (at : StandsAt Kept old entries place) → MayJudge edition entries place → AreFit writes at.stands.tables
    fit clean entries place at may = subst (λ (w : List Write). AreFit w at.stands.tables) (sym are) (and_then clean entries place at may).fit

    all : HasCleanDisk mid → (entries : List Entry) (place : ℕ) → StandsAt Kept old entries place → count ≡ length entries
    all clean entries place at = counted ∙ (looks clean entries place at).1.facts.entries

    for : HasCleanDisk mid → (entries : List Entry) (place : ℕ) → (at : StandsAt Kept old entries place) → MayJudge edition entries place → IsPlacedFor edition count at.stands.tables
    for clean entries place at may = placed_for edition count at.stands.tables entries place (all clean entries place at) at.placed may

    -- what is kept then is of the book with the entry
    pub accepts_by : (KeptThen : List Entry → Type 0)
        → ((entries : List Entry) → IsBook entries → Looked entries → AgreesWithOpenings known (facts_with_openings entries key) command
        → KeptThen (entries ++ entry_of key command change.legs ∷ []))
        → Enters {A = Unit {0}} edition count writes mid new (Ok tt) → JudgesNextBy edition Kept KeptThen key command old new (Ok Accepted)
    accepts_by KeptThen records enters = record {
      judged = λ clean entries place at may.
          let before = early mid new enters.crash clean in
          let tables = at.stands.tables in
          let now = looks before entries place at in
          let next = and_then before entries place at may in
          let has = enters.turns clean tables (for before entries place at may) (has_still old mid tables (same before) at.stands.has) in (
            entries ++ entry_of key command change.legs ∷ [],
            (change.legs, step_where_agreed edition known entries key command (Accept change.legs) now.1 comes.0, refl),
            record {
              stands = record {
                book = record { place = next.stand.place; placed = next.stand.placed; is = next.stand.judged };
                tables = entered edition (length entries) (writes_of known.facts key command change) tables;
                has = subst₂ (λ (n : ℕ) (w : List Write). Has new (entered edition n w tables)) (all before entries place at) are has;
                stand = next.stand;
              };
              placed = next.placed;
              kept = records entries at.stands.book now.0 now.1;
            },
          );
      inside = enters.inside;
      changes = λ clean. tt;
      rest = λ clean. keeps_then old mid new (keeps (early mid new enters.crash clean)) (enters.kept clean);
      damaged = λ clean is. absurd cc;
      device = λ clean is. absurd cc;
      crash = survives_both old mid new crash enters.crash;
    }

    pub unmade_by : (KeptThen : List Entry → Type 0) (fault : Fault) → old.step_limit ≡ None
        → Enters {A = Unit {0}} edition count writes mid new (Err fault) → JudgesNextBy edition Kept KeptThen key command old new (Err fault)
    unmade_by KeptThen fault unlimited enters = record {
      judged = λ clean. tt;
      inside = λ clean. tt;
      changes = λ clean. tt;
      rest = λ clean. keeps_then old mid new (keeps (early mid new enters.crash clean)) (enters.kept clean);
      damaged = λ clean is entries place at may.
          let before = early mid new enters.crash clean in
          let it : fault ≡ table.Damaged = cc in
          enters.damaged clean (ap Err it) (crash.limit ∙ unlimited) at.stands.tables (fit before entries place at may) (for before entries place at may)
          (has_still old mid at.stands.tables (same before) at.stands.has);
      device = λ clean is entries place at may.
          let before = early mid new enters.crash clean in
          let it : fault ≡ table.Device = cc in
          refused_by clean before entries place at
          (enters.device clean (ap Err it) at.stands.tables (fit before entries place at may) (for before entries place at may)
          (has_still old mid at.stands.tables (same before) at.stands.has));
      crash = survives_both old mid new crash enters.crash;
    }
      where
        refused_by : HasCleanDisk new → HasCleanDisk mid → (entries : List Entry) (place : ℕ) (at : StandsAt Kept old entries place)
            → DiskFailed mid new ⊎ Stops writes at.stands.tables mid.now.trees new
            → DiskFailed old new ⊎ HasNoRoomBy edition key command entries at.stands.tables old.now.trees new
        refused_by clean before entries place at (inl failed) = inl (failed_since old mid new crash enters.crash clean failed)
        refused_by clean before entries place at (inr stops) = inr (record {
          known = known;
          change = change;
          agrees = (looks before entries place at).1;
          accepted = comes;
          lacks = inr (subst₂ (λ (w : List Write) (d : Database). Stops w at.stands.tables d.trees new) are (same before).0.now_is stops);
        })

-- ---- a command that comes to a fault as it is looked at

pub unread_by : {R : Type 0} (Says : R → Tables → Type 0) (edition : Edition) (Kept KeptThen : List Entry → Type 0) (key : Key) (command : Command) (old new : State)
    (fault : Fault) → old.step_limit ≡ None → Answers layout Says always AreOfBook old new (Err fault)
    → JudgesNextBy edition Kept KeptThen key command old new (Err fault)
unread_by Says edition Kept KeptThen key command old new fault unlimited read = record {
  judged = λ clean. tt;
  inside = λ clean. tt;
  changes = λ clean. tt;
  rest = λ clean. keeps_undone old new (read.undone clean);
  damaged = λ clean is entries place at may.
      let it : fault ≡ table.Damaged = cc in
      read.damaged clean (ap Err it) unlimited at.stands.tables at.stands.has (entries, at.stands.book, at.stands.stand);
  device = λ clean is entries place at may. let it : fault ≡ table.Device = cc in inl (read.device clean (ap Err it));
  crash = read.crash;
}

-- ---- the view of what was looked at

module _ (edition : Edition) (looked : KeptOf) (view : View) (same : view ≡ looked.view) (command : Command) where
  pub comes_by : (decided outcome : Outcome) → decided ≡ outcome → Comes (ties_for edition (known_with_openings view)) (known view) command decided
      → Comes (ties_for edition (seen_with_openings looked)) (seen looked) command outcome
  comes_by decided outcome is comes =
      subst (λ (v : View). Comes (ties_for edition (known_with_openings v)) (known v) command outcome) same
      (subst (Comes (ties_for edition (known_with_openings view)) (known view) command) is comes)

  pub stops_by : (stopped stop : Stop) → stopped ≡ stop → StopsStep (ties_for edition (known_with_openings view)) (known view) command stopped
      → StopsStep (ties_for edition (seen_with_openings looked)) (seen looked) command stop
  stops_by stopped stop is stops =
      subst (λ (v : View). StopsStep (ties_for edition (known_with_openings v)) (known v) command stop) same
      (subst (StopsStep (ties_for edition (known_with_openings view)) (known view) command) is stops)

  pub writes_by : (key : Key) (change : Change) (writes : List Write) → writes ≡ writes_of (known view) key command change → writes ≡ writes_of (seen looked) key command change
  writes_by key change writes = subst (λ (v : View). writes ≡ writes_of (known v) key command change) same

-- what recording gives is kept of the book with the entry; out of memory nothing is kept
pub kept_behind : {E : Type 0} (edition : Edition) (looked : KeptOf) (key : Key) (command : Command) (change : Change) (recorded : Result KeptOf E)
    → IfOk recorded (λ after. (edition : Edition) (entries : List Entry) (other : Key) → IsBook entries → Keeps looked entries
    → AgreesWithOpenings (seen_with_openings looked) (facts_with_openings entries other) command
    → IsAcceptedUnder (ties_for edition (seen_with_openings looked)) (seen looked) command change → Keeps after (entries ++ entry_of other command change.legs ∷ []))
    → IsAcceptedUnder (ties_for edition (seen_with_openings looked)) (seen looked) command change → (entries : List Entry) → IsBook entries → Keeps looked entries
    → AgreesWithOpenings (seen_with_openings looked) (facts_with_openings entries key) command
    → IsOf (result_ok recorded) (entries ++ entry_of key command change.legs ∷ [])
kept_behind edition looked key command change (Ok after) records comes entries book keeps agrees = records edition entries key book keeps agrees comes
kept_behind edition looked key command change (Err out) records comes entries book keeps agrees = tt

-- Applying a command: what is judged on a view, and what its writes come to.
use Rattle.std.proofs.Common.{◌≡◌, ◌∙◌, ◌⊎◌, inl, inr, false, IfSome, None, Ok, Err, IsTrue, List, [], ◌∷◌, ◌++◌, All, Option, Result, Some, refl, sym, subst, subst₂, arith}
use Rattle.std.specs.Result.{result_ok}
use Rattle.sqlite.specs.Effect.{Database}
use Rattle.sqlite.specs.State.{HasCleanDisk, IsUnchanged, KeepsCommit, State, Survives}
use Rattle.sqlite.proofs.StateLemmas.{survives_then, survives_weaker}
use Rattle.sqlite.specs.Tree.{Trees}
use Rattle.lot_command.specs.declared.command.Command.{Command}
use Rattle.lot_command.specs.declared.key.Key.{Key}
use Rattle.lot_book.specs.Book.{IsBook, entry_of}
use Rattle.lot_book.specs.Edition.{Second}
use Rattle.lot_book.specs.Facts.{Entry}
use Rattle.lot_book.specs.Judged.{JudgesOn}
use Rattle.lot_book.specs.Openings.{AgreesWithOpenings, DecidesByOpening, FactsWithOpenings, IsAcceptedWith, facts_with_openings, ties_on}
use Rattle.lot_book.specs.Step.{Accept, Refuse, Repeat, Step}
use Rattle.lot_book.specs.declared.refusal.Refusal.{Refusal}
use Rattle.lot_book.specs.declared.change.Change.{Change}
use Rattle.lot_book.specs.declared.verdict.Verdict.{Verdict}
use Rattle.lot_book.specs.declared.verdict.Verdict.TheVariants.{Accepted, Refused, Repeated}
use Rattle.lot_stored.specs.StandFor.{AreOfBook, StandFor, Stands}
use Rattle.lot_laws.proofs.RecordedBook.{book-grows, key_was_new}
use Rattle.lot_laws.proofs.StepOpenings.{step_where_agreed}
use Rattle.lot_command.specs.Sayable.{IsSayable}
use Rattle.lot_book.specs.Change.{ListsUnder}
use Rattle.lot_write.specs.Call.{Stops}
use Rattle.lot_write.specs.Write.{AreFit, IsGood, written_all}
use Rattle.lot_write.specs.Writes.{AreNumbered, ListsInOrder, writes_of}
use Rattle.lot_rows.specs.Tables.{Has, Tables, layout}
use Rattle.lot_write.specs.declared.write.Write.{Write}
use Rattle.lot_table.specs.Book.{Holds}
use Rattle.lot_table.specs.Statement.{DiskFailed}
use Rattle.lot_store.specs.Apply.{AppliesWith, HasNoRoomFor, MayAdd, MayWrite, RefusedByDeviceWith, StandsWith, WritesDown}
use Rattle.lot_store.specs.Session.{LeavesEntry}
use Rattle.lot_store.specs.declared.fault.StoreFault.{StoreFault}
use Rattle.lot_store.specs.declared.fault.StoreFault.TheVariants.{Damaged, Device, InDoubt, Memory, NeedsReopen}
use Rattle.lot_store.proofs.CommitLemmas.{leaves_none}
use Rattle.lot_table.proofs.MakeLemmas.{keeps_then}

-- tables are those of a state's database alone
abbrev pub stands_along : (a b : State) (entries : List Entry) → b.now ≡ a.now → Stands a entries → Stands b entries
stands_along a b entries same stands = record {
  book = stands.book;
  tables = stands.tables;
  has = subst (λ (db : Database). (db.schema ≡ layout.schema) × Holds layout db.trees stands.tables) (sym same) stands.has;
  stand = stands.stand;
}

pub of_book : (s : State) (entries : List Entry) (stands : Stands s entries) → AreOfBook stands.tables
of_book s entries stands = (entries, stands.book, stands.stand)

-- ---- a command that is accepted on what is known

-- what is written stands for the book
abbrev pub KeepsBook : Type 0
KeepsBook =
    (tables : Tables) (entries : List Entry) (known : FactsWithOpenings) (key : Key) (command : Command) (change : Change) → IsBook entries → StandFor tables entries
    → AgreesWithOpenings known (facts_with_openings entries key) command → known.facts.text ≡ None → IsAcceptedWith known command change → ListsInOrder command change → IsSayable command
    → All IsGood (writes_of known.facts key command change)
    → AreFit (writes_of known.facts key command change) tables
    × StandFor (written_all (writes_of known.facts key command change) tables) (entries ++ entry_of key command change.legs ∷ [])

module _ (law : KeepsBook) (entries : List Entry) (key : Key) (command : Command) (known : FactsWithOpenings) (change : Change) (is_book : IsBook entries)
    (agrees : AgreesWithOpenings known (facts_with_openings entries key) command) (decides : DecidesByOpening known command (Accept change.legs)) (lists : ListsUnder (ties_on known) known.facts command change)
    (ordered : ListsInOrder command change) (sayable : IsSayable command) (good : All IsGood (writes_of known.facts key command change)) where
  entry : Entry
  entry = entry_of key command change.legs

  pub step : Step entries key command (Accept change.legs)
  step = step_where_agreed Second known entries key command (Accept change.legs) agrees decides

  pub kept : (tables : Tables) → StandFor tables entries
      → AreFit (writes_of known.facts key command change) tables × StandFor (written_all (writes_of known.facts key command change) tables) (entries ++ entry_of key command change.legs ∷ [])
  kept tables stand =
      law tables entries known key command change is_book stand agrees (key_was_new (ties_on known) known.facts command change.legs known.facts.text decides).0 (decides, lists) ordered sayable good

  pub grown : IsBook (entries ++ entry_of key command change.legs ∷ [])
  grown = book-grows entries key command change.legs is_book step

  pub leaves : (trees : Trees) (tables : Tables) → StandFor tables entries
      → Holds layout trees (written_all (writes_of known.facts key command change) tables) → LeavesEntry entries key command trees
  leaves trees tables stand holds = (
    entries ++ entry_of key command change.legs ∷ [],
    (change.legs, step, refl),
    record { book = grown; tables = written_all (writes_of known.facts key command change) tables; holds = holds; stand = (kept tables stand).1 },
  )

  pub stands_on : (s : State) (tables : Tables) → StandFor tables entries
      → Has s (written_all (writes_of known.facts key command change) tables)
      → JudgesOn entries key command Accepted (entries ++ entry_of key command change.legs ∷ []) × Stands s (entries ++ entry_of key command change.legs ∷ [])
  stands_on s tables stand has = (
    (change.legs, step, refl),
    record { book = grown; tables = written_all (writes_of known.facts key command change) tables; has = has; stand = (kept tables stand).1 },
  )

-- ---- what was looked at, with what was kept

-- What is known of a book that the tables stand for, of which was what was kept: it agrees with the book on what the command
-- looks at, and what was looked at is of the book.
abbrev pub LooksOn : (Kept Looked : List Entry → Type 0) → FactsWithOpenings → Key → Command → State → Type 0
LooksOn Kept Looked known key command old =
    (tables : Tables) → Has old tables → (entries : List Entry) → IsBook entries → StandFor tables entries → Kept entries
    → Looked entries × AgreesWithOpenings known (facts_with_openings entries key) command

-- ---- a command that changes nothing, after what it looks at was read

module _ (Kept Looked : List Entry → Type 0) (key : Key) (command : Command) (known : FactsWithOpenings) (old new : State) (same : HasCleanDisk new → IsUnchanged old new)
    (looks : HasCleanDisk new → LooksOn Kept Looked known key command old)
    (settled : HasCleanDisk new → IsTrue old.is_open → old.now ≡ old.committed) (crash : Survives old new (λ _. ⊥)) where
  stays : HasCleanDisk new → (entries : List Entry) → StandsWith Kept old entries → StandsWith Looked new entries
  stays clean entries there =
      (stands_along old new entries (same clean).0.now_is there.0, (looks clean there.0.tables there.0.has entries there.0.book there.0.stand there.1).0)

  agrees : HasCleanDisk new → (entries : List Entry) → StandsWith Kept old entries → AgreesWithOpenings known (facts_with_openings entries key) command
  agrees clean entries there = (looks clean there.0.tables there.0.has entries there.0.book there.0.stand there.1).1

  keeps : HasCleanDisk new → KeepsCommit old new
  keeps clean = record { was_open = λ _. (same clean).0.was_open; committed = λ _. (same clean).0.committed_is }

  committed : HasCleanDisk new → IsTrue new.is_open × (new.committed ≡ new.now)
  committed clean =
      let it = (same clean).0 in (it.is_open, it.committed_is ∙ sym (settled clean it.was_open) ∙ sym it.now_is)

  pub repeats : DecidesByOpening known command Repeat → AppliesWith Kept Looked key command old new (Ok Repeated)
  repeats decides = record {
    judged = λ clean entries there.
        (entries, (step_where_agreed Second known entries key command Repeat (agrees clean entries there) decides, refl), stays clean entries there);
    settled = committed;
    rest = same;
    damaged = λ clean is. cc;
    crash = leaves_none old new (MayAdd (StandsWith Kept old) key command (Ok Repeated)) crash;
  }

  pub refuses : (refusal : Refusal) → DecidesByOpening known command (Refuse refusal) → AppliesWith Kept Looked key command old new (Ok (Refused refusal))
  refuses refusal decides = record {
    judged = λ clean entries there.
        (entries, (step_where_agreed Second known entries key command (Refuse refusal) (agrees clean entries there) decides, refl), stays clean entries there);
    settled = committed;
    rest = same;
    damaged = λ clean is. cc;
    crash = leaves_none old new (MayAdd (StandsWith Kept old) key command (Ok (Refused refusal))) crash;
  }

-- ---- a command that is accepted, after what it looks at was read, with its writes committed or not

module _ (law : KeepsBook) (Kept Looked : List Entry → Type 0) (key : Key) (command : Command) (known : FactsWithOpenings) (change : Change) (writes : List Write)
    (are : writes ≡ writes_of known.facts key command change) (comes : IsAcceptedWith known command change) (ordered : ListsInOrder command change)
    (sayable : IsSayable command) (good : All IsGood writes) (old mid new : State) (same : HasCleanDisk mid → IsUnchanged old mid)
    (looks : HasCleanDisk mid → LooksOn Kept Looked known key command old)
    (settled : HasCleanDisk mid → IsTrue old.is_open → old.now ≡ old.committed) (looked : Survives old mid (λ _. ⊥)) where
  all_good : All IsGood (writes_of known.facts key command change)
  all_good = subst (All IsGood) are good

  -- the tables that were looked at are those that are written
  has_then : HasCleanDisk mid → (tables : Tables) → Has old tables → Has mid tables
  has_then clean tables has = subst (λ (db : Database). (db.schema ≡ layout.schema) × Holds layout db.trees tables) (sym (same clean).0.now_is) has

  told : HasCleanDisk mid → (entries : List Entry) → (there : StandsWith Kept old entries) → Looked entries × AgreesWithOpenings known (facts_with_openings entries key) command
  told clean entries there = looks clean there.0.tables there.0.has entries there.0.book there.0.stand there.1

  fit : HasCleanDisk mid → (entries : List Entry) → (there : StandsWith Kept old entries) → AreFit writes there.0.tables
  fit clean entries there =
      subst (λ w. AreFit w there.0.tables) (sym are)
      (kept law entries key command known change there.0.book (told clean entries there).1 comes.0 comes.1 ordered sayable all_good there.0.tables there.0.stand).0

  leave : HasCleanDisk mid → (trees : Trees) → ((tables : Tables) → Has mid tables → Holds layout trees (written_all writes tables))
      → (entries : List Entry) → StandsWith Kept old entries → LeavesEntry entries key command trees
  leave clean trees written entries there =
      let tables = there.0.tables in
      let holds = written tables (has_then clean tables there.0.has) in
      leaves law entries key command known change there.0.book (told clean entries there).1 comes.0 comes.1 ordered sayable all_good trees tables there.0.stand
      (subst (λ w. Holds layout trees (written_all w tables)) are holds)

  -- what is kept then is of the book with the entry
  pub accepts : (KeptThen : List Entry → Type 0)
      → ((entries : List Entry) → IsBook entries → Looked entries → AgreesWithOpenings known (facts_with_openings entries key) command → KeptThen (entries ++ entry_of key command change.legs ∷ []))
      → (HasCleanDisk new → WritesDown writes mid new) → Survives mid new (MayWrite {A = Unit {0}} writes mid (Ok tt))
      → AppliesWith Kept KeptThen key command old new (Ok Accepted)
  accepts KeptThen records done crash = record {
    judged = λ clean entries there.
        let early : HasCleanDisk mid = omega (arith, clean, crash.clean) in
        let tables = there.0.tables in
        let now = told early entries there in
        let has = (done clean).tables tables (has_then early tables there.0.has) in
        let it =
        stands_on law entries key command known change there.0.book now.1 comes.0 comes.1 ordered sayable all_good new tables there.0.stand
        (subst (λ w. Has new (written_all w tables)) are has) in
        (entries ++ entry_of key command change.legs ∷ [], it.0, (it.1, records entries there.0.book now.0 now.1));
    settled = λ clean. ((done clean).is_open, (done clean).committed);
    rest = λ clean. tt;
    damaged = λ clean is. cc;
    crash = survives_then old mid new (λ _. ⊥) (MayWrite {A = Unit {0}} writes mid (Ok tt)) (MayAdd (StandsWith Kept old) key command (Ok Accepted)) (λ clean db none. absurd none)
        (λ clean db written. leave (omega (arith, clean, crash.clean)) db written) looked crash;
  }

  may_add : HasCleanDisk mid → (fault : StoreFault) (db : Trees) → MayWrite {A = Unit {0}} writes mid (Err fault) db → MayAdd (StandsWith Kept old) key command (Err fault) db
  may_add clean InDoubt db written = leave clean db written
  may_add clean Memory db written = leave clean db written
  may_add clean Device db none = none
  may_add clean NeedsReopen db none = none
  may_add clean Damaged db none = none

  pub fails : (KeptThen : List Entry → Type 0) (fault : StoreFault) → (HasCleanDisk new → KeepsCommit mid new) → (HasCleanDisk new → IsTrue new.is_open → new.now ≡ new.committed)
      → (HasCleanDisk new → fault ≡ Damaged → (tables : Tables) → AreFit writes tables → ¬ Has mid tables)
      → Survives mid new (MayWrite {A = Unit {0}} writes mid (Err fault)) → AppliesWith Kept KeptThen key command old new (Err fault)
  fails KeptThen fault kept_last now_is found crash = record {
    judged = λ clean entries there. tt;
    settled = λ clean. tt;
    rest = λ clean.
        let early : HasCleanDisk mid = omega (arith, clean, crash.clean) in
        let it = (same early).0 in
        let before : KeepsCommit old mid = record { was_open = λ _. it.was_open; committed = λ _. it.committed_is } in (
          keeps_then old mid new before (kept_last clean),
          λ opened. now_is clean opened ∙ (kept_last clean).committed opened ∙ it.committed_is ∙ sym (settled early it.was_open),
        );
    damaged = λ clean is entries there.
        let early : HasCleanDisk mid = omega (arith, clean, crash.clean) in
        let same_fault : fault ≡ Damaged = cc in
        found clean same_fault there.0.tables (fit early entries there) (has_then early there.0.tables there.0.has);
    crash = survives_then old mid new (λ _. ⊥) (MayWrite {A = Unit {0}} writes mid (Err fault)) (MayAdd (StandsWith Kept old) key command (Err fault)) (λ clean db none. absurd none)
        (λ clean db written. may_add (omega (arith, clean, crash.clean)) fault db written) looked crash;
  }

  pub refused : HasCleanDisk mid → ((tables : Tables) → AreFit writes tables → Has mid tables → DiskFailed mid new ⊎ Stops writes tables mid.now.trees new)
      → RefusedByDeviceWith Kept key command old new
  refused clean cause entries stands is_kept =
      by_cause (cause stands.tables (fit clean entries (stands, is_kept)) (has_then clean stands.tables stands.has))
    where
      open_shut : (s : State) → IsTrue s.is_open → s.is_open ≡ false → ⊥
      open_shut s opened shut = cc

      by_cause : DiskFailed mid new ⊎ Stops writes stands.tables mid.now.trees new → DiskFailed old new ⊎ HasNoRoomFor key command entries stands.tables old.now.trees new
      by_cause (inl (inl more)) = inl (inl (omega (arith, more, looked.counts)))
      by_cause (inl (inr shut)) = absurd (open_shut mid (same clean).0.is_open shut)
      by_cause (inr stops) = inr (record {
        known = known;
        change = change;
        agrees = (told clean entries (stands, is_kept)).1;
        accepted = comes;
        lacks = inr (subst₂ (λ (w : List Write) (d : Database). Stops w stands.tables d.trees new) are (same clean).0.now_is stops);
      })

-- ---- no row is written

-- it comes to a fault before that
pub fails_unwritten : (Kept KeptThen : List Entry → Type 0) (key : Key) (command : Command) (old new : State) (fault : StoreFault) → ¬ (fault ≡ Damaged)
    → (HasCleanDisk new → IsUnchanged old new) → Survives old new (λ _. ⊥) → AppliesWith Kept KeptThen key command old new (Err fault)
fails_unwritten Kept KeptThen key command old new fault apart same crash = record {
  judged = λ clean entries there. tt;
  settled = λ clean. tt;
  rest = λ clean.
      (record { was_open = λ _. (same clean).0.was_open; committed = λ _. (same clean).0.committed_is }, λ opened. (same clean).0.now_is);
  damaged = λ clean is entries there. let told : fault ≡ Damaged = cc in apart told;
  crash = leaves_none old new (MayAdd (StandsWith Kept old) key command (Err fault)) crash;
}

-- a number of what is accepted doesn't fit its column
pub refused_number : (Kept Looked : List Entry → Type 0) (key : Key) (command : Command) (known : FactsWithOpenings) (change : Change) (old mid : State) → IsAcceptedWith known command change
    → LooksOn Kept Looked known key command old → ¬ AreNumbered change
    → RefusedByDeviceWith Kept key command old mid
refused_number Kept Looked key command known change old mid comes looks numbers entries stands is_kept = inr (record {
  known = known;
  change = change;
  agrees = (looks stands.tables stands.has entries stands.book stands.stand is_kept).1;
  accepted = comes;
  lacks = inl numbers;
})

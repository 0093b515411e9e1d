-- Commands that are applied all or none: one more in an open transaction, all of them, and the commit.
use Rattle.std.proofs.Common.{◌≡◌, ◌≢◌, ◌∙◌, ◌⊎◌, inl, inr, ◌<◌, ◌+◌, ℕ, Bool, true, false, IfErr, IfOk, IsTrue, OnOk, List, [], ◌∷◌, ◌++◌, All, None, Some, Option, Ok, Err, Result, length, map, not, take, drop, get_or, append-nil, refl, sym, ap, subst, subst₂, arith}
use Rattle.std.proofs.lemmas.Bool.{true≢false}
use Rattle.std.specs.List.{AllByRecursion}
use Rattle.sqlite.specs.Effect.{Database}
use Rattle.sqlite.specs.Held.{Held, state}
use Rattle.sqlite.specs.State.{HasCleanDisk, IsRolledBack, IsUnchanged, HasCause, KeepsCommit, KeepsCounts, Shows, State, Survives, store_error}
use Rattle.sqlite.specs.Steps.{FailsToCommit}
use Rattle.sqlite.specs.Store.{Ghosts}
use Rattle.sqlite.specs.Tree.{Trees}
use Rattle.sqlite.specs.declared.error.Error.{Error}
use Rattle.sqlite.specs.declared.error.Error.TheVariants.{SqliteFailure}
use Rattle.sqlite.specs.declared.error.ErrorCode.TheVariants as code
use Rattle.sqlite_keyed.proofs.ListLemmas.{all-append}
use Rattle.sqlite_trees.specs.declared.error.StoreError.{StoreError}
use Rattle.sqlite_trees.specs.declared.error.StoreError.TheVariants as store
use Rattle.sqlite.proofs.Callers.{survives_begin}
use Rattle.sqlite.proofs.StateLemmas.{survives_then}
use Rattle.lot_command.specs.Sayable.{IsSayable}
use Rattle.lot_command.specs.declared.command.Command.{Command}
use Rattle.lot_command.specs.declared.key.Key.{Key}
use Rattle.lot_book.specs.Book.{IsBook, entry_of}
use Rattle.lot_book.specs.Edition.{Second}
use Rattle.lot_book.specs.Facts.{Entry}
use Rattle.lot_book.specs.Judged.{JudgesOn}
use Rattle.lot_book.specs.Openings.{AgreesWithOpenings, DecidesByOpening, FactsWithOpenings, IsAcceptedWith, facts_with_openings}
use Rattle.lot_book.specs.Step.{Refuse, Repeat}
use Rattle.lot_book.specs.Touched.{pairs_in}
use Rattle.lot_book.specs.declared.change.Change.{Change}
use Rattle.lot_book.specs.declared.refusal.Refusal.{Refusal}
use Rattle.lot_book.specs.declared.verdict.Verdict.{Verdict}
use Rattle.lot_book.specs.declared.verdict.Verdict.TheVariants.{Accepted, Refused, Repeated}
use Rattle.lot_laws.proofs.StepOpenings.{step_where_agreed}
use Rattle.lot_load.specs.Kept.{IsOf, Keeps}
use Rattle.lot_load.specs.Paired.{AreWholeOrPaired, HaveAllPaired, HavePairedFor, KeepsPaired, whole_pairs}
use Rattle.lot_load.specs.Tells.{Tells}
use Rattle.lot_load.specs.declared.kept.Kept.{Kept as KeptOf}
use Rattle.lot_rounding.specs.declared.asked.Asked.{Asked}
use Rattle.lot_rounding.specs.declared.rounding.Rounding.{Rounding}
use Rattle.lot_rows.proofs.StateLemmas.{survives_same}
use Rattle.lot_rows.specs.Tables.{Has, Tables, layout}
use Rattle.lot_stored.specs.StandFor.{AreOfBook, Left, Stands}
use Rattle.lot_table.proofs.MakeLemmas.{keeps_then, keeps_undone}
use Rattle.lot_table.proofs.RowidLemmas.{each_in_reach, each_then}
use Rattle.lot_table.specs.Rowids.{EachStaysInReach}
use Rattle.lot_table.specs.Book.{Holds, IsUndone, always}
use Rattle.lot_table.specs.Call.{Answers}
use Rattle.lot_table.specs.Statement.{DiskFailed}
use Rattle.lot_table.specs.declared.fault.Fault.{Fault}
use Rattle.lot_table.specs.declared.fault.Fault.TheVariants as table
use Rattle.lot_write.specs.Call.{Stops, WritesAll}
use Rattle.lot_write.specs.Write.{AreFit, IsGood, written_all}
use Rattle.lot_write.specs.Writes.{AreNumbered, ListsInOrder, writes_of}
use Rattle.lot_write.specs.declared.write.Write.{Write}
use Rattle.lot_atomic.specs.AllOrNone.{AppliesAll, AppliesTurned, ChangesBy, IsTurnedAs, ChangeRows, ChangesRows, FailsByText, IsOfDamagedText, JudgesByText, MeetsDamageFirst, JudgesAllAsked, JudgesAllTurned, JudgesAsked, JudgesFirst, JudgesNext, JudgesPairs, JudgesTurned, KeepsAll, LacksRoomForNext, LeavesAll, MayKeep, StopsAll, StopsInside, comes_to, ended_by, joined, together}
use Rattle.lot_store.specs.Apply.{HasNoRoomFor, RefusedByDeviceWith, StandsWith, commit_fault_of, commit_outcome, store_fault_of}
use Rattle.lot_store.specs.ByText.{MeetsUnpairedFirst, TurnAllByText}
use Rattle.lot_store.specs.Damage.{IsOfDamage}
use Rattle.lot_store.specs.Step.{LeavesTables}
use Rattle.lot_store.proofs.ByTextLemmas.{has_along, turn_more}
use Rattle.lot_store.proofs.DamageLemmas.{looked_at, of_damage_since}
use Rattle.lot_store.specs.Turned.{AreTurnedOn, IsTurned, handed, judged_of}
use Rattle.lot_atomic.specs.declared.all_or_none.Ended.TheVariants as ending
use Rattle.lot_atomic.specs.declared.all_or_none.Together.{Together}
use Rattle.lot_atomic.specs.declared.all_or_none.Together.TheVariants.{Accepts, Refuses, Repeats}
use Rattle.lot_store.specs.declared.fault.StoreFault.{StoreFault}
use Rattle.lot_store.specs.declared.fault.StoreFault.TheVariants.{Damaged, Device, InDoubt, Memory, NeedsReopen}
use Rattle.lot_store.specs.declared.turn.Turn.{Turn}
use Rattle.lot_store.proofs.ApplyLemmas.{KeepsBook, LooksOn, kept, stands_along, stands_on}
use Rattle.lot_store.proofs.CommitLemmas.{commit_leaves}
use Rattle.lot_store.proofs.RunLemmas.{turns_more}
use Rattle.lot_store.proofs.PairedLemmas.{all_before, none_whole, paired_before, whole_then}
use Rattle.lot_store.proofs.TurnLemmas.{SaysTurn, all_of, keeps_both, taken}

-- ---- verdicts together

joined_none : (a : Together) → joined a Repeats ≡ a
joined_none Refuses = refl
joined_none Accepts = refl
joined_none Repeats = refl

joined_assoc : (a b c : Together) → joined a (joined b c) ≡ joined (joined a b) c
joined_assoc Refuses b c = refl
joined_assoc Repeats b c = refl
joined_assoc Accepts Refuses c = refl
joined_assoc Accepts Repeats c = refl
joined_assoc Accepts Accepts Refuses = refl
joined_assoc Accepts Accepts Accepts = refl
joined_assoc Accepts Accepts Repeats = refl

-- one verdict more
pub together_more : (verdicts : List Verdict) (verdict : Verdict) → together (verdicts ++ verdict ∷ []) ≡ joined (together verdicts) (comes_to verdict)
together_more [] verdict = joined_none (comes_to verdict)
together_more (first ∷ verdicts) verdict =
    ap (joined (comes_to first)) (together_more verdicts verdict) ∙ joined_assoc (comes_to first) (together verdicts) (comes_to verdict)

-- two come to a repeat where each does
joined_repeats : (a b : Together) → joined a b ≡ Repeats → (a ≡ Repeats) × (b ≡ Repeats)
joined_repeats Repeats b is = (refl, is)
joined_repeats Refuses b is = absurd cc
joined_repeats Accepts Refuses is = absurd cc
joined_repeats Accepts Accepts is = absurd cc
joined_repeats Accepts Repeats is = absurd cc

unchanged_by : (verdict : Verdict) (old new : State) → comes_to verdict ≡ Repeats → ChangesBy verdict old new → new.now ≡ old.now
unchanged_by Accepted old new is changes = absurd cc
unchanged_by Repeated old new is changes = changes
unchanged_by (Refused refusal) old new is changes = absurd cc

-- ---- without an account

keyed_is : (t : Key × Command) (key : Key) (command : Command) → t.0 ≡ key → t.1 ≡ command → t ≡ (key, command)
keyed_is (k, c) key command is same = rw (is, same) refl

-- what was handed in is judged itself
pub turned_themselves : (before : List Entry) (asked : List (Key × Asked)) (turned : List (Key × Command)) (verdicts : List Verdict) (after : List Entry)
    → AreTurnedOn None before asked turned verdicts after → turned ≡ map handed asked
turned_themselves before [] [] [] after is = refl
turned_themselves before [] [] (v ∷ vs) after is = absurd is
turned_themselves before [] (t ∷ ts) vs after is = absurd is
turned_themselves before (a ∷ as_) [] vs after is = absurd is
turned_themselves before (a ∷ as_) (t ∷ ts) [] after is = absurd is
turned_themselves before (a ∷ as_) (t ∷ ts) (v ∷ vs) after (one, mid, judges, rest) =
    ap (λ (k : Key × Command). k ∷ ts) (keyed_is t a.0 a.1.command one.0 one.1)
    ∙ ap (λ (ks : List (Key × Command)). handed a ∷ ks) (turned_themselves mid as_ ts vs after rest)

-- ---- a disk that failed since, or before

pub failed_since : (a b c : State) (P : Trees → Type 0) → Survives a b (λ _. ⊥) → Survives b c P → HasCleanDisk c → DiskFailed b c → DiskFailed a c
failed_since a b c P one two clean (inl more) = inl (omega (arith, more, one.counts))
failed_since a b c P one two clean (inr shut) = by a.is_open refl
  where
    open_shut : IsTrue b.is_open → b.is_open ≡ false → ⊥
    open_shut opened is = cc

    by : (was : Bool) → a.is_open ≡ was → DiskFailed a c
    by false is = inr is
    by true is =
        elim (one.closes (omega (arith, clean, two.clean)) is) [ inl opened ↦ absurd (open_shut opened shut) | inr more ↦ inl (omega (arith, more, two.counts)) ]

-- ---- a command that changes nothing, after what it looks at was read

module _ (Kept Looked : List Entry → Type 0) (key : Key) (command : Command) (known : FactsWithOpenings) (old mid : State)
    (inside : HasCleanDisk old → IsTrue old.in_transaction) (same : HasCleanDisk mid → IsUnchanged old mid)
    (looks : HasCleanDisk mid → LooksOn Kept Looked known key command old) (crash : Survives old mid (λ _. ⊥)) where
  told : HasCleanDisk mid → (entries : List Entry) (there : StandsWith Kept old entries)
      → Looked entries × AgreesWithOpenings known (facts_with_openings entries key) command
  told clean entries there = looks clean there.0.tables there.0.has entries there.0.book there.0.stand there.1

  stays : HasCleanDisk mid → (entries : List Entry) → StandsWith Kept old entries → StandsWith Looked mid entries
  stays clean entries there = (stands_along old mid entries (same clean).0.now_is there.0, (told clean entries there).0)

  still : HasCleanDisk mid → IsTrue mid.in_transaction
  still clean = (same clean).0.mode ∙ inside (omega (arith, clean, crash.clean))

  keeps : HasCleanDisk mid → KeepsCommit old mid
  keeps clean = record { was_open = λ _. (same clean).0.was_open; committed = λ _. (same clean).0.committed_is }

  none_changed : HasCleanDisk mid → EachStaysInReach 0 layout.schema old.now.trees mid.now.trees
  none_changed clean =
      subst (λ (d : Database). EachStaysInReach 0 layout.schema old.now.trees d.trees) (sym (same clean).0.now_is) (each_in_reach old.now.trees layout.schema.tables)

  pub repeats_inside : DecidesByOpening known command Repeat → JudgesNext Kept Looked key command old mid (Ok Repeated)
  repeats_inside decides = record {
    judged = λ clean entries there.
        (entries, (step_where_agreed Second known entries key command Repeat (told clean entries there).1 decides, refl), stays clean entries there);
    inside = still;
    changes = λ clean. (same clean).0.now_is;
    rowids = λ clean entries there. (0, refl, none_changed clean);
    rest = keeps;
    damaged = λ clean is. cc;
    device = λ clean is. cc;
    crash = crash;
  }

  pub refuses_inside : (refusal : Refusal) → DecidesByOpening known command (Refuse refusal) → JudgesNext Kept Looked key command old mid (Ok (Refused refusal))
  refuses_inside refusal decides = record {
    judged = λ clean entries there.
        (entries, (step_where_agreed Second known entries key command (Refuse refusal) (told clean entries there).1 decides, refl), stays clean entries there);
    inside = still;
    changes = λ clean. (same clean).0.now_is;
    rowids = λ clean entries there. (0, refl, none_changed clean);
    rest = keeps;
    damaged = λ clean is. cc;
    device = λ clean is. cc;
    crash = crash;
  }

  -- it comes to a fault before a row is written
  pub unwritten_inside : (KeptThen : List Entry → Type 0) (fault : Fault) → fault ≢ table.Damaged
      → (HasCleanDisk mid → fault ≡ table.Device → RefusedByDeviceWith Kept key command old mid)
      → JudgesNext Kept KeptThen key command old mid (Err fault)
  unwritten_inside KeptThen fault apart cause = record {
    judged = λ clean. tt;
    inside = λ clean. tt;
    changes = λ clean. tt;
    rowids = λ clean. tt;
    rest = keeps;
    damaged = λ clean is. let it : fault ≡ table.Damaged = cc in absurd (apart it);
    device = λ clean is. let it : fault ≡ table.Device = cc in cause clean it;
    crash = crash;
  }

  -- ---- a command that is accepted: its writes are made or not

  module _ (law : KeepsBook) (change : Change) (writes : List Write) (are : writes ≡ writes_of known.facts key command change)
      (comes : IsAcceptedWith known command change) (ordered : ListsInOrder command change) (sayable : IsSayable command)
      (good : All IsGood writes) (new : State) where
    all_good : All IsGood (writes_of known.facts key command change)
    all_good = subst (All IsGood) are good

    has_then : HasCleanDisk mid → (tables : Tables) → Has old tables → Has mid tables
    has_then clean tables has =
        subst (λ (db : Database). (db.schema ≡ layout.schema) × Holds layout db.trees tables) (sym (same clean).0.now_is) has

    fit : HasCleanDisk mid → (entries : List Entry) → (there : StandsWith Kept old entries) → AreFit writes there.0.tables
    fit clean entries there =
        subst (λ w. AreFit w there.0.tables) (sym are)
        (kept law entries key command known change there.0.book (told clean entries there).1 comes.0 comes.1 ordered sayable all_good there.0.tables there.0.stand).0

    -- what is kept then is of the book with the entry
    pub accepts_inside : (KeptThen : List Entry → Type 0)
        → ((entries : List Entry) → IsBook entries → Looked entries → AgreesWithOpenings known (facts_with_openings entries key) command
        → KeptThen (entries ++ entry_of key command change.legs ∷ []))
        → WritesAll {A = Unit {0}} writes mid new (Ok tt) → JudgesNext Kept KeptThen key command old new (Ok Accepted)
    accepts_inside KeptThen records wrote = record {
      judged = λ clean entries there.
          let early : HasCleanDisk mid = omega (arith, clean, wrote.crash.clean) in
          let tables = there.0.tables in
          let now = told early entries there in
          let was = has_then early tables there.0.has in
          let turns = wrote.turns clean in
          let has : Has new (written_all writes tables) = (turns.book was.0, turns.lists was.0 tables was.1 tt) in
          let it =
          stands_on law entries key command known change there.0.book now.1 comes.0 comes.1 ordered sayable all_good new tables there.0.stand
          (subst (λ w. Has new (written_all w tables)) are has) in
          (entries ++ entry_of key command change.legs ∷ [], it.0, (it.1, records entries there.0.book now.0 now.1));
      inside = wrote.inside;
      changes = λ clean. tt;
      rowids = λ clean entries there.
          let early : HasCleanDisk mid = omega (arith, clean, wrote.crash.clean) in (
            length writes,
            (known, change, (told early entries there).1, comes, ap length are),
            subst (λ (d : Database). EachStaysInReach (length writes) layout.schema d.trees new.now.trees) (same early).0.now_is
                (wrote.rowids clean there.0.tables (has_then early there.0.tables there.0.has)),
          );
      rest = λ clean. keeps_then old mid new (keeps (omega (arith, clean, wrote.crash.clean))) (wrote.kept clean);
      damaged = λ clean is. cc;
      device = λ clean is. cc;
      crash = survives_then old mid new (λ _. ⊥) (λ _. ⊥) (λ _. ⊥) (λ _ db none. none) (λ _ db none. none) crash wrote.crash;
    }

    pub unmade_inside : (KeptThen : List Entry → Type 0) (fault : Fault) → old.step_limit ≡ None
        → WritesAll {A = Unit {0}} writes mid new (Err fault) → JudgesNext Kept KeptThen key command old new (Err fault)
    unmade_inside KeptThen fault unlimited wrote = record {
      judged = λ clean. tt;
      inside = λ clean. tt;
      changes = λ clean. tt;
      rowids = λ clean. tt;
      rest = λ clean. keeps_then old mid new (keeps (omega (arith, clean, wrote.crash.clean))) (wrote.kept clean);
      damaged = λ clean is entries there.
          let early : HasCleanDisk mid = omega (arith, clean, wrote.crash.clean) in
          let it : fault ≡ table.Damaged = cc in
          wrote.damaged clean (ap Err it) (crash.limit ∙ unlimited) there.0.tables (fit early entries there) (has_then early there.0.tables there.0.has);
      device = λ clean is entries stands is_kept.
          let early : HasCleanDisk mid = omega (arith, clean, wrote.crash.clean) in
          let it : fault ≡ table.Device = cc in
          refused_by clean early entries stands is_kept
          (wrote.device clean (ap Err it) stands.tables (fit early entries (stands, is_kept)) (has_then early stands.tables stands.has));
      crash = survives_then old mid new (λ _. ⊥) (λ _. ⊥) (λ _. ⊥) (λ _ db none. none) (λ _ db none. none) crash wrote.crash;
    }
      where
        refused_by : HasCleanDisk new → HasCleanDisk mid → (entries : List Entry) (stands : Stands old entries) → Kept entries
            → DiskFailed mid new ⊎ Stops writes stands.tables mid.now.trees new
            → DiskFailed old new ⊎ HasNoRoomFor key command entries stands.tables old.now.trees new
        refused_by clean early entries stands is_kept (inl failed) = inl (failed_since old mid new _ crash wrote.crash clean failed)
        refused_by clean early entries stands is_kept (inr stops) = inr (record {
          known = known;
          change = change;
          agrees = (told early entries (stands, is_kept)).1;
          accepted = comes;
          lacks = inr (subst₂ (λ (w : List Write) (d : Database). Stops w stands.tables d.trees new) are (same early).0.now_is stops);
        })

-- ---- a command that comes to a fault as it is looked at

pub unread_inside : {R : Type 0} (Says : R → Tables → Type 0) (Kept KeptThen : List Entry → Type 0) (key : Key) (command : Command) (old new : State)
    (fault : Fault) → old.step_limit ≡ None → Answers layout Says always AreOfBook old new (Err fault)
    → JudgesNext Kept KeptThen key command old new (Err fault)
unread_inside Says Kept KeptThen key command old new fault unlimited read = record {
  judged = λ clean. tt;
  inside = λ clean. tt;
  changes = λ clean. tt;
  rowids = λ clean. tt;
  rest = λ clean. keeps_undone old new (read.undone clean);
  damaged = λ clean is entries there.
      let it : fault ≡ table.Damaged = cc in
      read.damaged clean (ap Err it) unlimited there.0.tables there.0.has (entries, there.0.book, there.0.stand);
  device = λ clean is entries stands is_kept. let it : fault ≡ table.Device = cc in inl (read.device clean (ap Err it));
  crash = read.crash;
}

-- ---- a command that was handed in

-- without an account it is judged itself
pub turned_none : (kept kept_then : Option KeptOf) (asked : Key × Asked) (old new : State) (result : Result Verdict Fault)
    → JudgesNext (IsOf kept) (IsOf kept_then) asked.0 asked.1.command old new result
    → JudgesByText asked.0 asked.1.command old new result → FailsByText asked.0 old new result → JudgesPairs kept kept_then asked.1.command old new result
    → JudgesAsked kept kept_then None asked old new result
turned_none kept kept_then asked old new result next text damage pairs = (
  handed asked,
  record { turns = λ clean entries there. as_handed result entries; next = next; text = text; damage = damage; pairs = pairs },
)
  where
    as_handed : (r : Result Verdict Fault) (entries : List Entry) → IsTurnedAs r None entries asked (handed asked)
    as_handed (Ok verdict) entries = (refl, refl)
    as_handed (Err fault) entries = inr refl

-- a fault comes as it is worked out what is judged
pub turned_not : {R : Type 0} (Says : R → Tables → Type 0) (kept kept_then : Option KeptOf) (rounding : Option Rounding) (asked : Key × Asked) (old new : State)
    (fault : Fault) → old.step_limit ≡ None → Answers layout Says always AreOfBook old new (Err fault) → kept_then ≡ None
    → JudgesAsked kept kept_then rounding asked old new (Err fault)
turned_not Says kept kept_then rounding asked old new fault unlimited read none = (
  handed asked,
  record {
    turns = λ clean entries there. inr refl;
    next = unread_inside Says (IsOf kept) (IsOf kept_then) asked.0 asked.1.command old new fault unlimited read;
    text = λ clean tables has. tt;
    damage = λ clean tables has damaged. looked_at fault old new (Err (store_fault_of fault)) refl (λ is. read.device clean (ap Err is));
    pairs = record {
      unpaired = λ clean tables has unpaired. looked_at fault old new (Err (store_fault_of fault)) refl (λ is. read.device clean (ap Err is));
      paired = λ clean. tt;
      whole = λ clean tables has. none_whole kept tables kept_then none;
    };
  },
)

module _ (kept kept_mid kept_then : Option KeptOf) (rounding : Option Rounding) (asked : Key × Asked) (turned : Key × Command) (old mid new : State)
    (same : HasCleanDisk mid → IsUnchanged old mid) (crash : Survives old mid (λ _. ⊥)) (keeps : KeepsPaired kept kept_mid old mid)
    (turns : HasCleanDisk mid → (entries : List Entry) → StandsWith (IsOf kept) old entries → IsTurned rounding entries asked turned × IsOf kept_mid entries) where
  abbrev there_mid : HasCleanDisk mid → (entries : List Entry) → StandsWith (IsOf kept) old entries → StandsWith (IsOf kept_mid) mid entries
  there_mid clean entries there = (stands_along old mid entries (same clean).0.now_is there.0, (turns clean entries there).1)

  keeps_mid : HasCleanDisk mid → KeepsCommit old mid
  keeps_mid clean = record { was_open = λ _. (same clean).0.was_open; committed = λ _. (same clean).0.committed_is }

  changes_since : HasCleanDisk mid → (r : Result Verdict Fault) → IfOk r (λ verdict. ChangesBy verdict mid new) → IfOk r (λ verdict. ChangesBy verdict old new)
  changes_since clean (Err fault) changes = tt
  changes_since clean (Ok Accepted) changes = tt
  changes_since clean (Ok Repeated) changes = changes ∙ (same clean).0.now_is
  changes_since clean (Ok (Refused refusal)) changes = changes ∙ (same clean).0.now_is

  as_turned : HasCleanDisk mid → (r : Result Verdict Fault) (entries : List Entry) → StandsWith (IsOf kept) old entries → IsTurnedAs r rounding entries asked turned
  as_turned clean (Ok verdict) entries there = (turns clean entries there).0
  as_turned clean (Err fault) entries there = inl (turns clean entries there).0

  judged_since : HasCleanDisk mid → (r : Result Verdict Fault)
      → IfOk r (λ verdict. (entries : List Entry) → StandsWith (IsOf kept_mid) mid entries → (after : List Entry) × JudgesOn entries turned.0 turned.1 verdict after × StandsWith (IsOf kept_then) new after)
      → IfOk r (λ verdict. (entries : List Entry) → StandsWith (IsOf kept) old entries → (after : List Entry) × JudgesOn entries turned.0 turned.1 verdict after × StandsWith (IsOf kept_then) new after)
  judged_since clean (Err fault) judged = tt
  judged_since clean (Ok verdict) judged = λ entries there. judged entries (there_mid clean entries there)

  rowids_since : HasCleanDisk mid → (r : Result Verdict Fault)
      → IfOk r (λ verdict. (entries : List Entry) → StandsWith (IsOf kept_mid) mid entries
      → (count : ℕ) × ChangesRows entries turned.0 turned.1 verdict count × EachStaysInReach count layout.schema mid.now.trees new.now.trees)
      → IfOk r (λ verdict. (entries : List Entry) → StandsWith (IsOf kept) old entries
      → (count : ℕ) × ChangesRows entries turned.0 turned.1 verdict count × EachStaysInReach count layout.schema old.now.trees new.now.trees)
  rowids_since clean (Err fault) rowids = tt
  rowids_since clean (Ok verdict) rowids = λ entries there.
      let it = rowids entries (there_mid clean entries there) in
      (it.0, it.1, subst (λ (d : Database). EachStaysInReach it.0 layout.schema d.trees new.now.trees) (same clean).0.now_is it.2)

  -- what is judged in its place comes to this
  pub turned_so : (result : Result Verdict Fault) → JudgesNext (IsOf kept_mid) (IsOf kept_then) turned.0 turned.1 mid new result
      → JudgesByText turned.0 turned.1 mid new result → FailsByText turned.0 mid new result
      → JudgesPairs kept_mid kept_then turned.1 mid new result → JudgesAsked kept kept_then rounding asked old new result
  turned_so result next text damage pairs = (
    turned,
    record {
      turns = λ clean. as_turned (early clean) result;
      next = record {
        judged = λ clean. judged_since (early clean) result (next.judged clean);
        inside = next.inside;
        changes = λ clean. changes_since (early clean) result (next.changes clean);
        rowids = λ clean. rowids_since (early clean) result (next.rowids clean);
        rest = λ clean. keeps_then old mid new (keeps_mid (early clean)) (next.rest clean);
        damaged = λ clean is entries there. next.damaged clean is entries (there_mid (early clean) entries there);
        device = λ clean is entries stands is_kept.
            by_device clean entries stands
            (next.device clean is entries (there_mid (early clean) entries (stands, is_kept)).0 (there_mid (early clean) entries (stands, is_kept)).1);
        crash = survives_then old mid new (λ _. ⊥) (λ _. ⊥) (λ _. ⊥) (λ _ db none. none) (λ _ db none. none) crash next.crash;
      };
      text = λ clean tables has. text clean tables (has_along old mid tables (same (early clean)).0.now_is has);
      damage = λ clean tables has damaged.
          of_text clean result (damage clean tables (has_along old mid tables (same (early clean)).0.now_is has) damaged);
      pairs = record {
        unpaired = λ clean tables has unpaired.
            of_text clean result
            (pairs.unpaired clean tables (has_along old mid tables (same (early clean)).0.now_is has)
            (λ found. unpaired (whole_then kept kept_mid tables (pairs_in turned.1) (keeps (early clean) tables has) found)));
        paired = λ clean. found_since clean result (pairs.paired clean);
        whole = keeps_both kept kept_mid kept_then old mid new (λ clean. same (early clean)) early keeps pairs.whole;
      };
    },
  )
    where
      of_text : HasCleanDisk new → (r : Result Verdict Fault) → IsOfDamagedText mid new r → IsOfDamagedText old new r
      of_text clean (Ok verdict) none = none
      of_text clean (Err fault) it =
          of_damage_since old mid new (failed_since old mid new _ crash next.crash clean) (Err (store_fault_of fault)) it

      early : HasCleanDisk new → HasCleanDisk mid
      early clean = omega (arith, clean, next.crash.clean)

      found_since : HasCleanDisk new → (r : Result Verdict Fault)
          → OnOk r ((tables : Tables) → Has mid tables → AreWholeOrPaired kept_mid tables (pairs_in turned.1))
          → OnOk r ((tables : Tables) → Has old tables → AreWholeOrPaired kept tables (pairs_in turned.1))
      found_since clean (Err fault) found = tt
      found_since clean (Ok verdict) found = λ tables has.
          whole_then kept kept_mid tables (pairs_in turned.1) (keeps (early clean) tables has)
          (found tables (has_along old mid tables (same (early clean)).0.now_is has))

      by_device : HasCleanDisk new → (entries : List Entry) (stands : Stands old entries)
          → DiskFailed mid new ⊎ HasNoRoomFor turned.0 turned.1 entries stands.tables mid.now.trees new
          → DiskFailed old new ⊎ HasNoRoomFor turned.0 turned.1 entries stands.tables old.now.trees new
      by_device clean entries stands (inl failed) = inl (failed_since old mid new _ crash next.crash clean failed)
      by_device clean entries stands (inr lacks) =
          inr (subst (λ (d : Database). HasNoRoomFor turned.0 turned.1 entries stands.tables d.trees new) (same (early clean)).0.now_is lacks)

-- with an account what was worked out is judged
pub turned_with : (kept : Option KeptOf) (kept_then : Option KeptOf) (rounding : Rounding) (key : Key) (asked : Asked) (looked : KeptOf) (turn : Turn) (command : Command)
    (old mid new : State) → Tells (SaysTurn kept rounding key asked) old mid (Ok (looked, turn)) → command ≡ judged_of turn asked
    → (result : Result Verdict Fault) → JudgesNext (IsOf (Some looked)) (IsOf kept_then) key command mid new result
    → JudgesByText key command mid new result → FailsByText key mid new result
    → KeepsPaired kept (Some looked) old mid → JudgesPairs (Some looked) kept_then command mid new result
    → JudgesAsked kept kept_then (Some rounding) (key, asked) old new result
turned_with kept kept_then rounding key asked looked turn command old mid new told is result next text damage keeps pairs =
    turned_so kept (Some looked) kept_then (Some rounding) (key, asked) (key, command) old mid new (λ clean. told.same clean) told.crash keeps
    (λ clean entries there.
    let it = told.says clean there.0.tables there.0.has entries there.0.book there.0.stand there.1 in
    (subst (λ (c : Command). IsTurned (Some rounding) entries (key, asked) (key, c)) (sym is) it.1, it.0))
    result next text damage pairs

-- ---- the first of the commands

-- The first of the commands were judged in an open transaction, each or another in its place. What is kept is of the book after
-- them, which the tables stand for.
pub record SoFarInside (kept : Option KeptOf) (rounding : Option Rounding) (asked : List (Key × Asked)) (done : List (Key × Command))
    (old now : State) (verdicts : List Verdict) : Type 0 where
  pub judged : HasCleanDisk now → (entries : List Entry) → Stands old entries
      → (book : List Entry) × AreTurnedOn rounding entries asked done verdicts book × StandsWith (IsOf kept) now book
      × (count : ℕ) × ChangeRows entries done verdicts book count × EachStaysInReach count layout.schema old.now.trees now.now.trees
  pub inside : HasCleanDisk now → IsTrue now.in_transaction
  pub changes : HasCleanDisk now → together verdicts ≡ Repeats → now.now ≡ old.now
  pub rest : HasCleanDisk now → KeepsCommit old now
  -- the tables that they leave of others, whatever these stand for
  pub texts : HasCleanDisk now → (tables : Tables) → Has old tables
      → (after : Tables) × TurnAllByText tables done verdicts after × Has now after
  -- the pairs that they post to had the same lots in both tables, and so had those of which all is known now
  pub paired : HasCleanDisk now → (tables : Tables) → Has old tables
      → AllByRecursion (λ (keyed : Key × Command). HavePairedFor keyed.1 tables) done × HaveAllPaired (whole_pairs kept) tables
  pub crash : Survives old now (λ _. ⊥)

-- one more changes some
rows_more : (before : List Entry) (done : List (Key × Command)) (verdicts : List Verdict) (book after : List Entry) (count one : ℕ) (turned : Key × Command) (verdict : Verdict)
    → ChangeRows before done verdicts book count → JudgesOn book turned.0 turned.1 verdict after → ChangesRows book turned.0 turned.1 verdict one
    → ChangeRows before (done ++ turned ∷ []) (verdicts ++ verdict ∷ []) after (one + count)
rows_more before [] [] book after count one turned verdict (is, none) judges changes =
    subst (λ (b : List Entry). ChangeRows b (turned ∷ []) (verdict ∷ []) after (one + count)) is (after, judges, one, changes, 0, (refl, refl), omega (arith, none))
rows_more before [] (v ∷ vs) book after count one turned verdict is judges changes = absurd is
rows_more before (t ∷ ts) [] book after count one turned verdict is judges changes = absurd is
rows_more before (t ∷ ts) (v ∷ vs) book after count one turned verdict (mid, on, first, rows, rest, more, sum) judges changes =
    (mid, on, first, rows, one + rest, rows_more mid ts vs book after rest one turned verdict more judges changes, omega (arith, sum))

-- before the first nothing is kept
pub inside_none : (rounding : Option Rounding) (old : State)
    → (HasCleanDisk old → IsTrue old.in_transaction) → SoFarInside None rounding [] [] old old []
inside_none rounding old inside = record {
  judged = λ clean entries stands. (entries, refl, (stands, tt), 0, (refl, refl), each_in_reach old.now.trees layout.schema.tables);
  inside = inside;
  changes = λ clean is. refl;
  rest = λ clean. record { was_open = λ live. live; committed = λ live. refl };
  texts = λ clean tables has. (tables, refl, has);
  paired = λ clean tables has. (tt, tt);
  crash = survives_same old _;
}

module _ (kept kept_then : Option KeptOf) (rounding : Option Rounding) (asked : List (Key × Asked)) (done : List (Key × Command)) (old now new : State)
    (verdicts : List Verdict) (so : SoFarInside kept rounding asked done old now verdicts) (next : Key × Asked) (turned : Key × Command) where
  -- one more was judged
  pub inside_next : (verdict : Verdict) → JudgesTurned kept kept_then rounding next turned now new (Ok verdict)
      → SoFarInside kept_then rounding (asked ++ next ∷ []) (done ++ turned ∷ []) old new (verdicts ++ verdict ∷ [])
  inside_next verdict it = record {
    judged = λ clean entries stands.
        let was = so.judged (omega (arith, clean, it.next.crash.clean)) entries stands in
        let one = it.next.judged clean was.0 was.2 in
        let rows = it.next.rowids clean was.0 was.2 in (
          one.0,
          turns_more rounding entries asked done verdicts was.0 one.0 next turned verdict was.1 (it.turns clean was.0 was.2) one.1,
          one.2,
          rows.0 + was.3,
          rows_more entries done verdicts was.0 one.0 was.3 rows.0 turned verdict was.4 one.1 rows.1,
          each_then was.3 rows.0 old.now.trees now.now.trees new.now.trees layout.schema.tables was.5 rows.2,
        );
    inside = it.next.inside;
    changes = λ clean is.
        let both = joined_repeats (together verdicts) (comes_to verdict) (sym (together_more verdicts verdict) ∙ is) in
        unchanged_by verdict now new both.1 (it.next.changes clean) ∙ so.changes (omega (arith, clean, it.next.crash.clean)) both.0;
    rest = λ clean. keeps_then old now new (so.rest (omega (arith, clean, it.next.crash.clean))) (it.next.rest clean);
    texts = λ clean tables has.
        let was = so.texts (omega (arith, clean, it.next.crash.clean)) tables has in
        let one = it.text clean was.0 was.2 in
        (one.0, turn_more tables done verdicts was.0 one.0 turned verdict was.1 one.1, one.2);
    paired = λ clean tables has.
        let before : HasCleanDisk now = omega (arith, clean, it.next.crash.clean) in
        let first = so.paired before tables has in
        let was = so.texts before tables has in
        let back = paired_before tables done verdicts was.0 was.1 first.0 in (
          all-append (λ (keyed : Key × Command). HavePairedFor keyed.1 tables) done (turned ∷ []) first.0
              (all_before kept tables was.0 (pairs_in turned.1) back first.1 (it.pairs.paired clean was.0 was.2), tt),
          all_before kept tables was.0 (whole_pairs kept_then) back first.1 (it.pairs.whole clean was.0 was.2),
        );
    crash = survives_then old now new (λ _. ⊥) (λ _. ⊥) (λ _. ⊥) (λ _ db none. none) (λ _ db none. none) so.crash it.next.crash;
  }

  -- a fault comes at the next one
  pub inside_stops : (fault : Fault) → JudgesTurned kept kept_then rounding next turned now new (Err fault) → (more : List (Key × Asked))
      → JudgesAllTurned rounding (asked ++ next ∷ more) (done ++ turned ∷ map handed more) old new verdicts (Err fault)
  inside_stops fault it more = record {
    judged = λ clean entries stands.
        let was = so.judged (omega (arith, clean, it.next.crash.clean)) entries stands in (
          record {
            first = asked;
            rest = next ∷ more;
            asked_are = refl;
            done = done;
            left = turned ∷ map handed more;
            turned_are = refl;
            book = was.0;
            turns = was.1;
            next = (it.turns clean was.0 was.2, refl);
          },
          cause clean entries was.0 was.2 was.3 was.4 was.5 fault refl,
        );
    sums = tt;
    inside = λ clean. tt;
    changes = λ clean. tt;
    rest = λ clean. keeps_then old now new (so.rest (omega (arith, clean, it.next.crash.clean))) (it.next.rest clean);
    texts = λ clean tables has.
        let was = so.texts (omega (arith, clean, it.next.crash.clean)) tables has in
        record {
          done = done;
          left = turned ∷ map handed more;
          split = refl;
          after = was.0;
          turn = was.1;
          damage = λ damaged.
              of_damage_since old now new (failed_since old now new _ so.crash it.next.crash clean) (Err (store_fault_of fault))
              (it.damage clean was.0 was.2 damaged);
          paired = (so.paired (omega (arith, clean, it.next.crash.clean)) tables has).0;
          unpaired = λ unpaired.
              let first = so.paired (omega (arith, clean, it.next.crash.clean)) tables has in
              of_damage_since old now new (failed_since old now new _ so.crash it.next.crash clean) (Err (store_fault_of fault))
              (it.pairs.unpaired clean was.0 was.2 (λ found.
              unpaired (all_before kept tables was.0 (pairs_in turned.1) (paired_before tables done verdicts was.0 was.1 first.0) first.1 found)));
        };
    crash = survives_then old now new (λ _. ⊥) (λ _. ⊥) (λ _. ⊥) (λ _ db none. none) (λ _ db none. none) so.crash it.next.crash;
  }
    where
      by_device : HasCleanDisk new → (entries book : List Entry) (stands : Stands now book) (count : ℕ) → ChangeRows entries done verdicts book count
          → EachStaysInReach count layout.schema old.now.trees now.now.trees
          → DiskFailed now new ⊎ HasNoRoomFor turned.0 turned.1 book stands.tables now.now.trees new
          → DiskFailed old new ⊎ LacksRoomForNext entries done verdicts book (turned ∷ map handed more) old.now.trees new
      by_device clean entries book stands count rows reach (inl failed) = inl (failed_since old now new _ so.crash it.next.crash clean failed)
      by_device clean entries book stands count rows reach (inr lacks) = inr (
        now.now.trees,
        record {
          count = count;
          rows = rows;
          reach = reach;
          stand = record { book = stands.book; tables = stands.tables; holds = stands.has.1; stand = stands.stand };
        },
        lacks,
      )

      cause : HasCleanDisk new → (entries book : List Entry) → StandsWith (IsOf kept) now book → (count : ℕ) → ChangeRows entries done verdicts book count
          → EachStaysInReach count layout.schema old.now.trees now.now.trees → (f : Fault) → fault ≡ f
          → StopsInside f entries done verdicts book (turned ∷ map handed more) old new
      cause clean entries book there count rows reach table.Device is =
          by_device clean entries book there.0 count rows reach (it.next.device clean (ap Err is) book there.0 there.1)
      cause clean entries book there count rows reach table.Damaged is = absurd (it.next.damaged clean (ap Err is) book there)
      cause clean entries book there count rows reach table.Memory is = tt

  -- it was judged, and no memory is left to put its verdict
  pub inside_full : (verdict : Verdict) → JudgesTurned kept kept_then rounding next turned now new (Ok verdict) → (more : List (Key × Asked))
      → JudgesAllTurned rounding (asked ++ next ∷ more) (done ++ turned ∷ map handed more) old new verdicts (Err table.Memory)
  inside_full verdict it more = record {
    judged = λ clean entries stands.
        let was = so.judged (omega (arith, clean, it.next.crash.clean)) entries stands in (
          record {
            first = asked;
            rest = next ∷ more;
            asked_are = refl;
            done = done;
            left = turned ∷ map handed more;
            turned_are = refl;
            book = was.0;
            turns = was.1;
            next = (inl (it.turns clean was.0 was.2), refl);
          },
          tt,
        );
    sums = tt;
    inside = λ clean. tt;
    changes = λ clean. tt;
    rest = λ clean. keeps_then old now new (so.rest (omega (arith, clean, it.next.crash.clean))) (it.next.rest clean);
    texts = λ clean tables has.
        let was = so.texts (omega (arith, clean, it.next.crash.clean)) tables has in
        record {
          done = done;
          left = turned ∷ map handed more;
          split = refl;
          after = was.0;
          turn = was.1;
          damage = λ damaged. tt;
          paired = (so.paired (omega (arith, clean, it.next.crash.clean)) tables has).0;
          unpaired = λ unpaired. tt;
        };
    crash = survives_then old now new (λ _. ⊥) (λ _. ⊥) (λ _. ⊥) (λ _ db none. none) (λ _ db none. none) so.crash it.next.crash;
  }

-- all were judged
pub inside_all : (kept : Option KeptOf) (rounding : Option Rounding) (asked : List (Key × Asked)) (done : List (Key × Command)) (old now : State)
    (verdicts : List Verdict) (sum : Together) → SoFarInside kept rounding asked done old now verdicts → sum ≡ together verdicts
    → JudgesAllTurned rounding asked done old now verdicts (Ok sum)
inside_all kept rounding asked done old now verdicts sum so is = record {
  judged = λ clean entries stands. let was = so.judged clean entries stands in (was.0, was.1, was.2.0);
  sums = is;
  inside = so.inside;
  changes = λ clean repeats. so.changes clean (sym is ∙ repeats);
  rest = so.rest;
  texts = λ clean tables has. let was = so.texts clean tables has in (was.0, was.1, was.2, (so.paired clean tables has).0);
  crash = so.crash;
}

-- The first commands of a list, so many, were judged. Now it is the turn of the next one.
module _ (commands : List (Key × Asked)) (index : ℕ) (rounding : Option Rounding) (done : List (Key × Command)) (next other : Key × Asked)
    (is_next : next ≡ get_or commands index other) (within : index < length commands) (kept kept_then : Option KeptOf) (old now new : State) (verdicts : List Verdict)
    (so : SoFarInside kept rounding (take index commands) done old now verdicts) where
  of_all : (turned : List (Key × Command)) (result : Result Together Fault)
      → JudgesAllTurned rounding (take index commands ++ next ∷ drop (index + 1) commands) turned old new verdicts result
      → JudgesAllAsked rounding commands old new verdicts result
  of_all turned result it =
      (turned, subst (λ (cs : List (Key × Asked)). JudgesAllTurned rounding cs turned old new verdicts result) (all_of commands index next other is_next within) it)

  -- a fault comes at it
  pub stops_at : (fault : Fault) → JudgesAsked kept kept_then rounding next now new (Err fault) → JudgesAllAsked rounding commands old new verdicts (Err fault)
  stops_at fault it =
      of_all _ (Err fault) (inside_stops kept kept_then rounding (take index commands) done old now new verdicts so next it.0 fault it.1 (drop (index + 1) commands))

  -- it was judged, and no memory is left for its verdict
  pub full_at : (verdict : Verdict) → JudgesAsked kept kept_then rounding next now new (Ok verdict)
      → JudgesAllAsked rounding commands old new verdicts (Err table.Memory)
  full_at verdict it =
      of_all _ (Err table.Memory) (inside_full kept kept_then rounding (take index commands) done old now new verdicts so next it.0 verdict it.1 (drop (index + 1) commands))

  -- it was judged
  pub goes_on_inside : (verdict : Verdict) → JudgesAsked kept kept_then rounding next now new (Ok verdict)
      → (all : List (Key × Command)) × SoFarInside kept_then rounding (take (index + 1) commands) all old new (verdicts ++ verdict ∷ [])
  goes_on_inside verdict it = (
    done ++ it.0 ∷ [],
    subst (λ (cs : List (Key × Asked)). SoFarInside kept_then rounding cs (done ++ it.0 ∷ []) old new (verdicts ++ verdict ∷ []))
        (sym (taken commands index next other is_next within))
        (inside_next kept kept_then rounding (take index commands) done old now new verdicts so next it.0 verdict it.1),
  )

-- ---- the end of the transaction

-- the tables of a database lie in its trees
left_in : (s : State) (entries : List Entry) → Stands s entries → Left s.now.trees entries
left_in s entries stands = record { book = stands.book; tables = stands.tables; holds = stands.has.1; stand = stands.stand }

-- outside a transaction nothing is said of what its writes had made
stops_undone : (writes : List Write) (tables : Tables) (before : Trees) (a b : State) → b.in_transaction ≡ false → Stops writes tables before a
    → Stops writes tables before b
stops_undone writes tables before a b outside stops = record {
  made = stops.made;
  next = stops.next;
  left = stops.left;
  trees = stops.trees;
  split = stops.split;
  holds = stops.holds;
  reach = stops.reach;
  lacks = stops.lacks;
  stands = λ inside. cc;
}

-- what refuses a command in a transaction refuses it for a caller who has that rolled back
lacks_undone : (entries : List Entry) (done : List (Key × Command)) (verdicts : List Verdict) (book : List Entry) (left : List (Key × Command)) (before : Trees) (a b : State) → b.in_transaction ≡ false
    → LacksRoomForNext entries done verdicts book left before a → LacksRoomForNext entries done verdicts book left before b
lacks_undone entries done verdicts book [] before a b outside none = none
lacks_undone entries done verdicts book (next ∷ left) before a b outside (made, are, lacks) = (
  made,
  are,
  record { known = lacks.known; change = lacks.change; agrees = lacks.agrees; accepted = lacks.accepted; lacks = by lacks.lacks },
)
  where
    by : (¬ AreNumbered lacks.change) ⊎ Stops (writes_of lacks.known.facts next.0 next.1 lacks.change) are.stand.tables made a
        → (¬ AreNumbered lacks.change) ⊎ Stops (writes_of lacks.known.facts next.0 next.1 lacks.change) are.stand.tables made b
    by (inl numbers) = inl numbers
    by (inr stops) = inr (stops_undone (writes_of lacks.known.facts next.0 next.1 lacks.change) are.stand.tables made a b outside stops)

module _ {S : Type 0} (g : Ghosts S) (old last fin : Held S) (rounding : Option Rounding) (asked : List (Key × Asked)) (turned : List (Key × Command)) (verdicts : List Verdict)
    (settled : HasCleanDisk (state g fin) → IsTrue (state g old).is_open → (state g old).now ≡ (state g old).committed) where
  abbrev begun : Held S
  begun = record old { in_transaction = true }

  -- what is rolled back leaves the tables as they were
  as_before : (HasCleanDisk (state g last) → KeepsCommit (state g begun) (state g last)) → HasCleanDisk (state g last) → HasCleanDisk (state g fin)
      → IsRolledBack (state g last) (state g fin) → LeavesTables (state g old) (state g fin)
  as_before rest early clean back opened =
      let live = back.was_open opened in
      let was = rest early in
      let both = back.undone opened in
      (both.0 ∙ was.committed live ∙ sym (settled clean (was.was_open live)), both.1 ∙ was.committed live)

  stands_begun : (entries : List Entry) → Stands (state g old) entries → Stands (state g begun) entries
  stands_begun entries stands = stands_along (state g old) (state g begun) entries refl stands

  has_begun : (tables : Tables) → Has (state g old) tables → Has (state g begun) tables
  has_begun tables has = has_along (state g old) (state g begun) tables refl has

  -- ---- it is rolled back

  module _ (back : HasCleanDisk (state g fin) → IsRolledBack (state g last) (state g fin)) (undone : Survives (state g last) (state g fin) (λ _. ⊥)) where
    early : HasCleanDisk (state g fin) → HasCleanDisk (state g last)
    early clean = omega (arith, clean, undone.clean)

    nothing_left : (P : Trees → Type 0) → Survives (state g begun) (state g last) (λ _. ⊥) → Survives (state g old) (state g fin) P
    nothing_left P crash =
        survives_begin g old (state g fin) P
        (survives_then (state g begun) (state g last) (state g fin) (λ _. ⊥) (λ _. ⊥) P (λ _ db none. absurd none) (λ _ db none. absurd none) crash undone)

    pub all_dropped : JudgesAllTurned rounding asked turned (state g begun) (state g last) verdicts (Ok Refuses)
        → AppliesTurned rounding asked turned (state g old) (state g fin) verdicts ending.Dropped
    all_dropped it = record {
      judged = λ clean entries stands. let was = it.judged (early clean) entries (stands_begun entries stands) in (was.0, was.1);
      rest = λ clean. (sym it.sums, as_before it.rest (early clean) clean (back clean));
      in_doubt = λ clean is. cc;
      usable = λ is. cc;
      texts = λ clean tables has. let was = it.texts (early clean) tables (has_begun tables has) in (was.0, was.1, was.3);
      crash = nothing_left _ it.crash;
    }

    pub all_repeated : JudgesAllTurned rounding asked turned (state g begun) (state g last) verdicts (Ok Repeats)
        → AppliesTurned rounding asked turned (state g old) (state g fin) verdicts ending.Kept
    all_repeated it = record {
      judged = λ clean entries stands.
          let was = it.judged (early clean) entries (stands_begun entries stands) in (
            was.0,
            was.1,
            λ opened. stands_along (state g last) (state g fin) was.0
                ((as_before it.rest (early clean) clean (back clean) opened).0 ∙ sym (it.changes (early clean) refl)) was.2,
          );
      rest = λ clean. subst (λ (t : Together). KeepsAll t (state g old) (state g fin)) it.sums (as_before it.rest (early clean) clean (back clean));
      in_doubt = λ clean is. cc;
      usable = λ is. cc;
      texts = λ clean tables has.
          let was = it.texts (early clean) tables (has_begun tables has) in (
            was.0,
            was.1,
            λ opened. has_along (state g last) (state g fin) was.0
                ((as_before it.rest (early clean) clean (back clean) opened).0 ∙ sym (it.changes (early clean) refl)) was.2,
            was.3,
          );
      crash = nothing_left _ it.crash;
    }

    pub all_failed : fin.in_transaction ≡ false → (fault : Fault)
        → JudgesAllTurned rounding asked turned (state g begun) (state g last) verdicts (Err fault)
        → AppliesTurned rounding asked turned (state g old) (state g fin) verdicts (ending.Failed (store_fault_of fault))
    all_failed outside fault it = record {
      judged = λ clean entries stands.
          let was = it.judged (early clean) entries (stands_begun entries stands) in (was.0, stops fault entries was.0.done was.0.book was.0.left was.1);
      rest = λ clean. as_before it.rest (early clean) clean (back clean);
      in_doubt = λ clean is. let none : store_fault_of fault ≡ InDoubt = cc in absurd (sure fault none);
      usable = λ is. let none : store_fault_of fault ≡ NeedsReopen = cc in used fault none;
      texts = λ clean tables has.
          let was = it.texts (early clean) tables (has_begun tables has) in
          record {
            done = was.done;
            left = was.left;
            split = was.split;
            after = was.after;
            turn = was.turn;
            damage = first was.after was.left (store_fault_of fault) was.damage;
            paired = was.paired;
            unpaired = first_pairs tables was.left (store_fault_of fault) was.unpaired;
          };
      crash = nothing_left _ it.crash;
    }
      where
        of_text : (f : StoreFault) → IsOfDamage (state g begun) (state g last) (Err f) → IsOfDamage (state g old) (state g fin) (Err f)
        of_text Damaged is = tt
        of_text Memory is = tt
        of_text NeedsReopen is = tt
        of_text InDoubt none = none
        of_text Device (inl more) = inl (omega (arith, more, undone.counts))
        of_text Device (inr shut) = inr shut

        first : (tables : Tables) (left : List (Key × Command)) (f : StoreFault) → MeetsDamageFirst tables left (state g begun) (state g last) f
            → MeetsDamageFirst tables left (state g old) (state g fin) f
        first tables [] f meets = tt
        first tables (next ∷ left) f meets = λ damaged. of_text f (meets damaged)

        first_pairs : (tables : Tables) (left : List (Key × Command)) (f : StoreFault)
            → MeetsUnpairedFirst tables left (state g begun) (state g last) (Err f) → MeetsUnpairedFirst tables left (state g old) (state g fin) (Err f)
        first_pairs tables [] f meets = tt
        first_pairs tables (next ∷ left) f meets = λ unpaired. of_text f (meets unpaired)

        stops : (f : Fault) (entries : List Entry) (done : List (Key × Command)) (book : List Entry) (left : List (Key × Command))
            → StopsInside f entries done verdicts book left (state g begun) (state g last)
            → StopsAll (store_fault_of f) entries done verdicts book left (state g old) (state g fin)
        stops table.Device entries done book left (inl (inl more)) = inl (inl (omega (arith, more, undone.counts)))
        stops table.Device entries done book left (inl (inr shut)) = inl (inr shut)
        stops table.Device entries done book left (inr lacks) =
            inr (lacks_undone entries done verdicts book left (state g old).now.trees (state g last) (state g fin) outside lacks)
        stops table.Damaged entries done book left none = none
        stops table.Memory entries done book left it_is = tt

        sure : (f : Fault) → store_fault_of f ≢ InDoubt
        sure table.Device is = cc
        sure table.Damaged is = cc
        sure table.Memory is = cc

        used : (f : Fault) → store_fault_of f ≢ NeedsReopen
        used table.Device is = cc
        used table.Damaged is = cc
        used table.Memory is = cc

  -- ---- it is committed, or not

  module _ (it : JudgesAllTurned rounding asked turned (state g begun) (state g last) verdicts (Ok Accepts))
      (survives : Survives (state g last) (state g fin) (λ db. db ≡ (state g last).now.trees)) where
    soon : HasCleanDisk (state g fin) → HasCleanDisk (state g last)
    soon clean = omega (arith, clean, survives.clean)

    -- what is in the transaction is the book after all commands
    leaves_all : HasCleanDisk (state g last) → LeavesAll rounding asked turned verdicts (state g old) (state g last).now.trees
    leaves_all clean entries stands =
        let was = it.judged clean entries (stands_begun entries stands) in (was.0, was.1, left_in (state g last) was.0 was.2)

    pub all_committed : (HasCleanDisk (state g fin) → Shows (state g last) (state g fin) (state g last).now (state g last).now false)
        → AppliesTurned rounding asked turned (state g old) (state g fin) verdicts ending.Kept
    all_committed shows = record {
      judged = λ clean entries stands.
          let was = it.judged (soon clean) entries (stands_begun entries stands) in
          (was.0, was.1, λ opened. stands_along (state g last) (state g fin) was.0 (shows clean).now_is was.2);
      rest = λ clean.
          subst (λ (t : Together). KeepsAll t (state g old) (state g fin)) it.sums ((shows clean).is_open, (shows clean).now_is ∙ sym (shows clean).committed_is);
      in_doubt = λ clean is. cc;
      usable = λ is. cc;
      texts = λ clean tables has.
          let was = it.texts (soon clean) tables (has_begun tables has) in
          (was.0, was.1, (λ opened. has_along (state g last) (state g fin) was.0 (shows clean).now_is was.2), was.3);
      crash = commit_leaves g old begun last fin (MayKeep rounding asked turned verdicts ending.Kept (state g old)) refl it.crash
          (λ clean. (sym it.sums, leaves_all clean)) survives;
    }

    -- the disk failed where a commit is in doubt
    doubt_for : (e : Error) → HasCleanDisk (state g fin) → commit_fault_of e ≡ InDoubt → FailsToCommit (state g last) (state g fin) e
        → DiskFailed (state g old) (state g fin)
    doubt_for e clean is (inl (cause, named, why, back, tells)) = since (by cause (ap commit_fault_of (sym named) ∙ is) why)
      where
        by : (k : StoreError) → commit_fault_of (store_error k) ≡ InDoubt → HasCause (state g last) (state g fin) ⊥ k → DiskFailed (state g last) (state g fin)
        by store.OutOfMemory memory why = absurd cc
        by store.Io in_doubt more = inl more
        by store.Corrupt in_doubt more = inl more
        by store.Full in_doubt more = inl more
        by store.Broken in_doubt shut = inr shut
        by store.Unstorable in_doubt none = absurd none

        since : DiskFailed (state g last) (state g fin) → DiskFailed (state g old) (state g fin)
        since failed = failed_since (state g begun) (state g last) (state g fin) _ it.crash survives clean failed
    doubt_for e clean is (inr (named, outside, same)) = absurd (both (it.inside (soon clean)) outside)
      where
        both : IsTrue (state g last).in_transaction → (state g last).in_transaction ≡ false → ⊥
        both inside outside = cc

    rolled_back : (e : Error) → HasCleanDisk (state g fin) → FailsToCommit (state g last) (state g fin) e → IsRolledBack (state g last) (state g fin)
    rolled_back e clean (inl fails) = fails.3
    rolled_back e clean (inr (named, outside, same)) = absurd (both (it.inside (soon clean)) outside)
      where
        both : IsTrue (state g last).in_transaction → (state g last).in_transaction ≡ false → ⊥
        both inside outside = cc

    abbrev judges_all : (entries : List Entry) (after : List Entry) → AreTurnedOn rounding entries asked turned verdicts after → JudgesFirst rounding entries asked turned verdicts
    judges_all entries after turns = record {
      first = asked;
      rest = [];
      asked_are = sym (append-nil asked);
      done = turned;
      left = [];
      turned_are = sym (append-nil turned);
      book = after;
      turns = turns;
      next = tt;
    }

    pub all_uncommitted : (e : Error) → (HasCleanDisk (state g fin) → FailsToCommit (state g last) (state g fin) e)
        → AppliesTurned rounding asked turned (state g old) (state g fin) verdicts (ending.Failed (commit_fault_of e))
    all_uncommitted e fails = record {
      judged = λ clean entries stands.
          let was = it.judged (soon clean) entries (stands_begun entries stands) in
          (judges_all entries was.0 was.1, stops clean entries was.0 (commit_fault_of e) (kinds e) refl);
      rest = λ clean. as_before it.rest (soon clean) clean (rolled_back e clean (fails clean));
      in_doubt = λ clean is. let doubt : commit_fault_of e ≡ InDoubt = cc in doubt_for e clean doubt (fails clean);
      usable = λ is. let spent : commit_fault_of e ≡ NeedsReopen = cc in used (commit_fault_of e) (kinds e) spent;
      texts = λ clean tables has.
          let was = it.texts (soon clean) tables (has_begun tables has) in
          record { done = turned; left = []; split = sym (append-nil turned); after = was.0; turn = was.1; damage = tt; paired = was.3; unpaired = tt };
      crash = commit_leaves g old begun last fin (MayKeep rounding asked turned verdicts (ending.Failed (commit_fault_of e)) (state g old)) refl it.crash
          (λ clean. may_keep (commit_fault_of e) (kinds e) (sym it.sums, leaves_all clean)) survives;
    }
      where
        kinds : (error : Error) → (commit_fault_of error ≡ Memory) ⊎ (commit_fault_of error ≡ InDoubt)
        kinds (SqliteFailure code.OutOfMemory) = inl refl
        kinds other = inr refl

        used : (f : StoreFault) → (f ≡ Memory) ⊎ (f ≡ InDoubt) → f ≢ NeedsReopen
        used f (inl memory) is = let both : Memory ≡ NeedsReopen = sym memory ∙ is in absurd cc
        used f (inr doubt) is = let both : InDoubt ≡ NeedsReopen = sym doubt ∙ is in absurd cc

        may_keep : (f : StoreFault) → (f ≡ Memory) ⊎ (f ≡ InDoubt)
            → (together verdicts ≡ Accepts) × LeavesAll rounding asked turned verdicts (state g old) (state g last).now.trees
            → MayKeep rounding asked turned verdicts (ending.Failed f) (state g old) (state g last).now.trees
        may_keep f (inl memory) all = rw memory all
        may_keep f (inr doubt) all = rw doubt all

        stops : HasCleanDisk (state g fin) → (entries after : List Entry) (f : StoreFault) → (f ≡ Memory) ⊎ (f ≡ InDoubt) → commit_fault_of e ≡ f
            → StopsAll f entries turned verdicts after [] (state g old) (state g fin)
        stops clean entries after f (inl memory) is = rw memory tt
        stops clean entries after f (inr doubt) is = rw doubt (refl, doubt_for e clean (is ∙ doubt) (fails clean))

    pub all_ended : (r : Result (Unit {0}) Error)
        → (HasCleanDisk (state g fin) → OnOk r (IsTrue (state g last).in_transaction
        × Shows (state g last) (state g fin) (state g last).now (state g last).now false × KeepsCounts (state g last) (state g fin) × ((state g fin).marks ≡ [])))
        → (HasCleanDisk (state g fin) → IfErr r (FailsToCommit (state g last) (state g fin)))
        → AppliesTurned rounding asked turned (state g old) (state g fin) verdicts (ended_by (commit_outcome r))
    all_ended (Ok done) ok err = all_committed (λ clean. (ok clean).1)
    all_ended (Err e) ok err = all_uncommitted e err

-- the same of a transaction that was begun so
module _ {S : Type 0} (g : Ghosts S) (old start last fin : Held S) (rounding : Option Rounding) (asked : List (Key × Asked)) (verdicts : List Verdict)
    (settled : HasCleanDisk (state g fin) → IsTrue (state g old).is_open → (state g old).now ≡ (state g old).committed)
    (begins : start ≡ record old { in_transaction = true }) where
  at_start : (result : Result Together Fault) → JudgesAllAsked rounding asked (state g start) (state g last) verdicts result
      → JudgesAllAsked rounding asked (state g (record old { in_transaction = true })) (state g last) verdicts result
  at_start result it = subst (λ (h : Held S). JudgesAllAsked rounding asked (state g h) (state g last) verdicts result) begins it

  pub ends_accepted : JudgesAllAsked rounding asked (state g start) (state g last) verdicts (Ok Accepts)
      → Survives (state g last) (state g fin) (λ db. db ≡ (state g last).now.trees) → (r : Result (Unit {0}) Error)
      → (HasCleanDisk (state g fin) → OnOk r (IsTrue (state g last).in_transaction
      × Shows (state g last) (state g fin) (state g last).now (state g last).now false × KeepsCounts (state g last) (state g fin) × ((state g fin).marks ≡ [])))
      → (HasCleanDisk (state g fin) → IfErr r (FailsToCommit (state g last) (state g fin)))
      → AppliesAll rounding asked (state g old) (state g fin) verdicts (ended_by (commit_outcome r))
  ends_accepted it survives r ok err =
      let at = at_start (Ok Accepts) it in (at.0, all_ended g old last fin rounding asked at.0 verdicts settled at.1 survives r ok err)

  module _ (back : HasCleanDisk (state g fin) → IsRolledBack (state g last) (state g fin)) (undone : Survives (state g last) (state g fin) (λ _. ⊥)) where
    pub ends_repeated : JudgesAllAsked rounding asked (state g start) (state g last) verdicts (Ok Repeats)
        → AppliesAll rounding asked (state g old) (state g fin) verdicts ending.Kept
    ends_repeated it = let at = at_start (Ok Repeats) it in (at.0, all_repeated g old last fin rounding asked at.0 verdicts settled back undone at.1)

    pub ends_refused : JudgesAllAsked rounding asked (state g start) (state g last) verdicts (Ok Refuses)
        → AppliesAll rounding asked (state g old) (state g fin) verdicts ending.Dropped
    ends_refused it = let at = at_start (Ok Refuses) it in (at.0, all_dropped g old last fin rounding asked at.0 verdicts settled back undone at.1)

    pub ends_failed : fin.in_transaction ≡ false → (fault : Fault) → JudgesAllAsked rounding asked (state g start) (state g last) verdicts (Err fault)
        → AppliesAll rounding asked (state g old) (state g fin) verdicts (ending.Failed (store_fault_of fault))
    ends_failed outside fault it =
        let at = at_start (Err fault) it in (at.0, all_failed g old last fin rounding asked at.0 verdicts settled back undone outside fault at.1)

-- ---- what is dropped was looked at

-- what only reads keeps what is rolled back
rolled_then : (a b c : State) → IsUndone a b → IsRolledBack b c → IsRolledBack a c
rolled_then a b c (inl same) back = record {
  was_open = λ opened. same.0.was_open;
  undone = λ opened. ((back.undone opened).0 ∙ same.0.committed_is, (back.undone opened).1 ∙ same.0.committed_is);
  autocommit = back.autocommit;
  unmarked = back.unmarked;
  counts = record { changes = back.counts.changes ∙ same.1.changes; last_rowid = back.counts.last_rowid ∙ same.1.last_rowid };
}
rolled_then a b c (inr undone) back = record {
  was_open = λ opened. undone.was_open (back.was_open opened);
  undone = λ opened.
      let at = (undone.undone (back.was_open opened)).1 in
      ((back.undone opened).0 ∙ at, (back.undone opened).1 ∙ at);
  autocommit = back.autocommit;
  unmarked = back.unmarked;
  counts = record { changes = back.counts.changes ∙ undone.counts.changes; last_rowid = back.counts.last_rowid ∙ undone.counts.last_rowid };
}

rolled_behind : {D : Type 0} (shown : D → State) (old new : D) (fin : State) → (new ≡ old) ⊎ IsUndone (shown old) (shown new)
    → IsRolledBack (shown new) fin → IsRolledBack (shown old) fin
rolled_behind shown old new fin (inl same) back = subst (λ (d : _). IsRolledBack (shown d) fin) same back
rolled_behind shown old new fin (inr undone) back = rolled_then (shown old) (shown new) fin undone back

pub rolled_behind_look : {D : Type 0} (shown : D → State) (old new : D) (fin : State)
    → (HasCleanDisk (shown new) → (new ≡ old) ⊎ IsUndone (shown old) (shown new)) → Survives (shown new) fin (λ _. ⊥)
    → (HasCleanDisk fin → IsRolledBack (shown new) fin) → HasCleanDisk fin → IsRolledBack (shown old) fin
rolled_behind_look shown old new fin reads crash back clean =
    rolled_behind shown old new fin (reads (omega (arith, clean, crash.clean))) (back clean)

-- ---- no transaction is begun

-- only a disk that has lied leaves a transaction open
pub not_outside : (r inside : Bool) → r ≡ false → r ≡ not inside → inside ≡ false → ⊥
not_outside r inside is value outside = true≢false (sym (value ∙ ap not outside) ∙ is)

pub ends_at_once : (rounding : Option Rounding) (asked : List (Key × Asked)) (s : State) (verdicts : List Verdict) → (HasCleanDisk s → ⊥)
    → AppliesAll rounding asked s s verdicts (ending.Failed Device)
ends_at_once rounding asked s verdicts never = (
  map handed asked,
  record {
    judged = λ clean. absurd (never clean);
    rest = λ clean. absurd (never clean);
    in_doubt = λ clean is. absurd (never clean);
    usable = λ is. cc;
    texts = λ clean. absurd (never clean);
    crash = survives_same s _;
  },
)

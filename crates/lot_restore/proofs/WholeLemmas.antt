-- A whole dump, from its head on.
use Rattle.std.proofs.Common.{◌≡◌, ◌∙◌, ◌⊎◌, inl, inr, Bool, true, false, IsTrue, List, ℕ, [], ◌∷◌, ◌++◌, Err, None, Option, Some, ap, append-nil, append_assoc, flat_map, map, refl, subst, sym}
use Rattle.std.specs.Borrow.{Bor}
use Rattle.std.specs.Prelude.{IfSome}
use Rattle.std.specs.Io.KnownBytes.{Appends}
use Rattle.sqlite.specs.State.{HasCleanDisk, IsLive, KeepsCommit, State, Survives}
use Rattle.sqlite_catalog.specs.Listing.{IsSound}
use Rattle.lot_book.specs.Facts.{Entry}
use Rattle.lot_load.specs.Kept.{IsOf}
use Rattle.lot_dump.specs.Form.{end_text, head_text}
use Rattle.lot_dump.specs.declared.head.Head.{Head}
use Rattle.lot_parts.specs.Commands.{BeginsCommands, IsReadWhole, front_of, front_text}
use Rattle.lot_parts.specs.Dump.{Dump, IsUnchanged, dump_text, part_text}
use Rattle.lot_parts.specs.Sum.{IsSumOf, SaysOtherwise}
use Rattle.lot_parts.specs.declared.compare.SumFault.{SumFault}
use Rattle.lot_parts.specs.declared.dumped.Dumped.{Dumped}
use Rattle.lot_parts.specs.declared.step.Sum.{Sum}
use Rattle.lot_io.specs.Writes.{WriteCalls}
use Rattle.lot_report.specs.Printed.{line}
use Rattle.lot_report.specs.Written.{WritesLine}
use Rattle.lot_report.specs.declared.line.PrintFault.{PrintFault}
use Rattle.lot_store.specs.Create.{RefusedFor}
use Rattle.lot_store.specs.declared.fault.CreateFault.{CreateFault}
use Rattle.lot_store.specs.declared.fault.CreateFault.TheVariants as create
use Rattle.lot_table.specs.Shape.{schema_of}
use Rattle.lot_table.specs.Statement.{DiskFailed}
use Rattle.lot_without.specs.declared.without.Without.{Without}
use Rattle.lot_restore.specs.Judge.{AreRestored, StandsAt}
use Rattle.lot_restore.specs.LeftOut.{kept_of, unmet_of}
use Rattle.lot_restore.specs.Lines.{unmet_line, unmet_lines, verdict_lines}
use Rattle.lot_restore.specs.Restored.{Restores}
use Rattle.lot_restore.specs.Restoring.{FailsAt, FailsInside, IsBehindAll, IsFresh, JudgesWhole, LacksRoom, Point, SumFails, Terms, outcome_of}
use Rattle.lot_restore.specs.SoFar.{SoFar}
use Rattle.lot_restore.specs.Stopped.{BeginsWith, SaysSome}
use Rattle.lot_restore.specs.declared.fault.RestoreFault.{RestoreFault}
use Rattle.lot_restore.specs.declared.fault.RestoreFault.TheVariants.{Book, Sum as OfSum, Text, Write}
use Rattle.lot_restore.specs.declared.restoration.Refused.TheVariants as refused
use Rattle.lot_restore.specs.declared.restoration.Restoration.{Restoration}
use Rattle.lot_restore.specs.declared.restoring.Restored.{Restored}
use Rattle.lot_without.specs.declared.terms.Strictness.TheVariants.{Unchanged}
use Rattle.lot_restore.proofs.PlaceLemmas.{failed_since}
use Rattle.lot_restore.proofs.RestoredLemmas.{none_restored}
use Rattle.lot_restore.proofs.SaidLemmas.{appends_both}
use Rattle.lot_restore.proofs.StoppedLemmas.{all_some, begins_as, cut_some, says_some, some_behind}

-- ---- no command yet

all_unmet : (xs : List Without) → unmet_of xs [] ≡ xs
all_unmet [] = refl
all_unmet (x ∷ xs) = ap (λ l. x ∷ l) (all_unmet xs)

appends_nothing : (known : Option (List ℕ)) → Appends known known []
appends_nothing None = tt
appends_nothing (Some x) = sym (append-nil x)

-- the tables of a book without entries are there
pub made_fresh : (old new : State) → (IsTrue old.is_open → IsFresh old)
    → (HasCleanDisk new → old.now.schema ≡ schema_of [] → IsSound (schema_of []) old.now.trees → StandsAt (IsOf None) new [] 0)
    → (HasCleanDisk new → IsTrue new.is_open) → (HasCleanDisk new → KeepsCommit old new) → HasCleanDisk new → StandsAt (IsOf None) new [] 0
made_fresh old new fresh made opened kept clean =
    let is = fresh ((kept clean).was_open (opened clean)) in made clean is.0 is.1

pub none_so_far : (place : ℕ) (start : Option (List ℕ)) (r : Restoration) (s : State) → (HasCleanDisk s → StandsAt (IsOf None) s [] 0)
    → r.restorer.kept ≡ None → r.restorer.place ≡ place → map (λ it. it.now) r.unmet.items ≡ r.without.now → r.refused ≡ refused.None
    → SoFar place start start [] r s
none_so_far place start r s stands kept placed unmet refused = record {
  verdicts = [];
  as_many = refl;
  restored = λ clean. rw kept (none_restored place (IsOf None) s (stands clean));
  placed = placed;
  unmet = unmet ∙ sym (all_unmet r.without.now);
  refused = refused;
  written = appends_nothing start;
}

-- ---- faults

pub begin_fails : (asked : Terms) (input : Option (List ℕ)) (old new : State) (calls : Option WriteCalls) (fault : CreateFault) → IsLive old
    → (IsTrue old.is_open → IsFresh old) → (HasCleanDisk new → IsLive old → RefusedFor old new fault)
    → FailsInside asked input old new calls (Book fault)
begin_fails asked input old new calls create.NotABook live fresh refused = λ clean opened. refused clean live opened (fresh opened).0
begin_fails asked input old new calls create.Device live fresh refused = λ clean. by (old.is_open) refl clean
  where
    by : (b : Bool) → old.is_open ≡ b → HasCleanDisk new → DiskFailed old new ⊎ LacksRoom new
    by true is clean = inl (refused clean live (fresh is).0)
    by false is clean = inl (inr is)
begin_fails asked input old new calls create.InDoubt live fresh refused = λ clean. inl (refused clean live)
begin_fails asked input old new calls create.Memory live fresh refused = tt

-- a fault of judging is one of the whole
pub inside_fails : (asked : Terms) (input : Option (List ℕ)) (old mid new : State) (calls : Option WriteCalls) (fault : RestoreFault)
    → Survives old mid (λ _. ⊥) → Survives mid new (λ _. ⊥) → FailsAt input mid new calls fault → FailsInside asked input old new calls fault
inside_fails asked input old mid new calls (Book create.NotABook) one two fails = λ clean. absurd (fails clean)
inside_fails asked input old mid new calls (Book create.Device) one two fails = λ clean. since clean (fails clean)
  where
    since : HasCleanDisk new → DiskFailed mid new ⊎ LacksRoom new → DiskFailed old new ⊎ LacksRoom new
    since clean (inl failed) = inl (failed_since old mid new one two clean failed)
    since clean (inr lacks) = inr lacks
inside_fails asked input old mid new calls (Book create.InDoubt) one two fails = absurd fails
inside_fails asked input old mid new calls (Book create.Memory) one two fails = tt
inside_fails asked input old mid new calls (Text fault) one two fails = fails
inside_fails asked input old mid new calls (OfSum fault) one two fails = absurd fails
inside_fails asked input old mid new calls Write one two fails = fails

-- ---- the end

lines_of : (xs : List (Bor Without)) → flat_map (λ it. unmet_line it.now) xs ≡ unmet_lines (map (λ it. it.now) xs)
lines_of [] = refl
lines_of (x ∷ xs) = ap (λ l. unmet_line x.now ++ l) (lines_of xs)

-- what is kept of a book doesn't matter any more
let_go : (place : ℕ) (done : List Dumped) (verdicts : List _) (Kept : List _ → Type 0) (s : State) → AreRestored place done verdicts Kept s
    → AreRestored place done verdicts (IsOf None) s
let_go place done verdicts Kept s it = record {
  book = it.book;
  restores = it.restores;
  stands = record { stands = it.stands.stands; placed = it.stands.placed; kept = tt };
}

-- a whole dump is its front and its end
whole_again : (input : Option (List ℕ)) (dump : Dump) → IfSome input (λ text. text ≡ dump_text dump)
    → IfSome input (λ text. text ≡ front_text (record { head = dump.head; above = dump.above; parts = dump.parts }) ++ line (end_text dump.end))
whole_again None dump is = tt
whole_again (Some text) dump is =
    let head = line (head_text dump.head) in
    let parts = flat_map part_text dump.parts in
    let end = line (end_text dump.end) in
    is ∙ ap (λ t. head ++ t) (sym (append_assoc dump.above parts end)) ∙ sym (append_assoc head (dump.above ++ parts) end)

-- what was judged of a dump that was read to its end is said, also where nothing is made of it
pub says_judged : (asked : Terms) (input before written : Option (List ℕ)) (s : State) (how : Restored) → JudgesWhole asked input before written s how
    → SaysSome asked.without input before written s
says_judged asked input before written s how judges =
    let it = judges.0 in
    record {
      place = it.dump.head.place;
      commands = it.commands;
      begin = begins_as input (record { head = it.dump.head; above = it.dump.above; parts = it.dump.parts }) (line (end_text it.dump.end)) it.commands
          it.dump.head.place it.read.is.2 refl (whole_again input it.dump it.read.whole);
      verdicts = it.verdicts;
      judged = λ clean. let restored = judges.3 clean in (restored.book, restored.restores);
      some = all_some before written _ judges.2;
    }

module _ (asked : Terms) (start : Option (List ℕ)) (head : Head) (old new : Point) (begins : BeginsCommands start old.known head old.reading)
    (so : SoFar head.place old.written old.written [] old.made old.state) (terms : old.made.without.now ≡ asked.without)
    (same : new.made.without ≡ old.made.without) (sum : Sum) (all : IsBehindAll sum old new) where
  -- the whole dump, and what came of it
  at : (dump : Dump) × (commands : List Dumped) × IsReadWhole start dump commands sum × (dump.head ≡ (front_of head begins.0).head)
      × SoFar head.place old.written new.written commands new.made new.state
  at = all head.place start old.written (front_of head begins.0) [] begins.1 so

  without_is : new.made.without.now ≡ asked.without
  without_is = ap (λ w. w.now) same ∙ terms

  pub compare_fails : (fault : SumFault) → (asked.strictness ≡ Unchanged) × ((dump : Dump) → dump.head ≡ head → SaysOtherwise dump sum fault)
      → SumFails asked start fault
  compare_fails fault (strict, says) = (strict, at.0, at.1, sum, at.2, says at.0 at.3)

  pub judges_whole : (how : Restored) (written : Option (List ℕ))
      → (asked.strictness ≡ Unchanged → (dump : Dump) → IsSumOf sum dump → dump.head ≡ head → Rattle.lot_dump.specs.Form.IsHead head → IsUnchanged dump)
      → how ≡ outcome_of asked.tolerance (map (λ it. it.now) new.made.unmet.items) new.made.refused
      → Appends new.written written (flat_map (λ (it : Bor Without). unmet_line it.now) new.made.unmet.items)
      → JudgesWhole asked start old.written written new.state how
  judges_whole how written unchanged is wrote =
      let unmet : map (λ it. it.now) new.made.unmet.items ≡ unmet_of asked.without at.1 = at.4.unmet ∙ ap (λ w. unmet_of w at.1) without_is in (
        record {
          dump = at.0;
          commands = at.1;
          sum = sum;
          read = at.2;
          unchanged = λ strict. unchanged strict at.0 at.2.found at.3 begins.1.is_head;
          verdicts = at.4.verdicts;
        },
        is ∙ ap (λ u. outcome_of asked.tolerance u new.made.refused) unmet
            ∙ ap (λ r. outcome_of asked.tolerance (unmet_of asked.without at.1) r) at.4.refused,
        appends_both old.written new.written written _ _
            (subst (λ (w : List Without). Appends old.written new.written (verdict_lines (kept_of w at.1) at.4.verdicts)) without_is at.4.written)
            (subst (Appends new.written written) (lines_of new.made.unmet.items ∙ ap unmet_lines unmet) wrote),
        λ clean.
            subst (λ (p : ℕ). AreRestored p (kept_of asked.without at.1) at.4.verdicts (IsOf None) new.state) (sym (ap (λ (h : Head). h.place) at.3))
            (let_go head.place (kept_of asked.without at.1) at.4.verdicts (IsOf new.made.restorer.kept) new.state
            (subst (λ (w : List Without). AreRestored head.place (kept_of w at.1) at.4.verdicts (IsOf new.made.restorer.kept) new.state) without_is
            (at.4.restored clean))),
      )

  -- the dump begins with all its commands
  begins_whole : IfSome start (BeginsWith head.place at.1)
  begins_whole =
      let dump = at.0 in
      begins_as start (record { head = dump.head; above = dump.above; parts = dump.parts }) (line (end_text dump.end)) at.1 head.place at.2.is.2
      (ap (λ (h : Head). h.place) at.3) (whole_again start dump at.2.whole)

  judged_whole : HasCleanDisk new.state → (book : List Entry) × Restores head.place [] (kept_of asked.without at.1) at.4.verdicts book
  judged_whole clean =
      let restored = at.4.restored clean in
      (restored.book, subst (λ w. Restores head.place [] (kept_of w at.1) at.4.verdicts restored.book) without_is restored.restores)

  -- what is written where it isn't what it says, or where what leaves out none isn't written
  pub says_compared : SaysSome asked.without start old.written new.written new.state
  says_compared =
      says_some asked.without start old.written new.written new.state head.place at.1 at.4.verdicts begins_whole judged_whole
      (all_some old.written new.written _
      (subst (λ (w : List Without). Appends old.written new.written (verdict_lines (kept_of w at.1) at.4.verdicts)) without_is at.4.written))

  pub says_unmet : (written : Option (List ℕ)) (fault : PrintFault)
      → WritesLine new.written written (Err fault) (flat_map (λ (it : Bor Without). unmet_line it.now) new.made.unmet.items)
      → SaysSome asked.without start old.written written new.state
  says_unmet written fault wrote =
      let unmet : map (λ it. it.now) new.made.unmet.items ≡ unmet_of asked.without at.1 = at.4.unmet ∙ ap (λ w. unmet_of w at.1) without_is in
      record {
        place = head.place;
        commands = at.1;
        begin = begins_whole;
        verdicts = at.4.verdicts;
        judged = judged_whole;
        some = some_behind old.written new.written written _ _
            (subst (λ (w : List Without). Appends old.written new.written (verdict_lines (kept_of w at.1) at.4.verdicts)) without_is at.4.written)
            (cut_some new.written written _ fault
            (subst (WritesLine new.written written (Err fault)) (lines_of new.made.unmet.items ∙ ap unmet_lines unmet) wrote));
      }

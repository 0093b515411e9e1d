-- One more command of a dump: it is left out, or judged and said.
use Rattle.std.proofs.Common.{◌≡◌, ◌≤◌, ◌∙◌, ◌⊎◌, inl, inr, Err, ◌+◌, ℕ, Bool, true, false, not, List, [], ◌∷◌, ◌++◌, Option, Ok, ap, append-nil, append_assoc, arith, length, length-append, map, refl, subst, sym}
use Rattle.std.specs.Prelude.{filter, ◌||◌}
use Rattle.std.specs.List.{list_any}
use Rattle.std.specs.Io.KnownBytes.{Appends}
use Rattle.std.proofs.lemmas.List.Elements.{filter-append}
use Rattle.std.proofs.lemmas.List.Folds.{list_any-append}
use Rattle.sqlite.specs.State.{HasCleanDisk, State, Survives}
use Rattle.lot_book.specs.Facts.{Entry}
use Rattle.lot_book.specs.declared.verdict.Verdict.{Verdict}
use Rattle.lot_load.specs.Kept.{IsOf}
use Rattle.lot_parts.specs.declared.dumped.Dumped.{Dumped}
use Rattle.lot_without.specs.declared.without.Without.{Without}
use Rattle.lot_restore.specs.Fault.{fault_of_table}
use Rattle.lot_restore.specs.Judge.{HasNoRoomBy, JudgesNextBy, MayJudge}
use Rattle.lot_restore.specs.LeftOut.{is_left_out, is_of, kept_of, meets_none, unmet_of}
use Rattle.lot_restore.specs.Lines.{verdict_line, verdict_lines}
use Rattle.lot_restore.specs.Restored.{NeverFall, Restores, edition_at, place_after}
use Rattle.lot_restore.specs.Restoring.{FailsAt, LacksRoom}
use Rattle.lot_restore.specs.Stopped.{ComesTo}
use Rattle.lot_restore.specs.SoFar.{HasNoRoomBehind, JudgeFails, SoFar, refused_behind, refused_with}
use Rattle.lot_restore.specs.declared.restoration.Refused.{Refused}
use Rattle.lot_restore.specs.declared.restoration.Restoration.{Restoration}
use Rattle.lot_restore.specs.declared.fault.RestoreFault.{RestoreFault}
use Rattle.lot_restore.specs.declared.fault.RestoreFault.TheVariants.{Book, Sum as OfSum, Text, Write}
use Rattle.lot_store.specs.declared.fault.CreateFault.TheVariants as create
use Rattle.lot_table.specs.Statement.{DiskFailed}
use Rattle.lot_table.specs.declared.fault.Fault.{Fault}
use Rattle.lot_table.specs.declared.fault.Fault.TheVariants as table
use Rattle.lot_io.specs.Writes.{WriteCalls}
use Rattle.lot_parts.specs.Commands.{SayAll}
use Rattle.lot_parts.specs.Dump.{AreParts, Part}
use Rattle.lot_restore.proofs.PlaceLemmas.{failed_since}
use Rattle.lot_restore.proofs.RestoredLemmas.{next_may, next_restored}
use Rattle.lot_restore.proofs.SaidLemmas.{appends_both}

-- ---- lists

-- what one more item adds to what passes a test
module _ {X : Type 0} (p : X → Bool) (xs : List X) (x : X) where
  pub passes : p x ≡ true → filter p (xs ++ x ∷ []) ≡ filter p xs ++ x ∷ []
  passes is = filter-append p xs (x ∷ []) ∙ ap (λ l. filter p xs ++ l) (one is)
    where
      one : p x ≡ true → filter p (x ∷ []) ≡ x ∷ []
      one is = rw is refl

  pub fails : p x ≡ false → filter p (xs ++ x ∷ []) ≡ filter p xs
  fails is = filter-append p xs (x ∷ []) ∙ ap (λ l. filter p xs ++ l) (one is) ∙ append-nil (filter p xs)
    where
      one : p x ≡ false → filter p (x ∷ []) ≡ []
      one is = rw is refl

-- what passes two tests passes one that asks for both
both_pass : {X : Type 0} (p q r : X → Bool) → ((x : X) → r x ≡ true → (p x ≡ true) × (q x ≡ true)) → ((x : X) → p x ≡ true → q x ≡ r x)
    → ((x : X) → p x ≡ false → r x ≡ false) → (xs : List X) → filter q (filter p xs) ≡ filter r xs
both_pass p q r both with_p without [] = refl
both_pass {X} p q r both with_p without (x ∷ xs) = go (both_pass p q r both with_p without xs) (p x) (r x) refl refl
  where
    clash : true ≡ false → ⊥
    clash is = cc

    go : filter q (filter p xs) ≡ filter r xs → (a b : Bool) → p x ≡ a → r x ≡ b → filter q (filter p (x ∷ xs)) ≡ filter r (x ∷ xs)
    go more true true is_p is_r = rw (is_p, is_r, with_p x is_p ∙ is_r) (ap (λ l. x ∷ l) more)
    go more true false is_p is_r = rw (is_p, is_r, with_p x is_p ∙ is_r) more
    go more false true is_p is_r = absurd (clash (sym is_r ∙ without x is_p))
    go more false false is_p is_r = rw (is_p, is_r) more

-- ---- what is left out

pub kept_more : (without : List Without) (done : List Dumped) (next : Dumped) → is_left_out without next ≡ false
    → kept_of without (done ++ next ∷ []) ≡ kept_of without done ++ next ∷ []
kept_more without done next is = passes (λ dumped. not (is_left_out without dumped)) done next (ap not is)

pub left_more : (without : List Without) (done : List Dumped) (next : Dumped) → is_left_out without next ≡ true
    → kept_of without (done ++ next ∷ []) ≡ kept_of without done
left_more without done next is = fails (λ dumped. not (is_left_out without dumped)) done next (ap not is)

pub unmet_more : (without : List Without) (done : List Dumped) (next : Dumped)
    → filter (λ it. not (is_of next it)) (unmet_of without done) ≡ unmet_of without (done ++ next ∷ [])
unmet_more without done next = both_pass (meets_none done) (λ it. not (is_of next it)) (meets_none (done ++ next ∷ [])) both with_one without_one without
  where
    split : (it : Without) → list_any (λ one. is_of one it) (done ++ next ∷ []) ≡ (list_any (λ one. is_of one it) done || is_of next it)
    split it = list_any-append (λ one. is_of one it) done (next ∷ []) ∙ ap (λ b. list_any (λ one. is_of one it) done || b) (last (is_of next it))
      where
        last : (b : Bool) → (b || false) ≡ b
        last true = refl
        last false = refl

    neither : (a b : Bool) → not (a || b) ≡ true → (not a ≡ true) × (not b ≡ true)
    neither true b is = cc
    neither false true is = cc
    neither false false is = (refl, refl)

    second : (a b : Bool) → not a ≡ true → not b ≡ not (a || b)
    second true b is = cc
    second false b is = refl

    first : (a b : Bool) → not a ≡ false → not (a || b) ≡ false
    first true b is = refl
    first false b is = cc

    both : (it : Without) → meets_none (done ++ next ∷ []) it ≡ true → (meets_none done it ≡ true) × (not (is_of next it) ≡ true)
    both it is = neither (list_any (λ one. is_of one it) done) (is_of next it) (sym (ap not (split it)) ∙ is)

    with_one : (it : Without) → meets_none done it ≡ true → not (is_of next it) ≡ meets_none (done ++ next ∷ []) it
    with_one it is = second (list_any (λ one. is_of one it) done) (is_of next it) is ∙ sym (ap not (split it))

    without_one : (it : Without) → meets_none done it ≡ false → meets_none (done ++ next ∷ []) it ≡ false
    without_one it is = ap not (split it) ∙ first (list_any (λ one. is_of one it) done) (is_of next it) is

-- ---- numbers

lower : (a b : ℕ) (dumped : List Dumped) → a ≤ b → NeverFall b dumped → NeverFall a dumped
lower a b [] least rise = tt
lower a b (it ∷ more) least rise = (omega (arith, least, rise.0), rise.1)

-- numbers never fall of those that pass a test
pub kept_rise : (p : Dumped → Bool) (least : ℕ) (dumped : List Dumped) → NeverFall least dumped → NeverFall least (filter p dumped)
kept_rise p least [] rise = tt
kept_rise p least (it ∷ more) rise =
    go (kept_rise p it.number more rise.1) (kept_rise p least more (lower least it.number more rise.0 rise.1)) (p it) refl
  where
    go : NeverFall it.number (filter p more) → NeverFall least (filter p more) → (b : Bool) → p it ≡ b → NeverFall least (filter p (it ∷ more))
    go kept left true is = rw is (rise.0, kept)
    go kept left false is = rw is left

-- ---- verdicts

pub refused_more : (before : Refused) (verdicts : List Verdict) (verdict : Verdict)
    → refused_behind before (verdicts ++ verdict ∷ []) ≡ refused_with (refused_behind before verdicts) verdict
refused_more before [] verdict = refl
refused_more before (v ∷ verdicts) verdict = refused_more (refused_with before v) verdicts verdict

pub lines_more : (dumped : List Dumped) (verdicts : List Verdict) (next : Dumped) (verdict : Verdict) → length verdicts ≡ length dumped
    → verdict_lines (dumped ++ next ∷ []) (verdicts ++ verdict ∷ []) ≡ verdict_lines dumped verdicts ++ verdict_line next verdict
lines_more [] [] next verdict same = append-nil (verdict_line next verdict)
lines_more [] (v ∷ verdicts) next verdict same = absurd (omega (arith, same))
lines_more (d ∷ dumped) [] next verdict same = absurd (omega (arith, same))
lines_more (d ∷ dumped) (v ∷ verdicts) next verdict same =
    ap (λ l. verdict_line d v ++ l) (lines_more dumped verdicts next verdict (omega (arith, same)))
    ∙ sym (append_assoc (verdict_line d v) (verdict_lines dumped verdicts) (verdict_line next verdict))

-- ---- one more command

-- it is left out
pub leaves_out : (place : ℕ) (start now : Option (List ℕ)) (done : List Dumped) (next : Dumped) (old new : Restoration) (s : State)
    → SoFar place start now done old s → is_left_out old.without.now next ≡ true → new.without.now ≡ old.without.now
    → new.restorer ≡ old.restorer → new.refused ≡ old.refused
    → map (λ it. it.now) new.unmet.items ≡ filter (λ it. not (is_of next it)) (map (λ it. it.now) old.unmet.items)
    → SoFar place start now (done ++ next ∷ []) new s
leaves_out place start now done next old new s so is without restorer refused unmet =
    let left = left_more old.without.now done next is in
    let kept : kept_of new.without.now (done ++ next ∷ []) ≡ kept_of old.without.now done = ap (λ w. kept_of w (done ++ next ∷ [])) without ∙ left in
    record {
      verdicts = so.verdicts;
      as_many = so.as_many ∙ sym (ap length kept);
      restored = λ clean.
          rw (kept, restorer) (so.restored clean);
      placed = ap (λ r. r.place) restorer ∙ so.placed;
      unmet = unmet ∙ ap (filter (λ it. not (is_of next it))) so.unmet ∙ unmet_more old.without.now done next
          ∙ ap (λ w. unmet_of w (done ++ next ∷ [])) (sym without);
      refused = refused ∙ so.refused;
      written = rw kept so.written;
    }

-- it is judged, and what there is to say is said
pub judges_more : (place : ℕ) (start mid now : Option (List ℕ)) (done : List Dumped) (next : Dumped) (verdict : Verdict)
    (old new : Restoration) (s t : State) → SoFar place start mid done old s → NeverFall 0 (done ++ next ∷ [])
    → is_left_out old.without.now next ≡ false → new.without.now ≡ old.without.now → new.restorer.place ≡ old.restorer.place
    → new.refused ≡ refused_with old.refused verdict
    → map (λ it. it.now) new.unmet.items ≡ filter (λ it. not (is_of next it)) (map (λ it. it.now) old.unmet.items)
    → JudgesNextBy (edition_at old.restorer.place next.number) (IsOf old.restorer.kept) (IsOf new.restorer.kept) next.key next.command s t (Ok verdict)
    → (HasCleanDisk t → HasCleanDisk s) → Appends mid now (verdict_line next verdict) → SoFar place start now (done ++ next ∷ []) new t
judges_more place start mid now done next verdict old new s t so rise is without placed refused unmet judges early said =
    let more = kept_more old.without.now done next is in
    let kept : kept_of new.without.now (done ++ next ∷ []) ≡ kept_of old.without.now done ++ next ∷ [] = ap (λ w. kept_of w (done ++ next ∷ [])) without ∙ more in
    let test = λ (dumped : Dumped). not (is_left_out old.without.now dumped) in
    let rises : NeverFall 0 (kept_of old.without.now done ++ next ∷ []) =
    subst (NeverFall 0) more (kept_rise test 0 (done ++ next ∷ []) rise) in
    record {
      verdicts = so.verdicts ++ verdict ∷ [];
      as_many = length-append so.verdicts (verdict ∷ []) ∙ ap (λ n. n + 1) so.as_many
          ∙ sym (ap length kept ∙ length-append (kept_of old.without.now done) (next ∷ []));
      restored = λ clean.
          rw kept
          (next_restored place (kept_of old.without.now done) so.verdicts (IsOf old.restorer.kept) (IsOf new.restorer.kept) next verdict s t clean rises
          (so.restored (early clean))
          (subst (λ p. JudgesNextBy (edition_at p next.number) (IsOf old.restorer.kept) (IsOf new.restorer.kept) next.key next.command s t (Ok verdict)) so.placed judges));
      placed = placed ∙ so.placed;
      unmet = unmet ∙ ap (filter (λ it. not (is_of next it))) so.unmet ∙ unmet_more old.without.now done next
          ∙ ap (λ w. unmet_of w (done ++ next ∷ [])) (sym without);
      refused = refused ∙ ap (λ r. refused_with r verdict) so.refused ∙ sym (refused_more _ so.verdicts verdict);
      written = rw kept
          (subst (Appends start now) (sym (lines_more (kept_of old.without.now done) so.verdicts next verdict so.as_many))
          (appends_both start mid now (verdict_lines (kept_of old.without.now done) so.verdicts) (verdict_line next verdict) so.written said));
    }

-- to which verdict it comes
pub comes_to : (r : Restoration) (KeptThen : List Entry → Type 0) (next : Dumped) (verdict : Verdict) (s t : State) → is_left_out r.without.now next ≡ false
    → JudgesNextBy (edition_at r.restorer.place next.number) (IsOf r.restorer.kept) KeptThen next.key next.command s t (Ok verdict)
    → (HasCleanDisk t → HasCleanDisk s) → ComesTo r next verdict s t
comes_to r KeptThen next verdict s t is judges early clean place start now done rise so =
    let more = kept_more r.without.now done next is in
    let test = λ (dumped : Dumped). not (is_left_out r.without.now dumped) in
    let restored =
    next_restored place (kept_of r.without.now done) so.verdicts (IsOf r.restorer.kept) KeptThen next verdict s t clean
    (subst (NeverFall 0) more (kept_rise test 0 (done ++ next ∷ []) rise)) (so.restored (early clean))
    (subst (λ p. JudgesNextBy (edition_at p next.number) (IsOf r.restorer.kept) KeptThen next.key next.command s t (Ok verdict)) so.placed judges) in
    (restored.book, subst (λ l. Restores place [] l (so.verdicts ++ verdict ∷ []) restored.book) (sym more) restored.restores)

-- ---- why it isn't judged

pub judge_fails : (r : Restoration) (KeptThen : List Entry → Type 0) (next : Dumped) (old new : State) (calls : Option WriteCalls) (fault : Fault)
    → JudgesNextBy (edition_at r.restorer.place next.number) (IsOf r.restorer.kept) KeptThen next.key next.command old new (Err fault)
    → is_left_out r.without.now next ≡ false → JudgeFails r next old new calls (fault_of_table fault)
judge_fails r KeptThen next old new calls fault judges is = by fault judges
  where
    early : Survives old new (λ _. ⊥) → HasCleanDisk new → HasCleanDisk old
    early crash clean = omega (arith, clean, crash.clean)

    may : (place : ℕ) (start now : Option (List ℕ)) (done : List Dumped) (so : SoFar place start now done r old) (clean : HasCleanDisk old)
        → NeverFall 0 (done ++ next ∷ [])
        → MayJudge (edition_at r.restorer.place next.number) (so.restored clean).book (place_after place (kept_of r.without.now done) so.verdicts 0)
    may place start now done so clean rise =
        let more = kept_more r.without.now done next is in
        let test = λ (dumped : Dumped). not (is_left_out r.without.now dumped) in
        subst (λ p. MayJudge (edition_at p next.number) (so.restored clean).book (place_after place (kept_of r.without.now done) so.verdicts 0)) (sym so.placed)
        (next_may place (kept_of r.without.now done) so.verdicts (so.restored clean).book next
        (subst (NeverFall 0) more (kept_rise test 0 (done ++ next ∷ []) rise)) (so.restored clean).restores)

    by : (f : Fault) → JudgesNextBy (edition_at r.restorer.place next.number) (IsOf r.restorer.kept) KeptThen next.key next.command old new (Err f)
        → JudgeFails r next old new calls (fault_of_table f)
    by table.Device it = λ clean place start now done rise so.
        let before = early it.crash clean in
        let restored = so.restored before in
        behind place start now done so before
        (it.device clean refl restored.book (place_after place (kept_of r.without.now done) so.verdicts 0) restored.stands (may place start now done so before rise))
      where
        behind : (place : ℕ) (start now : Option (List ℕ)) (done : List Dumped) (so : SoFar place start now done r old) (before : HasCleanDisk old)
            → DiskFailed old new ⊎ HasNoRoomBy (edition_at r.restorer.place next.number) next.key next.command (so.restored before).book
            (so.restored before).stands.stands.tables old.now.trees new
            → DiskFailed old new ⊎ HasNoRoomBehind place (kept_of r.without.now done) next old.now.trees new
        behind place start now done so before (inl failed) = inl failed
        behind place start now done so before (inr lacks) = inr (
          so.verdicts,
          (so.restored before).book,
          (so.restored before).restores,
          (so.restored before).stands.stands.tables,
          subst (λ p. HasNoRoomBy (edition_at p next.number) next.key next.command (so.restored before).book (so.restored before).stands.stands.tables old.now.trees new) so.placed lacks,
        )
    by table.Damaged it = λ clean place start now done rise so.
        let before = early it.crash clean in
        let restored = so.restored before in
        it.damaged clean refl restored.book (place_after place (kept_of r.without.now done) so.verdicts 0) restored.stands (may place start now done so before rise)
    by table.Memory it = tt

-- ---- in the order of their numbers

pub says_rise : (last : ℕ) (parts : List Part) (commands : List Dumped) → AreParts last parts → SayAll parts commands → NeverFall last commands
says_rise last [] [] are all = tt
says_rise last [] (d ∷ commands) are all = absurd all
says_rise last (p ∷ parts) [] are all = absurd all
says_rise last (p ∷ parts) (d ∷ commands) are all =
    let rest = says_rise p.heading.number parts commands are.3 all.1 in
    let same : d.number ≡ p.heading.number = all.0.0 in
    (omega (arith, are.0, same), subst (λ n. NeverFall n commands) (sym same) rest)

-- ---- all that is left of a dump

-- where a fault of judging stops what came before
pub fails_on : (input : Option (List ℕ)) (first old new : State) (calls : Option WriteCalls) (fault : RestoreFault) (r : Restoration) (next : Dumped)
    (place : ℕ) (start now : Option (List ℕ)) (done : List Dumped) → SoFar place start now done r old → NeverFall 0 (done ++ next ∷ [])
    → Survives first old (λ _. ⊥) → Survives old new (λ _. ⊥) → JudgeFails r next old new calls fault → FailsAt input first new calls fault
fails_on input first old new calls (Book create.NotABook) r next place start now done so rise one two fails = λ clean.
    fails clean place start now done rise so
fails_on input first old new calls (Book create.Device) r next place start now done so rise one two fails = λ clean.
    since clean (fails clean place start now done rise so)
  where
    since : HasCleanDisk new → DiskFailed old new ⊎ HasNoRoomBehind place (kept_of r.without.now done) next old.now.trees new → DiskFailed first new ⊎ LacksRoom new
    since clean (inl failed) = inl (failed_since first old new one two clean failed)
    since clean (inr lacks) = inr (place, kept_of r.without.now done, next, old.now.trees, lacks)
fails_on input first old new calls (Book create.InDoubt) r next place start now done so rise one two fails = fails
fails_on input first old new calls (Book create.Memory) r next place start now done so rise one two fails = tt
fails_on input first old new calls (Text fault) r next place start now done so rise one two fails = absurd fails
fails_on input first old new calls (OfSum fault) r next place start now done so rise one two fails = absurd fails
fails_on input first old new calls Write r next place start now done so rise one two fails = fails

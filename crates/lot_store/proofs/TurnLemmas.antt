-- What is judged in the place of a command that was handed in: on what is known of a book, and so on the book; and a run of such.
use Rattle.std.proofs.Common.{◌≡◌, ◌≢◌, ◌∙◌, ◌+◌, ◌<◌, inl, inr, if◌then◌else◌, ℕ, ℤ, Bool, length, take, drop, get_or, add-one, append_assoc, length-append, take-append-drop, true, false, IsTrue, List, [], ◌∷◌, ◌++◌, Option, None, Some, Result, Ok, Err, map, refl, sym, ap, subst, arith}
use Rattle.std.specs.Prelude.{IfOk}
use Rattle.std.proofs.Math.Seq.{take-suc}
use Rattle.std.proofs.lemmas.Bool.{true≢false}
use Rattle.std.specs.Option.{unwrap_or}
use Rattle.sqlite.proofs.StateLemmas.{survives_then}
use Rattle.sqlite.specs.State.{HasCleanDisk, IsUnchanged, State}
use Rattle.sqlite.specs.Tree.{Trees}
use Rattle.lot_base.specs.Text.{same_text}
use Rattle.lot_book.specs.declared.verdict.Verdict.{Verdict}
use Rattle.lot_command.specs.Canonical.{canonical}
use Rattle.lot_command.specs.Sayable.{IsSayable}
use Rattle.lot_command.specs.declared.command.Command.{Command}
use Rattle.lot_command.specs.declared.command.Command.TheVariants.{Transaction}
use Rattle.lot_command.specs.declared.key.Key.{Key}
use Rattle.lot_command.specs.declared.transaction.Transaction.{Transaction as TransactionOf}
use Rattle.lot_book.specs.Booking.{TieRule}
use Rattle.lot_book.specs.Edition.{Second, ties_in}
use Rattle.lot_book.specs.Facts.{Entry, Facts, facts_of}
use Rattle.lot_book.specs.Openings.{AgreesWithOpenings, FactsWithOpenings, facts_with_openings, ties_on}
use Rattle.lot_book.specs.Step.{Accept, DecidesByUnder, DecidesUnder, Outcome, Refuse, Repeat}
use Rattle.lot_book.specs.declared.refusal.Refusal.{Refusal}
use Rattle.lot_book.specs.declared.refusal.Refusal.TheVariants.{KeyReused}
use Rattle.lot_completion.proofs.AgreeLemmas.{tried_on_book, tried_on_known}
use Rattle.lot_completion.specs.Completion.{IsCompletion}
use Rattle.lot_completion.specs.Turn.{Completes, IsTurnOn, Passes, Proposes, ProposesFor, ProposesSplit, SplitsFor, Tries, TriesBy, may_complete, passes}
use Rattle.lot_laws.proofs.StepLemmas.{step_one}
use Rattle.lot_laws.proofs.StepOpenings.{step_where_agreed}
use Rattle.lot_load.proofs.ReadLemmas.{HasRead, reads_as, reads_first, tells, tells_last}
use Rattle.lot_load.specs.Kept.{IsOf, Keeps, seen, seen_with_openings}
use Rattle.lot_load.specs.Tells.{Tells}
use Rattle.lot_load.specs.declared.kept.Kept.{Kept}
use Rattle.lot_rounding.specs.declared.asked.Asked.{Asked}
use Rattle.lot_rounding.specs.declared.ratio.Change.{Change}
use Rattle.lot_rounding.specs.declared.rounding.Rounding.{Rounding}
use Rattle.lot_split.specs.Held.{IsSplitOn}
use Rattle.lot_split.specs.declared.transaction.Split.{Split}
use Rattle.lot_load.specs.Paired.{KeepsPaired, whole_pairs}
use Rattle.lot_rows.proofs.StateLemmas.{has_still, survives_same}
use Rattle.lot_stored.specs.StandFor.{Stands}
use Rattle.lot_view.specs.View.{known, known_with_openings}
use Rattle.lot_view.specs.declared.view.View.{View}
use Rattle.lot_table.proofs.MakeLemmas.{keeps_undone}
use Rattle.lot_table.specs.Book.{IsUndone}
use Rattle.lot_table.specs.declared.fault.Fault as table
use Rattle.lot_store.specs.Apply.{AppliesWith, FailsFor, MayAdd, StandsWith, condition_after, store_fault_of}
use Rattle.lot_store.specs.Damage.{IsOfDamage}
use Rattle.lot_store.specs.Run.{EndsAt, RepliesTo, StopsWith, count_refused}
use Rattle.lot_store.specs.Session.{LeavesFirst}
use Rattle.lot_store.specs.Step.{condition_from}
use Rattle.lot_store.specs.Turned.{IsLastTurned, IsTrial, IsTried, IsTurned, RunsTurned, TurnsTo, handed, is_judged, judged_of, refusal_of}
use Rattle.lot_store.specs.declared.book.Condition.{Condition}
use Rattle.lot_store.specs.declared.book.Condition.TheVariants.{Ready}
use Rattle.lot_store.specs.declared.fault.StoreFault.{StoreFault}
use Rattle.lot_store.specs.declared.fault.StoreFault.TheVariants.{Damaged, Device, InDoubt, Memory, NeedsReopen}
use Rattle.lot_store.specs.declared.run.Ending.{Ending}
use Rattle.lot_store.specs.declared.run.Ending.TheVariants.{Output, Stopped}
use Rattle.lot_store.specs.declared.turn.Turn.{Turn}
use Rattle.lot_store.proofs.ApplyLemmas.{stands_along}
use Rattle.lot_store.proofs.ByTextLemmas.{has_along}
use Rattle.lot_store.proofs.CommitLemmas.{leaves_none, of_damaged, of_device}
use Rattle.lot_store.proofs.PairedLemmas.{all_before, paired_before, whole_then}
use Rattle.lot_store.proofs.RunLemmas.{Any, SoFar, LeavesWhatStands, run_ends, so_far_next}

-- what was handed in is what is left where a fault comes as its turn is worked out
handed_last : (fault : StoreFault) → fault ≢ InDoubt → (rounding : Option Rounding) (book : List Entry) (asked : Key × Asked)
    → IsLastTurned (is_judged (Err fault)) rounding book asked (handed asked)
handed_last Device sure rounding book asked = inr refl
handed_last Damaged sure rounding book asked = inr refl
handed_last Memory sure rounding book asked = inr refl
handed_last NeedsReopen sure rounding book asked = inr refl
handed_last InDoubt sure rounding book asked = absurd (sure refl)

-- ---- at most one command is tried

-- different commands have different canonical texts
abbrev pub TextsTellApart : Type 0
TextsTellApart = (a b : Command) → IsSayable a → IsSayable b → canonical a ≡ canonical b → a ≡ b

-- there is at most one completion
abbrev pub IsOneCompletion : Type 0
IsOneCompletion =
    (ties : TieRule) (facts : Facts) (account : List ℕ) (decimals : ℕ) (t : TransactionOf) (cs ds : List (List ℕ × ℤ)) (one other : TransactionOf)
    → IsCompletion ties facts account decimals t cs one → IsCompletion ties facts account decimals t ds other → (cs ≡ ds) × (one ≡ other)

-- there is at most one split
abbrev pub IsOneSplit : Type 0
IsOneSplit = (ties : TieRule) (facts : Facts) (asked : Split) (t other : TransactionOf)
    → IsSplitOn ties facts asked t → IsSplitOn ties facts asked other → t ≡ other

-- all three
abbrev pub AreOne : Type 0
AreOne = TextsTellApart × (IsOneCompletion × IsOneSplit)

some_one : {X : Type 0} (x y : X) → Some x ≡ Some y → x ≡ y
some_one x y is = cc

module _ (law : AreOne) (ties : TieRule) (facts : Facts) (rounding : Rounding) (asked : Asked) where
  -- where a text stands under the key, nothing is completed
  no_completion : (t : TransactionOf) (text : List ℕ) → facts.text ≡ Some text → (crumbs : List (List ℕ × ℤ)) (completed : TransactionOf)
      → Completes ties facts rounding t crumbs completed → ⊥
  no_completion t text is crumbs completed completes =
      let by_text = subst (λ (x : Option (List ℕ)). DecidesByUnder ties x facts (Transaction t) completes.outcome) is completes.decides in
      true≢false (sym completes.may ∙ ap may_complete by_text ∙ by_same (same_text text (canonical (Transaction t))))
    where
      by_same : (same : Bool) → may_complete (if same then Repeat else Refuse KeyReused) ≡ false
      by_same true = refl
      by_same false = refl

  one_completed : (a b : Command) → Proposes ties facts rounding asked a → Proposes ties facts rounding asked b → a ≡ b
  one_completed a b first second =
      let both : Transaction first.t ≡ Transaction second.t = sym first.is ∙ second.is in
      let same : second.t ≡ first.t = cc in
      first.other_is
      ∙ ap Transaction (by first.t first.completed second.completed first.proposes
      (subst (λ (x : TransactionOf). ProposesFor ties facts rounding asked.cash x second.completed) same second.proposes))
      ∙ sym second.other_is
    where
      by : (t one other : TransactionOf) → ProposesFor ties facts rounding asked.cash t one → ProposesFor ties facts rounding asked.cash t other → one ≡ other
      by t one other (inl (cs, c)) (inl (ds, d)) =
          (law.1.0 ties facts rounding.account rounding.decimals t cs ds one other c.completion d.completion).1
      by t one other (inr s) (inr r) =
          let both : Transaction one ≡ Transaction other =
          law.0 (Transaction one) (Transaction other) s.sayable r.sayable
          (some_one (canonical (Transaction one)) (canonical (Transaction other)) (sym s.says ∙ r.says)) in
          cc
      by t one other (inl (cs, c)) (inr r) = absurd (no_completion t (canonical (Transaction other)) r.says cs one c)
      by t one other (inr s) (inl (ds, d)) = absurd (no_completion t (canonical (Transaction one)) s.says ds other d)

  one_split : (change : Change) (a b : Command) → ProposesSplit ties facts rounding change asked.command a
      → ProposesSplit ties facts rounding change asked.command b → a ≡ b
  one_split change a b first second =
      let same : second.split ≡ first.split = some_one second.split first.split (sym second.asks ∙ first.asks) in
      first.other_is
      ∙ ap Transaction (by first.split first.made second.made first.splits
      (subst (λ (x : Split). SplitsFor ties facts x second.made) same second.splits))
      ∙ sym second.other_is
    where
      by : (split : Split) (one other : TransactionOf) → SplitsFor ties facts split one → SplitsFor ties facts split other → one ≡ other
      by split one other (inl (new, is)) (inl (also, too)) = law.1.1 ties facts split one other is too
      by split one other (inr s) (inr r) =
          let both : Transaction one ≡ Transaction other =
          law.0 (Transaction one) (Transaction other) s.sayable r.sayable
          (some_one (canonical (Transaction one)) (canonical (Transaction other)) (sym s.says ∙ r.says)) in
          cc
      by split one other (inl (new, is)) (inr r) = let both : None ≡ Some (canonical (Transaction other)) = sym new ∙ r.says in absurd cc
      by split one other (inr s) (inl (new, is)) = let both : None ≡ Some (canonical (Transaction one)) = sym new ∙ s.says in absurd cc

  one_tried : (a b : Command) → Tries ties facts rounding asked a → Tries ties facts rounding asked b → a ≡ b
  one_tried a b = by asked.split
    where
      by : (split : Option Change) → TriesBy split ties facts rounding asked a → TriesBy split ties facts rounding asked b → a ≡ b
      by None first second = one_completed a b first second
      by (Some change) first second = one_split change a b first second

-- ---- what is judged on a book

module _ (law : AreOne) (known : FactsWithOpenings) (book : List Entry) (key : Key) (rounding : Rounding) (asked : Asked)
    (agrees : AgreesWithOpenings known (facts_with_openings book key) asked.command) where
  -- nothing is tried
  pub stays : IsTrial (ties_on known) known.facts rounding asked None → IsTurnOn book key (Some rounding) asked asked.command
  stays none = inr (refl, λ other tries passed. none other (tried_on_known known book key rounding asked other agrees tries))

  -- what was tried is judged, or what was handed in
  pub tries : (other : Command) (found : Option Command) → Tries (ties_on known) known.facts rounding asked other → IsTried book key other found
      → IsTurnOn book key (Some rounding) asked (unwrap_or found asked.command)
  tries other None proposes refused = inr (
    refl,
    λ more again passed.
        refused (subst (Passes (ties_in Second book) (facts_of book key))
        (one_tried law (ties_on known) known.facts rounding asked more other (tried_on_known known book key rounding asked more agrees again) proposes) passed),
  )
  tries other (Some judged) proposes (is, passed) = inl (
    subst (Tries (ties_in Second book) (facts_of book key) rounding asked) (sym is)
        (tried_on_book known book key rounding asked other agrees proposes),
    subst (Passes (ties_in Second book) (facts_of book key)) (sym is) passed,
  )

module _ (known : FactsWithOpenings) (book : List Entry) (key : Key) (other : Command)
    (agrees : AgreesWithOpenings known (facts_with_openings book key) other) (outcome : Outcome)
    (decides : DecidesUnder (ties_on known) known.facts other outcome) where
  -- it isn't refused
  pub passes_tried : refusal_of outcome ≡ None → IsTried book key other (Some other)
  passes_tried is = (refl, (outcome, step_where_agreed Second known book key other outcome agrees decides, by outcome is))
    where
      by : (o : Outcome) → refusal_of o ≡ None → passes o ≡ true
      by (Accept legs) none = refl
      by Repeat none = refl
      by (Refuse refusal) none = absurd cc

  -- it is refused
  pub refused_tried : (refusal : Refusal) → refusal_of outcome ≡ Some refusal → IsTried book key other None
  refused_tried refusal is (found, on, passed) =
      let one : found ≡ outcome = step_one Second book key other found outcome on (step_where_agreed Second known book key other outcome agrees decides) in
      by outcome is (sym (ap passes one) ∙ passed)
    where
      by : (o : Outcome) → refusal_of o ≡ Some refusal → passes o ≡ true → ⊥
      by (Accept legs) some pass = absurd cc
      by Repeat some pass = absurd cc
      by (Refuse refused) some pass = true≢false (sym pass)

-- ---- working it out

-- without an account it is what was handed in
pub turns_none : (Kept : List Entry → Type 0) (keyed : Key × Asked) (s : State) (turn : Turn) → turn.other ≡ None → TurnsTo Kept Kept None keyed s s (Ok turn)
turns_none Kept keyed s turn none = record {
  turns = λ clean entries there. ((refl, ap (λ (o : Option Command). unwrap_or o keyed.1.command) none), there.1);
  same = λ clean. (refl, refl);
  rest = λ clean. tt;
  damaged = λ clean is. cc;
  device = λ clean is. cc;
  sure = λ is. cc;
  usable = λ is. cc;
  crash = survives_same s _;
}

-- what `turn_with` tells of the book
abbrev pub SaysTurn : Option Kept → Rounding → Key → Asked → Kept × Turn → List Entry → Type 0
SaysTurn kept rounding key asked found entries =
    IsOf kept entries → Keeps found.0 entries × IsTurned (Some rounding) entries (key, asked) (key, judged_of found.1 asked)

-- and what `try_with` tells
abbrev pub SaysTried : Kept → Key → Command → Kept × Turn → List Entry → Type 0
SaysTried kept key other found entries = Keeps kept entries → Keeps found.0 entries × IsTried entries key other found.1.other

-- what looking at a command tells
abbrev pub SaysLooked : Option Kept → Key → Command → Kept → List Entry → Type 0
SaysLooked kept key command looked entries =
    IsOf kept entries → Keeps looked entries × AgreesWithOpenings (seen_with_openings looked) (facts_with_openings entries key) command

-- what is tried on the view of what was looked at
pub trial_on : (looked : Kept) (view : View) → view ≡ looked.view → (rounding : Rounding) (asked : Asked) (found one : Option Command) → found ≡ one
    → IsTrial (ties_on (known_with_openings view)) (known view) rounding asked found
    → IsTrial (ties_on (seen_with_openings looked)) (seen looked) rounding asked one
trial_on looked view same rounding asked found one is tries =
    subst (λ (v : View). IsTrial (ties_on (known_with_openings v)) (known v) rounding asked one) same
    (subst (IsTrial (ties_on (known_with_openings view)) (known view) rounding asked) is tries)

module _ (law : AreOne) (kept : Option Kept) (rounding : Rounding) (key : Key) (asked : Asked) (looked : Kept) (old mid : State)
    (answers : Tells (SaysLooked kept key asked.command) old mid (Ok looked)) where
  looks : HasRead (SaysLooked kept key asked.command looked) old mid
  looks =
      reads_first _ _ _ (SaysLooked kept key asked.command looked) old mid looked answers (λ tables entries book stand good is. is entries book stand)

  -- what was handed in is judged
  pub says_stays : (turn : Turn) → turn.other ≡ None → IsTrial (ties_on (seen_with_openings looked)) (seen looked) rounding asked None
      → Tells (SaysTurn kept rounding key asked) old mid (Ok (looked, turn))
  says_stays turn is none =
      tells (SaysTurn kept rounding key asked) old mid (looked, turn)
      (reads_as (SaysLooked kept key asked.command looked) (SaysTurn kept rounding key asked (looked, turn)) old mid looks
      (λ tables entries book stand was of.
      let it = was of in (
        it.0,
        (
          refl,
          subst (λ (o : Option Command). IsTurnOn entries key (Some rounding) asked (unwrap_or o asked.command)) (sym is)
              (stays law (seen_with_openings looked) entries key rounding asked it.1 none),
        ),
      )))

  -- what is tried in its place is judged, or it
  pub says_tried : (other : Command) (new : State) (result : Result (Kept × Turn) table.Fault)
      → Tries (ties_on (seen_with_openings looked)) (seen looked) rounding asked other → Tells (SaysTried looked key other) mid new result
      → Tells (SaysTurn kept rounding key asked) old new result
  says_tried other new result proposes told =
      tells_last (SaysLooked kept key asked.command looked) (SaysTried looked key other) (SaysTurn kept rounding key asked) old mid new result looks told
      (λ entries answer was own of.
      let it = was of in
      let tried = own it.0 in
      (tried.0, (refl, tries law (seen_with_openings looked) entries key rounding asked it.1 other answer.1.other proposes tried.1)))

module _ (kept : Kept) (key : Key) (other : Command) (looked : Kept) (old mid : State)
    (answers : Tells (SaysLooked (Some kept) key other) old mid (Ok looked)) (outcome : Outcome)
    (decides : DecidesUnder (ties_on (seen_with_openings looked)) (seen looked) other outcome) where
  says_so : (turn : Turn)
      → ((entries : List Entry) → AgreesWithOpenings (seen_with_openings looked) (facts_with_openings entries key) other → IsTried entries key other turn.other)
      → Tells (SaysTried kept key other) old mid (Ok (looked, turn))
  says_so turn tried =
      tells (SaysTried kept key other) old mid (looked, turn)
      (reads_first _ _ _ (SaysTried kept key other (looked, turn)) old mid looked answers
      (λ tables entries book stand good is of. let it = is entries book stand of in (it.0, tried entries it.1)))

  -- it isn't refused, and is judged
  pub says_passed : (turn : Turn) → refusal_of outcome ≡ None → turn.other ≡ Some other → Tells (SaysTried kept key other) old mid (Ok (looked, turn))
  says_passed turn none is =
      says_so turn (λ entries agrees. subst (IsTried entries key other) (sym is) (passes_tried (seen_with_openings looked) entries key other agrees outcome decides none))

  -- it is refused, and isn't
  pub says_refused : (turn : Turn) (refusal : Refusal) → refusal_of outcome ≡ Some refusal → turn.other ≡ None
      → Tells (SaysTried kept key other) old mid (Ok (looked, turn))
  says_refused turn refusal some is =
      says_so turn (λ entries agrees.
      subst (IsTried entries key other) (sym is) (refused_tried (seen_with_openings looked) entries key other agrees outcome decides refusal some))

module _ (kept : Option Kept) (rounding : Rounding) (key : Key) (asked : Asked) (old new : State)
    (settled : HasCleanDisk new → IsTrue old.is_open → old.now ≡ old.committed) where
  pub turns_told : (looked : Kept) (turn : Turn) → Tells (SaysTurn kept rounding key asked) old new (Ok (looked, turn))
      → TurnsTo (IsOf kept) (IsOf (Some looked)) (Some rounding) (key, asked) old new (Ok turn)
  turns_told looked turn told = record {
    turns = λ clean entries there.
        let it = told.says clean there.0.tables there.0.has entries there.0.book there.0.stand there.1 in (it.1, it.0);
    same = λ clean. let it = (told.same clean).0 in (it.now_is, true_both new.is_open old.is_open it.is_open it.was_open);
    rest = λ clean. tt;
    damaged = λ clean is. cc;
    device = λ clean is. cc;
    sure = λ is. cc;
    usable = λ is. cc;
    crash = told.crash;
  }
    where
      true_both : (a b : Bool) → IsTrue a → IsTrue b → a ≡ b
      true_both a b one other = one ∙ sym other

  pub turns_failed : (KeptThen : List Entry → Type 0) (fault : table.Fault) → old.step_limit ≡ None → Tells (SaysTurn kept rounding key asked) old new (Err fault)
      → TurnsTo (IsOf kept) KeptThen (Some rounding) (key, asked) old new (Err (store_fault_of fault))
  turns_failed KeptThen fault unlimited told = record {
    turns = λ clean. tt;
    same = λ clean. tt;
    rest = λ clean. (keeps_undone old new (told.undone clean), now_is clean (told.undone clean));
    damaged = λ clean is entries there.
        let told_so : store_fault_of fault ≡ Damaged = cc in
        told.damaged clean (ap Err (of_damaged fault told_so)) unlimited there.0.tables there.0.has (entries, there.0.book, there.0.stand);
    device = λ clean is. let told_so : store_fault_of fault ≡ Device = cc in told.device clean (ap Err (of_device fault told_so));
    sure = λ is. let told_so : store_fault_of fault ≡ InDoubt = cc in none_in_doubt fault told_so;
    usable = λ is. let told_so : store_fault_of fault ≡ NeedsReopen = cc in none_reopens fault told_so;
    crash = told.crash;
  }
    where
      now_is : HasCleanDisk new → IsUndone old new → IsTrue new.is_open → new.now ≡ old.now
      now_is clean (inl same) opened = same.0.now_is
      now_is clean (inr back) opened = (back.undone opened).0 ∙ sym (settled clean (back.was_open opened))

      none_in_doubt : (f : table.Fault) → store_fault_of f ≢ InDoubt
      none_in_doubt table.TheVariants.Device is = cc
      none_in_doubt table.TheVariants.Damaged is = cc
      none_in_doubt table.TheVariants.Memory is = cc

      none_reopens : (f : table.Fault) → store_fault_of f ≢ NeedsReopen
      none_reopens table.TheVariants.Device is = cc
      none_reopens table.TheVariants.Damaged is = cc
      none_reopens table.TheVariants.Memory is = cc

-- ---- pairs of which all is known

-- two looks one after another find them paired
pub keeps_both : (kept looked found : Option Kept) (old mid new : State) → (HasCleanDisk new → IsUnchanged old mid) → (HasCleanDisk new → HasCleanDisk mid)
    → KeepsPaired kept looked old mid → KeepsPaired looked found mid new → KeepsPaired kept found old new
keeps_both kept looked found old mid new same before first second clean tables has =
    whole_then kept looked tables (whole_pairs found) (first (before clean) tables has) (second clean tables (has_still old mid tables (same clean) has))

-- the last of several, whose answer is passed on
pub keeps_last : (kept looked : Option Kept) (old mid new : State) (result : Result (Kept × Turn) table.Fault) → (HasCleanDisk new → IsUnchanged old mid)
    → (HasCleanDisk new → HasCleanDisk mid) → KeepsPaired kept looked old mid
    → IfOk result (λ (found : Kept × Turn). KeepsPaired looked (Some found.0) mid new)
    → IfOk result (λ (found : Kept × Turn). KeepsPaired kept (Some found.0) old new)
keeps_last kept looked old mid new (Ok found) same before first second = keeps_both kept looked (Some found.0) old mid new same before first second
keeps_last kept looked old mid new (Err fault) same before first second = tt

-- ---- in a run

module _ (kept kept_then : Option Kept) (rounding : Option Rounding) (asked : List (Key × Asked)) (done : List (Key × Command)) (from refused : ℕ)
    (old now new : State) (before mid : Option (List ℕ)) (keyed : Key × Asked)
    (so : SoFar kept Any rounding asked done from refused old now before mid) where
  -- what is judged is known
  pub so_far_turn : (turn : Turn) → TurnsTo (IsOf kept) (IsOf kept_then) rounding keyed now new (Ok turn) → KeepsPaired kept kept_then now new → SoFar kept_then (λ book. IsTurned rounding book keyed (keyed.0, judged_of turn keyed.1)) rounding asked done from refused old new before mid
  so_far_turn turn turned keeps = record {
    verdicts = so.verdicts;
    counted = so.counted;
    refusals = so.refusals;
    lines = so.lines;
    judged = λ clean entries stands.
        let early : HasCleanDisk now = omega (arith, clean, turned.crash.clean) in
        let was = so.judged early entries stands in
        let it = turned.turns clean was.0 was.2 in (
          was.0,
          was.1,
          (stands_along now new was.0 (turned.same clean).0 was.2.0, it.1),
          (λ trees may. elim (turned.crash.crash clean trees may) [ inl earlier ↦ was.3 trees earlier | inr none ↦ absurd none ]),
          it.0,
        );
    shut = λ clean is. so.shut (omega (arith, clean, turned.crash.clean)) (sym (turned.same clean).1 ∙ is);
    crash = survives_then old now new (λ trees. (entries : List Entry) → Stands old entries → LeavesFirst entries done trees) (λ _. ⊥)
        (λ trees. (entries : List Entry) → Stands old entries → LeavesFirst entries done trees) (λ clean db leaves. leaves) (λ clean db none. absurd none)
        so.crash turned.crash;
    turned = λ clean tables has.
        let was = so.turned (omega (arith, clean, turned.crash.clean)) tables has in
        (was.0, was.1, has_along now new was.0 (turned.same clean).0 was.2);
    paired = λ clean tables has.
        let early : HasCleanDisk now = omega (arith, clean, turned.crash.clean) in
        let was = so.paired early tables has in
        let it = so.turned early tables has in (
          was.0,
          all_before kept tables it.0 (whole_pairs kept_then) (paired_before tables done so.verdicts it.0 it.1 was.0) was.1 (keeps clean it.0 it.2),
        );
  }

  module _ (fault : StoreFault) (turned : TurnsTo (IsOf kept) (IsOf kept_then) rounding keyed now new (Err fault)) where
    -- a fault as it is worked out is one of the command that was handed in
    applies_not : AppliesWith (IsOf kept) (IsOf kept_then) keyed.0 keyed.1.command now new (Err fault)
    applies_not = record {
      judged = λ clean entries there. tt;
      settled = λ clean. tt;
      rest = turned.rest;
      damaged = λ clean is entries there. let same : fault ≡ Damaged = cc in turned.damaged clean (ap Err same) entries there;
      crash = leaves_none now new (MayAdd (StandsWith (IsOf kept) now) keyed.0 keyed.1.command (Err fault)) turned.crash;
    }

    fails_so : FailsFor kept keyed.0 keyed.1.command now new (Err fault)
    fails_so = record {
      device = λ clean is entries stands kept. let same : fault ≡ Device = cc in inl (turned.device clean (ap Err same));
      in_doubt = λ clean is. let same : fault ≡ InDoubt = cc in absurd (turned.sure (ap Err same));
      damage = λ clean tables has damaged. of_damage clean fault refl;
      unpaired = λ clean tables has unpaired. of_damage clean fault refl;
    }
      where
        of_damage : HasCleanDisk new → (f : StoreFault) → f ≡ fault → IsOfDamage now new (Err f)
        of_damage clean Damaged is = tt
        of_damage clean Memory is = tt
        of_damage clean NeedsReopen is = tt
        of_damage clean Device is = turned.device clean (ap Err (sym is))
        of_damage clean InDoubt is = absurd (turned.sure (ap Err (sym is)))

    ends_at : (number : ℕ) (written : Option (List ℕ)) (ending : Ending) → StopsWith number fault mid written ending
        → EndsAt number (Err fault) mid written ending
    ends_at number written ending (inl (stopped, printed)) = inl (fault, refl, stopped, printed)
    ends_at number written ending (inr (cut, part)) = inr (cut, part)

    -- the run ends at it
    pub turn_ends : (number : ℕ) (written : Option (List ℕ)) (ending : Ending) (was condition : Condition) (rest : List (Key × Asked)) → StopsWith number fault mid written ending
        → condition ≡ condition_after (Err fault) → number ≡ from + length done
        → (IsTrue new.is_open → (trees : Trees) → new.may_leave trees → trees ≡ new.committed.trees) → LeavesWhatStands old
        → RunsTurned rounding (asked ++ keyed ∷ rest) from old new before written was condition (record { replied = length done; refused = refused; ending = ending })
    turn_ends number written ending was condition rest stops after numbered safe stands_so =
        run_ends kept kept_then rounding asked done (map handed rest) from refused number old now new before mid written keyed (handed keyed) Any so numbered
        ending was condition rest refl (
          Err fault,
          applies_not,
          fails_so,
          (λ clean tables has. tt),
          (λ is. let same : fault ≡ NeedsReopen = cc in turned.usable (ap Err same)),
          after,
          ends_at number written ending stops,
        )
        (λ book known. handed_last fault (λ is. turned.sure (ap Err is)) rounding book keyed) safe stands_so

-- ---- the commands of a list, one after another

module _ (commands : List (Key × Asked)) (index : ℕ) (next other : Key × Asked) (is_next : next ≡ get_or commands index other) (within : index < length commands) where
  pub taken : take (index + 1) commands ≡ take index commands ++ next ∷ []
  taken = rw add-one (take-suc commands index other within) ∙ ap (λ (k : Key × Asked). take index commands ++ k ∷ []) (sym is_next)

  pub all_of : take index commands ++ next ∷ drop (index + 1) commands ≡ commands
  all_of = sym (
      sym (take-append-drop (index + 1) commands) ∙ ap (λ (cs : List (Key × Asked)). cs ++ drop (index + 1) commands) taken
      ∙ append_assoc (take index commands) (next ∷ []) (drop (index + 1) commands))

pub take_all : {X : Type 0} (xs : List X) → take (length xs) xs ≡ xs
take_all [] = refl
take_all (x ∷ xs) = ap (λ ys. x ∷ ys) (take_all xs)

-- what is judged is so, whatever it comes to
last_turned : (judged : Bool) (rounding : Option Rounding) (book : List Entry) (asked : Key × Asked) (turned : Key × Command)
    → IsTurned rounding book asked turned → IsLastTurned judged rounding book asked turned
last_turned false rounding book asked turned is = inl is
last_turned true rounding book asked turned is = is

-- The first commands of a list, so many, were judged and replied to. Now it is the turn of the next one.
module _ (commands : List (Key × Asked)) (index from refused : ℕ) (rounding : Option Rounding) (done : List (Key × Command)) (counted : index ≡ length done)
    (next other : Key × Asked) (is_next : next ≡ get_or commands index other) (within : index < length commands)
    (kept kept_mid : Option Kept) (old now mid : State) (before written : Option (List ℕ))
    (so : SoFar kept Any rounding (take index commands) done from refused old now before written)
    (safe : IsTrue mid.is_open → (trees : Trees) → mid.may_leave trees → trees ≡ mid.committed.trees) where
  numbered : from + index ≡ from + length done
  numbered = ap (λ n. from + n) counted

  -- the commands are these, and so many are replied to
  of_all : (new : State) (later : Option (List ℕ)) (was condition : Condition) (ending : Ending)
      → RunsTurned rounding (take index commands ++ next ∷ drop (index + 1) commands) from old new before later was condition (record { replied = length done; refused = refused; ending = ending })
      → RunsTurned rounding commands from old new before later was condition (record { replied = index; refused = refused; ending = ending })
  of_all new later was condition ending runs =
      subst (λ n. RunsTurned rounding commands from old new before later was condition (record { replied = n; refused = refused; ending = ending })) (sym counted)
      (subst (λ (cs : List (Key × Asked)). RunsTurned rounding cs from old new before later was condition (record { replied = length done; refused = refused; ending = ending }))
      (all_of commands index next other is_next within) runs)

  -- the run ends as its turn is worked out
  pub fault_ends : (fault : StoreFault) → TurnsTo (IsOf kept) (IsOf kept_mid) rounding next now mid (Err fault) → (later : Option (List ℕ)) (ending : Ending) (was condition : Condition)
      → StopsWith (from + index) fault written later ending → condition ≡ condition_after (Err fault) → LeavesWhatStands old
      → RunsTurned rounding commands from old mid before later was condition (record { replied = index; refused = refused; ending = ending })
  fault_ends fault turned later ending was condition stops after stands_so =
      of_all mid later was condition ending
      (turn_ends kept kept_mid rounding (take index commands) done from refused old now mid before written next so fault turned (from + index) later ending was condition
      (drop (index + 1) commands) stops after numbered safe stands_so)

  module _ (turn : Turn) (turned : TurnsTo (IsOf kept) (IsOf kept_mid) rounding next now mid (Ok turn)) (keeps : KeepsPaired kept kept_mid now mid) (command : Command) (is : command ≡ judged_of turn next.1) where
    abbrev judged : Key × Command
    judged = (next.0, judged_of turn next.1)

    so_mid : SoFar kept_mid (λ book. IsTurned rounding book next judged) rounding (take index commands) done from refused old mid before written
    so_mid = so_far_turn kept kept_mid rounding (take index commands) done from refused old now mid before written next so turn turned keeps

    -- it ends with the reply
    pub reply_ends : (kept_then : Option Kept) (new : State) (later : Option (List ℕ)) (ending : Ending) (was condition : Condition)
        → RepliesTo kept_mid kept_then next.0 command (from + index) mid new written later condition (Err ending)
        → (IsTrue new.is_open → (trees : Trees) → new.may_leave trees → trees ≡ new.committed.trees) → LeavesWhatStands old
        → RunsTurned rounding commands from old new before later was condition (record { replied = index; refused = refused; ending = ending })
    reply_ends kept_then new later ending was condition replies safe_then stands_so =
        of_all new later was condition ending
        (ended (subst (λ (c : Command). RepliesTo kept_mid kept_then next.0 c (from + index) mid new written later condition (Err ending)) is replies))
      where
        ended : RepliesTo kept_mid kept_then next.0 (judged_of turn next.1) (from + index) mid new written later condition (Err ending)
            → RunsTurned rounding (take index commands ++ next ∷ drop (index + 1) commands) from old new before later was condition (record { replied = length done; refused = refused; ending = ending })
        ended replies_so =
            run_ends kept_mid kept_then rounding (take index commands) done (map handed (drop (index + 1) commands)) from refused (from + index) old mid new before written later
            next judged (λ book. IsTurned rounding book next judged) so_mid numbered ending was condition (drop (index + 1) commands) refl replies_so
            (λ book known. last_turned (is_judged replies_so.0) rounding book next judged known) safe_then stands_so

    -- it goes on behind the reply
    pub goes_on : (kept_then : Option Kept) (new : State) (later : Option (List ℕ)) (verdict : Verdict) (condition : Condition)
        → RepliesTo kept_mid kept_then next.0 command (from + index) mid new written later condition (Ok verdict)
        → (IsTrue new.is_open → (trees : Trees) → new.may_leave trees → trees ≡ new.committed.trees)
        → (all : List (Key × Command)) × (index + 1 ≡ length all)
        × SoFar kept_then Any rounding (take (index + 1) commands) all from (refused + count_refused (verdict ∷ [])) old new before later
    goes_on kept_then new later verdict condition replies safe_then = (
      done ++ judged ∷ [],
      ap (λ n. n + 1) counted ∙ sym (length-append done (judged ∷ [])),
      subst (λ (cs : List (Key × Asked)). SoFar kept_then Any rounding cs (done ++ judged ∷ []) from (refused + count_refused (verdict ∷ [])) old new before later)
          (sym (taken commands index next other is_next within))
          (so_far_next kept_mid kept_then rounding (take index commands) done [] from refused (from + index) old mid new before written later
          next judged (λ book. IsTurned rounding book next judged) so_mid numbered verdict condition
          (subst (λ (c : Command). RepliesTo kept_mid kept_then next.0 c (from + index) mid new written later condition (Ok verdict)) is replies) safe_then
          (λ book known. known)),
    )

-- the condition of a book that could be used, after a fault as a turn is worked out
pub condition_turned : (A : Type 0) (fault : StoreFault) → fault ≢ InDoubt → fault ≢ NeedsReopen → condition_from {A = A} Ready (Err fault) ≡ condition_after (Err fault)
condition_turned A Device sure usable = refl
condition_turned A Damaged sure usable = refl
condition_turned A Memory sure usable = refl
condition_turned A InDoubt sure usable = absurd (sure refl)
condition_turned A NeedsReopen sure usable = absurd (usable refl)

-- a run that stops at such a fault doesn't stop since the book needs reopening
pub stops_usable : (number : ℕ) (fault : StoreFault) (before written : Option (List ℕ)) (ending : Ending) → StopsWith number fault before written ending
    → fault ≢ NeedsReopen → ending ≢ Stopped NeedsReopen
stops_usable number fault before written ending (inl (stopped, printed)) usable is =
    let both : Stopped fault ≡ Stopped NeedsReopen = sym stopped ∙ is in
    let same : fault ≡ NeedsReopen = cc in
    usable same
stops_usable number fault before written ending (inr (cut, part)) usable is = let both : Output ≡ Stopped NeedsReopen = sym cut ∙ is in absurd cc

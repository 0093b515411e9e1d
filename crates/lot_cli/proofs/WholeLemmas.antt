-- Commands that are run all or none, on a database that was only looked at before, and what a stop leaves of them.
use Rattle.std.proofs.Common.{◌≡◌, ◌≢◌, ◌∙◌, inl, inr, ℕ, IsTrue, List, [], ◌∷◌, None, Err, Option, append-nil, arith, refl, sym, ap, subst}
use Rattle.sqlite.proofs.StateLemmas.{survives_then}
use Rattle.sqlite.specs.Effect.{Database}
use Rattle.sqlite.specs.State.{HasCleanDisk, IsUnchanged, State, Survives}
use Rattle.sqlite.specs.Tree.{Trees}
use Rattle.lot_args.specs.declared.action.Keeping.TheVariants.{AllOrNone}
use Rattle.lot_atomic.specs.AllOrNone.{AppliesAll, ComesByText, ComesTo, KeepsAll, LacksRoomForNext, LeavesAll, LeavesAs, MayKeep, MeetsDamageFirst, StopsAll, comes_to, joined, together}
use Rattle.lot_atomic.specs.Replies.{RunsAll, WritesReplies, ending_of}
use Rattle.lot_atomic.specs.declared.all_or_none.Ended.{Ended}
use Rattle.lot_atomic.specs.declared.all_or_none.Ended.TheVariants.{Dropped, Failed, Kept}
use Rattle.lot_book.specs.Facts.{Entry}
use Rattle.lot_book.specs.declared.verdict.Verdict.{Verdict}
use Rattle.lot_book.specs.declared.verdict.Verdict.TheVariants.{Accepted, Refused, Repeated}
use Rattle.lot_command.specs.declared.command.Command.{Command}
use Rattle.lot_command.specs.declared.key.Key.{Key}
use Rattle.lot_io.specs.Writes.{WritesMade}
use Rattle.lot_rounding.specs.declared.asked.Asked.{Asked}
use Rattle.lot_rounding.specs.declared.rounding.Rounding.{Rounding}
use Rattle.lot_rows.proofs.StateLemmas.{failed_then}
use Rattle.lot_rows.specs.Tables.{Tables}
use Rattle.lot_stream.specs.Status.{code_of}
use Rattle.lot_table.specs.Statement.{DiskFailed}
use Rattle.lot_cli.proofs.AllOrNoneLemmas.{all_leave}
use Rattle.lot_cli.specs.AllOrNone.{that_count}
use Rattle.lot_cli.specs.Runs.{RunsOn, status_of_run}
use Rattle.lot_store.proofs.ApplyLemmas.{stands_along}
use Rattle.lot_store.specs.ByText.{MeetsUnpairedFirst}
use Rattle.lot_store.proofs.ByTextLemmas.{has_along}
use Rattle.lot_store.proofs.DamageLemmas.{of_damage_since}
use Rattle.lot_store.proofs.RunLemmas.{LeavesWhatStands}
use Rattle.lot_store.specs.Create.{IsTaken}
use Rattle.lot_store.specs.Run.{IsWrittenOut}
use Rattle.lot_store.specs.declared.fault.StoreFault.{StoreFault}
use Rattle.lot_store.specs.declared.fault.StoreFault.TheVariants.{Damaged, Device, InDoubt, Memory, NeedsReopen}
use Rattle.lot_store.specs.declared.run.Ending.TheVariants.{Stopped}
use Rattle.lot_store.specs.declared.run.RunEnd.{RunEnd}

-- ---- verdicts together

-- they come to what one verdict comes to
as_one : (vs : List Verdict) → (one : Verdict) × (together vs ≡ comes_to one)
as_one [] = (Repeated, refl)
as_one (v ∷ vs) = let rest = as_one vs in more v vs rest.0 rest.1
  where
    more : (v : Verdict) (vs : List Verdict) (one : Verdict) → together vs ≡ comes_to one → (sum : Verdict) × (together (v ∷ vs) ≡ comes_to sum)
    more Accepted vs Accepted is = (Accepted, ap (joined (comes_to Accepted)) is)
    more Accepted vs Repeated is = (Accepted, ap (joined (comes_to Accepted)) is)
    more Accepted vs (Refused refusal) is = (Refused refusal, ap (joined (comes_to Accepted)) is)
    more Repeated vs one is = (one, is)
    more (Refused refusal) vs one is = (Refused refusal, refl)

-- ---- on a database that was only looked at before

module _ (rounding : Option Rounding) (asked : List (Key × Asked)) (turned : List (Key × Command)) (verdicts : List Verdict) (old mid new : State)
    (now_is : mid.now ≡ old.now) (committed_is : mid.committed ≡ old.committed) (failed : DiskFailed mid new → DiskFailed old new) where
  stops_since : (fault : StoreFault) (entries : List Entry) (done : List (Key × Command)) (book : List Entry) (left : List (Key × Command))
      → StopsAll fault entries done verdicts book left mid new → StopsAll fault entries done verdicts book left old new
  stops_since Device entries done book left (inl cause) = inl (failed cause)
  stops_since Device entries done book left (inr room) =
      inr (subst (λ (db : Database). LacksRoomForNext entries done verdicts book left db.trees new) now_is room)
  stops_since InDoubt entries done book left (none, cause) = (none, failed cause)
  stops_since NeedsReopen entries done book left none = none
  stops_since Damaged entries done book left none = none
  stops_since Memory entries done book left any = any

  comes_since : (ended : Ended) (entries : List Entry) → ComesTo rounding entries asked turned mid new verdicts ended → ComesTo rounding entries asked turned old new verdicts ended
  comes_since Kept entries comes = comes
  comes_since Dropped entries comes = comes
  comes_since (Failed fault) entries (it, stops) = (it, stops_since fault entries it.done it.book it.left stops)

  keeps_since : KeepsAll (together verdicts) mid new → KeepsAll (together verdicts) old new
  keeps_since keeps =
      let one = as_one verdicts in
      subst (λ sum. KeepsAll sum old new) (sym one.1) (by one.0 (subst (λ sum. KeepsAll sum mid new) one.1 keeps))
    where
      by : (one : Verdict) → KeepsAll (comes_to one) mid new → KeepsAll (comes_to one) old new
      by Accepted keeps = keeps
      by Repeated keeps = λ opened. let same = keeps opened in (same.0 ∙ now_is, same.1 ∙ committed_is)
      by (Refused refusal) none = none

  leaves_since : (ended : Ended) → LeavesAs verdicts ended mid new → LeavesAs verdicts ended old new
  leaves_since Kept leaves = keeps_since leaves
  leaves_since Dropped (refuse, leaves) = (refuse, λ opened. let same = leaves opened in (same.0 ∙ now_is, same.1 ∙ committed_is))
  leaves_since (Failed fault) leaves = λ opened. let same = leaves opened in (same.0 ∙ now_is, same.1 ∙ committed_is)

  damage_since : (tables : Tables) (left : List (Key × Command)) (fault : StoreFault) → MeetsDamageFirst tables left mid new fault → MeetsDamageFirst tables left old new fault
  damage_since tables [] fault meets = tt
  damage_since tables (next ∷ left) fault meets = λ damaged. of_damage_since old mid new failed (Err fault) (meets damaged)

  pairs_since : (tables : Tables) (left : List (Key × Command)) (fault : StoreFault) → MeetsUnpairedFirst tables left mid new (Err fault)
      → MeetsUnpairedFirst tables left old new (Err fault)
  pairs_since tables [] fault meets = tt
  pairs_since tables (next ∷ left) fault meets = λ unpaired. of_damage_since old mid new failed (Err fault) (meets unpaired)

  texts_since : (tables : Tables) (ended : Ended) → ComesByText tables turned mid new verdicts ended → ComesByText tables turned old new verdicts ended
  texts_since tables Kept comes = comes
  texts_since tables Dropped comes = comes
  texts_since tables (Failed fault) it =
      record {
        done = it.done;
        left = it.left;
        split = it.split;
        after = it.after;
        turn = it.turn;
        damage = damage_since it.after it.left fault it.damage;
        paired = it.paired;
        unpaired = pairs_since tables it.left fault it.unpaired;
      }

  all_since : (trees : Trees) → LeavesAll rounding asked turned verdicts mid trees → LeavesAll rounding asked turned verdicts old trees
  all_since trees leaves entries stands = leaves entries (stands_along old mid entries now_is stands)

  keep_since : (ended : Ended) (trees : Trees) → MayKeep rounding asked turned verdicts ended mid trees → MayKeep rounding asked turned verdicts ended old trees
  keep_since Kept trees (accepts, leaves) = (accepts, all_since trees leaves)
  keep_since Dropped trees none = none
  keep_since (Failed InDoubt) trees (accepts, leaves) = (accepts, all_since trees leaves)
  keep_since (Failed Memory) trees (accepts, leaves) = (accepts, all_since trees leaves)
  keep_since (Failed Device) trees none = none
  keep_since (Failed NeedsReopen) trees none = none
  keep_since (Failed Damaged) trees none = none

applies_after_look : (rounding : Option Rounding) (asked : List (Key × Asked)) (old mid new : State) (verdicts : List Verdict) (ended : Ended) → (HasCleanDisk mid → IsUnchanged old mid)
    → Survives old mid (λ _. ⊥) → AppliesAll rounding asked mid new verdicts ended → AppliesAll rounding asked old new verdicts ended
applies_after_look rounding asked old mid new verdicts ended same look (turned, it) = (
  turned,
  record {
    judged = λ clean entries stands.
        let was = same (calm clean) in
        comes_since rounding asked turned verdicts old mid new was.0.now_is was.0.committed_is (failed_then old mid new was look) ended entries
        (it.judged clean entries (stands_along old mid entries was.0.now_is stands));
    rest = λ clean.
        let was = same (calm clean) in
        leaves_since rounding asked turned verdicts old mid new was.0.now_is was.0.committed_is (failed_then old mid new was look) ended (it.rest clean);
    in_doubt = λ clean is. failed_then old mid new (same (calm clean)) look (it.in_doubt clean is);
    usable = it.usable;
    texts = λ clean tables has.
        let was = same (calm clean) in
        texts_since rounding asked turned verdicts old mid new was.0.now_is was.0.committed_is (failed_then old mid new was look) tables ended
        (it.texts clean tables (has_along old mid tables was.0.now_is has));
    crash = survives_then old mid new (λ _. ⊥) (MayKeep rounding asked turned verdicts ended mid) (MayKeep rounding asked turned verdicts ended old)
        (λ clean trees none. absurd none)
        (λ clean trees keeps.
        let was = same (calm clean) in
        keep_since rounding asked turned verdicts old mid new was.0.now_is was.0.committed_is (failed_then old mid new was look) ended trees keeps) look it.crash;
  },
)
  where
    calm : HasCleanDisk new → HasCleanDisk mid
    calm clean = omega (arith, clean, it.crash.clean)

-- it never needs to be opened again
never : (numbers : List ℕ) (verdicts : List Verdict) (ended : Ended) (end : RunEnd) (before written : Option (List ℕ)) → ended ≢ Failed NeedsReopen
    → WritesReplies numbers verdicts ended end before written → end.ending ≢ Stopped NeedsReopen
never numbers verdicts ended end before written usable (inl whole) is = by ended usable (sym whole.ending ∙ is)
  where
    by : (e : Ended) → e ≢ Failed NeedsReopen → ending_of e ≢ Stopped NeedsReopen
    by Kept usable is = absurd cc
    by Dropped usable is = absurd cc
    by (Failed fault) usable is = let same : fault ≡ NeedsReopen = cc in usable (ap Failed same)
never numbers verdicts ended end before written usable (inr part) is = let both = sym part.ending ∙ is in absurd cc

-- commands are run on the book that was taken up, all or none
pub runs_whole : (rounding : Option Rounding) (numbers : List ℕ) (asked : List (Key × Asked)) (old mid new : State) (before written : Option (List ℕ)) (calls : WritesMade) (end : RunEnd) (status : ℕ)
    → (HasCleanDisk mid → IsTaken old) → (HasCleanDisk mid → IsUnchanged old mid) → Survives old mid (λ _. ⊥) → LeavesWhatStands old
    → (IsTrue new.is_open → (trees : Trees) → new.may_leave trees → trees ≡ new.committed.trees)
    → RunsAll rounding asked numbers mid new before written end → IsWrittenOut end.ending calls → status ≡ code_of (status_of_run end)
    → RunsOn rounding AllOrNone numbers asked old new before written calls (record { status = status; halt = None })
runs_whole rounding numbers asked old mid new before written calls end status found same look stands_so safe ran out is =
    let applies = applies_after_look rounding asked old mid new ran.verdicts ran.ended same look ran.applies in
    inl (record {
      taken = λ clean. found (omega (arith, clean, ran.applies.1.crash.clean));
      end = end;
      runs = record {
        runs = record { verdicts = ran.verdicts; ended = ran.ended; applies = applies; writes = ran.writes };
        stop = λ clean opened entries stands.
            all_leave rounding asked entries old new ran.verdicts ran.ended (record {
              turned = applies.0;
              applies = applies.1;
              clean = clean;
              stands = stands;
              could = stands_so (omega (arith, clean, applies.1.crash.clean)) opened entries stands;
              safe = safe;
            }) (that_count ran.ended ran.verdicts) [] (sym (append-nil (that_count ran.ended ran.verdicts)));
        never_reopens = never numbers ran.verdicts ran.ended end before written applies.1.usable ran.writes;
        output = out;
      };
      status = is;
      goes_on = refl;
    })

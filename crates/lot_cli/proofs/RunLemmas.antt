-- A run on a database that was only looked at before is a run on the database as it was.
use Rattle.std.proofs.Common.{◌≡◌, ◌≢◌, inl, inr, ℕ, List, [], ◌∷◌, ◌++◌, None, Ok, Err, Option, Result, arith, refl}
use Rattle.sqlite.proofs.StateLemmas.{survives_then}
use Rattle.sqlite.specs.State.{HasCleanDisk, IsUnchanged, State, Survives}
use Rattle.sqlite.specs.Tree.{Trees}
use Rattle.lot_book.specs.Facts.{Entry}
use Rattle.lot_book.specs.declared.verdict.Verdict.{Verdict}
use Rattle.lot_book.specs.declared.verdict.Verdict.TheVariants.{Accepted, Refused, Repeated}
use Rattle.lot_command.specs.declared.command.Command.{Command}
use Rattle.lot_command.specs.declared.key.Key.{Key}
use Rattle.lot_stream.specs.Status.{code_of}
use Rattle.lot_stored.specs.StandFor.{Stands}
use Rattle.lot_rows.specs.Tables.{Has, Tables}
use Rattle.lot_args.specs.declared.action.Keeping.{Keeping}
use Rattle.lot_args.specs.declared.action.Keeping.TheVariants.{Each}
use Rattle.lot_cli.specs.Runs.{RunsEach, RunsNumbered, RunsOn, status_of_run}
use Rattle.lot_cli.specs.Says.{Halts, Told}
use Rattle.lot_cli.specs.declared.halt.Halt.TheVariants as halt
use Rattle.lot_store.proofs.ApplyLemmas.{stands_along}
use Rattle.lot_store.proofs.ByTextLemmas.{has_along, runs_by_text_since}
use Rattle.lot_store.specs.Create.{IsHandedBack, IsTaken, TellsBook, TellsOf}
use Rattle.lot_io.specs.Writes.{WritesMade}
use Rattle.lot_rounding.specs.declared.asked.Asked.{Asked}
use Rattle.lot_rounding.specs.declared.rounding.Rounding.{Rounding}
use Rattle.lot_store.specs.Run.{LeavesAfter, LeavesAtAnswer, LeavesAtFault, LeavesAtVerdict}
use Rattle.lot_store.specs.Session.{LeavesFirst, LeavesJudged, LeavesNext}
use Rattle.lot_store.specs.declared.fault.AdoptFault.{AdoptFault}
use Rattle.lot_store.specs.declared.fault.AdoptFault.TheVariants as adopt
use Rattle.lot_store.specs.declared.fault.StoreFault.{StoreFault}
use Rattle.lot_store.specs.declared.fault.StoreFault.TheVariants.{Damaged, Device, InDoubt, Memory, NeedsReopen}
use Rattle.lot_store.specs.declared.run.Ending.{Ending}
use Rattle.lot_store.specs.declared.run.Ending.TheVariants.{Complete, Output, Stopped}
use Rattle.lot_store.specs.declared.run.RunEnd.{RunEnd}
use Rattle.lot_rows.proofs.StateLemmas.{failed_then}
use Rattle.lot_table.specs.Book.{IsUndone}
use Rattle.lot_table.specs.Statement.{DiskFailed}

-- a crash may leave no more after the look than before, and a disk that failed since then has failed since before
module _ (old mid new : State) (verdicts : List Verdict) (book : List Entry) (may : (trees : Trees) → mid.may_leave trees → old.may_leave trees)
    (failed : DiskFailed mid new → DiskFailed old new) where
  judged : (trees : Trees) → LeavesJudged mid.may_leave verdicts book trees → LeavesJudged old.may_leave verdicts book trees
  judged trees (inl left) = inl left
  judged trees (inr (none, could)) = inr (none, may trees could)

  next : (left : List (Key × Command)) (trees : Trees) → LeavesNext mid.may_leave verdicts book left trees → LeavesNext old.may_leave verdicts book left trees
  next [] trees leaves = judged trees leaves
  next (command ∷ left) trees (inl leaves) = inl (judged trees leaves)
  next (command ∷ left) trees (inr entry) = inr entry

  at_fault : (left : List (Key × Command)) (fault : StoreFault) → LeavesAtFault fault verdicts book left mid new → LeavesAtFault fault verdicts book left old new
  at_fault left Device (stands, leaves, inl cause) = (stands, (λ trees left_so. judged trees (leaves trees left_so)), inl (failed cause))
  at_fault left Device (stands, leaves, inr room) = (stands, (λ trees left_so. judged trees (leaves trees left_so)), inr room)
  at_fault left NeedsReopen (none, stands, leaves) = (none, stands, λ trees left_so. judged trees (leaves trees left_so))
  at_fault left Damaged none = absurd none
  at_fault left InDoubt (stands, leaves, cause) = (stands, (λ trees left_so. next left trees (leaves trees left_so)), failed cause)
  at_fault left Memory (stands, leaves) = (stands, λ trees left_so. next left trees (leaves trees left_so))

module _ (old mid new : State) (verdicts : List Verdict) (book : List Entry) (may : (trees : Trees) → mid.may_leave trees → old.may_leave trees)
    (failed : DiskFailed mid new → DiskFailed old new) where
  at_verdict : (left : List (Key × Command)) (verdict : Verdict) → LeavesAtVerdict verdict verdicts book left mid new → LeavesAtVerdict verdict verdicts book left old new
  at_verdict [] verdict none = absurd none
  at_verdict (command ∷ left) verdict (after, judges, stands, leaves) =
      (after, judges, stands, λ trees left_so. judged old mid new (verdicts ++ verdict ∷ []) after may failed trees (leaves trees left_so))

  at_answer : (left : List (Key × Command)) (answer : Result Verdict StoreFault) → LeavesAtAnswer answer verdicts book left mid new → LeavesAtAnswer answer verdicts book left old new
  at_answer left (Ok verdict) leaves = at_verdict left verdict leaves
  at_answer left (Err fault) leaves = at_fault old mid new verdicts book may failed left fault leaves

  leaves_after : (left : List (Key × Command)) (answer : Result Verdict StoreFault) (ending : Ending) → LeavesAfter verdicts book left mid new answer ending
      → LeavesAfter verdicts book left old new answer ending
  leaves_after left answer Complete (all, stands, leaves) = (all, stands, λ trees left_so. judged old mid new verdicts book may failed trees (leaves trees left_so))
  leaves_after left answer (Stopped fault) leaves = at_fault old mid new verdicts book may failed left fault leaves
  leaves_after left answer Output leaves = at_answer left answer leaves

numbered_after_look : (numbers : List ℕ) (commands : List (Key × Command)) (old mid new : State) (before written : Option (List ℕ)) (answer : Result Verdict StoreFault) (end : RunEnd)
    → (HasCleanDisk mid → IsUnchanged old mid) → Survives old mid (λ _. ⊥) → RunsNumbered numbers commands mid new before written answer end
    → RunsNumbered numbers commands old new before written answer end
numbered_after_look numbers commands old mid new before written answer end same look ran = record {
  verdicts = ran.verdicts;
  replied = ran.replied;
  refused = ran.refused;
  lines = λ clean entries stands.
      let calm : HasCleanDisk mid = omega (arith, clean, ran.crash.clean) in
      ran.lines clean entries (stands_along old mid entries (same calm).0.now_is stands);
  in_a_row = ran.in_a_row;
  place = ran.place;
  session = λ clean entries stands.
      let calm : HasCleanDisk mid = omega (arith, clean, ran.crash.clean) in
      let on = ran.session clean entries (stands_along old mid entries (same calm).0.now_is stands) in (
        on.0,
        on.1,
        on.2,
        leaves_after old mid new ran.verdicts on.0 (λ trees may. elim (look.crash calm trees may) [ inl earlier ↦ earlier | inr none ↦ absurd none ])
            (failed_then old mid new (same calm) look) on.1 answer end.ending on.3,
      );
  stop = λ clean opened entries stands.
      let calm : HasCleanDisk mid = omega (arith, clean, ran.crash.clean) in
      ran.stop clean (same calm).0.is_open entries (stands_along old mid entries (same calm).0.now_is stands);
  crash = survives_then old mid new (λ _. ⊥) (λ trees. (entries : List Entry) → Stands mid entries → LeavesFirst entries commands trees)
      (λ trees. (entries : List Entry) → Stands old entries → LeavesFirst entries commands trees) (λ clean trees none. absurd none)
      (λ clean trees leaves entries stands.
      let calm : HasCleanDisk mid = omega (arith, clean, ran.crash.clean) in leaves entries (stands_along old mid entries (same calm).0.now_is stands))
      look ran.crash;
  texts = λ clean tables has.
      let calm : HasCleanDisk mid = omega (arith, clean, ran.crash.clean) in
      runs_by_text_since old mid new (failed_then old mid new (same calm) look) tables commands ran.verdicts answer end.ending
      (ran.texts clean tables (has_along old mid tables (same calm).0.now_is has));
}

-- commands are run on the book that was taken up, each in one commit
pub runs_each : (rounding : Option Rounding) (numbers : List ℕ) (asked : List (Key × Asked)) (old mid new : State) (before written : Option (List ℕ)) (calls : WritesMade) (end : RunEnd) (status : ℕ)
    → (HasCleanDisk mid → IsTaken old) → (HasCleanDisk mid → IsUnchanged old mid) → Survives old mid (λ _. ⊥)
    → RunsEach rounding numbers asked mid new before written calls end → status ≡ code_of (status_of_run end)
    → RunsOn rounding Each numbers asked old new before written calls (record { status = status; halt = None })
runs_each rounding numbers asked old mid new before written calls end status found same look ran is =
    inl (record {
      taken = λ clean. found (omega (arith, clean, ran.session.crash.clean));
      end = end;
      runs = record {
        turned = ran.turned;
        answer = ran.answer;
        session = numbered_after_look numbers ran.turned old mid new before written ran.answer end same look ran.session;
        are_turned = λ clean entries stands.
            ran.are_turned clean entries (stands_along old mid entries (same (omega (arith, clean, ran.session.crash.clean))).0.now_is stands);
        never_reopens = ran.never_reopens;
        output = ran.output;
      };
      status = is;
      goes_on = refl;
    })

-- the book isn't taken up
pub left_alone : (rounding : Option Rounding) (keeping : Keeping) (numbers : List ℕ) (asked : List (Key × Asked)) (old new : State) (before written : Option (List ℕ)) (calls : WritesMade) (fault : AdoptFault) (told : Told)
    → (HasCleanDisk new → TellsOf old new (Err fault))
    → (HasCleanDisk new → fault ≢ adopt.Device → (tables : Tables) → Has old tables → TellsBook tables.book (Err fault)) → (HasCleanDisk new → IsHandedBack old new)
    → (HasCleanDisk new → IsUndone old new) → Survives old new (λ _. ⊥) → Halts (halt.Adopt fault) before written calls told
    → RunsOn rounding keeping numbers asked old new before written calls told
left_alone rounding keeping numbers asked old new before written calls fault told tells book back undone crash said =
    inr (fault, record { tells = tells; told = book; handed_back = back; undone = undone; crash = crash }, said)

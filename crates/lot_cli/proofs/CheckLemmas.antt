-- A check with an account for crumbs, by the book that is made for it.
use Rattle.std.proofs.Common.{◌≡◌, ◌≢◌, ℕ, List, [], None, Some, Option, arith, refl, subst, sym}
use Rattle.sqlite.specs.State.{HasCleanDisk, State, Survives}
use Rattle.lot_stream.specs.Status.{code_of}
use Rattle.lot_book.specs.Facts.{Entry}
use Rattle.lot_command.specs.declared.key.Key.{Key}
use Rattle.lot_rounding.specs.declared.asked.Asked.{Asked}
use Rattle.lot_rounding.specs.declared.rounding.Rounding.{Rounding}
use Rattle.lot_stored.specs.StandFor.{Stands}
use Rattle.lot_io.specs.Writes.{IsFlushed, WriteCalls, WritesMade}
use Rattle.lot_args.specs.declared.action.Format.TheVariants.{Text}
use Rattle.lot_args.specs.declared.action.Report.TheVariants.{Holdings}
use Rattle.lot_cli.specs.Check.{RunsCheck, ShowsBehind, status_behind}
use Rattle.lot_cli.specs.Reports.{ShowsBook, written_for}
use Rattle.lot_cli.specs.Runs.{status_of_run}
use Rattle.lot_store.specs.Run.{IsWrittenOut, LeavesAfter}
use Rattle.lot_store.specs.Turned.{RunsTurned}
use Rattle.lot_store.specs.declared.book.Condition.{Condition}
use Rattle.lot_store.specs.declared.book.Condition.TheVariants.{Ready}
use Rattle.lot_store.specs.declared.fault.StoreFault.TheVariants.{Damaged, NeedsReopen}
use Rattle.lot_store.specs.declared.run.Ending.{Ending}
use Rattle.lot_store.specs.declared.run.Ending.TheVariants.{Complete, Stopped}
use Rattle.lot_store.specs.declared.run.RunEnd.{RunEnd}

-- behind the replies to all commands the holdings are those of the book
pub shows_behind : (ending : Ending) → ending ≡ Complete → (old new : State) (before written : Option (List ℕ)) (calls : WritesMade) (posted shown status : ℕ)
    → ShowsBook (written_for (Holdings None Text)) old new before written calls shown → status ≡ status_behind posted shown
    → HasCleanDisk new → (entries : List Entry) → Stands old entries → ShowsBehind ending entries before written calls posted status
shows_behind ending complete old new before written calls posted shown status book is clean entries stands =
    subst (λ (e : Ending). ShowsBehind e entries before written calls posted status) (sym complete) (
      shown,
      record {
        shown = book.shown;
        mid = book.mid;
        between = book.between;
        shows = book.of_book clean entries stands;
        cause = book.cause;
        concludes = book.concludes;
      },
      is,
    )

-- commands are run on the book that was made, and what it holds is written behind the replies
pub runs_check : (rounding : Rounding) (asked : List (Key × Asked)) (old mid new : State) (before replied written : Option (List ℕ))
    (first between last : Option WriteCalls) (was condition : Condition) (end : RunEnd) (status : ℕ)
    → (HasCleanDisk old → Stands old []) → was ≡ Ready
    → RunsTurned (Some rounding) asked 1 old mid before replied was condition end → (was ≡ Ready → end.ending ≢ Stopped NeedsReopen)
    → (IsFlushed first → IsWrittenOut end.ending (record { before = first; after = between }))
    → (HasCleanDisk new → (entries : List Entry) → (end.ending ≡ Complete → Stands mid entries)
    → ShowsBehind end.ending entries replied written (record { before = between; after = last }) (code_of (status_of_run end)) status)
    → Survives mid new (λ _. ⊥) → HasCleanDisk new
    → RunsCheck rounding asked before written (record { before = first; after = last }) (record { status = status; halt = None })
runs_check rounding asked old mid new before replied written first between last was condition end status made ready (turned, (answer, ran, usable, known), are)
    stops flushed shows look clean =
    let after : HasCleanDisk mid = omega (arith, clean, look.clean) in
    let empty = made (omega (arith, after, ran.crash.clean)) in
    let on = ran.session after [] empty in
    let ends : (ending : Ending) → end.ending ≡ ending → LeavesAfter ran.verdicts on.0 on.1 old mid answer ending =
    λ ending is. subst (LeavesAfter ran.verdicts on.0 on.1 old mid answer) is on.3 in
    record {
      turned = turned;
      answer = answer;
      end = end;
      verdicts = ran.verdicts;
      book = on.0;
      left = on.1;
      session = on.2;
      are_turned = are after [] empty;
      mid = replied;
      between = between;
      writes = ran.writes;
      place = ran.place;
      output = flushed;
      behind = shows clean on.0 (λ is. (ends Complete is).1);
      never_reopens = (usable ready, stops ready);
      undamaged = λ is. ends (Stopped Damaged) is;
      goes_on = refl;
    }

-- What is kept of a book: what its view decides and writes, and what is kept once a command is accepted.
use Rattle.std.proofs.Common.{◌≡◌, IfOk, List, [], ◌∷◌, ◌++◌, Result, Ok, Err, subst}
use Rattle.std.specs.Result.{result_ok}
use Rattle.lot_command.specs.declared.command.Command.{Command}
use Rattle.lot_command.specs.declared.key.Key.{Key}
use Rattle.lot_book.specs.Book.{IsBook, entry_of}
use Rattle.lot_book.specs.Change.{IsAcceptedUnder}
use Rattle.lot_book.specs.Edition.{Edition, Second}
use Rattle.lot_book.specs.Facts.{Entry}
use Rattle.lot_book.specs.Openings.{AgreesWithOpenings, IsAcceptedWith, facts_with_openings, ties_for, ties_on}
use Rattle.lot_book.specs.declared.change.Change.{Change}
use Rattle.lot_book.specs.declared.refusal.Stop.{Stop}
use Rattle.lot_ledger.specs.Decide.{Comes, StopsStep}
use Rattle.lot_ledger.specs.declared.decision.Outcome.{Outcome}
use Rattle.lot_ledger.specs.declared.decision.Outcome.TheVariants.{Accept}
use Rattle.lot_load.specs.Kept.{IsOf, Keeps, seen, seen_with_openings}
use Rattle.lot_load.specs.declared.kept.Kept.{Kept}
use Rattle.lot_write.specs.Writes.{writes_of}
use Rattle.lot_write.specs.declared.write.Write.{Write}
use Rattle.lot_view.specs.View.{known, known_with_openings}
use Rattle.lot_view.specs.declared.view.View.{View}

-- ---- the view of what is kept

module _ (looked : Kept) (view : View) (same : view ≡ looked.view) (command : Command) where
  pub comes_on : (decided outcome : Outcome) → decided ≡ outcome → Comes (ties_on (known_with_openings view)) (known view) command decided → Comes (ties_on (seen_with_openings looked)) (seen looked) command outcome
  comes_on decided outcome is comes = subst (λ (v : View). Comes (ties_on (known_with_openings v)) (known v) command outcome) same (subst (Comes (ties_on (known_with_openings view)) (known view) command) is comes)

  pub accepted_on : (decided : Outcome) (change : Change) → decided ≡ Accept change → Comes (ties_on (known_with_openings view)) (known view) command decided → IsAcceptedWith (seen_with_openings looked) command change
  accepted_on decided change is comes = comes_on decided (Accept change) is comes

  pub stops_on : (stopped stop : Stop) → stopped ≡ stop → StopsStep (ties_on (known_with_openings view)) (known view) command stopped → StopsStep (ties_on (seen_with_openings looked)) (seen looked) command stop
  stops_on stopped stop is stops = subst (λ (v : View). StopsStep (ties_on (known_with_openings v)) (known v) command stop) same (subst (StopsStep (ties_on (known_with_openings view)) (known view) command) is stops)

  pub writes_on : (key : Key) (change : Change) (writes : List Write) → writes ≡ writes_of (known view) key command change → writes ≡ writes_of (seen looked) key command change
  writes_on key change writes = subst (λ (v : View). writes ≡ writes_of (known v) key command change) same

-- ---- an accepted command

-- what recording gives is kept of the book with the entry; out of memory nothing is kept
pub kept_then : {E : Type 0} (looked : Kept) (key : Key) (command : Command) (change : Change) (recorded : Result Kept E)
    → IfOk recorded (λ after. (edition : Edition) (entries : List Entry) (other : Key) → IsBook entries → Keeps looked entries → AgreesWithOpenings (seen_with_openings looked) (facts_with_openings entries other) command
    → IsAcceptedUnder (ties_for edition (seen_with_openings looked)) (seen looked) command change → Keeps after (entries ++ entry_of other command change.legs ∷ []))
    → IsAcceptedWith (seen_with_openings looked) command change → (entries : List Entry) → IsBook entries → Keeps looked entries → AgreesWithOpenings (seen_with_openings looked) (facts_with_openings entries key) command
    → IsOf (result_ok recorded) (entries ++ entry_of key command change.legs ∷ [])
kept_then looked key command change (Ok after) records comes entries book keeps agrees = records Second entries key book keeps agrees comes
kept_then looked key command change (Err out) records comes entries book keeps agrees = tt

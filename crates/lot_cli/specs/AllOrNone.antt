-- Commands that were applied all or none, as a session of the headline (docs/PROMISES.md, Session).
use Rattle.std.specs.Prelude.{◌≡◌, IsTrue, List, [], Option}
use Rattle.sqlite.specs.State.{HasCleanDisk, State}
use Rattle.sqlite.specs.Tree.{Trees}
use Rattle.lot_atomic.specs.AllOrNone.{AppliesTurned}
use Rattle.lot_atomic.specs.declared.all_or_none.Ended.{Ended}
use Rattle.lot_atomic.specs.declared.all_or_none.Ended.TheVariants.{Dropped, Failed, Kept}
use Rattle.lot_book.specs.Facts.{Entry}
use Rattle.lot_book.specs.declared.verdict.Verdict.{Verdict}
use Rattle.lot_command.specs.declared.command.Command.{Command}
use Rattle.lot_command.specs.declared.key.Key.{Key}
use Rattle.lot_rounding.specs.declared.asked.Asked.{Asked}
use Rattle.lot_rounding.specs.declared.rounding.Rounding.{Rounding}
use Rattle.lot_stored.specs.StandFor.{Left, Stands}

-- The verdicts whose replies count. At a fault none does, even where each command was replied to before its line.
abbrev pub that_count : Ended → List Verdict → List Verdict
that_count Kept verdicts = verdicts
that_count Dropped verdicts = verdicts
that_count (Failed fault) verdicts = []

-- Commands were applied all or none on a book, which was all that a crash could leave before them.
pub record AppliedOn (rounding : Option Rounding) (asked : List (Key × Asked)) (entries : List Entry) (old new : State)
    (verdicts : List Verdict) (ended : Ended) : Type 0 where
  -- the commands that were judged in the place of those that were handed in
  pub turned : List (Key × Command)
  pub applies : AppliesTurned rounding asked turned old new verdicts ended
  pub clean : HasCleanDisk new
  pub stands : Stands old entries
  pub could : (trees : Trees) → old.may_leave trees → Left trees entries
  -- while the connection is open a crash leaves the last commit
  pub safe : IsTrue new.is_open → (trees : Trees) → new.may_leave trees → trees ≡ new.committed.trees

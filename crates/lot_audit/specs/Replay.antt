-- What is known of a book whose entries are judged again, one after another.
use Rattle.std.specs.Prelude.{◌≡◌, [], ◌∷◌, ◌++◌, List}
use Rattle.lot_command.specs.declared.command.Command.{Command}
use Rattle.lot_command.specs.declared.key.Key.{Key}
use Rattle.lot_book.specs.Book.{IsBookIn, entry_of}
use Rattle.lot_book.specs.Edition.{After, edition_on, ties_in}
use Rattle.lot_book.specs.Facts.{Entry, facts_of}
use Rattle.lot_book.specs.Openings.{AreOpeningsOf}
use Rattle.lot_book.specs.Recorded.{facts_in}
use Rattle.lot_book.specs.Sale.{AreSalesUnder}
use Rattle.lot_book.specs.Step.{Accept, StepIn}
use Rattle.lot_book.specs.declared.change.Change.{Change}
use Rattle.lot_view.specs.View.{known, known_with_openings}
use Rattle.lot_audit.specs.declared.replay.Replay.{Replay}

-- The entries are a book with that place of migration. All that they say is known, and the opening
-- number of each lot that is held.
pub record Replays (replay : Replay) (entries : List Entry) : Type 0 where
  pub book : IsBookIn (After replay.place) entries
  pub facts : known replay.view ≡ facts_in entries
  pub openings : AreOpeningsOf entries (known_with_openings replay.view).opening

-- A command under a new key is accepted behind these entries, by their edition, and makes these legs
-- and sales. Its entry is known then.
pub record Follows (before after : Replay) (entries : List Entry) (key : Key) (command : Command)
    (change : Change) : Type 0 where
  pub accepts : StepIn (edition_on (After before.place) entries) entries key command
      (Accept change.legs)
  pub sales : AreSalesUnder (ties_in (edition_on (After before.place) entries) entries)
      (facts_of entries key) command change.sales
  pub known : Replays after (entries ++ entry_of key command change.legs ∷ [])
  pub place : after.place ≡ before.place

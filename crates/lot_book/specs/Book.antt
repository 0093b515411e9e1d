-- Books: lists of entries, each of which is the acceptance that a step gives on the entries before it.
use Rattle.std.specs.Prelude.{ℕ, ◌≤◌, List, [], ◌∷◌, ◌++◌, length, ⊤}
use Rattle.lot_command.specs.declared.command.Command.{Command}
use Rattle.lot_command.specs.declared.key.Key.{Key}
use Rattle.lot_book.specs.declared.leg.Leg.{Leg}
use Rattle.lot_book.specs.Edition.{After, Migration, edition_on}
use Rattle.lot_book.specs.Facts.{Entry}
use Rattle.lot_book.specs.Step.{Accept, Outcome, Refuse, Repeat, StepIn}

abbrev pub entry_of : Key → Command → List Leg → Entry
entry_of key command legs = record { key = key; command = command; legs = legs }

-- the entries after an outcome of a command
abbrev pub after : List Entry → Key → Command → Outcome → List Entry
after before key command (Accept legs) = before ++ entry_of key command legs ∷ []
after before key command Repeat = before
after before key command (Refuse refusal) = before

-- entries that a book may have behind those before them, each judged by its edition
abbrev pub ContinuesIn : Migration → List Entry → List Entry → Type 0
ContinuesIn migration before [] = ⊤
ContinuesIn migration before (entry ∷ entries) =
    StepIn (edition_on migration before) before entry.key entry.command (Accept entry.legs)
    × ContinuesIn migration (before ++ entry ∷ []) entries

abbrev pub IsBookIn : Migration → List Entry → Type 0
IsBookIn migration entries = ContinuesIn migration [] entries

-- ---- a book of edition 2

-- entries of a book that was made in edition 2, or was migrated to it after so many entries: its place of migration
pub record IsBook (entries : List Entry) : Type 0 where
  pub place : ℕ
  pub placed : place ≤ length entries
  pub is : IsBookIn (After place) entries

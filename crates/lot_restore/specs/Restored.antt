-- What restoring comes to: the commands of a dump are judged again, each under its own key and by the edition of its number.
use Rattle.std.specs.Prelude.{◌≡◌, ◌≤◌, ℕ, suc, nat_le, if◌then◌else◌, List, [], ◌∷◌, ⊤}
use Rattle.lot_book.specs.Edition.{Edition, First, Second}
use Rattle.lot_book.specs.Facts.{Entry}
use Rattle.lot_book.specs.Judged.{JudgesBy}
use Rattle.lot_book.specs.declared.verdict.Verdict.{Verdict}
use Rattle.lot_book.specs.declared.verdict.Verdict.TheVariants.{Accepted, Repeated, Refused}
use Rattle.lot_parts.specs.declared.dumped.Dumped.{Dumped}

-- ---- the dump of a book

-- the commands of entries, of which the first has that number
abbrev pub dumped_from : ℕ → List Entry → List Dumped
dumped_from number [] = []
dumped_from number (entry ∷ entries) =
    record { number = number; key = entry.key; command = entry.command } ∷ dumped_from (suc number) entries

-- no number is less than the one before it
abbrev pub NeverFall : ℕ → List Dumped → Type 0
NeverFall number [] = ⊤
NeverFall number (it ∷ more) = (number ≤ it.number) × NeverFall it.number more

-- the number of the last of them, or else that one
abbrev pub last_number : ℕ → List Dumped → ℕ
last_number number [] = number
last_number number (it ∷ more) = last_number it.number more

-- ---- restoring

-- the edition that judges a command: the first up to the place of migration, then the second
abbrev pub edition_at : ℕ → ℕ → Edition
edition_at place number = if nat_le number place then First else Second

-- commands of a dump with that place of migration, judged one after another: the verdict on each, and the book after all
abbrev pub Restores : ℕ → List Entry → List Dumped → List Verdict → List Entry → Type 0
Restores place before [] [] after = after ≡ before
Restores place before (it ∷ more) (verdict ∷ verdicts) after =
    (mid : List Entry) × JudgesBy (edition_at place it.number) before it.key it.command verdict mid
    × Restores place mid more verdicts after
Restores place before [] (verdict ∷ verdicts) after = ⊥
Restores place before (it ∷ more) [] after = ⊥

-- the place of migration after one more command: an accepted one of edition 1 is an entry before it
abbrev pub place_by : Edition → Verdict → ℕ → ℕ
place_by First Accepted place = suc place
place_by First Repeated place = place
place_by First (Refused refusal) place = place
place_by Second verdict place = place

-- The place of the book that is made, which had that one before: as many more as are accepted by edition 1.
abbrev pub place_after : ℕ → List Dumped → List Verdict → ℕ → ℕ
place_after place [] verdicts made = made
place_after place (it ∷ more) [] made = made
place_after place (it ∷ more) (verdict ∷ verdicts) made =
    place_after place more verdicts (place_by (edition_at place it.number) verdict made)

-- each of these entries is accepted
abbrev pub all_accepted : List Entry → List Verdict
all_accepted [] = []
all_accepted (entry ∷ entries) = Accepted ∷ all_accepted entries

-- What is written of commands that were applied all or none.
use Rattle.std.specs.Prelude.{◌≡◌, ◌⊎◌, ◌==◌, if◌then◌else◌, ℕ, List, [], ◌∷◌, ◌++◌, get_or, length, Option, Result, Ok, Err}
use Rattle.std.specs.Io.KnownBytes.{Appends}
use Rattle.sqlite.specs.State.{State}
use Rattle.lot_command.specs.declared.key.Key.{Key}
use Rattle.lot_book.specs.declared.verdict.Verdict.{Verdict}
use Rattle.lot_report.specs.Printed.{reply}
use Rattle.lot_report.specs.Written.{IsPrefixOf, IsProperPrefixOf}
use Rattle.lot_report.specs.declared.line.PrintFault.{PrintFault}
use Rattle.lot_rounding.specs.declared.asked.Asked.{Asked}
use Rattle.lot_rounding.specs.declared.rounding.Rounding.{Rounding}
use Rattle.lot_store.specs.Run.{AppendsSome, count_refused, fault_line}
use Rattle.lot_store.specs.declared.run.Ending.{Ending}
use Rattle.lot_store.specs.declared.run.Ending.TheVariants.{Complete, Output, Stopped}
use Rattle.lot_store.specs.declared.run.RunEnd.{RunEnd}
use Rattle.lot_atomic.specs.AllOrNone.{AppliesAll}
use Rattle.lot_atomic.specs.declared.all_or_none.Ended.{Ended}
use Rattle.lot_atomic.specs.declared.all_or_none.Ended.TheVariants as end

-- ---- what there is to write (docs/FORMATS.md, Replies)

-- The number of the command behind so many others. Behind the last one it is that of the first: there the commit failed, which is
-- of all of them. Of no commands it is 1.
abbrev pub number_at : List ℕ → ℕ → ℕ
number_at numbers place = get_or numbers place (get_or numbers 0 1)

-- the replies to commands, each with its number
abbrev pub replies_by : List ℕ → List Verdict → List ℕ
replies_by numbers [] = []
replies_by [] (verdict ∷ verdicts) = []
replies_by (number ∷ numbers) (verdict ∷ verdicts) = reply number verdict ++ replies_by numbers verdicts

-- The verdicts that are replied to, of so many commands. Where all were judged and the commit failed, nobody knows whether one of
-- them holds, and none is.
abbrev pub replied_to : ℕ → Ended → List Verdict → List Verdict
replied_to count end.Kept verdicts = verdicts
replied_to count end.Dropped verdicts = verdicts
replied_to count (end.Failed fault) verdicts = if length verdicts == count then [] else verdicts

-- what stands behind the replies: nothing, or the line of the fault, at the command of that number
abbrev pub last_line : ℕ → Ended → List ℕ
last_line number end.Kept = []
last_line number end.Dropped = []
last_line number (end.Failed fault) = fault_line number fault

-- how the run ends of which all is written
abbrev pub ending_of : Ended → Ending
ending_of end.Kept = Complete
ending_of end.Dropped = Complete
ending_of (end.Failed fault) = Stopped fault

-- ---- the replies

-- the first of the verdicts are replied to, and no more; then comes what the writer took of the reply to the next one
pub record RepliesCut (numbers : List ℕ) (verdicts : List Verdict) (replied refused : ℕ) (old new : Option (List ℕ)) : Type 0 where
  pub done : List Verdict
  pub next : Verdict
  pub left : List Verdict
  pub split : verdicts ≡ done ++ next ∷ left
  pub count : replied ≡ length done
  pub refusals : refused ≡ count_refused done
  pub part : List ℕ
  pub is_part : IsProperPrefixOf part (reply (number_at numbers (length done)) next)
  pub written : Appends old new (replies_by numbers done ++ part)

-- all are replied to
pub record RepliesAll (numbers : List ℕ) (verdicts : List Verdict) (replied refused : ℕ) (old new : Option (List ℕ)) : Type 0 where
  pub count : replied ≡ length verdicts
  pub refusals : refused ≡ count_refused verdicts
  pub written : Appends old new (replies_by numbers verdicts)

-- replies to verdicts on commands of these numbers are written
abbrev pub WritesEachReply : List ℕ → List Verdict → Option (List ℕ) → Option (List ℕ) → ℕ → ℕ → Result (Unit {0}) PrintFault → Type 0
WritesEachReply numbers verdicts old new replied refused (Ok done) = RepliesAll numbers verdicts replied refused old new
WritesEachReply numbers verdicts old new replied refused (Err cut) = RepliesCut numbers verdicts replied refused old new

-- ---- the last line

-- the last line is written, and all is flushed; or the writer failed
abbrev pub WritesLast : ℕ → Ended → Option (List ℕ) → Option (List ℕ) → Ending → Type 0
WritesLast number ended old new ending =
    ((ending ≡ ending_of ended) × Appends old new (last_line number ended))
    ⊎ ((ending ≡ Output) × AppendsSome old new (last_line number ended))

-- ---- all

-- all replies and the last line are written and flushed
pub record WritesWhole (numbers : List ℕ) (verdicts : List Verdict) (ended : Ended) (end : RunEnd) (old new : Option (List ℕ)) : Type 0 where
  pub ending : end.ending ≡ ending_of ended
  pub replied : end.replied ≡ length verdicts
  pub refused : end.refused ≡ count_refused verdicts
  pub written : Appends old new (replies_by numbers verdicts ++ last_line (number_at numbers (length verdicts)) ended)

-- What the writer took of the line behind some replies: of the next reply not all; of the last line it may be all, where the flush
-- failed.
abbrev pub IsPartOfNext : ℕ → List Verdict → Ended → List ℕ → Type 0
IsPartOfNext number [] ended part = IsPrefixOf part (last_line number ended)
IsPartOfNext number (next ∷ left) ended part = IsProperPrefixOf part (reply number next)

-- The writer failed. The replies to the first verdicts are written whole, and those are counted. What is written is a prefix of
-- what there is to write.
pub record WritesPart (numbers : List ℕ) (verdicts : List Verdict) (ended : Ended) (end : RunEnd) (old new : Option (List ℕ)) : Type 0 where
  pub ending : end.ending ≡ Output
  pub done : List Verdict
  pub left : List Verdict
  pub split : verdicts ≡ done ++ left
  pub replied : end.replied ≡ length done
  pub refused : end.refused ≡ count_refused done
  pub part : List ℕ
  pub is_part : IsPartOfNext (number_at numbers (length done)) left ended part
  pub is_prefix : IsPrefixOf (replies_by numbers done ++ part)
      (replies_by numbers verdicts ++ last_line (number_at numbers (length verdicts)) ended)
  pub written : Appends old new (replies_by numbers done ++ part)

-- what is written of commands of these numbers that came to these verdicts and ended so
abbrev pub WritesReplies : List ℕ → List Verdict → Ended → RunEnd → Option (List ℕ) → Option (List ℕ) → Type 0
WritesReplies numbers verdicts ended end old new =
    WritesWhole numbers (replied_to (length numbers) ended verdicts) ended end old new
    ⊎ WritesPart numbers (replied_to (length numbers) ended verdicts) ended end old new

-- Commands are applied all or none, and then what came of them is written: both by the same verdicts and the same end.
pub record RunsAll (rounding : Option Rounding) (asked : List (Key × Asked)) (numbers : List ℕ) (old new : State)
    (before written : Option (List ℕ)) (end : RunEnd) : Type 0 where
  pub verdicts : List Verdict
  pub ended : Ended
  pub applies : AppliesAll rounding asked old new verdicts ended
  pub writes : WritesReplies numbers verdicts ended end before written

-- Sessions: commands with their keys, judged one after another on a book by edition 2, and what a crash may leave of them
-- (docs/PROMISES.md, Definitions).
use Rattle.std.specs.Prelude.{◌≡◌, ◌⊎◌, List, [], ◌∷◌, ◌++◌}
use Rattle.sqlite.specs.Tree.{Trees}
use Rattle.lot_command.specs.declared.command.Command.{Command}
use Rattle.lot_command.specs.declared.key.Key.{Key}
use Rattle.lot_book.specs.Facts.{Entry}
use Rattle.lot_book.specs.Judged.{JudgesAll, JudgesOn}
use Rattle.lot_book.specs.declared.verdict.Verdict.{Verdict}
use Rattle.lot_book.specs.declared.verdict.Verdict.TheVariants.{Accepted}
use Rattle.lot_stored.specs.StandFor.{Left}

-- ---- sessions

-- A session on a book that has judged the first of its commands: their verdicts, the book after them, and the commands
-- that are left.
pub record Session (before : List Entry) (commands : List (Key × Command)) (verdicts : List Verdict) (book : List Entry) (left : List (Key × Command)) : Type 0 where
  pub done : List (Key × Command)
  pub split : commands ≡ done ++ left
  pub judged : JudgesAll before done verdicts book

-- the book after the first of the commands, which came to these verdicts
abbrev pub IsAfter : List Entry → List (Key × Command) → List Verdict → List Entry → Type 0
IsAfter before commands verdicts book = (left : List (Key × Command)) × Session before commands verdicts book left

-- A stop of a session in which these verdicts were replied to may leave this book. It is the book after the commands that were
-- replied to, or after one more, which was accepted.
abbrev pub StopLeaves : List Entry → List (Key × Command) → List Verdict → List Entry → Type 0
StopLeaves before commands replied book =
    IsAfter before commands replied book ⊎ IsAfter before commands (replied ++ Accepted ∷ []) book

-- ---- what a crash may leave

-- the book with the entry of a command, where step accepts it
abbrev pub LeavesEntry : List Entry → Key → Command → Trees → Type 0
LeavesEntry book key command trees = (after : List Entry) × JudgesOn book key command Accepted after × Left trees after

-- the book after the commands that were judged; before the first verdict also what could be left before the session
abbrev pub LeavesJudged : (Trees → Type 0) → List Verdict → List Entry → Trees → Type 0
LeavesJudged could verdicts book trees = Left trees book ⊎ ((verdicts ≡ []) × could trees)

-- the same where the session ends at the next command: also the book with its entry
abbrev pub LeavesNext : (Trees → Type 0) → List Verdict → List Entry → List (Key × Command) → Trees → Type 0
LeavesNext could verdicts book [] trees = LeavesJudged could verdicts book trees
LeavesNext could verdicts book (next ∷ left) trees = LeavesJudged could verdicts book trees ⊎ LeavesEntry book next.0 next.1 trees

-- a book that a stop may leave
abbrev pub LeavesStopped : List Entry → List (Key × Command) → List Verdict → Trees → Type 0
LeavesStopped before commands replied trees =
    (book : List Entry) × StopLeaves before commands replied book × Left trees book

-- the book after some of the commands, the first ones
abbrev pub LeavesFirst : List Entry → List (Key × Command) → Trees → Type 0
LeavesFirst before commands trees =
    (verdicts : List Verdict) × (book : List Entry) × (left : List (Key × Command)) × Session before commands verdicts book left × Left trees book

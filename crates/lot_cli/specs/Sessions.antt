-- Sessions: what was sent in each, and what a stop of it may leave (docs/PROMISES.md, The headline).
use Rattle.std.specs.Prelude.{◌≡◌, ◌⊎◌, List, [], ◌∷◌, ◌++◌, length}
use Rattle.lot_args.specs.declared.action.Keeping.{Keeping}
use Rattle.lot_args.specs.declared.action.Keeping.TheVariants.{AllOrNone, Each}
use Rattle.lot_command.specs.declared.command.Command.{Command}
use Rattle.lot_command.specs.declared.key.Key.{Key}
use Rattle.lot_book.specs.Facts.{Entry}
use Rattle.lot_book.specs.Judged.{JudgesAll}
use Rattle.lot_book.specs.declared.verdict.Verdict.{Verdict}
use Rattle.lot_store.specs.Run.{count_refused}
use Rattle.lot_store.specs.Session.{StopLeaves}

-- ---- commands that are kept all or none

-- Their replies acknowledge them: each was replied to, and none is refused.
abbrev pub AcknowledgeAll : List (Key × Command) → List Verdict → Type 0
AcknowledgeAll commands replied = (length replied ≡ length commands) × (count_refused replied ≡ 0)

-- the book after all of them, where none is refused
abbrev pub AreAllKept : List Entry → List (Key × Command) → List Entry → Type 0
AreAllKept before commands book =
    (verdicts : List Verdict) × JudgesAll before commands verdicts book × (count_refused verdicts ≡ 0)

-- A stop of a session whose commands are kept all or none, in which these verdicts were replied to, may leave this book.
pub record AllOrNoneLeaves (before : List Entry) (commands : List (Key × Command)) (replied : List Verdict) (book : List Entry) : Type 0 where
  pub verdicts : List Verdict
  pub whole : List Entry
  pub judged : JudgesAll before commands verdicts whole
  -- the verdicts without a reply
  pub more : List Verdict
  pub replies : verdicts ≡ replied ++ more
  -- It is the book after all of them, where none is refused, or the book before them, where the replies don't acknowledge them.
  pub leaves : ((count_refused verdicts ≡ 0) × (book ≡ whole)) ⊎ ((¬ AcknowledgeAll commands replied) × (book ≡ before))

-- ---- sessions

-- The commands that were sent in a session, with their keys, which commits keep them, and the verdicts that were replied to. Where
-- commands that are kept all or none end at a fault, no reply counts.
pub record Sent : Type 0 where
  pub keeping : Keeping
  pub commands : List (Key × Command)
  pub replied : List Verdict

-- what a stop of a session may leave, by the commits that keep its commands
abbrev pub LeavesBy : Keeping → List Entry → List (Key × Command) → List Verdict → List Entry → Type 0
LeavesBy Each before commands replied book = StopLeaves before commands replied book
LeavesBy AllOrNone before commands replied book = AllOrNoneLeaves before commands replied book

abbrev pub SessionLeaves : List Entry → Sent → List Entry → Type 0
SessionLeaves before sent book = LeavesBy sent.keeping before sent.commands sent.replied book

-- Sessions follow one another, each on a book that a stop of the one before it leaves; a stop of the last leaves this book.
abbrev pub StopsLeave : List Entry → List Sent → List Entry → Type 0
StopsLeave before [] book = book ≡ before
StopsLeave before (sent ∷ more) book = (mid : List Entry) × SessionLeaves before sent mid × StopsLeave mid more book

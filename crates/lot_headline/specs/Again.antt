-- A list that is sent again (docs/PROMISES.md, Sending again).
use Rattle.std.specs.Prelude.{◌≡◌, ◌⊎◌, List, [], ◌∷◌, ◌++◌, drop, length}
use Rattle.std.specs.List.{AllByRecursion}
use Rattle.lot_command.specs.declared.command.Command.{Command}
use Rattle.lot_command.specs.declared.key.Key.{Key}
use Rattle.lot_book.specs.Facts.{Entry}
use Rattle.lot_book.specs.Judged.{JudgesAll}
use Rattle.lot_book.specs.declared.verdict.Verdict.{Verdict}
use Rattle.lot_book.specs.declared.verdict.Verdict.TheVariants.{Accepted, Repeated}
use Rattle.lot_store.specs.Session.{StopLeaves}
use Rattle.lot_cli.specs.Sessions.{AcknowledgeAll, AllOrNoneLeaves, AreAllKept}

-- ---- commands that are each kept in a commit

-- The commands are sent, and after each stop those without a reply again, with nothing else in between, until a session is
-- complete: then this book stands. Each session has the verdicts that it replied to.
abbrev pub SentAgain : List Entry → List (Key × Command) → List Verdict → List (List Verdict) → List Entry → Type 0
SentAgain before commands replied [] book = JudgesAll before commands replied book
SentAgain before commands replied (next ∷ more) book =
    (mid : List Entry) × StopLeaves before commands replied mid × SentAgain mid (drop (length replied) commands) next more book

-- the verdicts of a session that was sent again are these, where the first one may be `repeat` in place of `accepted`
abbrev pub AreButFirst : List Verdict → List Verdict → Type 0
AreButFirst replied verdicts =
    (replied ≡ verdicts) ⊎ ((more : List Verdict) × (replied ≡ Repeated ∷ more) × (verdicts ≡ Accepted ∷ more))

-- the same of the sessions that were sent again, one behind the other
abbrev pub AreBehind : List (List Verdict) → List Verdict → Type 0
AreBehind [] verdicts = verdicts ≡ []
AreBehind (replied ∷ more) verdicts =
    (first rest : List Verdict) × AreButFirst replied first × AreBehind more rest × (verdicts ≡ first ++ rest)

-- One uninterrupted run gives the same book. Its verdicts are those that were replied to, but for `repeat` in place of
-- `accepted` at the first command of a session that was sent again.
pub record IsOneRun (before : List Entry) (commands : List (Key × Command)) (replied : List Verdict) (again : List (List Verdict))
    (book : List Entry) : Type 0 where
  pub verdicts : List Verdict
  pub judged : JudgesAll before commands (replied ++ verdicts) book
  pub replies : AreBehind again verdicts

-- ---- commands that are kept all or none

-- All are sent, and after each stop all of them again, with nothing else in between: then this book stands. Each session has the
-- verdicts that it replied to.
abbrev pub AllSentAgain : List Entry → List (Key × Command) → List (List Verdict) → List Entry → Type 0
AllSentAgain before commands [] book = book ≡ before
AllSentAgain before commands (replied ∷ more) book =
    (mid : List Entry) × AllOrNoneLeaves before commands replied mid × AllSentAgain mid commands more book

-- However often they were sent, they are kept once, or not at all; and where a session acknowledged them, they are kept.
pub record AreKeptOnce (before : List Entry) (commands : List (Key × Command)) (sessions : List (List Verdict)) (book : List Entry)
    : Type 0 where
  pub leaves : AreAllKept before commands book ⊎ (book ≡ before)
  pub acknowledged : AllByRecursion (λ replied. AcknowledgeAll commands replied → AreAllKept before commands book) sessions

-- What they come to on a book that a stop left. Where they had been kept, each is a repeat, and the book stays as it is. Else it is
-- as if they hadn't been sent.
abbrev pub ComesAgain : List Entry → List (Key × Command) → List Entry → List Verdict → List Entry → Type 0
ComesAgain before commands book again after =
    (AreAllKept before commands book × AllByRecursion (λ verdict. verdict ≡ Repeated) again × (after ≡ book))
    ⊎ ((book ≡ before) × JudgesAll before commands again after)

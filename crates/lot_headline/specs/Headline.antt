-- The headline: what stands in a file after sessions that may each have been stopped within any write
-- (docs/PROMISES.md, The headline).
use Rattle.std.specs.Prelude.{◌≡◌, ◌⊎◌, ℕ, suc, ◌≤◌, ◌+ℤ◌, neg_ℤ, List, [], ◌∷◌, ◌++◌, length, Some, ⊤}
use Rattle.std.specs.List.{AllByRecursion}
use Rattle.lot_args.specs.declared.action.Keeping.{Keeping}
use Rattle.lot_args.specs.declared.action.Keeping.TheVariants.{AllOrNone, Each}
use Rattle.lot_command.specs.Canonical.{canonical}
use Rattle.lot_command.specs.declared.command.Command.{Command}
use Rattle.lot_command.specs.declared.key.Key.{Key}
use Rattle.lot_inv.specs.Inventory.{sum}
use Rattle.lot_book.specs.Book.{IsBookIn}
use Rattle.lot_book.specs.Edition.{After}
use Rattle.lot_book.specs.Facts.{Entry, legs_of, text_under}
use Rattle.lot_book.specs.Judged.{JudgesAll}
use Rattle.lot_book.specs.Leg.{inventory_of}
use Rattle.lot_book.specs.declared.verdict.Verdict.{Verdict}
use Rattle.lot_book.specs.declared.verdict.Verdict.TheVariants.{Accepted, Refused, Repeated}
use Rattle.lot_laws.specs.Laws.{bought, sold}
use Rattle.lot_stored.specs.Kept.{SalesOf}
use Rattle.lot_store.specs.Run.{count_refused}
use Rattle.lot_cli.specs.Sessions.{AcknowledgeAll, Sent}
use Rattle.lot_headline.specs.Realised.{IsRealised, Sold}

-- ---- a prefix of the accepted commands

-- how many of the verdicts accept
abbrev pub count_accepted : List Verdict → ℕ
count_accepted [] = 0
count_accepted (Accepted ∷ verdicts) = suc (count_accepted verdicts)
count_accepted (Repeated ∷ verdicts) = count_accepted verdicts
count_accepted (Refused refusal ∷ verdicts) = count_accepted verdicts

-- each in its commit: all that were acknowledged, and at most one more
pub record AddsAcknowledged (replied : List Verdict) (added : List Entry) : Type 0 where
  pub least : count_accepted replied ≤ length added
  pub most : length added ≤ suc (count_accepted replied)

-- in one commit: none, or all, where no command is refused; and all where they were acknowledged
pub record AddsNoneOrAll (commands : List (Key × Command)) (replied verdicts : List Verdict) (added rest : List Entry) : Type 0 where
  pub either : (added ≡ []) ⊎ ((count_refused verdicts ≡ 0) × (rest ≡ []))
  pub acknowledged : AcknowledgeAll commands replied → rest ≡ []

-- how many of the accepted entries are added, and how many are not, by the commits that keep them
abbrev pub AddsBy : Keeping → List (Key × Command) → List Verdict → List Verdict → List Entry → List Entry → Type 0
AddsBy Each commands replied verdicts added rest = AddsAcknowledged replied added
AddsBy AllOrNone commands replied verdicts added rest = AddsNoneOrAll commands replied verdicts added rest

-- The entries that a session adds are the first ones of those that the judge accepts of its commands, in the order sent. One
-- uninterrupted run of them comes to the whole book.
pub record AddsFirst (before : List Entry) (sent : Sent) (book : List Entry) : Type 0 where
  pub verdicts : List Verdict
  pub whole : List Entry
  pub judged : JudgesAll before sent.commands verdicts whole
  pub added : List Entry
  pub rest : List Entry
  pub behind : book ≡ before ++ added
  pub first : whole ≡ book ++ rest
  pub many : AddsBy sent.keeping sent.commands sent.replied verdicts added rest

-- the same of sessions that follow one another
abbrev pub AddFirst : List Entry → List Sent → List Entry → Type 0
AddFirst before [] book = book ≡ before
AddFirst before (sent ∷ more) book = (mid : List Entry) × AddsFirst before sent mid × AddFirst mid more book

-- ---- what was acknowledged

-- a command stands in a book under its key
abbrev pub IsUnderKey : List Entry → Key × Command → Type 0
IsUnderKey book keyed = text_under book keyed.0 ≡ Some (canonical keyed.1)

-- each command that was replied to as accepted or as repeated stands under its key
abbrev pub AreUnderKeys : List Entry → List (Key × Command) → List Verdict → Type 0
AreUnderKeys book commands [] = ⊤
AreUnderKeys book [] (verdict ∷ replied) = ⊥
AreUnderKeys book (keyed ∷ commands) (Accepted ∷ replied) = IsUnderKey book keyed × AreUnderKeys book commands replied
AreUnderKeys book (keyed ∷ commands) (Repeated ∷ replied) = IsUnderKey book keyed × AreUnderKeys book commands replied
AreUnderKeys book (keyed ∷ commands) (Refused refusal ∷ replied) = AreUnderKeys book commands replied

-- what was acknowledged: each reply by itself, or all together
abbrev pub HoldsBy : Keeping → List Entry → List (Key × Command) → List Verdict → Type 0
HoldsBy Each book commands replied = AreUnderKeys book commands replied
HoldsBy AllOrNone book commands replied = AcknowledgeAll commands replied → AreUnderKeys book commands replied

abbrev pub HoldsAcknowledged : List Entry → Sent → Type 0
HoldsAcknowledged book sent = HoldsBy sent.keeping book sent.commands sent.replied

-- ---- the headline

-- What stands in a file after these sessions on a book with that place of migration, which had these entries before. A
-- book that was made in edition 2 has place 0, and none before the first session.
pub record Headline (place : ℕ) (before : List Entry) (sessions : List Sent) (book : List Entry) : Type 0 where
  -- each entry is what the judge accepts on those before it, by edition 1 up to the place and then by edition 2
  pub is_book : IsBookIn (After place) book
  -- a prefix of the accepted commands of each session
  pub accepted : AddFirst before sessions book
  -- every acknowledged command
  pub acknowledged : AllByRecursion (HoldsAcknowledged book) sessions
  -- each commodity's units at cost are those bought less those sold
  pub units : (account commodity : List ℕ) → sum (inventory_of (legs_of book) account) commodity
      ≡ bought book account commodity +ℤ neg_ℤ (sold book account commodity)
  -- each realised gain is its proceeds less the cost of the lots that the method names
  pub gains : (sales : List Sold) → SalesOf (After place) book sales
      → AllByRecursion (IsRealised (After place) book) sales

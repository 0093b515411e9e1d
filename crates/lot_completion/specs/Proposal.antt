-- What the code tries in the place of a command.
use Rattle.std.specs.Prelude.{◌≡◌, ◌≢◌, ℕ, true, List, [], ◌∷◌, ◌++◌, flat_map, Option, None, Some, ℤ, pos, ◌*ℤ◌}
use Rattle.lot_num.specs.Amount.{one}
use Rattle.lot_cost.specs.declared.cost.Cost.{Cost}
use Rattle.lot_command.specs.declared.command.Command.{Command}
use Rattle.lot_command.specs.declared.command.Command.TheVariants.{Transaction}
use Rattle.lot_command.specs.declared.price.Price.{Price}
use Rattle.lot_command.specs.declared.price.Price.TheVariants.{Each, Whole}
use Rattle.lot_command.specs.declared.transaction.Amount.{Amount}
use Rattle.lot_command.specs.declared.transaction.Posting.{Posting}
use Rattle.lot_command.specs.declared.transaction.Transaction.{Transaction as TransactionOf}
use Rattle.lot_book.specs.Booking.{TieRule}
use Rattle.lot_book.specs.Facts.{Facts}
use Rattle.lot_book.specs.Step.{DecidesUnder, Outcome}
use Rattle.lot_completion.specs.Completion.{IsCompletion}
use Rattle.lot_completion.specs.Turn.{AreWithinBound, Completes, Proposes, ProposesSplit, StandsAsSplit, StandsByForm, may_complete}
use Rattle.lot_completion.specs.declared.completion.Completion.{Completion}
use Rattle.lot_completion.specs.declared.split.SplitProposal.{SplitProposal}
use Rattle.lot_completion.specs.declared.split.SplitProposal.TheVariants as proposed
use Rattle.lot_completion.specs.declared.turn.Proposal.{Proposal}
use Rattle.lot_completion.specs.declared.turn.Proposal.TheVariants as proposal
use Rattle.lot_rounding.specs.Rounding.{IsWithin}
use Rattle.lot_rounding.specs.declared.asked.Asked.{Asked}
use Rattle.lot_rounding.specs.declared.ratio.Change.{Change}
use Rattle.lot_rounding.specs.declared.rounding.Rounding.{Rounding}
use Rattle.lot_split.specs.Held.{HasFaultOn, IsSplitOn, split_of}
use Rattle.lot_split.specs.declared.fault.SplitFault.{SplitFault}
use Rattle.lot_split.specs.declared.fault.SplitFault.TheVariants.{Memory}
use Rattle.lot_split.specs.declared.transaction.Split.{Split}

-- nothing may be tried in its place
abbrev pub ProposesNone : TieRule → Facts → Rounding → Asked → Type 0
ProposesNone ties facts rounding asked = (other : Command) → Proposes ties facts rounding asked other → ⊥

-- the first of crumbs that is beyond a bound
pub record IsFirstBeyond (bound : ℤ) (crumbs : List (List ℕ × ℤ)) (crumb : List ℕ × ℤ) : Type 0 where
  pub before : List (List ℕ × ℤ)
  pub after : List (List ℕ × ℤ)
  pub all : crumbs ≡ before ++ crumb ∷ after
  pub within : AreWithinBound bound before
  pub is_beyond : IsWithin bound crumb.1 → ⊥

-- a transaction may be completed, but that crumb of its completion is the first beyond the bound
pub record GoesBeyond (ties : TieRule) (facts : Facts) (rounding : Rounding) (t : TransactionOf) (crumb : List ℕ × ℤ) : Type 0 where
  pub outcome : Outcome
  pub decides : DecidesUnder ties facts (Transaction t) outcome
  pub may : may_complete outcome ≡ true
  pub crumbs : List (List ℕ × ℤ)
  pub completed : TransactionOf
  pub completion : IsCompletion ties facts rounding.account rounding.decimals t crumbs completed
  pub first : IsFirstBeyond rounding.within crumbs crumb

-- no crumb of its completion is beyond the bound
abbrev pub GoesNowhereBeyond : TieRule → Facts → Rounding → Asked → Type 0
GoesNowhereBeyond ties facts rounding asked =
    (t : TransactionOf) (crumb : List ℕ × ℤ) → asked.command ≡ Transaction t → GoesBeyond ties facts rounding t crumb → ⊥

-- What is tried is what may be, on what is known, with its crumbs. Where nothing is, since a crumb is beyond the bound, that is
-- told.
abbrev pub IsProposal : TieRule → Facts → Rounding → Asked → Proposal → Type 0
IsProposal ties facts rounding asked proposal.Nothing =
    ProposesNone ties facts rounding asked × GoesNowhereBeyond ties facts rounding asked
IsProposal ties facts rounding asked (proposal.Beyond currency crumb) =
    ProposesNone ties facts rounding asked
    × (t : TransactionOf) × (asked.command ≡ Transaction t) × GoesBeyond ties facts rounding t (currency, crumb)
IsProposal ties facts rounding asked (proposal.Completion completion) =
    (t : TransactionOf) × (asked.command ≡ Transaction t)
    × Completes ties facts rounding t completion.crumbs completion.transaction
IsProposal ties facts rounding asked (proposal.Standing stands) =
    (t : TransactionOf) × (asked.command ≡ Transaction t) × StandsByForm facts.text asked.cash t stands

-- a completion whose crumbs are within a bound, or the first crumb that is beyond it
abbrev pub IsWithinOr : ℤ → Completion → Proposal → Type 0
IsWithinOr bound completion proposal.Nothing = ⊥
IsWithinOr bound completion (proposal.Beyond currency crumb) = IsFirstBeyond bound completion.crumbs (currency, crumb)
IsWithinOr bound completion (proposal.Completion found) = (found ≡ completion) × AreWithinBound bound completion.crumbs
IsWithinOr bound completion (proposal.Standing stands) = ⊥

-- ---- Splits.

-- no split may be tried in the place of a command
abbrev pub ProposesNoSplit : TieRule → Facts → Rounding → Change → Command → Type 0
ProposesNoSplit ties facts rounding change command = (other : Command) → ProposesSplit ties facts rounding change command other → ⊥

-- the split that a command asks for, under a key that is new
pub record AsksAnew (facts : Facts) (rounding : Rounding) (change : Change) (command : Command) (split : Split) : Type 0 where
  pub asks : split_of rounding.account change command ≡ Some split
  pub new : facts.text ≡ None

-- the lots that are held can't be split, for that fault
abbrev pub CannotSplit : TieRule → Facts → Rounding → Change → Command → SplitFault → Type 0
CannotSplit ties facts rounding change command fault =
    (split : Split) × AsksAnew facts rounding change command split × HasFaultOn ties facts split fault × (fault ≢ Memory)

abbrev pub crumb_by : Option Cost → Option Price → Amount → List (List ℕ × ℤ)
crumb_by (Some cost) price amount = []
crumb_by None None amount = (amount.commodity, amount.units *ℤ pos one) ∷ []
crumb_by None (Some (Each price)) amount = (price.currency, amount.units *ℤ pos price.rate) ∷ []
crumb_by None (Some (Whole price)) amount = []

-- what a posting without braces weighs at its price, if it has an amount
abbrev pub crumb_at : Option Amount → List (List ℕ × ℤ)
crumb_at None = []
crumb_at (Some amount) = crumb_by amount.cost amount.price amount

abbrev pub crumbs_in : List Posting → List (List ℕ × ℤ)
crumbs_in postings = flat_map (λ (p : Posting). crumb_at p.amount) postings

-- the split of the lots that are held, with its crumbs: what its postings without braces weigh
pub record IsMade (ties : TieRule) (facts : Facts) (split : Split) (made : Completion) : Type 0 where
  pub is : IsSplitOn ties facts split made.transaction
  pub crumbs : made.crumbs ≡ crumbs_in made.transaction.postings

-- the split of the lots that are held, or why there is none
abbrev pub SplitsOrNot : TieRule → Facts → Split → SplitProposal → Type 0
SplitsOrNot ties facts split proposed.Nothing = ⊥
SplitsOrNot ties facts split (proposed.Impossible fault) = HasFaultOn ties facts split fault × (fault ≢ Memory)
SplitsOrNot ties facts split (proposed.Split made) = IsMade ties facts split made
SplitsOrNot ties facts split (proposed.Standing stands) = ⊥

-- the split by form that has a text, if there is one
abbrev pub StandsOrNot : List ℕ → Split → SplitProposal → Type 0
StandsOrNot text split proposed.Nothing = (stands : TransactionOf) → StandsAsSplit (Some text) split stands → ⊥
StandsOrNot text split (proposed.Impossible fault) = ⊥
StandsOrNot text split (proposed.Split made) = ⊥
StandsOrNot text split (proposed.Standing stands) = StandsAsSplit (Some text) split stands

-- What is tried is what may be, on what is known. Where there is no split of the lots, it is told why.
abbrev pub IsSplitProposal : TieRule → Facts → Rounding → Change → Command → SplitProposal → Type 0
IsSplitProposal ties facts rounding change command proposed.Nothing = ProposesNoSplit ties facts rounding change command
IsSplitProposal ties facts rounding change command (proposed.Impossible fault) =
    ProposesNoSplit ties facts rounding change command × CannotSplit ties facts rounding change command fault
IsSplitProposal ties facts rounding change command (proposed.Split made) =
    (split : Split) × AsksAnew facts rounding change command split × IsMade ties facts split made
IsSplitProposal ties facts rounding change command (proposed.Standing stands) =
    (split : Split) × (split_of rounding.account change command ≡ Some split) × StandsAsSplit facts.text split stands

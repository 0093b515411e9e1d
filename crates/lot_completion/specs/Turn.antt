-- Turns: which command is judged in the place of one that was handed in, where an account takes the crumbs, or lots are split.
use Rattle.std.specs.Prelude.{◌≡◌, ◌⊎◌, ℕ, Bool, true, false, List, Option, None, Some, ℤ}
use Rattle.std.specs.List.{AllByRecursion}
use Rattle.lot_command.specs.Canonical.{canonical}
use Rattle.lot_command.specs.Sayable.{IsSayable}
use Rattle.lot_command.specs.declared.command.Command.{Command}
use Rattle.lot_command.specs.declared.command.Command.TheVariants.{Transaction}
use Rattle.lot_command.specs.declared.key.Key.{Key}
use Rattle.lot_command.specs.declared.transaction.Transaction.{Transaction as TransactionOf}
use Rattle.lot_book.specs.declared.refusal.Refusal.{Refusal}
use Rattle.lot_book.specs.declared.refusal.Refusal.TheVariants.{InexactCost, InexactFill, NotBalanced}
use Rattle.lot_book.specs.Booking.{TieRule}
use Rattle.lot_book.specs.Edition.{Second, ties_in}
use Rattle.lot_book.specs.Facts.{Entry, Facts, facts_of}
use Rattle.lot_book.specs.Step.{Accept, DecidesUnder, Outcome, Refuse, Repeat}
use Rattle.lot_completion.specs.Completion.{IsCompletion}
use Rattle.lot_completion.specs.Form.{IsByForm}
use Rattle.lot_rounding.specs.Rounding.{IsWithin}
use Rattle.lot_rounding.specs.declared.asked.Asked.{Asked}
use Rattle.lot_rounding.specs.declared.asked.RowCash.{RowCash}
use Rattle.lot_rounding.specs.declared.ratio.Change.{Change}
use Rattle.lot_rounding.specs.declared.rounding.Rounding.{Rounding}
use Rattle.lot_split.specs.Form.{IsSplitByForm}
use Rattle.lot_split.specs.Held.{IsSplitOn, split_of}
use Rattle.lot_split.specs.declared.transaction.Split.{Split}

-- ---- Which commands may have a completion.

-- whether a refusal is for crumbs
abbrev pub is_for_crumbs : Refusal → Bool
is_for_crumbs (InexactCost posting) = true
is_for_crumbs (InexactFill currency) = true
is_for_crumbs (NotBalanced currency) = true
is_for_crumbs _ = false

-- A command is completed where it is refused for crumbs. Where it is accepted, too, since its fill may have more decimals than
-- the account is given; if it hasn't, its completion is itself.
abbrev pub may_complete : Outcome → Bool
may_complete (Accept legs) = true
may_complete Repeat = false
may_complete (Refuse refusal) = is_for_crumbs refusal

-- ---- What is judged in its place.

-- each crumb is within the bound
abbrev pub AreWithinBound : ℤ → List (List ℕ × ℤ) → Type 0
AreWithinBound bound crumbs = AllByRecursion (λ (c : List ℕ × ℤ). IsWithin bound c.1) crumbs

-- its completion on what a book says, with these crumbs, which are within the bound
pub record Completes (ties : TieRule) (facts : Facts) (rounding : Rounding) (t : TransactionOf) (crumbs : List (List ℕ × ℤ))
    (completed : TransactionOf) : Type 0 where
  pub outcome : Outcome
  pub decides : DecidesUnder ties facts (Transaction t) outcome
  pub may : may_complete outcome ≡ true
  pub completion : IsCompletion ties facts rounding.account rounding.decimals t crumbs completed
  pub within : AreWithinBound rounding.within crumbs

-- the completion by form that stands under its key
pub record StandsByForm (text : Option (List ℕ)) (cash : Option RowCash) (t stands : TransactionOf) : Type 0 where
  pub says : text ≡ Some (canonical (Transaction stands))
  pub sayable : IsSayable (Transaction stands)
  pub form : IsByForm cash t stands

abbrev pub ProposesFor : TieRule → Facts → Rounding → Option RowCash → TransactionOf → TransactionOf → Type 0
ProposesFor ties facts rounding cash t other =
    ((crumbs : List (List ℕ × ℤ)) × Completes ties facts rounding t crumbs other) ⊎ StandsByForm facts.text cash t other

-- a transaction that is tried in the place of a command
pub record Proposes (ties : TieRule) (facts : Facts) (rounding : Rounding) (asked : Asked) (other : Command) : Type 0 where
  pub t : TransactionOf
  pub is : asked.command ≡ Transaction t
  pub completed : TransactionOf
  pub proposes : ProposesFor ties facts rounding asked.cash t completed
  pub other_is : other ≡ Transaction completed

-- ---- Splits.

-- the split by form that stands under its key
pub record StandsAsSplit (text : Option (List ℕ)) (split : Split) (stands : TransactionOf) : Type 0 where
  pub says : text ≡ Some (canonical (Transaction stands))
  pub sayable : IsSayable (Transaction stands)
  pub form : IsSplitByForm split stands

-- the split of the lots that are held, where the key is new, or the one that stands
abbrev pub SplitsFor : TieRule → Facts → Split → TransactionOf → Type 0
SplitsFor ties facts split other = ((facts.text ≡ None) × IsSplitOn ties facts split other) ⊎ StandsAsSplit facts.text split other

-- a transaction that is tried in the place of a command that asks for a split
pub record ProposesSplit (ties : TieRule) (facts : Facts) (rounding : Rounding) (change : Change) (command other : Command) : Type 0 where
  pub split : Split
  pub asks : split_of rounding.account change command ≡ Some split
  pub made : TransactionOf
  pub splits : SplitsFor ties facts split made
  pub other_is : other ≡ Transaction made

-- ---- Turns.

-- a transaction that is tried in the place of what was handed in: a split, where that asks for one, else its completion
abbrev pub TriesBy : Option Change → TieRule → Facts → Rounding → Asked → Command → Type 0
TriesBy None ties facts rounding asked other = Proposes ties facts rounding asked other
TriesBy (Some change) ties facts rounding asked other = ProposesSplit ties facts rounding change asked.command other

abbrev pub Tries : TieRule → Facts → Rounding → Asked → Command → Type 0
Tries ties facts rounding asked other = TriesBy asked.split ties facts rounding asked other

-- a command is accepted, or stands already
abbrev pub passes : Outcome → Bool
passes (Accept legs) = true
passes Repeat = true
passes (Refuse refusal) = false

abbrev pub Passes : TieRule → Facts → Command → Type 0
Passes ties facts command = (outcome : Outcome) × DecidesUnder ties facts command outcome × (passes outcome ≡ true)

-- The command that is judged in the place of one that was handed in: the transaction that is tried in its place, where that
-- passes, else what was handed in.
abbrev pub IsTurnWith : TieRule → Facts → Rounding → Asked → Command → Type 0
IsTurnWith ties facts rounding asked turned =
    (Tries ties facts rounding asked turned × Passes ties facts turned)
    ⊎ ((turned ≡ asked.command)
    × ((other : Command) → Tries ties facts rounding asked other → Passes ties facts other → ⊥))

-- without an account for crumbs it is always what was handed in
abbrev pub IsTurn : TieRule → Facts → Option Rounding → Asked → Command → Type 0
IsTurn ties facts None asked turned = turned ≡ asked.command
IsTurn ties facts (Some rounding) asked turned = IsTurnWith ties facts rounding asked turned

-- the same on a book, by edition 2
abbrev pub IsTurnOn : List Entry → Key → Option Rounding → Asked → Command → Type 0
IsTurnOn book key rounding asked turned = IsTurn (ties_in Second book) (facts_of book key) rounding asked turned

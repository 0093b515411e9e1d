-- What may be tried in the place of a command that asks for a split.
use Rattle.std.proofs.Common.{◌≡◌, ◌∙◌, inl, inr, ℕ, List, Option, None, Some, sym, subst}
use Rattle.lot_command.specs.declared.command.Command.{Command}
use Rattle.lot_command.specs.declared.transaction.Transaction.{Transaction as TransactionOf}
use Rattle.lot_book.specs.Booking.{TieRule}
use Rattle.lot_book.specs.Facts.{Facts}
use Rattle.lot_completion.specs.Proposal.{IsSplitProposal, ProposesNoSplit, SplitsOrNot, StandsOrNot}
use Rattle.lot_completion.specs.Turn.{ProposesSplit, SplitsFor, StandsAsSplit}
use Rattle.lot_completion.specs.declared.split.SplitProposal.{SplitProposal}
use Rattle.lot_completion.specs.declared.split.SplitProposal.TheVariants as proposed
use Rattle.lot_rounding.specs.declared.ratio.Change.{Change}
use Rattle.lot_rounding.specs.declared.rounding.Rounding.{Rounding}
use Rattle.lot_split.specs.Held.{HasFaultOn, IsSplitOn, split_of}
use Rattle.lot_split.specs.declared.fault.SplitFault.{SplitFault}
use Rattle.lot_split.specs.declared.fault.SplitFault.TheVariants.{Memory}
use Rattle.lot_split.specs.declared.transaction.Split.{Split}

some_one : {X : Type 0} (x y : X) → Some x ≡ Some y → x ≡ y
some_one x y is = cc

module _ (ties : TieRule) (facts : Facts) (rounding : Rounding) (change : Change) (command : Command) where
  -- a command that names no lots asks for nothing
  pub asks_none : split_of rounding.account change command ≡ None → ProposesNoSplit ties facts rounding change command
  asks_none none other proposes = let both : Some proposes.split ≡ None = sym proposes.asks ∙ none in absurd cc

  module _ (split : Split) (asks : split_of rounding.account change command ≡ Some split) where
    same_split : (other : Command) (proposes : ProposesSplit ties facts rounding change command other)
        → SplitsFor ties facts split proposes.made
    same_split other proposes =
        subst (λ (s : Split). SplitsFor ties facts s proposes.made)
        (some_one proposes.split split (sym proposes.asks ∙ asks)) proposes.splits

    -- where a text stands under the key, that decides
    pub by_standing : (text : List ℕ) → facts.text ≡ Some text → (found : SplitProposal) → StandsOrNot text split found
        → IsSplitProposal ties facts rounding change command found
    by_standing text says proposed.Nothing none = λ other proposes. by proposes.made (same_split other proposes)
      where
        by : (made : TransactionOf) → SplitsFor ties facts split made → ⊥
        by made (inl (new, is)) = let both : None ≡ Some text = sym new ∙ says in absurd cc
        by made (inr stands) = none made (subst (λ (o : Option (List ℕ)). StandsAsSplit o split made) says stands)
    by_standing text says (proposed.Impossible fault) never = absurd never
    by_standing text says (proposed.Split made) never = absurd never
    by_standing text says (proposed.Standing stands) is =
        (split, asks, subst (λ (o : Option (List ℕ)). StandsAsSplit o split stands) (sym says) is)

    -- where the key is new, the lots that are held decide
    pub by_lots : facts.text ≡ None
        → ((t : TransactionOf) (fault : SplitFault) → IsSplitOn ties facts split t → HasFaultOn ties facts split fault → fault ≡ Memory)
        → (found : SplitProposal) → SplitsOrNot ties facts split found → IsSplitProposal ties facts rounding change command found
    by_lots new law proposed.Nothing never = absurd never
    by_lots new law (proposed.Impossible fault) (fails, known) = (
      λ other proposes. by proposes.made (same_split other proposes),
      (split, record { asks = asks; new = new }, fails, known),
    )
      where
        by : (made : TransactionOf) → SplitsFor ties facts split made → ⊥
        by made (inl (is_new, is)) = known (law made fault is fails)
        by made (inr stands) = let both : None ≡ Some _ = sym new ∙ stands.says in absurd cc
    by_lots new law (proposed.Split made) is = (split, record { asks = asks; new = new }, is)
    by_lots new law (proposed.Standing stands) never = absurd never

-- What is proposed in the place of a command is what is tried.
use Rattle.std.proofs.Common.{◌≡◌, inl, inr, Option, None, Some, refl, sym, subst}
use Rattle.lot_command.specs.declared.command.Command.{Command}
use Rattle.lot_command.specs.declared.command.Command.TheVariants.{Transaction}
use Rattle.lot_book.specs.Booking.{TieRule}
use Rattle.lot_book.specs.Facts.{Facts}
use Rattle.lot_completion.specs.Proposal.{IsProposal, IsSplitProposal}
use Rattle.lot_completion.specs.Turn.{Proposes, ProposesSplit, Tries, TriesBy}
use Rattle.lot_completion.specs.declared.split.SplitProposal.{SplitProposal}
use Rattle.lot_completion.specs.declared.split.SplitProposal.TheVariants as proposed
use Rattle.lot_completion.specs.declared.turn.Proposal.{Proposal}
use Rattle.lot_completion.specs.declared.turn.Proposal.TheVariants as proposal
use Rattle.lot_rounding.specs.declared.asked.Asked.{Asked}
use Rattle.lot_rounding.specs.declared.ratio.Change.{Change}
use Rattle.lot_rounding.specs.declared.rounding.Rounding.{Rounding}
use Rattle.lot_store.specs.Turned.{IsTrial, completed_by, split_by}

module _ (ties : TieRule) (facts : Facts) (rounding : Rounding) (asked : Asked) where
  -- of a command that is no split it is its completion, or the one that stands
  module _ (plain : asked.split ≡ None) where
    as_tried : (other : Command) → Proposes ties facts rounding asked other → Tries ties facts rounding asked other
    as_tried other = subst (λ (split : Option Change). TriesBy split ties facts rounding asked other) (sym plain)

    none_tried : ((other : Command) → Proposes ties facts rounding asked other → ⊥) → IsTrial ties facts rounding asked None
    none_tried none other tries = none other (subst (λ (split : Option Change). TriesBy split ties facts rounding asked other) plain tries)

    pub completion_tried : (found : Proposal) → IsProposal ties facts rounding asked found → IsTrial ties facts rounding asked (completed_by found)
    completion_tried proposal.Nothing is = none_tried is.0
    completion_tried (proposal.Beyond currency crumb) is = none_tried is.0
    completion_tried (proposal.Completion completion) (t, is, completes) = as_tried (Transaction completion.transaction)
        (record { t = t; is = is; completed = completion.transaction; proposes = inl (completion.crumbs, completes); other_is = refl })
    completion_tried (proposal.Standing stands) (t, is, by_form) = as_tried (Transaction stands)
        (record { t = t; is = is; completed = stands; proposes = inr by_form; other_is = refl })

  -- of a split it is that of the lots that are held, or the one that stands
  module _ (change : Change) (splits : asked.split ≡ Some change) where
    as_split : (other : Command) → ProposesSplit ties facts rounding change asked.command other → Tries ties facts rounding asked other
    as_split other = subst (λ (split : Option Change). TriesBy split ties facts rounding asked other) (sym splits)

    none_split : ((other : Command) → ProposesSplit ties facts rounding change asked.command other → ⊥) → IsTrial ties facts rounding asked None
    none_split none other tries = none other (subst (λ (split : Option Change). TriesBy split ties facts rounding asked other) splits tries)

    pub split_tried : (found : SplitProposal) → IsSplitProposal ties facts rounding change asked.command found
        → IsTrial ties facts rounding asked (split_by found)
    split_tried proposed.Nothing is = none_split is
    split_tried (proposed.Impossible fault) is = none_split is.0
    split_tried (proposed.Split made) (split, anew, is) = as_split (Transaction made.transaction)
        (record { split = split; asks = anew.asks; made = made.transaction; splits = inl (anew.new, is.is); other_is = refl })
    split_tried (proposed.Standing stands) (split, asks, is) = as_split (Transaction stands)
        (record { split = split; asks = asks; made = stands; splits = inr is; other_is = refl })

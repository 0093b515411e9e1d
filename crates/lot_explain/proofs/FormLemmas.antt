-- Whether an entry is a completion by form, by what is tried where its text stands under the key.
use Rattle.std.proofs.Common.{◌≡◌, ◌∙◌, ℕ, true, false, List, Option, Some, refl, sym, ap, subst, inr}
use Rattle.std.specs.Prelude.{Bool, IsTrue, if◌then◌else◌, ◌↔◌}
use Rattle.std.proofs.lemmas.Bool.{true≢false}
use Rattle.lot_base.specs.Text.{same_text}
use Rattle.lot_command.specs.Canonical.{canonical}
use Rattle.lot_command.specs.declared.command.Command.{Command}
use Rattle.lot_command.specs.declared.command.Command.TheVariants.{Transaction}
use Rattle.lot_command.specs.declared.transaction.Transaction.{Transaction as TransactionOf}
use Rattle.lot_book.specs.declared.refusal.Refusal.TheVariants.{KeyReused}
use Rattle.lot_book.specs.Booking.{TieRule}
use Rattle.lot_book.specs.Facts.{Facts}
use Rattle.lot_book.specs.Step.{DecidesByUnder, DecidesUnder, Outcome, Refuse, Repeat}
use Rattle.lot_completion.specs.Proposal.{IsProposal, ProposesNone}
use Rattle.lot_completion.specs.Turn.{Completes, Proposes, StandsByForm, may_complete}
use Rattle.lot_completion.specs.declared.turn.Proposal.{Proposal}
use Rattle.lot_completion.specs.declared.turn.Proposal.TheVariants as proposal
use Rattle.lot_rounding.specs.declared.asked.Asked.{Asked}
use Rattle.lot_rounding.specs.declared.rounding.Rounding.{Rounding}
use Rattle.lot_explain.specs.Crumbs.{IsByFormIn, is_standing}

module _ (ties : TieRule) (facts : Facts) (rounding : Rounding) (asked : Asked) (text : List ℕ) (t : TransactionOf)
    (says : facts.text ≡ Some text) (is : asked.command ≡ Transaction t) where
  -- a command whose key is taken has no completion
  none_completed : (outcome : Outcome) → DecidesUnder ties facts (Transaction t) outcome → may_complete outcome ≡ false
  none_completed outcome decides =
      by_text (same_text text (canonical (Transaction t)))
      (subst (λ (stands : Option (List ℕ)). DecidesByUnder ties stands facts (Transaction t) outcome) says decides)
    where
      by_text : (b : Bool) → outcome ≡ (if b then Repeat else Refuse KeyReused) → may_complete outcome ≡ false
      by_text true repeats = ap may_complete repeats
      by_text false refused = ap may_complete refused

  -- what stands by form is tried
  tried : (stands : TransactionOf) → StandsByForm (Some text) asked.cash t stands → Proposes ties facts rounding asked (Transaction stands)
  tried stands form = record {
    t = t;
    is = is;
    completed = stands;
    proposes = inr (subst (λ (o : Option (List ℕ)). StandsByForm o asked.cash t stands) (sym says) form);
    other_is = refl;
  }

  one_of : (other : TransactionOf) → asked.command ≡ Transaction other → other ≡ t
  one_of other same = let both : Transaction other ≡ Transaction t = sym same ∙ is in cc

  none : ProposesNone ties facts rounding asked → (IsTrue false ↔ IsByFormIn text asked.cash t)
  none nothing = (λ no. absurd cc, λ it. absurd (nothing (Transaction it.0) (tried it.0 it.1)))

  -- it is one where it is what is tried
  pub by_proposal : (found : Proposal) → IsProposal ties facts rounding asked found → (IsTrue (is_standing found) ↔ IsByFormIn text asked.cash t)
  by_proposal proposal.Nothing nothing = none nothing.0
  by_proposal (proposal.Beyond currency crumb) h = none h.0
  by_proposal (proposal.Completion completion) h =
      let completes = subst (λ (x : TransactionOf). Completes ties facts rounding x completion.crumbs completion.transaction) (one_of h.0 h.1) h.2 in
      absurd (true≢false (sym completes.may ∙ none_completed completes.outcome completes.decides))
  by_proposal (proposal.Standing stands) h = (
    λ yes. (
      stands,
      subst (λ (o : Option (List ℕ)). StandsByForm o asked.cash t stands) says
          (subst (λ (x : TransactionOf). StandsByForm facts.text asked.cash x stands) (one_of h.0 h.1) h.2),
    ),
    λ it. refl,
  )

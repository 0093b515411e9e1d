-- What may be tried in the place of a transaction whose key is new.
use Rattle.std.proofs.Common.{◌≡◌, ◌∙◌, inl, inr, ℕ, true, false, List, [], ◌∷◌, ◌++◌, None, Some, Option, Result, Ok, Err, IfOk, ℤ, sym, ap, subst}
use Rattle.std.proofs.lemmas.Bool.{true≢false}
use Rattle.lot_command.specs.declared.command.Command.{Command}
use Rattle.lot_command.specs.declared.command.Command.TheVariants.{Transaction}
use Rattle.lot_command.specs.declared.transaction.Transaction.{Transaction as TransactionOf}
use Rattle.lot_book.specs.declared.refusal.Refusal.{Refusal}
use Rattle.lot_book.specs.Booking.{TieRule}
use Rattle.lot_book.specs.Facts.{Facts}
use Rattle.lot_book.specs.Step.{DecidesByUnder, DecidesUnder, JudgesTransactionUnder, Outcome, concluded, first_conditions, first_of}
use Rattle.lot_laws.proofs.StepLemmas.{books_one}
use Rattle.lot_completion.specs.Completion.{IsCompletion}
use Rattle.lot_completion.specs.Proposal.{GoesBeyond, GoesNowhereBeyond, IsFirstBeyond, IsProposal, IsWithinOr}
use Rattle.lot_completion.specs.Turn.{AreWithinBound, Completes, Proposes, ProposesFor, may_complete}
use Rattle.lot_completion.specs.declared.completion.Completion.{Completion}
use Rattle.lot_completion.specs.declared.turn.Proposal.{Proposal}
use Rattle.lot_completion.specs.declared.turn.Proposal.TheVariants as proposal
use Rattle.lot_completion.proofs.OneLemmas.{completion_one}
use Rattle.lot_rounding.specs.Rounding.{IsWithin}
use Rattle.lot_rounding.specs.declared.asked.Asked.{Asked}
use Rattle.lot_rounding.specs.declared.rounding.Rounding.{Rounding}

-- a transaction whose key is new comes to one outcome
judged_one : (ties : TieRule) (facts : Facts) (t : TransactionOf) (first : Option Refusal) (a b : Outcome)
    → JudgesTransactionUnder ties facts t first a → JudgesTransactionUnder ties facts t first b → a ≡ b
judged_one ties facts t (Some refused) a b h k = h ∙ sym k
judged_one ties facts t None a b h k = h.2 ∙ ap (concluded facts t) (books_one ties facts t.day [] 1 t.postings h.0 k.0 h.1 k.1) ∙ sym k.2

decided_one : (ties : TieRule) (facts : Facts) (t : TransactionOf) (a b : Outcome) → facts.text ≡ None
    → DecidesUnder ties facts (Transaction t) a → DecidesUnder ties facts (Transaction t) b → a ≡ b
decided_one ties facts t a b new h k =
    judged_one ties facts t (first_of (first_conditions facts t)) a b
    (subst (λ (text : Option (List ℕ)). DecidesByUnder ties text facts (Transaction t) a) new h)
    (subst (λ (text : Option (List ℕ)). DecidesByUnder ties text facts (Transaction t) b) new k)

-- one more that is within a bound
pub within_more : (bound : ℤ) (crumbs : List (List ℕ × ℤ)) (crumb : List ℕ × ℤ) → AreWithinBound bound crumbs → IsWithin bound crumb.1
    → AreWithinBound bound (crumbs ++ crumb ∷ [])
within_more bound [] crumb all next = (next, tt)
within_more bound (c ∷ cs) crumb all next = (all.0, within_more bound cs crumb all.1 next)

-- where a crumb is beyond a bound, not all are within it
beyond_all : (bound : ℤ) (crumbs : List (List ℕ × ℤ)) (crumb : List ℕ × ℤ) → IsFirstBeyond bound crumbs crumb → AreWithinBound bound crumbs → ⊥
beyond_all bound crumbs crumb first all =
    behind first.before (subst (AreWithinBound bound) first.all all)
  where
    behind : (before : List (List ℕ × ℤ)) → AreWithinBound bound (before ++ crumb ∷ first.after) → ⊥
    behind [] within = first.is_beyond within.0
    behind (c ∷ cs) within = behind cs within.1

module _ (ties : TieRule) (facts : Facts) (rounding : Rounding) (asked : Asked) (t : TransactionOf)
    (is : asked.command ≡ Transaction t) (new : facts.text ≡ None) where
  -- where a transaction is tried in its place, that is a completion
  completes_of : (other : Command) → Proposes ties facts rounding asked other
      → (crumbs : List (List ℕ × ℤ)) × (completed : TransactionOf) × Completes ties facts rounding t crumbs completed
  completes_of other proposes =
      let both : Transaction t ≡ Transaction proposes.t = sym is ∙ proposes.is in
      let same : proposes.t ≡ t = cc in
      by (subst (λ (x : TransactionOf). ProposesFor ties facts rounding asked.cash x proposes.completed) same proposes.proposes)
    where
      by : ProposesFor ties facts rounding asked.cash t proposes.completed
          → (crumbs : List (List ℕ × ℤ)) × (completed : TransactionOf) × Completes ties facts rounding t crumbs completed
      by (inl (crumbs, completes)) = (crumbs, proposes.completed, completes)
      by (inr stands) = let both = sym new ∙ stands.says in absurd cc

  -- no crumb goes beyond the bound where the step leaves no room for a completion
  goes_by_outcome : (outcome : Outcome) → DecidesUnder ties facts (Transaction t) outcome → may_complete outcome ≡ false
      → GoesNowhereBeyond ties facts rounding asked
  goes_by_outcome outcome decides may other crumb command goes =
      let both : Transaction other ≡ Transaction t = sym command ∙ is in
      let same : other ≡ t = cc in
      let beyond = subst (λ (x : TransactionOf). GoesBeyond ties facts rounding x crumb) same goes in
      let one : beyond.outcome ≡ outcome = decided_one ties facts t beyond.outcome outcome new beyond.decides decides in
      true≢false (sym beyond.may ∙ ap may_complete one ∙ may)

  -- nor where there is none
  goes_by_completion : ((crumbs : List (List ℕ × ℤ)) (completed : TransactionOf)
      → IsCompletion ties facts rounding.account rounding.decimals t crumbs completed → ⊥) → GoesNowhereBeyond ties facts rounding asked
  goes_by_completion none other crumb command goes =
      let both : Transaction other ≡ Transaction t = sym command ∙ is in
      let same : other ≡ t = cc in
      let beyond = subst (λ (x : TransactionOf). GoesBeyond ties facts rounding x crumb) same goes in
      none beyond.crumbs beyond.completed beyond.completion

  -- nothing is tried where the step leaves no room for a completion
  pub none_by_outcome : (outcome : Outcome) → DecidesUnder ties facts (Transaction t) outcome → may_complete outcome ≡ false
      → IsProposal ties facts rounding asked proposal.Nothing
  none_by_outcome outcome decides may = (
    λ other proposes.
        let found = completes_of other proposes in
        let one : found.2.outcome ≡ outcome = decided_one ties facts t found.2.outcome outcome new found.2.decides decides in
        true≢false (sym found.2.may ∙ ap may_complete one ∙ may),
    goes_by_outcome outcome decides may,
  )

  -- nor where there is none
  pub none_by_completion : ((crumbs : List (List ℕ × ℤ)) (completed : TransactionOf)
      → IsCompletion ties facts rounding.account rounding.decimals t crumbs completed → ⊥)
      → IsProposal ties facts rounding asked proposal.Nothing
  none_by_completion none = (
    λ other proposes. let found = completes_of other proposes in none found.0 found.1 found.2.completion,
    goes_by_completion none,
  )

  -- with its completion, and the bound
  module _ (outcome : Outcome) (decides : DecidesUnder ties facts (Transaction t) outcome) (may : may_complete outcome ≡ true)
      (completion : Completion)
      (completes : IsCompletion ties facts rounding.account rounding.decimals t completion.crumbs completion.transaction) where
    proposal_of : (found : Proposal) → IsWithinOr rounding.within completion found → IsProposal ties facts rounding asked found
    proposal_of proposal.Nothing within = absurd within
    proposal_of (proposal.Beyond currency crumb) first = (
      λ other proposes.
          let found = completes_of other proposes in
          let one = completion_one ties facts rounding.account rounding.decimals t found.0 completion.crumbs found.1 completion.transaction
          found.2.completion completes in
          beyond_all rounding.within completion.crumbs (currency, crumb) first (subst (AreWithinBound rounding.within) one.0 found.2.within),
      t,
      is,
      record {
        outcome = outcome;
        decides = decides;
        may = may;
        crumbs = completion.crumbs;
        completed = completion.transaction;
        completion = completes;
        first = first;
      },
    )
    proposal_of (proposal.Completion found) (same, within) =
        let with_crumbs : Completes ties facts rounding t completion.crumbs completion.transaction =
        record { outcome = outcome; decides = decides; may = may; completion = completes; within = within } in
        (t, is, subst (λ (c : Completion). Completes ties facts rounding t c.crumbs c.transaction) (sym same) with_crumbs)
    proposal_of (proposal.Standing stands) within = absurd within

    pub proposals : {E : Type 0} (result : Result Proposal E) → IfOk result (IsWithinOr rounding.within completion)
        → IfOk result (IsProposal ties facts rounding asked)
    proposals (Ok found) within = proposal_of found within
    proposals (Err error) within = tt

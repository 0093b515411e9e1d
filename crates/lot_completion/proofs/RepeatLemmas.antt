-- A completion or a split that stands under the key is judged in the place of what comes again.
use Rattle.std.proofs.Common.{◌≡◌, ◌∙◌, inl, inr, ℕ, Bool, true, false, cond, List, Option, None, Some, refl, sym, ap, subst}
use Rattle.std.proofs.lemmas.Bool.{true≢false}
use Rattle.lot_base.specs.Text.{same_text}
use Rattle.lot_base.proofs.TextLemmas.{same_text-itself}
use Rattle.lot_command.specs.Canonical.{canonical}
use Rattle.lot_command.specs.Sayable.{IsSayable}
use Rattle.lot_command.specs.declared.command.Command.{Command}
use Rattle.lot_command.specs.declared.command.Command.TheVariants.{Transaction}
use Rattle.lot_command.specs.declared.transaction.Transaction.{Transaction as TransactionOf}
use Rattle.lot_book.specs.declared.refusal.Refusal.TheVariants.{KeyReused}
use Rattle.lot_book.specs.Booking.{TieRule}
use Rattle.lot_book.specs.Facts.{Facts}
use Rattle.lot_book.specs.Step.{DecidesByUnder, DecidesUnder, Outcome, Refuse, Repeat}
use Rattle.lot_completion.specs.Turn.{IsTurnWith, Proposes, ProposesFor, ProposesSplit, SplitsFor, StandsAsSplit, StandsByForm, Tries, TriesBy, may_complete}
use Rattle.lot_rounding.specs.declared.asked.Asked.{Asked}
use Rattle.lot_rounding.specs.declared.ratio.Change.{Change}
use Rattle.lot_rounding.specs.declared.rounding.Rounding.{Rounding}
use Rattle.lot_split.specs.Held.{split_of}
use Rattle.lot_split.specs.declared.transaction.Split.{Split}

abbrev Apart : Type 0
Apart = (a b : Command) → IsSayable a → IsSayable b → canonical a ≡ canonical b → a ≡ b

-- a key that stands leaves no room for a new completion
no_room : (repeats : Bool) → may_complete (cond repeats Repeat (Refuse KeyReused)) ≡ false
no_room true = refl
no_room false = refl

-- what stands under the key and is tried alone is judged, and repeats the entry
module _ (ties : TieRule) (facts : Facts) (rounding : Rounding) (asked : Asked) (stands : TransactionOf)
    (says : facts.text ≡ Some (canonical (Transaction stands))) (tried : Tries ties facts rounding asked (Transaction stands))
    (alone : (other : Command) → Tries ties facts rounding asked other → other ≡ Transaction stands) where
  repeats : DecidesUnder ties facts (Transaction stands) Repeat
  repeats =
      subst (λ (x : Option (List ℕ)). DecidesByUnder ties x facts (Transaction stands) Repeat) (sym says)
      (sym (ap (λ b. cond b Repeat (Refuse KeyReused)) (same_text-itself (canonical (Transaction stands)))))

  pub repeats_alone : (turned : Command) → IsTurnWith ties facts rounding asked turned → (turned ≡ Transaction stands) × DecidesUnder ties facts turned Repeat
  repeats_alone turned (inl (tries, passes)) =
      let same = alone turned tries in
      (same, subst (λ (x : Command). DecidesUnder ties facts x Repeat) (sym same) repeats)
  repeats_alone turned (inr (same, none)) = absurd (none (Transaction stands) tried (Repeat, repeats, refl))

module _ (ties : TieRule) (facts : Facts) (rounding : Rounding) (asked : Asked) (t completed : TransactionOf) (apart : Apart)
    (is : asked.command ≡ Transaction t) (plain : asked.split ≡ None) (stands : StandsByForm facts.text asked.cash t completed) where
  abbrev text : List ℕ
  text = canonical (Transaction completed)

  never_room : (other : TransactionOf) (outcome : Outcome) → DecidesUnder ties facts (Transaction other) outcome → may_complete outcome ≡ false
  never_room other outcome decides =
      ap may_complete (subst (λ (x : Option (List ℕ)). DecidesByUnder ties x facts (Transaction other) outcome) stands.says decides)
      ∙ no_room (same_text text (canonical (Transaction other)))

  -- it is tried, and no other
  tried : Proposes ties facts rounding asked (Transaction completed)
  tried = record { t = t; is = is; completed = completed; proposes = inr stands; other_is = refl }

  tried_alone : (other : Command) → Proposes ties facts rounding asked other → other ≡ Transaction completed
  tried_alone other proposes = proposes.other_is ∙ by proposes.proposes
    where
      by : ProposesFor ties facts rounding asked.cash proposes.t proposes.completed → Transaction proposes.completed ≡ Transaction completed
      by (inl (crumbs, completes)) = absurd (true≢false (sym completes.may ∙ never_room proposes.t completes.outcome completes.decides))
      by (inr found) =
          let both : Some (canonical (Transaction proposes.completed)) ≡ Some text = sym found.says ∙ stands.says in
          let same : canonical (Transaction proposes.completed) ≡ text = cc in
          apart (Transaction proposes.completed) (Transaction completed) found.sayable stands.sayable same

  pub turned_repeats : (turned : Command) → IsTurnWith ties facts rounding asked turned → (turned ≡ Transaction completed) × DecidesUnder ties facts turned Repeat
  turned_repeats = repeats_alone ties facts rounding asked completed stands.says
      (subst (λ (split : Option Change). TriesBy split ties facts rounding asked (Transaction completed)) (sym plain) tried)
      (λ other tries. tried_alone other (subst (λ (split : Option Change). TriesBy split ties facts rounding asked other) plain tries))

-- the same of a split that stands
module _ (ties : TieRule) (facts : Facts) (rounding : Rounding) (asked : Asked) (change : Change) (split : Split) (stands : TransactionOf) (apart : Apart)
    (is : asked.split ≡ Some change) (asks : split_of rounding.account change asked.command ≡ Some split)
    (standing : StandsAsSplit facts.text split stands) where
  split_tried : ProposesSplit ties facts rounding change asked.command (Transaction stands)
  split_tried = record { split = split; asks = asks; made = stands; splits = inr standing; other_is = refl }

  split_alone : (other : Command) → ProposesSplit ties facts rounding change asked.command other → other ≡ Transaction stands
  split_alone other proposes = proposes.other_is ∙ by proposes.splits
    where
      by : SplitsFor ties facts proposes.split proposes.made → Transaction proposes.made ≡ Transaction stands
      by (inl (new, made)) = let both : None ≡ Some (canonical (Transaction stands)) = sym new ∙ standing.says in absurd cc
      by (inr found) =
          let both : Some (canonical (Transaction proposes.made)) ≡ Some (canonical (Transaction stands)) = sym found.says ∙ standing.says in
          let same : canonical (Transaction proposes.made) ≡ canonical (Transaction stands) = cc in
          apart (Transaction proposes.made) (Transaction stands) found.sayable standing.sayable same

  pub split_repeats : (turned : Command) → IsTurnWith ties facts rounding asked turned → (turned ≡ Transaction stands) × DecidesUnder ties facts turned Repeat
  split_repeats = repeats_alone ties facts rounding asked stands standing.says
      (subst (λ (s : Option Change). TriesBy s ties facts rounding asked (Transaction stands)) (sym is) split_tried)
      (λ other tries. split_alone other (subst (λ (s : Option Change). TriesBy s ties facts rounding asked other) is tries))

-- What is tried in the place of a command depends on what the command looks at alone. What judges commands cites these lemmas.
use Rattle.std.proofs.Common.{◌≡◌, ◌∙◌, inl, inr, ℕ, List, [], ◌∷◌, ◌++◌, Option, None, Some, ℤ, pos, refl, sym, ap, subst}
use Rattle.std.specs.Option.{unwrap_or}
use Rattle.lot_cost.specs.declared.lot_key.LotKey.{LotKey}
use Rattle.lot_command.specs.declared.key.Key.{Key}
use Rattle.std.specs.List.{AllByRecursion}
use Rattle.lot_command.specs.declared.command.Command.{Command}
use Rattle.lot_command.specs.declared.command.Command.TheVariants.{Transaction}
use Rattle.lot_command.specs.declared.transaction.Amount.{Amount}
use Rattle.lot_command.specs.declared.transaction.Posting.{Posting}
use Rattle.lot_command.specs.declared.transaction.Transaction.{Transaction as TransactionOf}
use Rattle.lot_book.specs.declared.change.Pair.{Pair}
use Rattle.lot_book.specs.declared.leg.Leg.{Leg}
use Rattle.lot_book.specs.Agree.{Agrees, HaveSameOf, HaveSamePlain}
use Rattle.lot_book.specs.Booking.{All, TieRule}
use Rattle.lot_book.specs.Edition.{Second, ties_in}
use Rattle.lot_book.specs.Facts.{Entry, Facts, facts_of}
use Rattle.lot_book.specs.Leg.{with_legs}
use Rattle.lot_book.specs.Openings.{AgreesWithOpenings, FactsWithOpenings, facts_with_openings, ties_on}
use Rattle.lot_book.specs.Touched.{accounts_in, declared_in, pair_of, pairs_in, pairs_of, plain_in}
use Rattle.lot_booking.proofs.ListLemmas.{all_both}
use Rattle.lot_booking.proofs.SameTies.{IsHeldLot}
use Rattle.lot_laws.proofs.StepHeld.{IsOf, same_of, same_with_legs}
use Rattle.lot_laws.proofs.StepOpenings.{agreed_ties}
use Rattle.lot_laws.proofs.StepAgree.{Alike, AlikeIn, TiesAlike, alike_all, same_books}
use Rattle.lot_laws.proofs.StepLooks.{same_decision_under}
use Rattle.lot_completion.specs.Completion.{IsCompletion}
use Rattle.lot_completion.specs.Rates.{Rates, RatesAll, RatesAmount, postings_of}
use Rattle.lot_completion.specs.Turn.{Proposes, ProposesFor, ProposesSplit, SplitsFor, Tries, TriesBy}
use Rattle.lot_completion.specs.declared.rates.RatedPosting.{RatedPosting}
use Rattle.lot_rounding.specs.declared.asked.Asked.{Asked}
use Rattle.lot_rounding.specs.declared.ratio.Change.{Change}
use Rattle.lot_rounding.specs.declared.rounding.Rounding.{Rounding}
use Rattle.lot_split.proofs.AgreeLemmas.{split_on_book, split_on_known}

-- ---- postings with rates look at the same

module _ (a b : Facts) where
  same_amount : (account : List ℕ) (written amount : Option Amount) (left : Option (List ℕ × ℤ)) → RatesAmount written amount left
      → AlikeIn a b account written → AlikeIn a b account amount
  same_amount account None amount left rates alike = subst (AlikeIn a b account) (sym rates.0) alike
  same_amount account (Some written) amount left rates alike = subst (AlikeIn a b account) (sym rates.2) alike

  same_posting : (written : Posting) (rated : RatedPosting) → Rates written rated → Alike a b written → Alike a b rated.posting
  same_posting written rated rates alike = (
    subst (λ (account : List ℕ). a.standing account ≡ b.standing account) (sym rates.account) alike.0,
    subst (λ (account : List ℕ). AlikeIn a b account rated.posting.amount) (sym rates.account)
        (same_amount written.account written.amount rated.posting.amount rated.left rates.amount alike.1),
  )

  pub same_rated : (written : List Posting) (rated : List RatedPosting) → RatesAll written rated
      → AllByRecursion (Alike a b) written → AllByRecursion (Alike a b) (postings_of rated)
  same_rated [] [] rates alike = tt
  same_rated [] (r ∷ rs) rates alike = absurd rates
  same_rated (p ∷ ps) [] rates alike = absurd rates
  same_rated (p ∷ ps) (r ∷ rs) rates alike = (same_posting p r rates.0 alike.0, same_rated ps rs rates.1 alike.1)

pair_same : (written : Posting) (rated : RatedPosting) → Rates written rated
    → pair_of rated.posting.account rated.posting.amount ≡ pair_of written.account written.amount
pair_same written rated rates =
    ap (λ (account : List ℕ). pair_of account rated.posting.amount) rates.account ∙ by written.amount rated.posting.amount rates.amount
  where
    by : (w : Option Amount) (amount : Option Amount) → RatesAmount w amount rated.left
        → pair_of written.account amount ≡ pair_of written.account w
    by None amount is = ap (pair_of written.account) is.0
    by (Some w) amount is = ap (pair_of written.account) is.2

pub pairs_same : (written : List Posting) (rated : List RatedPosting) → RatesAll written rated
    → pairs_of (postings_of rated) ≡ pairs_of written
pairs_same [] [] rates = refl
pairs_same [] (r ∷ rs) rates = absurd rates
pairs_same (p ∷ ps) [] rates = absurd rates
pairs_same (p ∷ ps) (r ∷ rs) rates =
    ap (λ x. x ++ pairs_of (postings_of rs)) (pair_same p r rates.0)
    ∙ ap (λ x. pair_of p.account p.amount ++ x) (pairs_same ps rs rates.1)

-- ---- so there are the same completions

module _ (s t : TieRule) (a b : Facts) (rounding : Rounding) where
  same_completion : (w : TransactionOf) (crumbs : List (List ℕ × ℤ)) (completed : TransactionOf) → Agrees a b (Transaction w)
      → AllByRecursion (TiesAlike s t a) (pairs_of w.postings)
      → IsCompletion s a rounding.account rounding.decimals w crumbs completed
      → IsCompletion t b rounding.account rounding.decimals w crumbs completed
  same_completion w crumbs completed agrees ties is = record {
    few = is.few;
    rated = is.rated;
    rates = is.rates;
    booked = is.booked;
    books = same_books s t a b agrees.entries w.day [] 1 (postings_of is.rated) (All is.booked)
        (same_rated a b w.postings is.rated is.rates
        (alike_all a b w.postings agrees.standing agrees.latest_at_cost agrees.held agrees.plain_units))
        (subst (AllByRecursion (TiesAlike s t a)) (sym (pairs_same w.postings is.rated is.rates)) ties) is.books;
    are = is.are;
    is = is.is;
  }

  pub proposes_alike : (asked : Asked) (other : Command) → Agrees a b asked.command
      → AllByRecursion (TiesAlike s t a) (pairs_in asked.command) → Proposes s a rounding asked other → Proposes t b rounding asked other
  proposes_alike asked other agrees ties proposes =
      let w = proposes.t in
      let agreed : Agrees a b (Transaction w) = subst (Agrees a b) proposes.is agrees in
      let tied : AllByRecursion (TiesAlike s t a) (pairs_of w.postings) =
      subst (λ (c : Command). AllByRecursion (TiesAlike s t a) (pairs_in c)) proposes.is ties in
      record {
        t = w;
        is = proposes.is;
        completed = proposes.completed;
        proposes = by agreed tied proposes.proposes;
        other_is = proposes.other_is;
      }
    where
      by : Agrees a b (Transaction proposes.t) → AllByRecursion (TiesAlike s t a) (pairs_of proposes.t.postings)
          → ProposesFor s a rounding asked.cash proposes.t proposes.completed → ProposesFor t b rounding asked.cash proposes.t proposes.completed
      by agreed tied (inl (crumbs, completes)) = inl (
        crumbs,
        record {
          outcome = completes.outcome;
          decides = same_decision_under s t a b (Transaction proposes.t) completes.outcome agreed tied completes.decides;
          may = completes.may;
          completion = same_completion proposes.t crumbs proposes.completed agreed tied completes.completion;
          within = completes.within;
        },
      )
      by agreed tied (inr stands) = inr (record { says = sym agreed.text ∙ stands.says; sayable = stands.sayable; form = stands.form })

-- ---- on a book

-- bodies of facts agree whichever is named first
agrees_turned : (a b : Facts) (command : Command) → Agrees a b command → Agrees b a command
agrees_turned a b command is = record {
  entries = sym is.entries;
  text = sym is.text;
  standing = all_so (λ (x : List ℕ). a.standing x ≡ b.standing x) (λ x. b.standing x ≡ a.standing x) (λ x h. sym h) (accounts_in command) is.standing;
  is_declared = all_so (λ (x : List ℕ). a.is_declared x ≡ b.is_declared x) (λ x. b.is_declared x ≡ a.is_declared x) (λ x h. sym h) (declared_in command) is.is_declared;
  latest_at_cost = all_so (λ (p : Pair). a.latest_at_cost p.account p.commodity ≡ b.latest_at_cost p.account p.commodity)
      (λ p. b.latest_at_cost p.account p.commodity ≡ a.latest_at_cost p.account p.commodity) (λ p h. sym h) (pairs_in command) is.latest_at_cost;
  held = all_so (λ (p : Pair). HaveSameOf p.commodity (a.held p.account) (b.held p.account))
      (λ p. HaveSameOf p.commodity (b.held p.account) (a.held p.account)) (λ p h lot. sym (h lot)) (pairs_in command) is.held;
  plain_units = all_so (λ (x : List ℕ). HaveSamePlain (a.held x) (b.held x))
      (λ x. HaveSamePlain (b.held x) (a.held x)) (λ x h commodity. sym (h commodity)) (plain_in command) is.plain_units;
}
  where
    all_so : {X : Type 0} (P Q : X → Type 0) → ((x : X) → P x → Q x) → (xs : List X) → AllByRecursion P xs → AllByRecursion Q xs
    all_so P Q on [] all = tt
    all_so P Q on (x ∷ xs) all = (on x all.0, all_so P Q on xs all.1)

-- so do the orders of lots that are held by both
ties_turned : (s t : TieRule) (a b : Facts) (pairs : List Pair)
    → AllByRecursion (λ (p : Pair). HaveSameOf p.commodity (a.held p.account) (b.held p.account)) pairs
    → AllByRecursion (TiesAlike s t a) pairs → AllByRecursion (TiesAlike t s b) pairs
ties_turned s t a b pairs held ties =
    all_both (λ (p : Pair). HaveSameOf p.commodity (a.held p.account) (b.held p.account)) (TiesAlike s t a) (TiesAlike t s b)
    (λ p same alike before method x y is other. sym (alike before method x y (held_too p same before x is) (held_too p same before y other)))
    pairs held ties
  where
    held_too : (p : Pair) → HaveSameOf p.commodity (a.held p.account) (b.held p.account) → (before : List Leg) (lot : LotKey)
        → IsHeldLot (with_legs p.account (b.held p.account) before) p.commodity lot
        → IsHeldLot (with_legs p.account (a.held p.account) before) p.commodity lot
    held_too p same before lot some none =
        some (sym (ap (λ (found : Option ℤ). unwrap_or found (pos 0))
        (same_with_legs (IsOf p.commodity) p.account (a.held p.account) (b.held p.account) before
        (same_of p.commodity (a.held p.account) (b.held p.account) same) (p.commodity, Some lot) refl)) ∙ none)

module _ (known : FactsWithOpenings) (book : List Entry) (key : Key) (rounding : Rounding) (asked : Asked) (other : Command)
    (agrees : AgreesWithOpenings known (facts_with_openings book key) asked.command) where
  abbrev known_ties : AllByRecursion (TiesAlike (ties_on known) (ties_in Second book) known.facts) (pairs_in asked.command)
  known_ties = agreed_ties Second known book key (pairs_in asked.command) agrees.facts.held agrees.opening

  -- what is tried on facts that agree with a book's is what is tried on the book
  proposed_on_book : Proposes (ties_on known) known.facts rounding asked other
      → Proposes (ties_in Second book) (facts_of book key) rounding asked other
  proposed_on_book proposes =
      proposes_alike (ties_on known) (ties_in Second book) known.facts (facts_of book key) rounding asked other agrees.facts known_ties proposes

  proposed_on_known : Proposes (ties_in Second book) (facts_of book key) rounding asked other
      → Proposes (ties_on known) known.facts rounding asked other
  proposed_on_known proposes =
      proposes_alike (ties_in Second book) (ties_on known) (facts_of book key) known.facts rounding asked other
      (agrees_turned known.facts (facts_of book key) asked.command agrees.facts)
      (ties_turned (ties_on known) (ties_in Second book) known.facts (facts_of book key) (pairs_in asked.command) agrees.facts.held known_ties) proposes

  -- so is a split
  split_tried_on_book : (change : Change) → ProposesSplit (ties_on known) known.facts rounding change asked.command other
      → ProposesSplit (ties_in Second book) (facts_of book key) rounding change asked.command other
  split_tried_on_book change proposes = record {
    split = proposes.split;
    asks = proposes.asks;
    made = proposes.made;
    splits = by proposes.splits;
    other_is = proposes.other_is;
  }
    where
      by : SplitsFor (ties_on known) known.facts proposes.split proposes.made
          → SplitsFor (ties_in Second book) (facts_of book key) proposes.split proposes.made
      by (inl (new, is)) = inl (
        sym agrees.facts.text ∙ new,
        split_on_book known book key asked.command rounding.account change proposes.split proposes.made agrees proposes.asks is,
      )
      by (inr stands) = inr (record { says = sym agrees.facts.text ∙ stands.says; sayable = stands.sayable; form = stands.form })

  split_tried_on_known : (change : Change) → ProposesSplit (ties_in Second book) (facts_of book key) rounding change asked.command other
      → ProposesSplit (ties_on known) known.facts rounding change asked.command other
  split_tried_on_known change proposes = record {
    split = proposes.split;
    asks = proposes.asks;
    made = proposes.made;
    splits = by proposes.splits;
    other_is = proposes.other_is;
  }
    where
      by : SplitsFor (ties_in Second book) (facts_of book key) proposes.split proposes.made
          → SplitsFor (ties_on known) known.facts proposes.split proposes.made
      by (inl (new, is)) = inl (
        agrees.facts.text ∙ new,
        split_on_known known book key asked.command rounding.account change proposes.split proposes.made agrees proposes.asks is,
      )
      by (inr stands) = inr (record { says = agrees.facts.text ∙ stands.says; sayable = stands.sayable; form = stands.form })

  -- what is tried on facts that agree with a book's, a split or a completion, is what is tried on the book
  pub tried_on_book : Tries (ties_on known) known.facts rounding asked other → Tries (ties_in Second book) (facts_of book key) rounding asked other
  tried_on_book = by asked.split
    where
      by : (split : Option Change) → TriesBy split (ties_on known) known.facts rounding asked other
          → TriesBy split (ties_in Second book) (facts_of book key) rounding asked other
      by None proposes = proposed_on_book proposes
      by (Some change) proposes = split_tried_on_book change proposes

  pub tried_on_known : Tries (ties_in Second book) (facts_of book key) rounding asked other → Tries (ties_on known) known.facts rounding asked other
  tried_on_known = by asked.split
    where
      by : (split : Option Change) → TriesBy split (ties_in Second book) (facts_of book key) rounding asked other
          → TriesBy split (ties_on known) known.facts rounding asked other
      by None proposes = proposed_on_known proposes
      by (Some change) proposes = split_tried_on_known change proposes

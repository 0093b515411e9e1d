-- Opening numbers as facts: what legs make of them, and that the step of edition 2 rests on them.
use Rattle.std.specs.Prelude.{◌≡◌, ◌≢◌, ◌↔◌, ℕ, ◌&&◌, true, false, cond, List, [], ◌∷◌, ◌++◌, Some, pos}
use Rattle.std.specs.List.{AllByRecursion}
use Rattle.std.specs.FinMap.{empty}
use Rattle.std.specs.Option.{unwrap_or}
use Rattle.std.specs.Ordering.{int_eq}
use Rattle.std.proofs.Common.{refl, sym, ap, subst, ◌∙◌, append_assoc}
use Rattle.std.proofs.lemmas.List.{append-nil}
use Rattle.lot_cost.specs.declared.lot_key.LotKey.{LotKey}
use Rattle.lot_inv.specs.Inventory.{Held, units_at}
use Rattle.lot_booking.proofs.ListLemmas.{all_both}
use Rattle.lot_command.specs.declared.command.Command.{Command}
use Rattle.lot_command.specs.declared.key.Key.{Key}
use Rattle.lot_book.specs.declared.change.Change.{Change}
use Rattle.lot_book.specs.declared.change.Pair.{Pair}
use Rattle.lot_book.specs.declared.leg.Leg.{Leg}
use Rattle.lot_book.specs.declared.leg.Position.{Position}
use Rattle.lot_book.specs.Agree.{HaveSameOf}
use Rattle.lot_book.specs.Book.{entry_of}
use Rattle.lot_book.specs.Booking.{all_by_key}
use Rattle.lot_book.specs.Change.{IsChange, ListsOpened}
use Rattle.lot_book.specs.Edition.{Edition, First, Second, ties_in}
use Rattle.lot_book.specs.Facts.{Entry, Facts, facts_of, legs_of}
use Rattle.lot_book.specs.Leg.{inventory_of, same_position, sum_at, with_leg, with_legs}
use Rattle.lot_book.specs.OpeningNumber.{opening_in, opening_number, opening_with_leg, opening_with_legs, posting_number}
use Rattle.lot_book.specs.Openings.{AgreesOnOpenings, AgreesWithOpenings, AreOpeningsOf, DecidesByOpening, FactsWithOpenings, HaveSameOpenings, facts_with_openings, opening_after, ties_for, ties_on, with_listed}
use Rattle.lot_book.specs.Step.{DecidesUnder, Outcome, StepIn}
use Rattle.lot_book.specs.Touched.{pairs_in}
use Rattle.lot_book.proofs.CaseLemmas.{by_bool}
use Rattle.lot_book.proofs.LegLemmas.{with_legs-append}
use Rattle.lot_book.proofs.OrderLemmas.{one_position, same_position-itself}
use Rattle.lot_laws.specs.Laws.{lot_at}
use Rattle.lot_laws.proofs.LawHoldings.{holds_sum}
use Rattle.lot_laws.proofs.OpeningLemmas.{number_elsewhere, number_kept, number_opened, some_units, zero_is}
use Rattle.lot_laws.proofs.RecordedBook.{legs_of-append}
use Rattle.lot_laws.proofs.SameOpenings.{same_after_leg, same_after_legs}
use Rattle.lot_laws.proofs.StepAgree.{TiesAlike, all_of, ties_themselves}
use Rattle.lot_laws.proofs.StepHeld.{IsOf, same_of, same_with_legs}
use Rattle.lot_laws.proofs.StepLooks.{agrees_itself, same_decision_under}
use Rattle.lot_booking.proofs.SameTies.{IsHeldLot, same_by_opening}

-- ---- the numbers over legs

module _ (account commodity : List ℕ) where
  abbrev at_lot : LotKey → Position
  at_lot = lot_at account commodity

  -- what legs leave in the account
  abbrev left : List Leg → Held
  left legs = inventory_of legs account

  abbrev numbers_of : List Leg → LotKey → ℕ
  numbers_of legs = opening_in legs account commodity

  left-push : (legs : List Leg) (leg : Leg) → with_leg account (left legs) leg ≡ left (legs ++ leg ∷ [])
  left-push legs leg = sym (with_legs-append account empty legs (leg ∷ []))

  -- a leg makes of the numbers those over the legs with it
  numbers_with_leg : (legs : List Leg) (leg : Leg)
      → HaveSameOpenings commodity (left (legs ++ leg ∷ [])) (opening_with_leg account commodity (left legs) (numbers_of legs) leg)
      (numbers_of (legs ++ leg ∷ []))
  numbers_with_leg legs leg lot some =
      let p = at_lot lot in
      let all = legs ++ leg ∷ [] in
      let number = posting_number leg in
      let had = numbers_of legs lot in
      let number_at : Position → ℕ = λ q. unwrap_or (opening_number all q) 0 in
      let left_at : sum_at all p ≢ pos 0 = λ zero. some (holds_sum all p ∙ zero) in
      ap (λ z. cond (same_position p leg.position && int_eq z (pos 0)) number had) (holds_sum legs p)
      ∙ by_bool (same_position p leg.position)
      (λ here.
      let is = one_position p leg.position here in
      ap (λ b. cond (b && int_eq (sum_at legs p) (pos 0)) number had) here
      ∙ by_bool (int_eq (sum_at legs p) (pos 0))
      (λ zero.
      ap (λ b. cond b number had) zero
      ∙ sym (ap number_at is ∙ ap (λ o. unwrap_or o 0)
      (number_opened legs leg (subst (λ q. sum_at legs q ≡ pos 0) is (zero_is (sum_at legs p) zero)) (subst (λ q. sum_at all q ≢ pos 0) is left_at))))
      (λ held.
      ap (λ b. cond b number had) held
      ∙ sym (ap number_at is ∙ ap (λ o. unwrap_or o 0)
      (number_kept legs leg (subst (λ q. sum_at legs q ≢ pos 0) is (some_units (sum_at legs p) held)) (subst (λ q. sum_at all q ≢ pos 0) is left_at))
      ∙ ap (λ q. unwrap_or (opening_number legs q) 0) (sym is))))
      (λ apart.
      ap (λ b. cond (b && int_eq (sum_at legs p) (pos 0)) number had) apart
      ∙ ap (λ o. unwrap_or o 0) (sym (number_elsewhere legs leg p (elsewhere p leg apart))))
    where
      elsewhere : (p : Position) (leg : Leg) → same_position p leg.position ≡ false → leg.position ≢ p
      elsewhere p leg apart is =
          let here : same_position p leg.position ≡ true = ap (same_position p) is ∙ same_position-itself p in cc

  -- further legs make of numbers that are those over legs the numbers over all of them
  numbers_with_legs : (legs more : List Leg) (f : LotKey → ℕ) → HaveSameOpenings commodity (left legs) f (numbers_of legs)
      → HaveSameOpenings commodity (left (legs ++ more)) (opening_with_legs account commodity (left legs) f more) (numbers_of (legs ++ more))
  numbers_with_legs legs [] f same =
      subst (λ (all : List Leg). HaveSameOpenings commodity (left all) f (numbers_of all)) (sym (append-nil legs)) same
  numbers_with_legs legs (leg ∷ more) f same =
      let all = legs ++ leg ∷ [] in
      let next = opening_with_leg account commodity (left legs) f leg in
      let one : HaveSameOpenings commodity (left all) next (numbers_of all) = λ lot some.
      same_after_leg account commodity (left legs) (left legs) f (numbers_of legs) leg (λ at is. refl) same lot
      (subst (λ held. IsHeldLot held commodity lot) (sym (left-push legs leg)) some)
      ∙ numbers_with_leg legs leg lot some in
      subst (λ (ls : List Leg). HaveSameOpenings commodity (left ls)
      (opening_with_legs account commodity (with_leg account (left legs) leg) next more) (numbers_of ls))
      (append_assoc legs (leg ∷ []) more)
      (subst (λ held. HaveSameOpenings commodity (left (all ++ more)) (opening_with_legs account commodity held next more) (numbers_of (all ++ more)))
      (sym (left-push legs leg)) (numbers_with_legs all more next one))

-- ---- of a book

pub numbers_after : (known : FactsWithOpenings) (book : List Entry) (key : Key) (legs : List Leg) (account commodity : List ℕ)
    → known.facts ≡ facts_of book key → AreOpeningsOf book known.opening
    → HaveSameOpenings commodity (inventory_of (legs_of book ++ legs) account)
    (opening_after known legs account commodity) (opening_in (legs_of book ++ legs) account commodity)
numbers_after known book key legs account commodity same are =
    let all = legs_of book ++ legs in
    subst (λ held. HaveSameOpenings commodity (inventory_of all account)
    (opening_with_legs account commodity held (known.opening account commodity) legs) (opening_in all account commodity))
    (sym (ap (λ (f : Facts). f.held account) same))
    (numbers_with_legs account commodity (legs_of book) legs (known.opening account commodity) (are account commodity))

-- those that a change lists, put in, are what its legs make of the numbers before
pub listed_after : (known : FactsWithOpenings) (change : Change) (account commodity : List ℕ) (lot : LotKey)
    → ListsOpened known.facts change.legs change.openings
    → with_listed change.openings known.opening account commodity lot ≡ opening_after known change.legs account commodity lot
listed_after known change account commodity lot lists = sym (lists account commodity lot (known.opening account commodity))

-- once a command is recorded they are those of the book with its entry
pub numbers_recorded : (known : FactsWithOpenings) (book : List Entry) (key : Key) (command : Command) (legs : List Leg) (change : Change)
    → known.facts ≡ facts_of book key → AreOpeningsOf book known.opening → IsChange known.facts command legs change
    → AreOpeningsOf (book ++ entry_of key command legs ∷ []) (with_listed change.openings known.opening)
numbers_recorded known book key command legs change same are is account commodity =
    let numbers = with_listed change.openings known.opening account commodity in
    subst (λ (all : List Leg). HaveSameOpenings commodity (inventory_of all account) numbers (opening_in all account commodity))
    (sym (legs_of-append book (entry_of key command legs)))
    (λ lot some.
    sym (is.openings account commodity lot (known.opening account commodity))
    ∙ numbers_after known book key legs account commodity same are lot some)

-- numbers that are those of the book decide as those over its legs do
known_ties : (known : FactsWithOpenings) (book : List Entry) (key : Key) (pair : Pair)
    → known.facts ≡ facts_of book key → AreOpeningsOf book known.opening
    → TiesAlike (ties_on known) (ties_in Second book) (facts_of book key) pair
known_ties known book key pair same are before =
    let account = pair.account in
    let commodity = pair.commodity in
    let over = opening_in (legs_of book ++ before) account commodity in
    same_by_opening (IsHeldLot (with_legs account (inventory_of (legs_of book) account) before) commodity)
    (opening_after known before account commodity) over
    (subst (λ held. HaveSameOpenings commodity held (opening_after known before account commodity) over)
    (with_legs-append account empty (legs_of book) before) (numbers_after known book key before account commodity same are))

pub step_on_known : (known : FactsWithOpenings) (book : List Entry) (key : Key) (command : Command) (outcome : Outcome)
    → known.facts ≡ facts_of book key → AreOpeningsOf book known.opening
    → StepIn Second book key command outcome ↔ DecidesByOpening known command outcome
step_on_known known book key command outcome same are =
    let facts = facts_of book key in
    let by_book = ties_in Second book in
    let by_known = ties_on known in
    let pairs = pairs_in command in
    let ties : (pair : Pair) → TiesAlike by_known by_book facts pair = λ pair. known_ties known book key pair same are in (
      λ step. subst (λ (f : Facts). DecidesUnder by_known f command outcome) (sym same)
          (same_decision_under by_book by_known facts facts command outcome (agrees_itself facts command)
          (all_of (TiesAlike by_book by_known facts) (λ pair before method x y is other. sym (ties pair before method x y is other)) pairs) step),
      λ decides. same_decision_under by_known by_book facts facts command outcome (agrees_itself facts command)
          (all_of (TiesAlike by_known by_book facts) ties pairs)
          (subst (λ (f : Facts). DecidesUnder by_known f command outcome) same decides),
    )

pub step_on_book : (book : List Entry) (key : Key) (command : Command) (outcome : Outcome)
    → StepIn Second book key command outcome ↔ DecidesByOpening (facts_with_openings book key) command outcome
step_on_book book key command outcome =
    step_on_known (facts_with_openings book key) book key command outcome refl (λ account commodity lot held. refl)

-- ---- on facts that agree with the book's

-- by an edition, facts that agree with a book's at some pairs decide ties there as the book does
pub agreed_ties : (edition : Edition) (known : FactsWithOpenings) (book : List Entry) (key : Key) (pairs : List Pair)
    → AllByRecursion (λ (pair : Pair). HaveSameOf pair.commodity (known.facts.held pair.account) (inventory_of (legs_of book) pair.account)) pairs
    → AgreesOnOpenings known (facts_with_openings book key) pairs
    → AllByRecursion (TiesAlike (ties_for edition known) (ties_in edition book) known.facts) pairs
agreed_ties First known book key pairs held numbers = ties_themselves all_by_key known.facts pairs
agreed_ties Second known book key pairs held numbers =
    let said = facts_with_openings book key in
    all_both (λ (pair : Pair). HaveSameOf pair.commodity (known.facts.held pair.account) (inventory_of (legs_of book) pair.account))
    (λ (pair : Pair). HaveSameOpenings pair.commodity (known.facts.held pair.account)
    (known.opening pair.account pair.commodity) (said.opening pair.account pair.commodity))
    (TiesAlike (ties_on known) (ties_in Second book) known.facts)
    (λ pair same numbers before.
    let account = pair.account in
    let commodity = pair.commodity in
    let here = known.facts.held account in
    let there = inventory_of (legs_of book) account in
    let alike = same_of commodity here there same in
    let IsHeld = IsHeldLot (with_legs account here before) commodity in
    let all : (lot : LotKey) → units_at (with_legs account here before) (commodity, Some lot)
    ≡ units_at (inventory_of (legs_of book ++ before) account) (commodity, Some lot) =
    λ lot. ap (λ found. unwrap_or found (pos 0)) (same_with_legs (IsOf commodity) account here there before alike (commodity, Some lot) refl)
    ∙ ap (λ held. units_at held (commodity, Some lot)) (sym (with_legs-append account empty (legs_of book) before)) in
    same_by_opening IsHeld (opening_after known before account commodity) (opening_in (legs_of book ++ before) account commodity)
    (λ lot some.
    same_after_legs account commodity here there (known.opening account commodity) (said.opening account commodity) before alike numbers lot some
    ∙ numbers_after said book key before account commodity refl (λ account commodity lot held. refl) lot
    (λ none. some (all lot ∙ none))))
    pairs held numbers

-- so what a command comes to on them is its step on the book
pub step_where_agreed : (edition : Edition) (known : FactsWithOpenings) (book : List Entry) (key : Key) (command : Command) (outcome : Outcome)
    → AgreesWithOpenings known (facts_with_openings book key) command
    → DecidesUnder (ties_for edition known) known.facts command outcome → StepIn edition book key command outcome
step_where_agreed edition known book key command outcome agrees =
    same_decision_under (ties_for edition known) (ties_in edition book) known.facts (facts_of book key) command outcome agrees.facts
    (agreed_ties edition known book key (pairs_in command) agrees.facts.held agrees.opening)

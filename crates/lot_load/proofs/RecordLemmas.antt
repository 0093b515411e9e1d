-- What is known of a book, once an accepted command is recorded, is known of the book with its entry.
use Rattle.std.specs.Prelude.{◌≡◌, ◌≢◌, ◌⊎◌, ℕ, suc, Bool, true, false, cond, ◌&&◌, ◌||◌, List, [], ◌∷◌, ◌++◌, length, Option, None, Some, ℤ, pos, ◌+ℤ◌}
use Rattle.std.specs.FinMap as finite
use Rattle.std.specs.List.{AllByRecursion}
use Rattle.std.specs.Option.{option_or, unwrap_or}
use Rattle.std.specs.Ordering.{eq_by_cmp, int_eq}
use Rattle.std.proofs.Common.{refl, sym, ap, subst, ◌∙◌, inl, inr}
use Rattle.sqlite_keyed.proofs.ListLemmas.{all_weaker}
use Rattle.lot_base.specs.Text.{same_text}
use Rattle.lot_base.proofs.TextLemmas.{one_text}
use Rattle.lot_inv.specs.Inventory.{Held, Position as Place, added, non_zero, position_cmp as place_cmp, units_at}
use Rattle.lot_inv.specs.Zeros.{HasNoZeros}
use Rattle.lot_cost.specs.declared.lot_key.LotKey.{LotKey}
use Rattle.lot_cost.proofs.OrderLemmas.{is_equal}
use Rattle.lot_inv.proofs.LotLemmas.{get-with_units}
use Rattle.lot_inv.proofs.OrderLemmas.{exact_positions}
use Rattle.lot_command.specs.declared.command.Command.{Command}
use Rattle.lot_command.specs.declared.command.Command.TheVariants.{Opening, Closing, Declaring, Quoting, Transaction}
use Rattle.lot_command.specs.declared.key.Key.{Key}
use Rattle.lot_book.specs.Agree.{Agrees}
use Rattle.lot_book.specs.Book.{IsBook, entry_of}
use Rattle.lot_book.specs.Booking.{TieRule}
use Rattle.lot_book.specs.Change.{IsAcceptedUnder, day_listed}
use Rattle.lot_book.specs.Edition.{After, Edition, ties_in}
use Rattle.lot_book.specs.Facts.{Entry, Facts, declares, facts_of, legs_of}
use Rattle.lot_book.specs.Leg.{inventory_of, same_position, with_leg, with_legs}
use Rattle.lot_book.specs.Recorded.{facts_in, recorded, standing_after}
use Rattle.lot_book.specs.OpeningNumber.{opening_in, opening_with_leg, opening_with_legs, posting_number}
use Rattle.lot_book.specs.Openings.{AgreesWithOpenings, FactsWithOpenings, HaveSameOpenings, facts_with_openings, ties_for, with_listed}
use Rattle.lot_book.specs.Step.{Accept, JudgesUnder, first_conditions, first_of}
use Rattle.lot_book.specs.declared.change.Change.{Change}
use Rattle.lot_book.specs.declared.change.Pair.{Pair}
use Rattle.lot_book.specs.declared.leg.Leg.{Leg}
use Rattle.lot_book.specs.declared.leg.Position.{Position}
use Rattle.lot_book.specs.declared.standing.Standing.{Standing}
use Rattle.lot_book.proofs.CaseLemmas.{by_bool}
use Rattle.lot_book.proofs.HeldLemmas.{get-with_legs, get-with_rows, no_zeros-empty, no_zeros-legs}
use Rattle.lot_laws.proofs.LawBooks.{accepted}
use Rattle.lot_laws.proofs.RecordedBook.{closes_opened, declared-recorded, inventory_of-append, key_was_new, legs_of-append, standing-recorded}
use Rattle.lot_laws.proofs.RecordedDays.{latest-recorded}
use Rattle.lot_laws.proofs.SameOpenings.{same_after_legs}
use Rattle.lot_laws.proofs.StepAgree.{alike_all}
use Rattle.lot_laws.proofs.StepHeld.{same_with_leg, same_with_legs}
use Rattle.lot_laws.proofs.StepOpenings.{numbers_after, step_where_agreed}
use Rattle.lot_stored.proofs.BookedLemmas.{booked_as}
use Rattle.lot_stored.proofs.KnownLemmas.{IsSameAt, same_at_legs}
use Rattle.lot_stored.proofs.NumberLemmas.{legs_for, one_longer}
use Rattle.lot_view.specs.declared.touched.Touched.{Touched}
use Rattle.lot_load.specs.Known.{IsKept, IsPart, KnowsDeclared, KnowsOpenings, KnowsPair, KnowsPlain, KnowsStanding, KnowsTouched, said_by}

-- ---- one fact

-- A fact that is nothing or the book's is so after a step that makes of nothing nothing, or what it makes of the book's.
kept_by : {X : Type 0} (step : X → X) (nothing book fact : X) → (step nothing ≡ nothing) ⊎ (step nothing ≡ step book)
    → IsKept book nothing fact → IsKept (step book) nothing (step fact)
kept_by step nothing book fact (inl none) (inl is) = inl (ap step is ∙ none)
kept_by step nothing book fact (inr same) (inl is) = inr (ap step is ∙ same)
kept_by step nothing book fact known (inr is) = inr (ap step is)

standing_by_none : (account : List ℕ) (command : Command) (book : Option Standing)
    → (standing_after account command None ≡ None) ⊎ (standing_after account command None ≡ standing_after account command book)
standing_by_none account (Opening o) book = by_bool (same_text account o.account)
    (λ here. inr (rw here refl)) (λ apart. inl (rw apart refl))
standing_by_none account (Closing c) book = by_bool (same_text account c.account)
    (λ here. inl (rw here refl)) (λ apart. inl (rw apart refl))
standing_by_none account (Declaring d) book = inl refl
standing_by_none account (Quoting q) book = inl refl
standing_by_none account (Transaction t) book = inl refl

declared_by_none : (declares book : Bool) → ((declares || false) ≡ false) ⊎ ((declares || false) ≡ (declares || book))
declared_by_none true book = inr refl
declared_by_none false book = inl refl

latest_by_none : (listed book : Option ℤ) → (option_or listed None ≡ None) ⊎ (option_or listed None ≡ option_or listed book)
latest_by_none None book = inl refl
latest_by_none (Some day) book = inr refl

-- ---- what is held at one place

abbrev nothing : Held
nothing = finite.empty

module _ (a b : Facts) (account : List ℕ) (place : Place) where
  -- the facts say the same of the place
  abbrev IsSame : Type 0
  IsSame = finite.get (a.held account) place ≡ finite.get (b.held account) place

  -- legs leave the place alone
  abbrev AreApart : List Leg → Type 0
  AreApart legs = (held : Held) → finite.get (with_legs account held legs) place ≡ finite.get held place

  same_after : (legs : List Leg) → IsSame
      → finite.get (with_legs account (a.held account) legs) place ≡ finite.get (with_legs account (b.held account) legs) place
  same_after legs same =
      same_with_legs (λ (other : Place). other ≡ place) account (a.held account) (b.held account) legs
      (λ other is. ap (finite.get (a.held account)) is ∙ same ∙ ap (finite.get (b.held account)) (sym is)) place refl

  leg_apart : (leg : Leg) (legs : List Leg) → ((held : Held) → finite.get (with_leg account held leg) place ≡ finite.get held place)
      → IsSame ⊎ AreApart legs → IsSame ⊎ AreApart (leg ∷ legs)
  leg_apart leg legs here (inl same) = inl same
  leg_apart leg legs here (inr apart) = inr (λ held. apart (with_leg account held leg) ∙ here held)

  -- a place that legs don't leave alone is one of theirs
  same_or_apart : (legs : List Leg) → AllByRecursion (IsSameAt a b) legs → IsSame ⊎ AreApart legs
  same_or_apart [] same = inr (λ held. refl)
  same_or_apart (leg ∷ legs) same =
      let there : Place = (leg.position.commodity, leg.position.lot) in
      let rest = same_or_apart legs same.1 in
      by_bool (same_text account leg.position.account)
      (λ own. by_bool (eq_by_cmp place_cmp place there)
      (λ tie.
      let whose = one_text account leg.position.account own in
      let where_is : place ≡ there = exact_positions place there (is_equal (place_cmp place there) tie) in
      inl ((λ i. finite.get (a.held (whose i)) (where_is i)) ∙ same.0 ∙ (λ i. finite.get (b.held (sym whose i)) (sym where_is i))))
      (λ apart. leg_apart leg legs
      (λ held. ap (λ t. finite.get (cond t (added held there leg.units) held) place) own
      ∙ get-with_units held there (units_at held there +ℤ leg.units) place
      ∙ ap (λ t. cond t (non_zero (units_at held there +ℤ leg.units)) (finite.get held place)) apart) rest))
      (λ other. leg_apart leg legs (λ held. ap (λ t. finite.get (cond t (added held there leg.units) held) place) other) rest)

-- ---- the opening number of a lot

module _ (account commodity : List ℕ) (lot : LotKey) where
  abbrev at_lot : Place
  at_lot = (commodity, Some lot)

  -- it depends on what is held in the lot alone
  same_number : (a b : Held) (f g : LotKey → ℕ) (legs : List Leg) → finite.get a at_lot ≡ finite.get b at_lot → f lot ≡ g lot
      → opening_with_legs account commodity a f legs lot ≡ opening_with_legs account commodity b g legs lot
  same_number a b f g [] same number = number
  same_number a b f g (leg ∷ legs) same number =
      let position : Position = record { account = account; commodity = commodity; lot = Some lot } in
      let Is : Place → Type 0 = λ place. place ≡ at_lot in
      same_number (with_leg account a leg) (with_leg account b leg) (opening_with_leg account commodity a f leg)
      (opening_with_leg account commodity b g leg) legs
      (same_with_leg Is account a b leg
      (λ place is. ap (finite.get a) is ∙ same ∙ ap (finite.get b) (sym is)) at_lot refl)
      (λ i. cond (same_position position leg.position && int_eq (unwrap_or (same i) (pos 0)) (pos 0)) (posting_number leg) (number i))

-- ---- all facts

module _ (edition : Edition) (entries : List Entry) (key : Key) (command : Command) (change : Change) (known : FactsWithOpenings)
    (is_book : IsBook entries) (agrees : AgreesWithOpenings known (facts_with_openings entries key) command)
    (comes : IsAcceptedUnder (ties_for edition known) known.facts command change)
    (part : IsPart (facts_in entries) known.facts) where
  abbrev facts : Facts
  facts = known.facts

  abbrev ties : TieRule
  ties = ties_for edition known

  abbrev book : Facts
  book = facts_in entries

  abbrev grown : List Entry
  grown = entries ++ entry_of key command change.legs ∷ []

  abbrev now : Facts
  now = facts_in grown

  abbrev after : Facts
  after = recorded facts command change

  judges : JudgesUnder (ties_in edition entries) (facts_of entries key) command (Accept change.legs)
  judges =
      (accepted edition entries key command change.legs
      (step_where_agreed edition known entries key command (Accept change.legs) agrees comes.0)).1

  -- ---- how accounts stand, what is declared, and the latest days

  stands : (account : List ℕ) → standing_after account command (book.standing account) ≡ now.standing account
  stands = standing-recorded (ties_in edition entries) entries key command change.legs
      (closes_opened (After is_book.place) entries is_book.is) judges

  is_declared : (commodity : List ℕ) → (declares commodity command || book.is_declared commodity) ≡ now.is_declared commodity
  is_declared = declared-recorded entries (entry_of key command change.legs)

  latest : (account commodity : List ℕ)
      → option_or (day_listed change.heads account commodity) (book.latest_at_cost account commodity) ≡ now.latest_at_cost account commodity
  latest account commodity =
      latest-recorded (ties_in edition entries) entries key (entry_of key command change.legs) account commodity (day_listed change.heads account commodity) judges
      (comes.1.heads account commodity)

  -- ---- what is held

  no_zeros : (account : List ℕ) → HasNoZeros (facts.held account)
  no_zeros account place = by (part.held account place)
    where
      by : IsKept (finite.get (book.held account) place) (finite.get nothing place) (finite.get (facts.held account) place)
          → finite.get (facts.held account) place ≡ non_zero (units_at (facts.held account) place)
      by (inl none) = subst (λ (o : Option ℤ). o ≡ non_zero (unwrap_or o (pos 0))) (sym none) (no_zeros-empty place)
      by (inr same) = subst (λ (o : Option ℤ). o ≡ non_zero (unwrap_or o (pos 0))) (sym same)
          (no_zeros-legs account finite.empty (legs_of entries) no_zeros-empty place)

  -- all legs are of places that the facts know
  known_legs : AllByRecursion (IsSameAt facts (facts_of entries key)) change.legs
  known_legs = by command agrees.facts (key_was_new ties facts command change.legs facts.text comes.0).1
    where
      by : (c : Command) → Agrees facts (facts_of entries key) c → JudgesUnder ties facts c (Accept change.legs)
          → AllByRecursion (IsSameAt facts (facts_of entries key)) change.legs
      by (Opening o) agree judged = subst (AllByRecursion (IsSameAt facts (facts_of entries key))) (sym (legs_for ties facts (Opening o) change.legs judged)) tt
      by (Closing c) agree judged = subst (AllByRecursion (IsSameAt facts (facts_of entries key))) (sym (legs_for ties facts (Closing c) change.legs judged)) tt
      by (Declaring d) agree judged = subst (AllByRecursion (IsSameAt facts (facts_of entries key))) (sym (legs_for ties facts (Declaring d) change.legs judged)) tt
      by (Quoting q) agree judged = subst (AllByRecursion (IsSameAt facts (facts_of entries key))) (sym (legs_for ties facts (Quoting q) change.legs judged)) tt
      by (Transaction t) agree judged =
          same_at_legs ties facts (facts_of entries key) t change.legs
          (alike_all facts (facts_of entries key) t.postings agree.standing agree.latest_at_cost agree.held agree.plain_units)
          (booked_as ties facts t (first_of (first_conditions facts t)) change.legs judged)

  held_after : (account : List ℕ) (place : Place)
      → finite.get (after.held account) place ≡ finite.get (with_legs account (facts.held account) change.legs) place
  held_after account place =
      get-with_rows account (facts.held account) change.positions.entries place
      ∙ sym (get-with_legs facts change.legs change.positions.entries account (no_zeros account) comes.1.positions place)

  held_now : (account : List ℕ) (place : Place)
      → finite.get (with_legs account (book.held account) change.legs) place ≡ finite.get (now.held account) place
  held_now account place = ap (λ (h : Held). finite.get h place) (sym (inventory_of-append entries (entry_of key command change.legs) account))

  same_held : (account : List ℕ) (place : Place) → finite.get (facts.held account) place ≡ finite.get (book.held account) place
      → finite.get (after.held account) place ≡ finite.get (now.held account) place
  same_held account place same =
      held_after account place ∙ same_after facts book account place change.legs same ∙ held_now account place

  kept_held : (account : List ℕ) (place : Place)
      → IsKept (finite.get (book.held account) place) (finite.get nothing place) (finite.get (facts.held account) place)
      → IsKept (finite.get (now.held account) place) (finite.get nothing place) (finite.get (after.held account) place)
  kept_held account place (inr same) = inr (same_held account place same)
  kept_held account place (inl none) = by (same_or_apart facts (facts_of entries key) account place change.legs known_legs)
    where
      by : IsSame facts (facts_of entries key) account place ⊎ AreApart facts (facts_of entries key) account place change.legs
          → IsKept (finite.get (now.held account) place) (finite.get nothing place) (finite.get (after.held account) place)
      by (inl same) = inr (same_held account place same)
      by (inr apart) = inl (held_after account place ∙ apart (facts.held account) ∙ none)

  -- ---- opening numbers

  -- the number of a lot that the facts know, once those that the change lists are put in
  number_now : (account commodity : List ℕ) (lot : LotKey) → KnowsOpenings (said_by entries) known
      → finite.get (facts.held account) (commodity, Some lot) ≡ finite.get (book.held account) (commodity, Some lot)
      → units_at (after.held account) (commodity, Some lot) ≢ pos 0
      → with_listed change.openings known.opening account commodity lot ≡ opening_in (legs_of grown) account commodity lot
  number_now account commodity lot numbers same some =
      let place : Place = (commodity, Some lot) in
      let here = facts.held account in
      let there = book.held account in
      let mine = known.opening account commodity in
      let theirs = opening_in (legs_of entries) account commodity in
      let left : (held : Held) → finite.get held place ≡ finite.get (after.held account) place → units_at held place ≢ pos 0 =
      λ held is zero. some (ap (λ (o : Option ℤ). unwrap_or o (pos 0)) (sym is) ∙ zero) in
      sym (comes.1.openings account commodity lot mine)
      ∙ same_after_legs account commodity here here mine theirs change.legs (λ at is. refl) (numbers account commodity) lot
      (left (with_legs account here change.legs) (sym (held_after account place)))
      ∙ same_number account commodity lot here there theirs theirs change.legs same refl
      ∙ numbers_after (facts_with_openings entries key) entries key change.legs account commodity refl (λ a c l held. refl) lot
      (left (inventory_of (legs_of entries ++ change.legs) account)
      (ap (λ (legs : List Leg). finite.get (inventory_of legs account) place) (sym (legs_of-append entries (entry_of key command change.legs)))
      ∙ sym (same_held account place same)))
      ∙ ap (λ (legs : List Leg). opening_in legs account commodity lot) (sym (legs_of-append entries (entry_of key command change.legs)))

  -- a lot that the facts don't know is held by none of theirs after the legs
  kept_number : (account commodity : List ℕ) (lot : LotKey) → KnowsOpenings (said_by entries) known
      → IsKept (finite.get (book.held account) (commodity, Some lot)) (finite.get nothing (commodity, Some lot))
      (finite.get (facts.held account) (commodity, Some lot))
      → units_at (after.held account) (commodity, Some lot) ≢ pos 0
      → with_listed change.openings known.opening account commodity lot ≡ opening_in (legs_of grown) account commodity lot
  kept_number account commodity lot numbers (inr same) some = number_now account commodity lot numbers same some
  kept_number account commodity lot numbers (inl none) some =
      by (same_or_apart facts (facts_of entries key) account (commodity, Some lot) change.legs known_legs)
    where
      by : IsSame facts (facts_of entries key) account (commodity, Some lot)
          ⊎ AreApart facts (facts_of entries key) account (commodity, Some lot) change.legs
          → with_listed change.openings known.opening account commodity lot ≡ opening_in (legs_of grown) account commodity lot
      by (inl same) = number_now account commodity lot numbers same some
      by (inr apart) =
          absurd (some (ap (λ (o : Option ℤ). unwrap_or o (pos 0))
          (held_after account (commodity, Some lot) ∙ apart (facts.held account) ∙ none
          ∙ finite.get-empty place_cmp (commodity, Some lot))))

  -- whatever numbers agree with these on the lots that are held then are the book's
  pub recorded_openings : (later : FactsWithOpenings) → later.facts ≡ after → KnowsOpenings (said_by entries) known
      → ((account commodity : List ℕ) → HaveSameOpenings commodity (later.facts.held account)
      (with_listed change.openings known.opening account commodity) (later.opening account commodity))
      → KnowsOpenings (said_by grown) later
  recorded_openings later is numbers listed account commodity lot some =
      sym (listed account commodity lot some)
      ∙ kept_number account commodity lot numbers (part.held account (commodity, Some lot))
      (subst (λ (f : Facts). units_at (f.held account) (commodity, Some lot) ≢ pos 0) is some)

  -- ---- all of it

  pub recorded_count : facts.entries ≡ length entries → after.entries ≡ length grown
  recorded_count is = ap suc is ∙ sym (one_longer entries (entry_of key command change.legs))

  pub recorded_part : IsPart now after
  recorded_part = record {
    standing = λ account.
        subst (λ (s : Option Standing). IsKept s None (after.standing account)) (stands account)
        (kept_by (standing_after account command) None (book.standing account) (facts.standing account)
        (standing_by_none account command (book.standing account)) (part.standing account));
    is_declared = λ commodity.
        subst (λ b. IsKept b false (after.is_declared commodity)) (is_declared commodity)
        (kept_by (λ b. declares commodity command || b) false (book.is_declared commodity) (facts.is_declared commodity)
        (declared_by_none (declares commodity command) (book.is_declared commodity)) (part.is_declared commodity));
    latest_at_cost = λ account commodity.
        subst (λ (day : Option ℤ). IsKept day None (after.latest_at_cost account commodity)) (latest account commodity)
        (kept_by (option_or (day_listed change.heads account commodity)) None (book.latest_at_cost account commodity)
        (facts.latest_at_cost account commodity)
        (latest_by_none (day_listed change.heads account commodity) (book.latest_at_cost account commodity))
        (part.latest_at_cost account commodity));
    held = λ account place. kept_held account place (part.held account place);
  }

  same_standing : (account : List ℕ) → KnowsStanding account book facts → KnowsStanding account now after
  same_standing account knows = ap (standing_after account command) knows ∙ stands account

  same_declared : (commodity : List ℕ) → KnowsDeclared commodity book facts → KnowsDeclared commodity now after
  same_declared commodity knows = ap (λ b. declares commodity command || b) knows ∙ is_declared commodity

  same_pair : (pair : Pair) → KnowsPair pair book facts → KnowsPair pair now after
  same_pair pair knows = (
    ap (option_or (day_listed change.heads pair.account pair.commodity)) knows.0 ∙ latest pair.account pair.commodity,
    (λ lot. same_held pair.account (pair.commodity, lot) (knows.1 lot)),
  )

  same_plain : (account : List ℕ) → KnowsPlain account book facts → KnowsPlain account now after
  same_plain account knows commodity = same_held account (commodity, None) (knows commodity)

  -- what was known whole is still known whole
  pub recorded_whole : (whole : Touched) → KnowsTouched whole book facts → KnowsTouched whole now after
  recorded_whole whole knows = (
    all_weaker (λ (account : List ℕ). KnowsStanding account book facts) (λ (account : List ℕ). KnowsStanding account now after)
        same_standing whole.accounts.keys knows.0,
    all_weaker (λ (commodity : List ℕ). KnowsDeclared commodity book facts) (λ (commodity : List ℕ). KnowsDeclared commodity now after)
        same_declared whole.declared.keys knows.1,
    all_weaker (λ (pair : Pair). KnowsPair pair book facts) (λ (pair : Pair). KnowsPair pair now after)
        same_pair whole.pairs.keys knows.2,
    all_weaker (λ (account : List ℕ). KnowsPlain account book facts) (λ (account : List ℕ). KnowsPlain account now after)
        same_plain whole.plain.keys knows.3,
  )

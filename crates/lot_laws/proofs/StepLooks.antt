-- What a command comes to depends on what it looks at alone. What judges commands cites these lemmas.
use Rattle.std.specs.Prelude.{◌≡◌, ℕ, suc, ◌+◌, Bool, false, cond, not, nat_le, nat_lt, ◌++◌, List, [], ◌∷◌, length, Option, None, Some, is_none, is_some, ℤ}
use Rattle.std.specs.List.{AllByRecursion, position_or_len}
use Rattle.std.specs.Option.{option_map}
use Rattle.std.proofs.Common.{refl, sym, ap, subst, ◌∙◌}
use Rattle.lot_cost.specs.declared.lot_key.LotKey.{LotKey}
use Rattle.lot_command.specs.declared.command.Command.{Command}
use Rattle.lot_command.specs.declared.command.Command.TheVariants.{Opening, Closing, Declaring, Quoting, Transaction}
use Rattle.lot_command.specs.declared.transaction.Amount.{Amount}
use Rattle.lot_command.specs.declared.transaction.Posting.{Posting}
use Rattle.lot_command.specs.declared.transaction.Transaction.{Transaction as TransactionOf}
use Rattle.lot_book.specs.declared.leg.Leg.{Leg}
use Rattle.lot_book.specs.declared.refusal.Refusal.{Refusal}
use Rattle.lot_book.specs.declared.refusal.Refusal.TheVariants.{AlreadyDeclared, AlreadyOpen, BackDated, BookFull, Closed, CurrencyNotAllowed, FillNotAllowed, NotOpenYet, Range, TooManyLots, UnknownAccount}
use Rattle.lot_book.specs.declared.standing.Standing.{Standing}
use Rattle.lot_book.specs.declared.change.Pair.{Pair}
use Rattle.lot_book.specs.Agree.{Agrees, HaveSameOf, HaveSamePlain}
use Rattle.lot_book.specs.Touched.{accounts_in, declared_in, pairs_in, pairs_of, plain_in}
use Rattle.lot_book.specs.Balance.{elided_postings, fill_from, fill_of, left_over, residuals, weights_in}
use Rattle.lot_book.specs.Booking.{All, Booked, Bookings, Stopped, TieRule, all_by_key, legs_in}
use Rattle.lot_book.specs.Facts.{Facts}
use Rattle.lot_book.specs.Leg.{with_legs}
use Rattle.lot_book.specs.Openings.{AgreesWithOpenings, DecidesByOpening, FactsWithOpenings, ties_on}
use Rattle.lot_book.specs.Refusals.{bars, bars_amount, book_full, closed_before, dates_back, fill_not_allowed, fill_out_of_range, first_currency, holds_as, holds_too_many, inexact_fill, is_before, most_entries, most_lots, not_balanced, opens_after, place_of, too_many_lots, too_many_postings, two_elided, was_closed}
use Rattle.lot_book.specs.Step.{DecidesByUnder, DecidesUnder, JudgesTransactionUnder, JudgesUnder, Outcome, accept_unless, all_legs, concluded, fill_legs, first_conditions, first_of, last_conditions}
use Rattle.lot_laws.proofs.StepAgree.{Alike, AlikeElided, AlikeIn, TiesAlike, all_of, alike_all, alike_elided, same_books, ties_themselves}
use Rattle.lot_laws.proofs.SameOpenings.{ties_alike}
use Rattle.lot_laws.proofs.StepHeld.{IsOf, IsPlain, same_lots_of, same_of, same_plain, same_range, same_with_legs}

-- ---- first places

same_len : {X : Type 0} (p q : X → Bool) (xs : List X) → AllByRecursion (λ x. p x ≡ q x) xs
    → position_or_len p xs ≡ position_or_len q xs
same_len p q [] same = refl
same_len p q (x ∷ xs) same = λ i. cond (not (same.0 i)) (1 + same_len p q xs same.1 i) 0

same_place : {X : Type 0} (p q : X → Bool) (xs : List X) → AllByRecursion (λ x. p x ≡ q x) xs → place_of p xs ≡ place_of q xs
same_place p q xs same =
    ap (λ n. option_map suc (cond (nat_lt n (length xs)) (Some n) None)) (same_len p q xs same)

-- what follows for each item
each : {X : Type 0} (P Q : X → Type 0) → ((x : X) → P x → Q x) → (xs : List X) → AllByRecursion P xs → AllByRecursion Q xs
each P Q on [] all = tt
each P Q on (x ∷ xs) all = (on x all.0, each P Q on xs all.1)

module _ (a b : Facts) (entries : a.entries ≡ b.entries) where
  -- ---- the conditions of a transaction

  -- the first posting that fails a test of its account's standing
  by_standing : (test : Option Standing → Posting → Bool) (postings : List Posting) → AllByRecursion (Alike a b) postings
      → place_of (λ (p : Posting). test (a.standing p.account) p) postings
      ≡ place_of (λ (p : Posting). test (b.standing p.account) p) postings
  by_standing test postings alike =
      same_place (λ (p : Posting). test (a.standing p.account) p) (λ (p : Posting). test (b.standing p.account) p) postings
      (each (Alike a b) (λ (p : Posting). test (a.standing p.account) p ≡ test (b.standing p.account) p)
      (λ p h. ap (λ s. test s p) h.0) postings alike)

  dates_alike : (day : ℤ) (account : List ℕ) (amount : Option Amount) → AlikeIn a b account amount
      → dates_back a day account amount ≡ dates_back b day account amount
  dates_alike day account None alike = refl
  dates_alike day account (Some amount) alike = ap (λ latest. cond (is_some amount.cost) (is_before day latest) false) alike.0

  same_first : (t : TransactionOf) → AllByRecursion (Alike a b) t.postings
      → first_of (first_conditions a t) ≡ first_of (first_conditions b t)
  same_first t alike =
      let unknown = by_standing (λ s p. is_none s) t.postings alike in
      let early = by_standing (λ s p. opens_after t.day s) t.postings alike in
      let late = by_standing (λ s p. closed_before t.day s) t.postings alike in
      let barred = by_standing (λ s p. bars_amount s p.amount) t.postings alike in
      let back = same_place (λ (p : Posting). dates_back a t.day p.account p.amount)
      (λ (p : Posting). dates_back b t.day p.account p.amount) t.postings
      (each (Alike a b) (λ (p : Posting). dates_back a t.day p.account p.amount ≡ dates_back b t.day p.account p.amount)
      (λ p h. dates_alike t.day p.account p.amount h.1) t.postings alike) in
      λ i. first_of (
      option_map (λ place. UnknownAccount (Some place)) (unknown i)
      ∷ option_map (λ place. NotOpenYet (Some place)) (early i)
      ∷ option_map (λ place. Closed (Some place)) (late i)
      ∷ option_map CurrencyNotAllowed (barred i)
      ∷ too_many_postings t.postings
      ∷ two_elided (elided_postings 1 t.postings)
      ∷ option_map BackDated (back i)
      ∷ [])

  allowed_alike : (elided : List (ℕ × List ℕ)) (rs : List (List ℕ × ℤ)) → AllByRecursion (AlikeElided a b) elided
      → fill_not_allowed a elided rs ≡ fill_not_allowed b elided rs
  allowed_alike [] rs alike = refl
  allowed_alike (e ∷ more) rs alike =
      ap (λ (standing : Option Standing). option_map FillNotAllowed
      (first_currency (λ (r : List ℕ × ℤ). bars standing r.0) (left_over rs))) alike.0.0

  -- all legs of a fill are plain
  fill_is_plain : (entry posting : ℕ) (account : List ℕ) (place : ℕ) (rs : List (List ℕ × ℤ))
      → AllByRecursion (λ (leg : Leg). leg.position.lot ≡ None) (fill_from entry posting account place rs)
  fill_is_plain entry posting account place [] = tt
  fill_is_plain entry posting account place (r ∷ rs) = (refl, fill_is_plain entry posting account (suc place) rs)

  fill_alike : (entry : ℕ) (elided : List (ℕ × List ℕ)) (rs : List (List ℕ × ℤ)) (before : List Leg)
      → AllByRecursion (AlikeElided a b) elided
      → fill_out_of_range a elided before (fill_of entry elided rs) ≡ fill_out_of_range b elided before (fill_of entry elided rs)
  fill_alike entry [] rs before alike = refl
  fill_alike entry (e ∷ more) rs before alike =
      let x = a.held e.1 in
      let y = b.held e.1 in
      ap (λ leaves. holds_as leaves (Range e.0))
      (same_range IsPlain (with_legs e.1 x before) (with_legs e.1 y before) (fill_of entry (e ∷ more) rs)
      (same_with_legs IsPlain e.1 x y before (same_plain x y alike.0.1)) (fill_is_plain entry e.0 e.1 0 (left_over rs)))

  lots_alike : (legs : List Leg) (account : List ℕ) (amount : Option Amount) → AlikeIn a b account amount
      → holds_too_many (with_legs account (a.held account) legs) amount
      ≡ holds_too_many (with_legs account (b.held account) legs) amount
  lots_alike legs account None alike = refl
  lots_alike legs account (Some amount) alike =
      let x = a.held account in
      let y = b.held account in
      let commodity = amount.commodity in
      ap (λ (lots : List (LotKey × ℤ)). cond (is_some amount.cost) (nat_lt most_lots (length lots)) false)
      (same_lots_of commodity (with_legs account x legs) (with_legs account y legs)
      (same_with_legs (IsOf commodity) account x y legs (same_of commodity x y alike.1)))

  too_many_alike : (legs : List Leg) (postings : List Posting) → AllByRecursion (Alike a b) postings
      → too_many_lots a legs postings ≡ too_many_lots b legs postings
  too_many_alike legs postings alike =
      let Before = λ (p : Posting). holds_too_many (with_legs p.account (a.held p.account) legs) p.amount in
      let After = λ (p : Posting). holds_too_many (with_legs p.account (b.held p.account) legs) p.amount in
      ap (option_map TooManyLots) (same_place Before After postings
      (each (Alike a b) (λ (p : Posting). Before p ≡ After p) (λ p h. lots_alike legs p.account p.amount h.1) postings alike))

  full_alike : book_full a ≡ book_full b
  full_alike = ap (λ n. holds_as (nat_le most_entries n) BookFull) entries

  same_fill : (t : TransactionOf) (booked : List Booked) → fill_legs a t booked ≡ fill_legs b t booked
  same_fill t booked = ap (λ n. fill_of (suc n) (elided_postings 1 t.postings) (residuals (weights_in booked))) entries

  same_last : (t : TransactionOf) (booked : List Booked) → AllByRecursion (Alike a b) t.postings
      → first_of (last_conditions a t booked) ≡ first_of (last_conditions b t booked)
  same_last t booked alike =
      let elided = elided_postings 1 t.postings in
      let rs = residuals (weights_in booked) in
      let all = alike_elided a b 1 t.postings alike in
      let allowed = allowed_alike elided rs all in
      let range = fill_alike (suc a.entries) elided rs (legs_in booked) all
      ∙ ap (fill_out_of_range b elided (legs_in booked)) (same_fill t booked) in
      let lots = too_many_alike (all_legs a t booked) t.postings alike
      ∙ ap (λ legs. too_many_lots b (legs_in booked ++ legs) t.postings) (same_fill t booked) in
      λ i. first_of (inexact_fill elided rs ∷ allowed i ∷ range i ∷ not_balanced elided rs ∷ lots i ∷ full_alike i ∷ [])

  same_conclusion : (t : TransactionOf) (bookings : Bookings) → AllByRecursion (Alike a b) t.postings
      → concluded a t bookings ≡ concluded b t bookings
  same_conclusion t (Stopped refused) alike = refl
  same_conclusion t (All booked) alike =
      λ i. accept_unless (same_last t booked alike i) (legs_in booked ++ same_fill t booked i)

  same_judgement : (r s : TieRule) (t : TransactionOf) (first : Option Refusal) (outcome : Outcome) → AllByRecursion (Alike a b) t.postings
      → AllByRecursion (TiesAlike r s a) (pairs_of t.postings)
      → JudgesTransactionUnder r a t first outcome → JudgesTransactionUnder s b t first outcome
  same_judgement r s t (Some refused) outcome alike ties h = h
  same_judgement r s t None outcome alike ties h = (
    h.0,
    same_books r s a b entries t.day [] 1 t.postings h.0 alike ties h.1,
    h.2 ∙ same_conclusion t h.0 alike,
  )

-- ---- all commands

module _ (r s : TieRule) (a b : Facts) where
  same_judging : (command : Command) (outcome : Outcome) → Agrees a b command → AllByRecursion (TiesAlike r s a) (pairs_in command)
      → JudgesUnder r a command outcome → JudgesUnder s b command outcome
  same_judging (Opening o) outcome agrees ties h =
      h ∙ (λ i. accept_unless
      (first_of (holds_as (is_some (agrees.standing.0 i)) AlreadyOpen ∷ full_alike a b agrees.entries i ∷ [])) [])
  same_judging (Closing c) outcome agrees ties h =
      h ∙ (λ i. accept_unless (first_of (
      holds_as (is_none (agrees.standing.0 i)) (UnknownAccount None)
      ∷ holds_as (opens_after c.day (agrees.standing.0 i)) (NotOpenYet None)
      ∷ holds_as (was_closed (agrees.standing.0 i)) (Closed None)
      ∷ full_alike a b agrees.entries i ∷ [])) [])
  same_judging (Declaring d) outcome agrees ties h =
      h ∙ (λ i. accept_unless
      (first_of (holds_as (agrees.is_declared.0 i) AlreadyDeclared ∷ full_alike a b agrees.entries i ∷ [])) [])
  same_judging (Quoting q) outcome agrees ties h =
      h ∙ (λ i. accept_unless (first_of (full_alike a b agrees.entries i ∷ [])) [])
  same_judging (Transaction t) outcome agrees ties h =
      let alike = alike_all a b t.postings agrees.standing agrees.latest_at_cost agrees.held agrees.plain_units in
      same_judgement a b agrees.entries r s t (first_of (first_conditions b t)) outcome alike ties
      (subst (λ first. JudgesTransactionUnder r a t first outcome) (same_first a b agrees.entries t alike) h)

  same_by_text : (text : Option (List ℕ)) (command : Command) (outcome : Outcome) → Agrees a b command
      → AllByRecursion (TiesAlike r s a) (pairs_in command)
      → DecidesByUnder r text a command outcome → DecidesByUnder s text b command outcome
  same_by_text None command outcome agrees ties h = same_judging command outcome agrees ties h
  same_by_text (Some text) command outcome agrees ties h = h

  pub same_decision_under : (command : Command) (outcome : Outcome) → Agrees a b command
      → AllByRecursion (TiesAlike r s a) (pairs_in command)
      → DecidesUnder r a command outcome → DecidesUnder s b command outcome
  same_decision_under command outcome agrees ties h =
      same_by_text b.text command outcome agrees ties (subst (λ text. DecidesByUnder r text a command outcome) agrees.text h)

-- the same where all ties are decided by key
pub same_decision_by_key : (a b : Facts) (command : Command) (outcome : Outcome) → Agrees a b command
    → DecidesUnder all_by_key a command outcome → DecidesUnder all_by_key b command outcome
same_decision_by_key a b command outcome agrees =
    same_decision_under all_by_key all_by_key a b command outcome agrees (ties_themselves all_by_key a (pairs_in command))

-- the same where they are decided by opening
pub same_decision : (a b : FactsWithOpenings) (command : Command) (outcome : Outcome) → AgreesWithOpenings a b command
    → DecidesByOpening a command outcome → DecidesByOpening b command outcome
same_decision a b command outcome agrees =
    same_decision_under (ties_on a) (ties_on b) a.facts b.facts command outcome agrees.facts
    (ties_alike a b (pairs_in command) agrees.facts.held agrees.opening)

-- ---- facts agree with themselves, and agreeing goes both ways

pub agrees_itself : (a : Facts) (command : Command) → Agrees a a command
agrees_itself a command = record {
  entries = refl;
  text = refl;
  standing = all_of (λ (account : List ℕ). a.standing account ≡ a.standing account) (λ account. refl) (accounts_in command);
  is_declared = all_of (λ (commodity : List ℕ). a.is_declared commodity ≡ a.is_declared commodity) (λ commodity. refl) (declared_in command);
  latest_at_cost = all_of (λ (p : Pair). a.latest_at_cost p.account p.commodity ≡ a.latest_at_cost p.account p.commodity)
      (λ p. refl) (pairs_in command);
  held = all_of (λ (p : Pair). HaveSameOf p.commodity (a.held p.account) (a.held p.account)) (λ p lot. refl) (pairs_in command);
  plain_units = all_of (λ (account : List ℕ). HaveSamePlain (a.held account) (a.held account)) (λ account commodity. refl)
      (plain_in command);
}

turned : {X Y : Type 0} (f g : X → Y) (xs : List X) → AllByRecursion (λ x. f x ≡ g x) xs → AllByRecursion (λ x. g x ≡ f x) xs
turned f g xs same = each (λ x. f x ≡ g x) (λ x. g x ≡ f x) (λ x e. sym e) xs same

pub agrees_turned : (a b : Facts) (command : Command) → Agrees a b command → Agrees b a command
agrees_turned a b command agrees = record {
  entries = sym agrees.entries;
  text = sym agrees.text;
  standing = turned a.standing b.standing (accounts_in command) agrees.standing;
  is_declared = turned a.is_declared b.is_declared (declared_in command) agrees.is_declared;
  latest_at_cost = turned (λ (p : Pair). a.latest_at_cost p.account p.commodity)
      (λ (p : Pair). b.latest_at_cost p.account p.commodity)
      (pairs_in command) agrees.latest_at_cost;
  held = each (λ (p : Pair). HaveSameOf p.commodity (a.held p.account) (b.held p.account))
      (λ (p : Pair). HaveSameOf p.commodity (b.held p.account) (a.held p.account))
      (λ p same lot. sym (same lot)) (pairs_in command) agrees.held;
  plain_units = each (λ (account : List ℕ). HaveSamePlain (a.held account) (b.held account))
      (λ (account : List ℕ). HaveSamePlain (b.held account) (a.held account))
      (λ account same commodity. sym (same commodity)) (plain_in command) agrees.plain_units;
}

-- A completion is one by form: its crumbs are in currencies in which products may weigh.
use Rattle.std.proofs.Common.{◌≡◌, ◌≤◌, ◌∙◌, ℕ, suc, Bool, true, false, cond, List, [], ◌∷◌, Option, None, Some, ℤ, refl, sym, ap, subst, arith}
use Rattle.std.specs.Prelude.{filter, nat_eq, nat_le, unsigned_abs, ◌&&◌, ◌||◌}
use Rattle.std.specs.List.{AllByRecursion, AllZip, list_all, list_any}
use Rattle.std.proofs.lemmas.Bool.{and_parts}
use Rattle.std.proofs.lemmas.Bool.Decides.{nat_tests}
use Rattle.std.proofs.lemmas.Int.{ints}
use Rattle.std.proofs.lemmas.List.Elements.{filter_passes, recursion_from_All}
use Rattle.std.proofs.lemmas.List.Folds.{list_any-append}
use Rattle.lot_num.specs.Amount.{one}
use Rattle.lot_base.specs.Text.{same_text}
use Rattle.lot_base.proofs.TextLemmas.{one_text, same_text-itself, same_text-turned}
use Rattle.lot_cost.specs.CostSpec.{agrees, fits}
use Rattle.lot_cost.specs.declared.cost.Cost.{Cost}
use Rattle.lot_cost.specs.declared.cost.Cost.TheVariants.{Each, Whole}
use Rattle.lot_cost.specs.declared.lot_key.LotKey.{LotKey}
use Rattle.lot_command.specs.declared.transaction.Amount.{Amount}
use Rattle.lot_command.specs.declared.transaction.Posting.{Posting}
use Rattle.lot_command.specs.declared.transaction.Transaction.{Transaction as TransactionOf}
use Rattle.lot_inv.specs.Inventory.{lots_of, matching, other_sign}
use Rattle.lot_booking.specs.Booking.{Braced, ComesTo, Legs, candidates, spec_of}
use Rattle.lot_booking.specs.Choice.{Choice, chosen_legs, with_sign_of}
use Rattle.lot_booking.proofs.ListLemmas.{all_filtered, all_permuted}
use Rattle.lot_book.specs.declared.leg.Leg.{Leg}
use Rattle.lot_book.specs.Balance.{residuals, weights_in}
use Rattle.lot_book.specs.Booking.{All, Booked, BooksAllUnder, HasLegs, Line, TieRule, braced, legs_in, line_under}
use Rattle.lot_book.specs.Facts.{Facts}
use Rattle.lot_book.specs.Leg.{legs_at_lots}
use Rattle.lot_book.proofs.CaseLemmas.{by_bool}
use Rattle.lot_laws.proofs.LawBooks.{over_booked}
use Rattle.lot_completion.specs.Completion.{IsCompletion, IsCrumbOf, fill_decimals, has_products_in, is_cost_in, weighs_at_price}
use Rattle.lot_completion.specs.Form.{IsByForm, may_be_taken, may_cost_in, may_have_products_in, may_name, may_weigh_in, most_of_crumb}
use Rattle.lot_completion.specs.Rates.{left_of, postings_of}
use Rattle.lot_completion.specs.Turn.{AreWithinBound}
use Rattle.lot_completion.proofs.TakenUpLemmas.{apart_crumbs, apart_residuals}
use Rattle.lot_rounding.specs.Asked.{IsAtSomeDecimals}
use Rattle.lot_rounding.specs.Rounding.{IsBound, IsWithin}
use Rattle.lot_rounding.specs.declared.asked.RowCash.{RowCash}

or_true : (b : Bool) → (b || true) ≡ true
or_true true = refl
or_true false = refl

-- what is left of two where the first isn't
or_rest : (a b : Bool) → a ≡ false → (a || b) ≡ true → b ≡ true
or_rest a b not_first some = sym (ap (λ x. x || b) not_first) ∙ some

-- ---- the lots of a posting are in a currency that its cost may name

abbrev MayHave : Cost → LotKey → Type 0
MayHave cost key = may_cost_in key.currency (Some cost) ≡ true

abbrev MayHaveLot : Cost → LotKey × ℤ → Type 0
MayHaveLot cost lot = MayHave cost lot.0

names : (units : ℤ) (cost : Cost) (currency : List ℕ) → may_name currency (spec_of units cost).currency ≡ may_cost_in currency (Some cost)
names units (Each spec) currency = refl
names units (Whole whole) currency = refl

may_given : (given : Option (List ℕ)) (currency : List ℕ) → given ≡ Some currency → may_name currency given ≡ true
may_given given currency is = ap (may_name currency) is ∙ same_text-itself currency

may_agree : (given : Option (List ℕ)) (currency : List ℕ) → agrees same_text given currency ≡ true → may_name currency given ≡ true
may_agree None currency is = refl
may_agree (Some named) currency is = same_text-turned named currency true is

chosen_all : (P : LotKey → Type 0) (units : ℤ) (choice : Choice) (lots : List (LotKey × ℤ)) → AllByRecursion (λ (lot : LotKey × ℤ). P lot.0) lots
    → AllByRecursion (λ (lot : LotKey × ℤ). P lot.0) (chosen_legs units choice lots)
chosen_all P units choice [] all = tt
chosen_all P units choice (lot ∷ lots) all =
    let legs = chosen_legs units choice lots in
    let rest = chosen_all P units choice lots all.1 in
    let part = with_sign_of units (choice lot.0) in
    by_bool (nat_eq (choice lot.0) 0)
    (λ e. subst (λ b. AllByRecursion (λ (l : LotKey × ℤ). P l.0) (cond b legs ((lot.0, part) ∷ legs))) (sym e) rest)
    (λ e. subst (λ b. AllByRecursion (λ (l : LotKey × ℤ). P l.0) (cond b legs ((lot.0, part) ∷ legs))) (sym e) (all.0, rest))

each : {X : Type 0} (P Q : X → Type 0) → ((x : X) → P x → Q x) → (xs : List X) → AllByRecursion P xs → AllByRecursion Q xs
each P Q by [] all = tt
each P Q by (x ∷ xs) all = (by x all.0, each P Q by xs all.1)

-- the second of four parts of a test
second_true : (a b c d : Bool) → (((a && b) && c) && d) ≡ true → b ≡ true
second_true a b c d all = (and_parts a b (and_parts (a && b) c (and_parts ((a && b) && c) d all).0).0).1

fits_may : (units : ℤ) (cost : Cost) (key : LotKey) → fits (spec_of units cost) key ≡ true → MayHave cost key
fits_may units cost key is =
    sym (names units cost key.currency) ∙ may_agree (spec_of units cost).currency key.currency (second_true _ _ _ _ is)

candidates_may : (posting : Braced) → AllByRecursion (MayHaveLot posting.cost) (candidates posting)
candidates_may posting =
    let spec = spec_of posting.units posting.cost in
    let fit = λ (lot : LotKey × ℤ). fits spec lot.0 in
    let lots = lots_of posting.held posting.commodity in
    all_filtered (MayHaveLot posting.cost) (λ (lot : LotKey × ℤ). other_sign lot.1 posting.units) (matching posting.held posting.commodity spec)
    (each (λ (lot : LotKey × ℤ). fit lot ≡ true) (MayHaveLot posting.cost) (λ lot is. fits_may posting.units posting.cost lot.0 is) (filter fit lots)
    (recursion_from_All (λ (lot : LotKey × ℤ). fit lot ≡ true) (filter fit lots) (filter_passes fit lots)))

lots_may : (posting : Braced) (reduces : Bool) (lots : List (LotKey × ℤ)) → ComesTo posting (Legs reduces lots) → AllByRecursion (MayHaveLot posting.cost) lots
lots_may posting false lots comes =
    let may : may_cost_in comes.1.currency (Some posting.cost) ≡ true =
    sym (names posting.units posting.cost comes.1.currency)
    ∙ may_given (spec_of posting.units posting.cost).currency comes.1.currency comes.1.given_currency in
    subst (AllByRecursion (MayHaveLot posting.cost)) (sym comes.1.leg) (may, tt)
lots_may posting true lots comes =
    let takes = comes.1 in
    subst (AllByRecursion (MayHaveLot posting.cost)) (sym takes.chosen)
    (chosen_all (MayHave posting.cost) posting.units takes.choice takes.listed
    (all_permuted (MayHaveLot posting.cost) (candidates posting) takes.listed takes.same (candidates_may posting)))

-- ---- the legs at cost

abbrev costs_in : List ℕ → Leg → Bool
costs_in currency leg = is_cost_in currency leg.position.lot

module _ (currency : List ℕ) where
  any_at_lots : (entry posting : ℕ) (account commodity : List ℕ) (place : ℕ) (cost : Cost) (lots : List (LotKey × ℤ))
      → AllByRecursion (MayHaveLot cost) lots → list_any (costs_in currency) (legs_at_lots entry posting account commodity place lots) ≡ true
      → may_cost_in currency (Some cost) ≡ true
  any_at_lots entry posting account commodity place cost [] all any = absurd cc
  any_at_lots entry posting account commodity place cost (lot ∷ lots) all any =
      by_bool (same_text currency lot.0.currency)
      (λ e. ap (λ name. may_cost_in name (Some cost)) (one_text currency lot.0.currency e) ∙ all.0)
      (λ e. any_at_lots entry posting account commodity (suc place) cost lots all.1 (or_rest _ _ e any))

  legs_may : (line : Line) (cost : Option Cost) (reduces : Bool) (legs : List Leg) → HasLegs line cost reduces legs
      → list_any (costs_in currency) legs ≡ true → may_cost_in currency cost ≡ true
  legs_may line None reduces legs has any = sym (ap (list_any (costs_in currency)) has.1) ∙ any
  legs_may line (Some cost) reduces legs (lots, comes, are) any =
      any_at_lots line.entry line.place line.account line.amount.commodity 0 cost lots (lots_may (braced line cost) reduces lots comes)
      (sym (ap (list_any (costs_in currency)) are) ∙ any)

  abbrev may_weigh : Posting → Bool
  may_weigh p = may_weigh_in currency p.amount

  -- a leg at cost weighs in the currency only where its posting may
  costs_may : (ties : TieRule) (facts : Facts) (day : ℤ) (postings : List Posting) (booked : List Booked)
      → BooksAllUnder ties facts day [] 1 postings (All booked)
      → list_any (costs_in currency) (legs_in booked) ≡ true → may_have_products_in postings currency ≡ true
  costs_may ties facts day postings booked books =
      over_booked ties facts day (λ before ps bs. list_any (costs_in currency) (legs_in bs) ≡ true → may_have_products_in ps currency ≡ true)
      (λ before any. any) (λ before account ps bs rest any. rest any)
      (λ before place account amount ps first more is rest any.
      let split : (list_any (costs_in currency) first.legs || list_any (costs_in currency) (legs_in more)) ≡ true =
      sym (list_any-append (costs_in currency) first.legs (legs_in more)) ∙ any in
      by_bool (list_any (costs_in currency) first.legs)
      (λ e.
      let line = line_under ties facts day before place account amount in
      let here = legs_may line amount.cost first.reduces first.legs is.legs e in
      ap (λ b. (b || weighs_at_price currency (Some amount)) || may_have_products_in ps currency) here)
      (λ e.
      ap (λ b. may_weigh_in currency (Some amount) || b) (rest (or_rest _ _ e split)) ∙ or_true (may_weigh_in currency (Some amount))))
      1 postings [] booked books

  -- ---- the postings at a price

  price_may : (amount : Option Amount) → weighs_at_price currency amount ≡ true → may_weigh_in currency amount ≡ true
  price_may None weighs = weighs
  price_may (Some amount) weighs =
      ap (λ b. may_cost_in currency amount.cost || b) weighs ∙ or_true (may_cost_in currency amount.cost)

  prices_may : (postings : List Posting) → list_any (λ (p : Posting). weighs_at_price currency p.amount) postings ≡ true
      → may_have_products_in postings currency ≡ true
  prices_may [] any = any
  prices_may (p ∷ ps) any =
      by_bool (weighs_at_price currency p.amount)
      (λ e. ap (λ b. b || may_have_products_in ps currency) (price_may p.amount e))
      (λ e. ap (λ b. may_weigh_in currency p.amount || b) (prices_may ps (or_rest _ _ e any)) ∙ or_true (may_weigh_in currency p.amount))

  -- where a product weighs, one may weigh
  products_may : (ties : TieRule) (facts : Facts) (day : ℤ) (postings : List Posting) (booked : List Booked)
      → BooksAllUnder ties facts day [] 1 postings (All booked)
      → has_products_in postings (legs_in booked) currency ≡ true → may_have_products_in postings currency ≡ true
  products_may ties facts day postings booked books has =
      by_bool (list_any (costs_in currency) (legs_in booked))
      (λ e. costs_may ties facts day postings booked books e)
      (λ e. prices_may postings (or_rest _ _ e has))

-- ---- crumbs

bound_few : (bound : ℤ) → IsBound bound → unsigned_abs bound ≤ one
bound_few bound is = omega (arith, ints, is.least, is.most)

few_of_bound : (bound crumb : ℤ) → IsBound bound → IsWithin bound crumb → nat_le (unsigned_abs crumb) most_of_crumb ≡ true
few_of_bound bound crumb is within =
    let small = bound_few bound is in
    let few : unsigned_abs crumb ≤ most_of_crumb = omega (arith, small, within) in grind (arith, nat_tests)

both_true : (a b : Bool) → a ≡ true → b ≡ true → (a && b) ≡ true
both_true a b first second = ap (λ x. x && b) first ∙ second

zip_taken : (postings : List Posting) (bound : ℤ) (fill : Option ℕ) (left rs cs : List (List ℕ × ℤ)) → IsBound bound → AllZip (IsCrumbOf fill left) rs cs
    → AllByRecursion (λ (r : List ℕ × ℤ). may_have_products_in postings r.0 ≡ true) rs → AreWithinBound bound cs
    → list_all (may_be_taken postings) cs ≡ true
zip_taken postings bound fill left [] [] is are may within = refl
zip_taken postings bound fill left [] (c ∷ cs) is are may within = absurd are
zip_taken postings bound fill left (r ∷ rs) [] is are may within = absurd are
zip_taken postings bound fill left (r ∷ rs) (c ∷ cs) is are may within =
    both_true _ _
    (both_true _ _ (few_of_bound bound c.1 is within.0) (ap (may_have_products_in postings) are.0.currency ∙ may.0))
    (zip_taken postings bound fill left rs cs is are.1 may.1 within.1)

module _ (ties : TieRule) (facts : Facts) (account : List ℕ) (decimals : ℕ) (cash : Option RowCash) (t written : TransactionOf)
    (crumbs : List (List ℕ × ℤ)) (completed : TransactionOf) (is : IsCompletion ties facts account decimals written crumbs completed) where
  abbrev products : List ℕ × ℤ → Bool
  products r = has_products_in (postings_of is.rated) (legs_in is.booked) r.0

  abbrev all_residuals : List (List ℕ × ℤ)
  all_residuals = residuals (weights_in is.booked)

  may_all : AllByRecursion (λ (r : List ℕ × ℤ). may_have_products_in (postings_of is.rated) r.0 ≡ true) (filter products all_residuals)
  may_all =
      each (λ (r : List ℕ × ℤ). products r ≡ true) (λ (r : List ℕ × ℤ). may_have_products_in (postings_of is.rated) r.0 ≡ true)
      (λ r has. products_may r.0 ties facts written.day (postings_of is.rated) is.booked is.books has) (filter products all_residuals)
      (recursion_from_All (λ (r : List ℕ × ℤ). products r ≡ true) (filter products all_residuals) (filter_passes products all_residuals))

  pub completion_by_form : IsAtSomeDecimals cash t written → (bound : ℤ) → IsBound bound → AreWithinBound bound crumbs → IsByForm cash t completed
  completion_by_form at bound is_bound within = record {
    written = written;
    at = at;
    rated = is.rated;
    rates = is.rates;
    account = account;
    crumbs = crumbs;
    apart = apart_crumbs (fill_decimals decimals written.postings) (left_of is.rated) (filter products all_residuals) crumbs is.are
        (apart_residuals products (weights_in is.booked));
    taken = zip_taken (postings_of is.rated) bound (fill_decimals decimals written.postings) (left_of is.rated) (filter products all_residuals) crumbs
        is_bound is.are may_all within;
    is = is.is;
  }

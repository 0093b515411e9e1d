-- A completion balances in each currency that has a crumb.
use Rattle.std.proofs.Common.{◌≡◌, ◌∙◌, ℕ, suc, Bool, true, false, cond, List, [], ◌∷◌, ◌++◌, append_assoc, Option, None, Some, ℤ, pos, ◌+ℤ◌, refl, sym, ap, subst, arith}
use Rattle.std.specs.Prelude.{flat_map, map}
use Rattle.std.specs.List.{AllByRecursion}
use Rattle.std.proofs.lemmas.Grind.{flat_map-append}
use Rattle.std.proofs.lemmas.Int.{ints}
use Rattle.lot_num.specs.Sum.{sum_of}
use Rattle.lot_base.specs.Text.{same_text}
use Rattle.lot_command.specs.declared.price.Price.{Price as PriceOf}
use Rattle.lot_command.specs.declared.transaction.Amount.{Amount}
use Rattle.lot_command.specs.declared.transaction.Posting.{Posting}
use Rattle.lot_book.specs.declared.leg.Leg.{Leg}
use Rattle.lot_book.specs.Balance.{weights_by, weights_in, weights_of}
use Rattle.lot_book.specs.Booking.{All, Booked, Booking, Bookings, Books, BooksAllUnder, BooksTo, BooksWithUnder, Continue, Fails, Stopped, TieRule, follow, line_under}
use Rattle.lot_book.specs.Currencies.{sum_in}
use Rattle.lot_book.specs.Facts.{Facts}
use Rattle.lot_book.proofs.CaseLemmas.{by_bool}
use Rattle.lot_book.proofs.SumLemmas.{sum_in-append, sum_in_apart, sum_in_here}
use Rattle.lot_completion.specs.Crumbs.{crumb_postings, is_nothing, part_posting, posting_in, price_in, rest_of, speck_of, weight_at, weights_at, whole_of}
use Rattle.lot_laws.proofs.StepLemmas.{books_one}
use Rattle.lot_completion.proofs.CrumbLemmas.{made_up}

-- ---- the postings of a transaction, and those behind

-- what is booked of postings, and of those behind them
pub record Splits (ties : TieRule) (facts : Facts) (day : ℤ) (before : List Leg) (place : ℕ) (xs ys : List Posting) (booked : List Booked) : Type 0 where
  pub first : List Booked
  pub rest : List Booked
  pub legs : List Leg
  pub at : ℕ
  pub all : booked ≡ first ++ rest
  pub books : BooksAllUnder ties facts day before place xs (All first)
  pub behind : BooksAllUnder ties facts day legs at ys (All rest)

more_booked : (b : Booked) (booked : List Booked) (others : Bookings) → All booked ≡ follow b others
    → (more : List Booked) × (others ≡ All more) × (booked ≡ b ∷ more)
more_booked b booked (All more) follows = (more, refl, cc)
more_booked b booked (Stopped refusal) follows = absurd cc

-- one posting more, where those behind it are split
module _ (ties : TieRule) (facts : Facts) (day : ℤ) (place : ℕ) (ps ys : List Posting)
    (others_split : (before : List Leg) (booked : List Booked) → BooksAllUnder ties facts day before (suc place) (ps ++ ys) (All booked)
    → Splits ties facts day before (suc place) ps ys booked) where
  split_booked : (before : List Leg) (account : List ℕ) (amount : Amount) (booked : List Booked) (booking : Booking)
      → BooksTo (line_under ties facts day before place account amount) booking
      → Continue (λ legs others. BooksAllUnder ties facts day legs (suc place) (ps ++ ys) others) before (All booked) booking
      → Splits ties facts day before place (record { account = account; amount = Some amount } ∷ ps) ys booked
  split_booked before account amount booked (Fails refusal) to follows = absurd cc
  split_booked before account amount booked (Books b) to (others, rest, follows) =
      let found = more_booked b booked others follows in
      let here = others_split (before ++ b.legs) found.0
      (subst (λ (o : Bookings). BooksAllUnder ties facts day (before ++ b.legs) (suc place) (ps ++ ys) o) found.1 rest) in
      record {
        first = b ∷ here.first;
        rest = here.rest;
        legs = here.legs;
        at = here.at;
        all = found.2 ∙ ap (λ (bs : List Booked). b ∷ bs) here.all;
        books = (Books b, to, (All here.first, here.books, refl));
        behind = here.behind;
      }

  split_next : (before : List Leg) (account : List ℕ) (amount : Option Amount) (booked : List Booked)
      → BooksWithUnder ties (λ legs others. BooksAllUnder ties facts day legs (suc place) (ps ++ ys) others) facts day before place account amount (All booked)
      → Splits ties facts day before place (record { account = account; amount = amount } ∷ ps) ys booked
  split_next before account None booked h =
      let here = others_split before booked h in
      record { first = here.first; rest = here.rest; legs = here.legs; at = here.at; all = here.all; books = here.books; behind = here.behind }
  split_next before account (Some amount) booked (booking, to, follows) = split_booked before account amount booked booking to follows

pub split_books : (ties : TieRule) (facts : Facts) (day : ℤ) (before : List Leg) (place : ℕ) (xs ys : List Posting) (booked : List Booked)
    → BooksAllUnder ties facts day before place (xs ++ ys) (All booked) → Splits ties facts day before place xs ys booked
split_books ties facts day before place [] ys booked h =
    record { first = []; rest = booked; legs = before; at = place; all = refl; books = refl; behind = h }
split_books ties facts day before place (p ∷ ps) ys booked h =
    split_next ties facts day place ps ys (λ legs bs k. split_books ties facts day legs (suc place) ps ys bs k) before p.account p.amount booked h

-- ---- postings without braces weigh by their prices, whatever the book says

abbrev pub IsPlain : Posting → Type 0
IsPlain posting = (amount : Amount) × (posting.amount ≡ Some amount) × (amount.cost ≡ None)

plain_weight : (booked : Booked) (amount : Amount) → booked.amount ≡ amount → amount.cost ≡ None → weights_of booked ≡ weight_at (Some amount)
plain_weight booked amount is plain =
    ap (λ (a : Amount). weights_by a.cost a booked.legs) is ∙ ap (λ cost. weights_by cost amount booked.legs) plain

module _ (ties : TieRule) (facts : Facts) (day : ℤ) (at : ℕ) (ps : List Posting)
    (others_weigh : (legs : List Leg) (booked : List Booked) → BooksAllUnder ties facts day legs (suc at) ps (All booked)
    → weights_in booked ≡ weights_at ps) where
  plain_next : (legs : List Leg) (account : List ℕ) (amount : Amount) (booked : List Booked) → amount.cost ≡ None
      → (booking : Booking) → BooksTo (line_under ties facts day legs at account amount) booking
      → Continue (λ before others. BooksAllUnder ties facts day before (suc at) ps others) legs (All booked) booking
      → weights_in booked ≡ weight_at (Some amount) ++ weights_at ps
  plain_next legs account amount booked cost (Fails refusal) to follows = absurd cc
  plain_next legs account amount booked cost (Books b) to (others, rest, follows) =
      let found = more_booked b booked others follows in
      ap weights_in found.2 ∙ ap (λ ws. ws ++ weights_in found.0) (plain_weight b amount to.amount cost)
      ∙ ap (λ ws. weight_at (Some amount) ++ ws)
      (others_weigh (legs ++ b.legs) found.0 (subst (λ (o : Bookings). BooksAllUnder ties facts day (legs ++ b.legs) (suc at) ps o) found.1 rest))

pub plain_weights : (ties : TieRule) (facts : Facts) (day : ℤ) (legs : List Leg) (at : ℕ) (ys : List Posting) (booked : List Booked)
    → AllByRecursion IsPlain ys → BooksAllUnder ties facts day legs at ys (All booked) → weights_in booked ≡ weights_at ys
plain_weights ties facts day legs at [] booked plain h = let none : booked ≡ [] = cc in ap weights_in none
plain_weights ties facts day legs at (p ∷ ps) booked ((amount, is, cost), plain) h =
    let with_amount : BooksWithUnder ties (λ before others. BooksAllUnder ties facts day before (suc at) ps others)
    facts day legs at p.account (Some amount) (All booked) =
    subst (λ (a : Option Amount). BooksWithUnder ties (λ before others. BooksAllUnder ties facts day before (suc at) ps others)
    facts day legs at p.account a (All booked)) is h in
    plain_next ties facts day at ps (λ before bs k. plain_weights ties facts day before (suc at) ps bs plain k) legs p.account amount booked cost
    with_amount.0 with_amount.1 with_amount.2
    ∙ ap (λ (a : Option Amount). weight_at a ++ weights_at ps) (sym is)

-- so are those that make up for crumbs
posting_plain : (account currency : List ℕ) (units : ℤ) (price : Option PriceOf) → IsPlain (posting_in account currency units price)
posting_plain account currency units price = (record { units = units; commodity = currency; cost = None; price = price }, refl, refl)

cond_plain : (b : Bool) (p : Posting) (more : List Posting) → IsPlain p → AllByRecursion IsPlain more
    → AllByRecursion IsPlain (cond b [] (p ∷ []) ++ more)
cond_plain true p more plain all = all
cond_plain false p more plain all = (plain, all)

part_plain : (account currency : List ℕ) (units : ℤ) (rate : Option ℕ) (more : List Posting) → AllByRecursion IsPlain more
    → AllByRecursion IsPlain (part_posting account currency units rate ++ more)
part_plain account currency units rate more all =
    cond_plain (is_nothing units rate) (posting_in account currency units (price_in currency rate)) more
    (posting_plain account currency units (price_in currency rate)) all

crumb_plain : (account : List ℕ) (crumb : List ℕ × ℤ) (more : List Posting) → AllByRecursion IsPlain more
    → AllByRecursion IsPlain (crumb_postings account crumb ++ more)
crumb_plain account crumb more all =
    let whole = part_posting account crumb.0 (whole_of crumb.1) None in
    let rest = part_posting account crumb.0 (speck_of crumb.1) (Some (rest_of crumb.1)) in
    subst (AllByRecursion IsPlain) (sym (append_assoc whole rest more))
    (part_plain account crumb.0 (whole_of crumb.1) None (rest ++ more)
    (part_plain account crumb.0 (speck_of crumb.1) (Some (rest_of crumb.1)) more all))

pub crumbs_plain : (account : List ℕ) (crumbs : List (List ℕ × ℤ)) → AllByRecursion IsPlain (flat_map (crumb_postings account) crumbs)
crumbs_plain account [] = tt
crumbs_plain account (c ∷ cs) =
    crumb_plain account c (flat_map (crumb_postings account) cs) (crumbs_plain account cs)

-- ---- what they weigh in a currency

-- amounts in one currency
sum_of_one : (currency name : List ℕ) (ws : List (List ℕ × ℤ)) → AllByRecursion (λ (w : List ℕ × ℤ). w.0 ≡ currency) ws
    → sum_in ws name ≡ cond (same_text name currency) (sum_of (map (λ (w : List ℕ × ℤ). w.1) ws)) (pos 0)
sum_of_one currency name [] all = by_bool (same_text name currency) (λ e. sym (ap (λ b. cond b (pos 0) (pos 0)) e)) (λ e. sym (ap (λ b. cond b (pos 0) (pos 0)) e))
sum_of_one currency name (w ∷ ws) (is, all) =
    let rest = sum_of (map (λ (x : List ℕ × ℤ). x.1) ws) in
    by_bool (same_text name currency)
    (λ e.
    let here : same_text name w.0 ≡ true = ap (same_text name) is ∙ e in
    sum_in_here w ws name here ∙ ap (λ z. w.1 +ℤ z) (sum_of_one currency name ws all ∙ ap (λ b. cond b rest (pos 0)) e)
    ∙ sym (ap (λ b. cond b (w.1 +ℤ rest) (pos 0)) e))
    (λ e.
    let apart : same_text name w.0 ≡ false = ap (same_text name) is ∙ e in
    sum_in_apart w ws name apart ∙ sum_of_one currency name ws all ∙ ap (λ b. cond b rest (pos 0)) e
    ∙ sym (ap (λ b. cond b (w.1 +ℤ rest) (pos 0)) e))

crumb_weighs : (account : List ℕ) (c : List ℕ × ℤ) (cs : List (List ℕ × ℤ)) (name : List ℕ)
    → sum_in (weights_at (crumb_postings account c)) name +ℤ sum_in cs name ≡ sum_in (c ∷ cs) name
crumb_weighs account c cs name =
    let up = made_up account c.0 c.1 in
    let sum = sum_of_one c.0 name (weights_at (crumb_postings account c)) up.currency in
    by_bool (same_text name c.0)
    (λ e. ap (λ z. z +ℤ sum_in cs name) (sum ∙ ap (λ b. cond b (sum_of (map (λ (x : List ℕ × ℤ). x.1) (weights_at (crumb_postings account c)))) (pos 0)) e ∙ up.weight)
    ∙ sym (sum_in_here c cs name e))
    (λ e. ap (λ z. z +ℤ sum_in cs name) (sum ∙ ap (λ b. cond b (sum_of (map (λ (x : List ℕ × ℤ). x.1) (weights_at (crumb_postings account c)))) (pos 0)) e)
    ∙ omega (arith, ints) ∙ sym (sum_in_apart c cs name e))

pub crumbs_weigh : (account : List ℕ) (crumbs : List (List ℕ × ℤ)) (name : List ℕ)
    → sum_in (weights_at (flat_map (crumb_postings account) crumbs)) name ≡ sum_in crumbs name
crumbs_weigh account [] name = refl
crumbs_weigh account (c ∷ cs) name =
    let more = flat_map (crumb_postings account) cs in
    ap (λ ws. sum_in ws name) (flat_map-append (λ (p : Posting). weight_at p.amount) (crumb_postings account c) more)
    ∙ sum_in-append (weights_at (crumb_postings account c)) (weights_at more) name
    ∙ ap (λ z. sum_in (weights_at (crumb_postings account c)) name +ℤ z) (crumbs_weigh account cs name)
    ∙ crumb_weighs account c cs name

-- the crumbs are added to what the postings leave
pub adds_crumbs : (ties : TieRule) (facts : Facts) (day : ℤ) (xs : List Posting) (account : List ℕ) (crumbs : List (List ℕ × ℤ))
    (first booked : List Booked) (name : List ℕ) → BooksAllUnder ties facts day [] 1 xs (All first)
    → BooksAllUnder ties facts day [] 1 (xs ++ flat_map (crumb_postings account) crumbs) (All booked)
    → sum_in (weights_in booked) name ≡ sum_in (weights_in first) name +ℤ sum_in crumbs name
adds_crumbs ties facts day xs account crumbs first booked name books all =
    let split = split_books ties facts day [] 1 xs (flat_map (crumb_postings account) crumbs) booked all in
    let both : All split.first ≡ All first = books_one ties facts day [] 1 xs (All split.first) (All first) split.books books in
    let same : split.first ≡ first = cc in
    ap (λ (bs : List Booked). sum_in (weights_in bs) name) split.all
    ∙ ap (λ ws. sum_in ws name) (flat_map-append weights_of split.first split.rest)
    ∙ sum_in-append (weights_in split.first) (weights_in split.rest) name
    ∙ ap (λ (bs : List Booked). sum_in (weights_in bs) name +ℤ sum_in (weights_in split.rest) name) same
    ∙ ap (λ ws. sum_in (weights_in first) name +ℤ sum_in ws name)
    (plain_weights ties facts day split.legs split.at (flat_map (crumb_postings account) crumbs) split.rest (crumbs_plain account crumbs) split.behind)
    ∙ ap (λ z. sum_in (weights_in first) name +ℤ z) (crumbs_weigh account crumbs name)

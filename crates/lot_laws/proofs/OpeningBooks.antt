-- The opening numbers of a book: each posting opens at most one lot.
use Rattle.std.specs.Prelude.{◌≡◌, ◌≢◌, ◌⊎◌, ℕ, suc, ◌+◌, ◌-◌, ◌*◌, ◌≤◌, ◌<◌, nat_lt, ◌&&◌, Bool, true, false, cond, List, [], ◌∷◌, ◌++◌, length, Option, None, Some, is_some, ℤ, pos}
use Rattle.std.specs.Cmp.{eq_by_cmp_equiv}
use Rattle.std.specs.FinMap.{empty}
use Rattle.std.specs.List.{AllByRecursion, Contains}
use Rattle.std.specs.Option.{unwrap_or}
use Rattle.std.specs.Map.{keys_of}
use Rattle.std.specs.Ordering.{eq_by_cmp, int_eq}
use Rattle.std.proofs.Common.{refl, sym, ap, subst, ◌∙◌, arith, inl, inr, append_assoc}
use Rattle.std.proofs.lemmas.Bool.{ltb-false, true≢false}
use Rattle.std.proofs.lemmas.Grind.{flat_map-append}
use Rattle.std.proofs.lemmas.List.{append-nil, length-append}
use Rattle.std.proofs.lemmas.Map.Keys.{IsDistinct-head, IsDistinct-tail}
use Rattle.lot_cost.specs.LotKey.{lot_cmp}
use Rattle.lot_cost.specs.declared.cost.Cost.{Cost}
use Rattle.lot_cost.specs.declared.lot_key.LotKey.{LotKey}
use Rattle.lot_cost.proofs.ListLemmas.{all_weaker}
use Rattle.lot_cost.proofs.OrderLemmas.{lots_total}
use Rattle.lot_inv.specs.Inventory.{Held, other_sign, units_at}
use Rattle.lot_inv.proofs.LawLemmas.{sorted_matching}
use Rattle.lot_booking.specs.Booking.{ComesTo, Legs, TakesFrom, candidates, opened_key, spec_of}
use Rattle.lot_booking.specs.Choice.{HaveDistinctKeys}
use Rattle.lot_booking.proofs.BookingLaws.{taken_distinct, taken_from}
use Rattle.lot_command.specs.declared.command.Command.{Command}
use Rattle.lot_command.specs.declared.command.Command.TheVariants.{Opening, Closing, Declaring, Quoting, Transaction}
use Rattle.lot_command.specs.declared.key.Key.{Key}
use Rattle.lot_command.specs.declared.transaction.Amount.{Amount}
use Rattle.lot_command.specs.declared.transaction.Posting.{Posting}
use Rattle.lot_command.specs.declared.transaction.Transaction.{Transaction as TransactionOf}
use Rattle.lot_book.specs.declared.leg.Leg.{Leg}
use Rattle.lot_book.specs.declared.leg.Position.{Position}
use Rattle.lot_book.specs.declared.refusal.Refusal.{Refusal}
use Rattle.lot_book.specs.declared.refusal.Refusal.TheVariants.{TooManyPostings}
use Rattle.lot_book.specs.Balance.{elided_postings, fill_from, fill_of, left_over, opposite, residuals, weights_in}
use Rattle.lot_book.specs.Book.{ContinuesIn, IsBookIn}
use Rattle.lot_book.specs.Booking.{All, Booked, BooksAllUnder, HasLegs, Line, TieRule, braced, legs_in, line_under}
use Rattle.lot_book.specs.Edition.{Edition, Migration, edition_on, ties_in}
use Rattle.lot_book.specs.Facts.{Entry, facts_of, legs_of}
use Rattle.lot_book.specs.Leg.{inventory_of, leg_at, legs_at_lots, same_position, sum_at}
use Rattle.lot_book.specs.Refusals.{back_dated, closed, currency_not_allowed, holds_as, most_postings, not_open_yet, too_many_postings, two_elided, unknown_account}
use Rattle.lot_book.specs.Step.{Accept, StepIn, fill_legs, first_conditions, first_of}
use Rattle.lot_book.proofs.LegLemmas.{with_legs-append}
use Rattle.lot_laws.specs.Laws.{BooksCommand, lot_at}
use Rattle.lot_book.specs.OpeningNumber.{HasOpeningNumber, IsLastToOpen, Opens, opening_in, posting_number}
use Rattle.lot_laws.proofs.LawBalance.{command_booked}
use Rattle.lot_laws.proofs.LawBooks.{accepted, over_placed}
use Rattle.lot_laws.proofs.LawHoldings.{holds_sum}
use Rattle.lot_laws.proofs.LawNone.{first_none, others_none}
use Rattle.lot_booking.proofs.SameTies.{candidate_held, sign_none}
use Rattle.lot_laws.proofs.LawOneSign.{takes_held}
use Rattle.lot_laws.proofs.LawSigns.{TakesHeld}
use Rattle.lot_laws.proofs.OpeningLemmas.{apart_from, is_zero, not_zero, number_is, sum_at-push_apart, where_held}
use Rattle.lot_laws.proofs.RecordedDays.{none_refused}

-- ---- Numbers that ascend from one to below another, each beside a lot.

abbrev Ascend : ℕ → List (ℕ × Position) → ℕ → Type 0
Ascend low [] high = low ≤ high
Ascend low (x ∷ xs) high = (low ≤ x.0) × Ascend (suc x.0) xs high

ascend_within : (low : ℕ) (xs : List (ℕ × Position)) (high : ℕ) → Ascend low xs high → low ≤ high
ascend_within low [] high h = h
ascend_within low (x ∷ xs) high h = omega (arith, h.0, ascend_within (suc x.0) xs high h.1)

ascend_from_lower : (lower low : ℕ) (xs : List (ℕ × Position)) (high : ℕ) → lower ≤ low → Ascend low xs high → Ascend lower xs high
ascend_from_lower lower low [] high less h = omega (arith, less, h)
ascend_from_lower lower low (x ∷ xs) high less h = (omega (arith, less, h.0), h.1)

ascend_to_higher : (low : ℕ) (xs : List (ℕ × Position)) (high higher : ℕ) → high ≤ higher → Ascend low xs high → Ascend low xs higher
ascend_to_higher low [] high higher less h = omega (arith, less, h)
ascend_to_higher low (x ∷ xs) high higher less h = (h.0, ascend_to_higher (suc x.0) xs high higher less h.1)

ascend-append : (low mid high : ℕ) (xs ys : List (ℕ × Position)) → Ascend low xs mid → Ascend mid ys high → Ascend low (xs ++ ys) high
ascend-append low mid high [] ys h more = ascend_from_lower low mid ys high h more
ascend-append low mid high (x ∷ xs) ys h more = (h.0, ascend-append (suc x.0) mid high xs ys h.1 more)

abbrev Among : ℕ × Position → List (ℕ × Position) → Type 0
Among x [] = ⊥
Among x (y ∷ ys) = (y ≡ x) ⊎ Among x ys

among-append : (x : ℕ × Position) (xs ys : List (ℕ × Position)) → Among x ys → Among x (xs ++ ys)
among-append x [] ys h = h
among-append x (y ∷ xs) ys h = inr (among-append x xs ys h)

among_within : (low : ℕ) (xs : List (ℕ × Position)) (high : ℕ) (x : ℕ × Position) → Ascend low xs high → Among x xs
    → (low ≤ x.0) × (x.0 < high)
among_within low [] high x h among = absurd among
among_within low (y ∷ ys) high x h among = elim among [
  | inl same ↦
      let one : y.0 ≡ x.0 = ap (λ (z : ℕ × Position). z.0) same in
      let more = ascend_within (suc y.0) ys high h.1 in
      (omega (arith, h.0, one), omega (arith, more, one))
  | inr later ↦
      let within = among_within (suc y.0) ys high x h.1 later in
      (omega (arith, h.0, within.0), within.1)
]

-- each number stands beside one lot
one_beside : (low : ℕ) (xs : List (ℕ × Position)) (high number : ℕ) (p q : Position) → Ascend low xs high
    → Among (number, p) xs → Among (number, q) xs → p ≡ q
one_beside low [] high number p q h is other = absurd is
one_beside low (x ∷ xs) high number p q h is other = elim is [
  | inl here ↦ elim other [
    | inl too ↦ ap (λ (z : ℕ × Position). z.1) (sym here ∙ too)
    | inr later ↦
        let same : x.0 ≡ number = ap (λ (z : ℕ × Position). z.0) here in
        let above = (among_within (suc x.0) xs high (number, q) h.1 later).0 in
        absurd (omega (arith, same, above))
  ]
  | inr later ↦ elim other [
    | inl here ↦
        let same : x.0 ≡ number = ap (λ (z : ℕ × Position). z.0) here in
        let above = (among_within (suc x.0) xs high (number, p) h.1 later).0 in
        absurd (omega (arith, same, above))
    | inr too ↦ one_beside (suc x.0) xs high number p q h.1 later too
  ]
]

-- what stands first has the smaller number
ascend_apart : (low : ℕ) (xs ys : List (ℕ × Position)) (high : ℕ) (x y : ℕ × Position) → Ascend low (xs ++ ys) high
    → Among x xs → Among y ys → x.0 < y.0
ascend_apart low [] ys high x y h first second = absurd first
ascend_apart low (z ∷ xs) ys high x y h first second = elim first [
  | inl same ↦
      let one : z.0 ≡ x.0 = ap (λ (w : ℕ × Position). w.0) same in
      let above = (among_within (suc z.0) (xs ++ ys) high y h.1 (among-append y xs ys second)).0 in
      omega (arith, one, above)
  | inr later ↦ ascend_apart (suc z.0) xs ys high x y h.1 later second
]

-- ---- The legs that open lots: the number of the posting of each, beside its lot.

abbrev opens_lot : List Leg → Leg → Bool
opens_lot before leg = is_some leg.position.lot && int_eq (sum_at before leg.position) (pos 0)

abbrev with_first : Bool → Leg → List (ℕ × Position) → List (ℕ × Position)
with_first opens leg rest = cond opens ((posting_number leg, leg.position) ∷ rest) rest

abbrev opened : List Leg → List Leg → List (ℕ × Position)
opened before [] = []
opened before (leg ∷ legs) = with_first (opens_lot before leg) leg (opened (before ++ leg ∷ []) legs)

first_then : (b : Bool) (leg : Leg) (xs ys : List (ℕ × Position)) → with_first b leg (xs ++ ys) ≡ with_first b leg xs ++ ys
first_then true leg xs ys = refl
first_then false leg xs ys = refl

opened-append : (before legs more : List Leg) → opened before (legs ++ more) ≡ opened before legs ++ opened (before ++ legs) more
opened-append before [] more = ap (λ (b : List Leg). opened b more) (sym (append-nil before))
opened-append before (leg ∷ legs) more =
    let b = opens_lot before leg in
    ap (with_first b leg) (opened-append (before ++ leg ∷ []) legs more)
    ∙ ap (λ (all : List Leg). with_first b leg (opened (before ++ leg ∷ []) legs ++ opened all more)) (append_assoc before (leg ∷ []) legs)
    ∙ first_then b leg (opened (before ++ leg ∷ []) legs) (opened (before ++ leg ∷ legs) more)

-- a leg that opens a lot is one of them
opener_first : (before : List Leg) (leg : Leg) (behind : List Leg) (account commodity : List ℕ) (lot : LotKey)
    → Opens (lot_at account commodity lot) before leg
    → Among (posting_number leg, lot_at account commodity lot) (opened before (leg ∷ behind))
opener_first before leg behind account commodity lot opens =
    let p = lot_at account commodity lot in
    let rest = opened (before ++ leg ∷ []) behind in
    let does : opens_lot before leg ≡ true =
    ap (λ (q : Position). is_some q.lot && int_eq (sum_at before q) (pos 0)) opens.there ∙ is_zero (sum_at before p) opens.none_before in
    subst (λ b. Among (posting_number leg, p) (with_first b leg rest)) (sym does)
    (inl (ap (λ (q : Position). (posting_number leg, q)) opens.there))

opener_among : (before : List Leg) (leg : Leg) (behind : List Leg) (account commodity : List ℕ) (lot : LotKey)
    → Opens (lot_at account commodity lot) before leg
    → Among (posting_number leg, lot_at account commodity lot) (opened [] (before ++ leg ∷ behind))
opener_among before leg behind account commodity lot opens =
    let p = lot_at account commodity lot in
    subst (Among (posting_number leg, p)) (sym (opened-append [] before (leg ∷ behind)))
    (among-append (posting_number leg, p) (opened [] before) (opened before (leg ∷ behind))
    (opener_first before leg behind account commodity lot opens))

number_among : (legs : List Leg) (account commodity : List ℕ) (lot : LotKey) (number : ℕ)
    → HasOpeningNumber legs (lot_at account commodity lot) number → Among (number, lot_at account commodity lot) (opened [] legs)
number_among legs account commodity lot number h =
    let p = lot_at account commodity lot in
    subst (λ n. Among (n, p) (opened [] legs)) (sym h.of_posting)
    (subst (λ (ls : List Leg). Among (posting_number h.leg, p) (opened [] ls)) (sym h.last.split)
    (opener_among h.last.before h.leg h.last.behind account commodity lot h.last.opens))

-- ---- Plain legs open no lot.

fill_opens_none : (before : List Leg) (entry posting : ℕ) (account : List ℕ) (place : ℕ) (rs : List (List ℕ × ℤ))
    → opened before (fill_from entry posting account place rs) ≡ []
fill_opens_none before entry posting account place [] = refl
fill_opens_none before entry posting account place (r ∷ rs) =
    fill_opens_none (before ++ leg_at entry posting place account r.0 None (opposite r.1) ∷ []) entry posting account (suc place) rs

filled_opens_none : (before : List Leg) (entry : ℕ) (elided : List (ℕ × List ℕ)) (rs : List (List ℕ × ℤ))
    → opened before (fill_of entry elided rs) ≡ []
filled_opens_none before entry [] rs = refl
filled_opens_none before entry (first ∷ more) rs = fill_opens_none before entry first.0 first.1 0 (left_over rs)

-- ---- Legs that take from lots open none: each lot is held.

other_lot : (account commodity : List ℕ) (a b : LotKey) → eq_by_cmp lot_cmp a b ≡ false
    → same_position (lot_at account commodity b) (lot_at account commodity a) ≡ false
other_lot account commodity a b e =
    apart_from (lot_at account commodity b) (lot_at account commodity a)
    (λ same.
    let keys : Some a ≡ Some b = ap (λ (p : Position). p.lot) same in
    let is : a ≡ b = cc in
    true≢false (sym (ap (eq_by_cmp lot_cmp a) (sym is) ∙ (eq_by_cmp_equiv lots_total).refl a) ∙ e))

module _ (entry posting : ℕ) (account commodity : List ℕ) where
  abbrev IsHeld : List Leg → LotKey × ℤ → Type 0
  IsHeld before lot = sum_at before (lot_at account commodity lot.0) ≢ pos 0

  abbrev leg_of : ℕ → LotKey × ℤ → Leg
  leg_of place lot = leg_at entry posting place account commodity (Some lot.0) lot.1

  -- what is held in other lots is held after a leg, too
  still_held : (before : List Leg) (place : ℕ) (first : LotKey × ℤ) (lots : List (LotKey × ℤ))
      → AllByRecursion (λ key. eq_by_cmp lot_cmp first.0 key ≡ false) (keys_of lots) → AllByRecursion (IsHeld before) lots
      → AllByRecursion (IsHeld (before ++ leg_of place first ∷ [])) lots
  still_held before place first [] apart held = tt
  still_held before place first (lot ∷ lots) apart held = (
    λ zero. held.0 (sym (sum_at-push_apart before (leg_of place first) (lot_at account commodity lot.0)
        (other_lot account commodity first.0 lot.0 apart.0)) ∙ zero),
    still_held before place first lots apart.1 held.1,
  )

  taking_opens_none : (before : List Leg) (place : ℕ) (lots : List (LotKey × ℤ)) → HaveDistinctKeys lots
      → AllByRecursion (IsHeld before) lots → opened before (legs_at_lots entry posting account commodity place lots) ≡ []
  taking_opens_none before place [] distinct held = refl
  taking_opens_none before place (lot ∷ lots) distinct held =
      let same = eq_by_cmp lot_cmp in
      let leg = leg_of place lot in
      let rest = opened (before ++ leg ∷ []) (legs_at_lots entry posting account commodity (suc place) lots) in
      ap (λ b. with_first b leg rest) (not_zero (sum_at before leg.position) held.0)
      ∙ taking_opens_none (before ++ leg ∷ []) (suc place) lots (IsDistinct-tail same lot.0 (keys_of lots) distinct)
      (still_held before place lot lots (IsDistinct-head same lot.0 (keys_of lots) distinct) held.1)

-- what is taken from is held
taken_is_held : (legs : List Leg) (account commodity : List ℕ) (held : Held) (leg : LotKey × ℤ) → held ≡ inventory_of legs account
    → TakesHeld held commodity leg → sum_at legs (lot_at account commodity leg.0) ≢ pos 0
taken_is_held legs account commodity held leg is takes zero =
    let none : units_at held (commodity, Some leg.0) ≡ pos 0 =
    ap (λ (h : Held). units_at h (commodity, Some leg.0)) is ∙ holds_sum legs (lot_at account commodity leg.0) ∙ zero in
    true≢false (sym takes.sign ∙ ap (λ z. other_sign z leg.1) none ∙ sign_none leg.1)

-- ---- A posting opens at most one lot.

one_leg : (before : List Leg) (leg : Leg) (number : ℕ) → posting_number leg ≡ number
    → Ascend number (opened before (leg ∷ [])) (suc number)
one_leg before leg number is =
    subst (λ n. Ascend n (opened before (leg ∷ [])) (suc n)) is
    (elim (opens_lot before leg) as (λ b. Ascend (posting_number leg) (with_first b leg []) (suc (posting_number leg))) [
      | true ↦ (omega arith, omega arith)
      | false ↦ omega arith
    ])

none_opened : (before legs : List Leg) (number : ℕ) → opened before legs ≡ [] → Ascend number (opened before legs) (suc number)
none_opened before legs number none =
    subst (λ (xs : List (ℕ × Position)). Ascend number xs (suc number)) (sym none) (omega arith)

-- the number of the posting of a line
abbrev line_number : Line → ℕ
line_number line = most_postings * (line.entry - 1) + line.place

lots_ascend : (before : List Leg) (line : Line) (cost : Cost) (reduces : Bool) (lots : List (LotKey × ℤ))
    → line.held ≡ inventory_of before line.account → ComesTo (braced line cost) (Legs reduces lots)
    → Ascend (line_number line) (opened before (legs_at_lots line.entry line.place line.account line.amount.commodity 0 lots))
    (suc (line_number line))
lots_ascend before line cost false lots is h =
    let posting = braced line cost in
    let name = line.amount.commodity in
    let key = opened_key (spec_of posting.units posting.cost) posting.day h.1.number h.1.currency in
    subst (λ (ls : List (LotKey × ℤ)). Ascend (line_number line)
    (opened before (legs_at_lots line.entry line.place line.account name 0 ls)) (suc (line_number line))) (sym h.1.leg)
    (one_leg before (leg_at line.entry line.place 0 line.account name (Some key) posting.units) (line_number line) refl)
lots_ascend before line cost true lots is h =
    let posting = braced line cost in
    let name = line.amount.commodity in
    let takes : AllByRecursion (TakesHeld line.held name) lots =
    all_weaker (TakesFrom (candidates posting)) (TakesHeld line.held name) (takes_held posting) lots (taken_from sorted_matching posting lots h.1) in
    none_opened before (legs_at_lots line.entry line.place line.account name 0 lots) (line_number line)
    (taking_opens_none line.entry line.place line.account name before 0 lots (taken_distinct sorted_matching posting lots h.1)
    (all_weaker (TakesHeld line.held name) (IsHeld line.entry line.place line.account name before)
    (λ leg. taken_is_held before line.account name line.held leg is) lots takes))

posting_ascends : (before : List Leg) (line : Line) (cost : Option Cost) (reduces : Bool) (legs : List Leg)
    → line.held ≡ inventory_of before line.account → HasLegs line cost reduces legs
    → Ascend (line_number line) (opened before legs) (suc (line_number line))
posting_ascends before line None reduces legs is h = none_opened before legs (line_number line) (ap (opened before) h.1)
posting_ascends before line (Some cost) reduces legs is h =
    subst (λ (ls : List Leg). Ascend (line_number line) (opened before ls) (suc (line_number line))) (sym h.2)
    (lots_ascend before line cost reduces h.0 is h.1)

-- ---- A transaction.

-- the number before those of the next entry's postings
abbrev base : List Entry → ℕ
base entries = most_postings * length entries

pub number_at : (entries place : ℕ) → most_postings * (suc entries - 1) + place ≡ most_postings * entries + place
number_at entries place = omega arith

postings_ascend : (ties : TieRule) (book : List Entry) (key : Key) (day : ℤ) (postings : List Posting) (booked : List Booked)
    → BooksAllUnder ties (facts_of book key) day [] 1 postings (All booked)
    → Ascend (base book + 1) (opened (legs_of book) (legs_in booked)) (base book + 1 + length postings)
postings_ascend ties book key day postings booked books =
    let facts = facts_of book key in
    let all = legs_of book in
    subst (λ (ls : List Leg). Ascend (base book + 1) (opened ls (legs_in booked)) (base book + 1 + length postings)) (append-nil all)
    (over_placed ties facts day
    (λ place before postings booked. Ascend (base book + place) (opened (all ++ before) (legs_in booked)) (base book + place + length postings))
    (λ place before. omega arith)
    (λ place before account postings booked rest.
    ascend_from_lower (base book + place) (base book + suc place) (opened (all ++ before) (legs_in booked)) (base book + place + suc (length postings))
    (omega arith)
    (ascend_to_higher (base book + suc place) (opened (all ++ before) (legs_in booked)) (base book + suc place + length postings)
    (base book + place + suc (length postings)) (omega arith) rest))
    (λ before place account amount postings first more is rest.
    let line = line_under ties facts day before place account amount in
    let own : Ascend (line_number line) (opened (all ++ before) first.legs) (suc (line_number line)) =
    posting_ascends (all ++ before) line amount.cost first.reduces first.legs (sym (with_legs-append account empty all before)) is.legs in
    let numbered : line_number line ≡ base book + place = number_at (length book) place in
    let here : Ascend (base book + place) (opened (all ++ before) first.legs) (base book + suc place) =
    ascend_to_higher (base book + place) (opened (all ++ before) first.legs) (suc (base book + place)) (base book + suc place) (omega arith)
    (subst (λ n. Ascend n (opened (all ++ before) first.legs) (suc n)) numbered own) in
    let next : Ascend (base book + suc place) (opened ((all ++ before) ++ first.legs) (legs_in more)) (base book + suc place + length postings) =
    subst (λ (ls : List Leg). Ascend (base book + suc place) (opened ls (legs_in more)) (base book + suc place + length postings))
    (sym (append_assoc all before first.legs)) rest in
    subst (λ xs. Ascend (base book + place) xs (base book + place + suc (length postings)))
    (sym (opened-append (all ++ before) first.legs (legs_in more)))
    (ascend_to_higher (base book + place) (opened (all ++ before) first.legs ++ opened ((all ++ before) ++ first.legs) (legs_in more))
    (base book + suc place + length postings) (base book + place + suc (length postings)) (omega arith)
    (ascend-append (base book + place) (base book + suc place) (base book + suc place + length postings)
    (opened (all ++ before) first.legs) (opened ((all ++ before) ++ first.legs) (legs_in more)) here next)))
    1 postings [] booked books)

-- ---- An accepted transaction has no more postings than it may.

pub not_held : (b : Bool) (refusal : Refusal) → holds_as b refusal ≡ None → b ≡ false
not_held true refusal e = absurd cc
not_held false refusal e = refl

pub few : (edition : Edition) (book : List Entry) (key : Key) (t : TransactionOf) (legs : List Leg) → StepIn edition book key (Transaction t) (Accept legs)
    → length t.postings ≤ most_postings
few edition book key t legs step =
    let facts = facts_of book key in
    let none : first_of (first_conditions facts t) ≡ None =
    none_refused (ties_in edition book) facts t legs (first_of (first_conditions facts t)) (accepted edition book key (Transaction t) legs step).1 in
    let many = too_many_postings t.postings in
    let after_many : List (Option Refusal) = two_elided (elided_postings 1 t.postings) ∷ back_dated facts t.day t.postings ∷ [] in
    let after_open = closed facts t.day t.postings ∷ currency_not_allowed facts t.postings ∷ many ∷ after_many in
    let open_later : first_of after_open ≡ None =
    others_none (not_open_yet facts t.day t.postings) after_open
    (others_none (unknown_account facts t.postings) (not_open_yet facts t.day t.postings ∷ after_open) none) in
    let from_many : first_of (many ∷ after_many) ≡ None =
    others_none (currency_not_allowed facts t.postings) (many ∷ after_many)
    (others_none (closed facts t.day t.postings) (currency_not_allowed facts t.postings ∷ many ∷ after_many) open_later) in
    ltb-false most_postings (length t.postings)
    (not_held (nat_lt most_postings (length t.postings)) TooManyPostings (first_none many after_many from_many))

-- ---- A book.

nothing_ascends : (book : List Entry) (legs : List Leg) → legs ≡ []
    → Ascend (base book + 1) (opened (legs_of book) legs) (base book + 1 + most_postings)
nothing_ascends book legs none =
    subst (λ (ls : List Leg). Ascend (base book + 1) (opened (legs_of book) ls) (base book + 1 + most_postings)) (sym none) (omega arith)

command_ascends : (edition : Edition) (book : List Entry) (key : Key) (command : Command) (legs : List Leg) (booked : List Booked)
    → StepIn edition book key command (Accept legs) → BooksCommand (ties_in edition book) (facts_of book key) command legs booked
    → Ascend (base book + 1) (opened (legs_of book) legs) (base book + 1 + most_postings)
command_ascends edition book key (Opening o) legs booked step h = nothing_ascends book legs h.0
command_ascends edition book key (Closing c) legs booked step h = nothing_ascends book legs h.0
command_ascends edition book key (Declaring d) legs booked step h = nothing_ascends book legs h.0
command_ascends edition book key (Quoting q) legs booked step h = nothing_ascends book legs h.0
command_ascends edition book key (Transaction t) legs booked step h =
    let facts = facts_of book key in
    let all = legs_of book in
    let fill = fill_legs facts t booked in
    let by_booked : opened all legs ≡ opened all (legs_in booked) =
    ap (opened all) h.0 ∙ opened-append all (legs_in booked) fill
    ∙ ap (λ xs. opened all (legs_in booked) ++ xs)
    (filled_opens_none (all ++ legs_in booked) (suc facts.entries) (elided_postings 1 t.postings) (residuals (weights_in booked)))
    ∙ append-nil (opened all (legs_in booked)) in
    let most = few edition book key t legs step in
    subst (λ xs. Ascend (base book + 1) xs (base book + 1 + most_postings)) (sym by_booked)
    (ascend_to_higher (base book + 1) (opened all (legs_in booked)) (base book + 1 + length t.postings) (base book + 1 + most_postings)
    (omega (arith, most)) (postings_ascend (ties_in edition book) book key t.day t.postings booked h.1))

base-push : (book : List Entry) (entry : Entry) → base book + 1 + most_postings ≡ base (book ++ entry ∷ []) + 1
base-push book entry = omega (arith, length-append book (entry ∷ []))

entries_ascend : (migration : Migration) (before entries : List Entry) → ContinuesIn migration before entries
    → Ascend (base before + 1) (opened (legs_of before) (legs_of entries)) (base (before ++ entries) + 1)
entries_ascend migration before [] h =
    subst (λ (es : List Entry). Ascend (base before + 1) [] (base es + 1)) (sym (append-nil before)) (omega arith)
entries_ascend migration before (entry ∷ entries) h =
    let book = before ++ entry ∷ [] in
    let step = command_booked (edition_on migration before) before entry.key entry.command entry.legs h.0 in
    let legs : legs_of book ≡ legs_of before ++ entry.legs =
    flat_map-append (λ (e : Entry). e.legs) before (entry ∷ []) ∙ ap (λ ls. legs_of before ++ ls) (append-nil entry.legs) in
    let first : Ascend (base before + 1) (opened (legs_of before) entry.legs) (base book + 1) =
    subst (Ascend (base before + 1) (opened (legs_of before) entry.legs)) (base-push before entry)
    (command_ascends (edition_on migration before) before entry.key entry.command entry.legs step.0 h.0 step.1) in
    let rest : Ascend (base book + 1) (opened (legs_of before ++ entry.legs) (legs_of entries)) (base (book ++ entries) + 1) =
    subst (λ (ls : List Leg). Ascend (base book + 1) (opened ls (legs_of entries)) (base (book ++ entries) + 1)) legs
    (entries_ascend migration book entries h.1) in
    subst (λ (es : List Entry). Ascend (base before + 1) (opened (legs_of before) (entry.legs ++ legs_of entries)) (base es + 1))
    (append_assoc before (entry ∷ []) entries)
    (subst (λ xs. Ascend (base before + 1) xs (base (book ++ entries) + 1))
    (sym (opened-append (legs_of before) entry.legs (legs_of entries)))
    (ascend-append (base before + 1) (base book + 1) (base (book ++ entries) + 1)
    (opened (legs_of before) entry.legs) (opened (legs_of before ++ entry.legs) (legs_of entries)) first rest))

pub lots_differ : (migration : Migration) (entries : List Entry) (account commodity other name : List ℕ) (lot key : LotKey) (number : ℕ) → IsBookIn migration entries
    → HasOpeningNumber (legs_of entries) (lot_at account commodity lot) number
    → HasOpeningNumber (legs_of entries) (lot_at other name key) number
    → lot_at account commodity lot ≡ lot_at other name key
lots_differ migration entries account commodity other name lot key number book a b =
    one_beside 1 (opened [] (legs_of entries)) (base entries + 1) number (lot_at account commodity lot) (lot_at other name key)
    (entries_ascend migration [] entries book)
    (number_among (legs_of entries) account commodity lot number a)
    (number_among (legs_of entries) other name key number b)

-- ---- The lots among which a posting chooses, behind the postings before it.

lot_in : (account commodity : List ℕ) (a b : LotKey) → lot_at account commodity a ≡ lot_at account commodity b → a ≡ b
lot_in account commodity a b same = let keys : Some a ≡ Some b = ap (λ (p : Position). p.lot) same in cc

module _ (migration : Migration) (ties : TieRule) (book : List Entry) (key : Key) (day : ℤ) (postings : List Posting)
    (booked : List Booked) (is_book : IsBookIn migration book)
    (books : BooksAllUnder ties (facts_of book key) day [] 1 postings (All booked)) where
  abbrev so_far : List Leg
  so_far = legs_of book ++ legs_in booked

  so_far_ascends : Ascend 1 (opened [] so_far) (base book + 1 + length postings)
  so_far_ascends =
      subst (λ xs. Ascend 1 xs (base book + 1 + length postings)) (sym (opened-append [] (legs_of book) (legs_in booked)))
      (ascend-append 1 (base book + 1) (base book + 1 + length postings) (opened [] (legs_of book)) (opened (legs_of book) (legs_in booked))
      (entries_ascend migration [] book is_book) (postings_ascend ties book key day postings booked books))

  -- lots that hold something have distinct numbers
  numbers_differ : (account commodity : List ℕ) (a b : LotKey) → a ≢ b
      → units_at (inventory_of so_far account) (commodity, Some a) ≢ pos 0
      → units_at (inventory_of so_far account) (commodity, Some b) ≢ pos 0
      → opening_in so_far account commodity a ≢ opening_in so_far account commodity b
  numbers_differ account commodity a b apart some others same =
      let first = (where_held so_far account commodity a).0 some in
      let second = (where_held so_far account commodity b).0 others in
      let number : opening_in so_far account commodity a ≡ first.0 =
      ap (λ (o : Option ℕ). unwrap_or o 0) (number_is so_far (lot_at account commodity a) first.0 first.1) in
      let other : opening_in so_far account commodity b ≡ second.0 =
      ap (λ (o : Option ℕ). unwrap_or o 0) (number_is so_far (lot_at account commodity b) second.0 second.1) in
      let one : second.0 ≡ first.0 = sym other ∙ sym same ∙ number in
      let q = lot_at account commodity b in
      apart (lot_in account commodity a b
      (one_beside 1 (opened [] so_far) (base book + 1 + length postings) first.0 (lot_at account commodity a) q so_far_ascends
      (number_among so_far account commodity a first.0 first.1)
      (subst (λ n. Among (n, q) (opened [] so_far)) one (number_among so_far account commodity b second.0 second.1))))

  pub openings_differ : (place : ℕ) (account : List ℕ) (amount : Amount) (cost : Cost) (a b : LotKey × ℤ)
      → Contains (candidates (braced (line_under ties (facts_of book key) day (legs_in booked) place account amount) cost)) a
      → Contains (candidates (braced (line_under ties (facts_of book key) day (legs_in booked) place account amount) cost)) b
      → a.0 ≢ b.0
      → opening_in so_far account amount.commodity a.0 ≢ opening_in so_far account amount.commodity b.0
  openings_differ place account amount cost a b first second apart =
      let line = line_under ties (facts_of book key) day (legs_in booked) place account amount in
      let held : line.held ≡ inventory_of so_far account = sym (with_legs-append account empty (legs_of book) (legs_in booked)) in
      let Some-held : LotKey → Held → Type 0 = λ lot held. units_at held (amount.commodity, Some lot) ≢ pos 0 in
      numbers_differ account amount.commodity a.0 b.0 apart
      (subst (Some-held a.0) held (candidate_held (braced line cost) a first))
      (subst (Some-held b.0) held (candidate_held (braced line cost) b second))

-- ---- What was opened first.

-- of two places in a list the later one is behind the first
later_behind : (first : List Leg) (a : Leg) (rest second : List Leg) (b : Leg) (behind : List Leg)
    → first ++ a ∷ rest ≡ second ++ b ∷ behind → length first < length second
    → (between : List Leg) × (second ≡ first ++ a ∷ between)
later_behind [] a rest [] b behind e less = absurd (omega (arith, less))
later_behind [] a rest (l ∷ second) b behind e less = let same : a ≡ l = cc in (second, ap (λ (x : Leg). x ∷ second) (sym same))
later_behind (f ∷ first) a rest [] b behind e less = absurd (omega (arith, less))
later_behind (f ∷ first) a rest (l ∷ second) b behind e less =
    let same : f ≡ l = cc in
    let others : first ++ a ∷ rest ≡ second ++ b ∷ behind = cc in
    let later = later_behind first a rest second b behind others (omega (arith, less)) in
    (later.0, ap (λ (x : Leg). x ∷ second) (sym same) ∙ ap (λ (ls : List Leg). f ∷ ls) later.1)

pub opened_in_order : (migration : Migration) (entries : List Entry) (account commodity other name : List ℕ) (lot key : LotKey) (a b : Leg) → IsBookIn migration entries
    → (first : IsLastToOpen (legs_of entries) (lot_at account commodity lot) a)
    → (second : IsLastToOpen (legs_of entries) (lot_at other name key) b)
    → length first.before < length second.before → posting_number a < posting_number b
opened_in_order migration entries account commodity other name lot key a b book first second less =
    let p = lot_at account commodity lot in
    let q = lot_at other name key in
    let later = later_behind first.before a first.behind second.before b second.behind (sym first.split ∙ second.split) less in
    let front = first.before ++ a ∷ later.0 in
    let split : legs_of entries ≡ front ++ b ∷ second.behind =
    second.split ∙ ap (λ (ls : List Leg). ls ++ b ∷ second.behind) later.1 in
    let all : Ascend 1 (opened [] front ++ opened front (b ∷ second.behind)) (base entries + 1) =
    subst (λ xs. Ascend 1 xs (base entries + 1)) (ap (opened []) split ∙ opened-append [] front (b ∷ second.behind))
    (entries_ascend migration [] entries book) in
    ascend_apart 1 (opened [] front) (opened front (b ∷ second.behind)) (base entries + 1) (posting_number a, p) (posting_number b, q) all
    (opener_among first.before a later.0 account commodity lot first.opens)
    (opener_first front b second.behind other name key
    (subst (λ (ls : List Leg). Opens q ls b) later.1 second.opens))

-- ---- How far the numbers go.

numbers_within : (migration : Migration) (entries : List Entry) (account commodity : List ℕ) (lot : LotKey) (number : ℕ) → IsBookIn migration entries
    → HasOpeningNumber (legs_of entries) (lot_at account commodity lot) number
    → (1 ≤ number) × (number ≤ most_postings * length entries)
numbers_within migration entries account commodity lot number book h =
    let within = among_within 1 (opened [] (legs_of entries)) (base entries + 1) (number, lot_at account commodity lot)
    (entries_ascend migration [] entries book) (number_among (legs_of entries) account commodity lot number h) in
    (within.0, omega (arith, within.1))

pub from_one : (migration : Migration) (entries : List Entry) (account commodity : List ℕ) (lot : LotKey) (number : ℕ) → IsBookIn migration entries
    → HasOpeningNumber (legs_of entries) (lot_at account commodity lot) number → 1 ≤ number
from_one migration entries account commodity lot number book h = (numbers_within migration entries account commodity lot number book h).0

pub to_most : (migration : Migration) (entries : List Entry) (account commodity : List ℕ) (lot : LotKey) (number : ℕ) → IsBookIn migration entries
    → HasOpeningNumber (legs_of entries) (lot_at account commodity lot) number → number ≤ most_postings * length entries
to_most migration entries account commodity lot number book h = (numbers_within migration entries account commodity lot number book h).1

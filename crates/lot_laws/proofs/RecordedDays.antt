-- The latest days at cost of a book with one more entry.
use Rattle.std.specs.Prelude.{◌≡◌, ℕ, suc, ◌<◌, Bool, true, false, cond, ◌&&◌, List, [], ◌∷◌, ◌++◌, length, Option, None, Some, is_some, ℤ, int_lt, nat_lt, position}
use Rattle.std.specs.Cmp.{int_ranked}
use Rattle.std.specs.List.{Any, list_any, position_or_len}
use Rattle.std.specs.Option.{option_or}
use Rattle.std.specs.Ordering.{int_cmp}
use Rattle.std.specs.declared.cmp.Ordering.TheVariants.{Less, Equal, Greater}
use Rattle.std.proofs.Common.{refl, sym, ap, ◌∙◌, arith, inl, inr, get_or}
use Rattle.std.proofs.lemmas.Bool.{cases_lt}
use Rattle.std.proofs.lemmas.Bool.Decides.{nat_tests}
use Rattle.std.proofs.lemmas.Int.{ints}
use Rattle.std.proofs.lemmas.List.Folds.{Any-from_list_any}
use Rattle.std.proofs.lemmas.List.Sums.{fails_before_first}
use Rattle.lot_base.specs.Text.{same_text}
use Rattle.lot_base.proofs.OptionLemmas.{not_mapped}
use Rattle.lot_base.proofs.TextLemmas.{one_text}
use Rattle.lot_command.specs.declared.command.Command.{Command}
use Rattle.lot_command.specs.declared.command.Command.TheVariants.{Opening, Closing, Declaring, Quoting, Transaction}
use Rattle.lot_command.specs.declared.transaction.Amount.{Amount}
use Rattle.lot_command.specs.declared.transaction.Posting.{Posting}
use Rattle.lot_command.specs.declared.transaction.Transaction.{Transaction as TransactionOf}
use Rattle.lot_command.specs.declared.key.Key.{Key}
use Rattle.lot_book.specs.declared.leg.Leg.{Leg}
use Rattle.lot_book.specs.declared.refusal.Refusal.{Refusal}
use Rattle.lot_book.specs.declared.refusal.Refusal.TheVariants.{BackDated}
use Rattle.lot_book.specs.Balance.{elided_postings}
use Rattle.lot_book.specs.Booking.{TieRule}
use Rattle.lot_book.specs.Facts.{Entry, Facts, day_at_cost, facts_of, is_at_cost, later, latest_at_cost, posts_at_cost}
use Rattle.lot_book.specs.Refusals.{back_dated, closed, currency_not_allowed, dates_back, is_before, not_open_yet, place_of, too_many_postings, two_elided, unknown_account}
use Rattle.lot_book.specs.Step.{Accept, JudgesTransactionUnder, JudgesUnder, first_conditions, first_of}

-- ---- the later of two days

later-none : (day : Option ℤ) → later day None ≡ day
later-none None = refl
later-none (Some day) = refl

later-later : (a b c : Option ℤ) → later a (later b c) ≡ later (later a b) c
later-later None b c = refl
later-later (Some a) None c = refl
later-later (Some a) (Some b) None = refl
later-later (Some a) (Some b) (Some c) = ap Some (by (int_lt a b) (int_lt b c) refl refl)
  where
    by : (p q : Bool) → int_lt a b ≡ p → int_lt b c ≡ q
        → cond (int_lt a (cond q c b)) (cond q c b) a ≡ cond (int_lt (cond p b a) c) c (cond p b a)
    by p q e f = grind (arith, ints)

latest_at_cost-append : (entries : List Entry) (entry : Entry) (account commodity : List ℕ)
    → latest_at_cost (entries ++ entry ∷ []) account commodity
    ≡ later (latest_at_cost entries account commodity) (day_at_cost account commodity entry.command)
latest_at_cost-append [] entry account commodity = later-none (day_at_cost account commodity entry.command)
latest_at_cost-append (first ∷ entries) entry account commodity =
    ap (later (day_at_cost account commodity first.command)) (latest_at_cost-append entries entry account commodity)
    ∙ later-later (day_at_cost account commodity first.command) (latest_at_cost entries account commodity)
    (day_at_cost account commodity entry.command)

-- a day that isn't before the latest is the latest then
later-given : (latest : Option ℤ) (day : ℤ) → is_before day latest ≡ false → later latest (Some day) ≡ Some day
later-given None day e = refl
later-given (Some latest) day e = ap Some (by (int_lt latest day) refl)
  where
    by : (b : Bool) → int_lt latest day ≡ b → cond b day latest ≡ day
    by true f = refl
    by false f =
        let tie : int_cmp latest day ≡ Equal = λ i. cond (f i) Less (cond (e i) Greater Equal) in
        int_ranked latest day Equal (sym tie)

-- ---- what an accepted transaction says of its day

pub none_refused : (ties : TieRule) (facts : Facts) (t : TransactionOf) (legs : List Leg) (refused : Option Refusal)
    → JudgesTransactionUnder ties facts t refused (Accept legs) → refused ≡ None
none_refused ties facts t legs None judges = refl
none_refused ties facts t legs (Some refusal) judges = cc

pub last_none : (conditions : List (Option Refusal)) (condition : Option Refusal)
    → first_of (conditions ++ condition ∷ []) ≡ None → condition ≡ None
last_none [] None e = refl
last_none [] (Some refusal) e = cc
last_none (None ∷ conditions) condition e = last_none conditions condition e
last_none (Some refusal ∷ conditions) condition e = cc

pub none_passes : {X : Type 0} (p : X → Bool) (xs : List X) (k : ℕ) (x : X) → position p xs ≡ None → k < length xs
    → p (get_or xs k x) ≡ false
none_passes p xs k x e below = fails_before_first p xs k x (elim (cases_lt (position_or_len p xs) (length xs)) [
  | inl found ↦ absurd (by (position_or_len p xs) (length xs) found e)
  | inr past ↦ omega arith
])
  where
    by : (n m : ℕ) → n < m → cond (nat_lt n m) (Some n) None ≡ None → ⊥
    by n m lt none = grind (arith, nat_tests)

both_true : (a b : Bool) → (a && b) ≡ true → (a ≡ true) × (b ≡ true)
both_true true b e = (refl, e)
both_true false b e = cc

-- a posting with braces that isn't dated back isn't before the latest such day there
day_of_posting : (facts : Facts) (day : ℤ) (account commodity other : List ℕ) (amount : Option Amount)
    → same_text account other ≡ true
    → is_at_cost commodity amount ≡ true → dates_back facts day other amount ≡ false
    → is_before day (facts.latest_at_cost account commodity) ≡ false
day_of_posting facts day account commodity other None named costs dated = cc
day_of_posting facts day account commodity other (Some amount) named costs dated =
    let parts = both_true (is_some amount.cost) (same_text commodity amount.commodity) costs in
    let there : is_before day (facts.latest_at_cost other amount.commodity) ≡ false =
    ap (λ b. cond b (is_before day (facts.latest_at_cost other amount.commodity)) false) (sym parts.0) ∙ dated in
    (λ i. is_before day (facts.latest_at_cost (one_text account other named i) (one_text commodity amount.commodity parts.1 i)))
    ∙ there

not_back_dated : (facts : Facts) (t : TransactionOf) (account commodity : List ℕ) → back_dated facts t.day t.postings ≡ None
    → list_any (posts_at_cost account commodity) t.postings ≡ true
    → is_before t.day (facts.latest_at_cost account commodity) ≡ false
not_back_dated facts t account commodity none posts =
    let dates : Posting → Bool = λ p. dates_back facts t.day p.account p.amount in
    let place : position dates t.postings ≡ None =
    not_mapped suc (position dates t.postings) (not_mapped BackDated (place_of dates t.postings) none) in
    let found : Any (λ p. posts_at_cost account commodity p ≡ true) t.postings =
    Any-from_list_any (posts_at_cost account commodity) t.postings posts in
    let posting = found.1 in
    let parts = both_true (same_text account posting.account) (is_at_cost commodity posting.amount) found.4 in
    let dated : dates posting ≡ false = ap dates (sym found.3) ∙ none_passes dates t.postings found.0 posting place found.2 in
    day_of_posting facts t.day account commodity posting.account posting.amount parts.0 parts.1 dated

-- the day of an accepted transaction is the latest wherever it posts with braces
day_is_latest : (ties : TieRule) (facts : Facts) (t : TransactionOf) (legs : List Leg) (account commodity : List ℕ)
    → JudgesUnder ties facts (Transaction t) (Accept legs)
    → list_any (posts_at_cost account commodity) t.postings ≡ true
    → is_before t.day (facts.latest_at_cost account commodity) ≡ false
day_is_latest ties facts t legs account commodity judges posts =
    let none : first_of (first_conditions facts t) ≡ None =
    none_refused ties facts t legs (first_of (first_conditions facts t)) judges in
    let others : List (Option Refusal) =
    unknown_account facts t.postings ∷ not_open_yet facts t.day t.postings ∷ closed facts t.day t.postings
    ∷ currency_not_allowed facts t.postings
    ∷ too_many_postings t.postings ∷ two_elided (elided_postings 1 t.postings) ∷ [] in
    not_back_dated facts t account commodity (last_none others (back_dated facts t.day t.postings) none) posts

-- ---- the days of a book with one more entry

pub latest-recorded : (ties : TieRule) (book : List Entry) (key : Key) (entry : Entry) (account commodity : List ℕ) (listed : Option ℤ)
    → JudgesUnder ties (facts_of book key) entry.command (Accept entry.legs) → listed ≡ day_at_cost account commodity entry.command
    → option_or listed (latest_at_cost book account commodity) ≡ latest_at_cost (book ++ entry ∷ []) account commodity
latest-recorded ties book key entry account commodity listed judges is =
    ap (λ day. option_or day (latest_at_cost book account commodity)) is
    ∙ by entry.command judges
    ∙ sym (latest_at_cost-append book entry account commodity)
  where
    by : (c : Command) → JudgesUnder ties (facts_of book key) c (Accept entry.legs)
        → option_or (day_at_cost account commodity c) (latest_at_cost book account commodity)
        ≡ later (latest_at_cost book account commodity) (day_at_cost account commodity c)
    by (Opening o) judges = sym (later-none (latest_at_cost book account commodity))
    by (Closing c) judges = sym (later-none (latest_at_cost book account commodity))
    by (Declaring d) judges = sym (later-none (latest_at_cost book account commodity))
    by (Quoting q) judges = sym (later-none (latest_at_cost book account commodity))
    by (Transaction t) judges = posts_by (list_any (posts_at_cost account commodity) t.postings) refl
      where
        posts_by : (b : Bool) → list_any (posts_at_cost account commodity) t.postings ≡ b
            → option_or (cond b (Some t.day) None) (latest_at_cost book account commodity)
            ≡ later (latest_at_cost book account commodity) (cond b (Some t.day) None)
        posts_by true posts = sym
            (later-given (latest_at_cost book account commodity) t.day
            (day_is_latest ties (facts_of book key) t entry.legs account commodity judges posts))
        posts_by false none = sym (later-none (latest_at_cost book account commodity))

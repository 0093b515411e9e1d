-- Sums of a row with one more lot, and totals with one more amount.
use Rattle.std.specs.Prelude.{◌≡◌, ℕ, ◌+◌, ℤ, pos, ◌+ℤ◌, Bool, true, false, IsTrue, not, cond, ◌&&◌, nat_lt, List, [], ◌∷◌, ◌++◌, length, map, filter, Option, None, Some, Result, Ok, Err, OnOk, IfErr, SomeIff}
use Rattle.std.proofs.Common.{rules, refl, sym, ap, subst, ◌∙◌, arith}
use Rattle.std.proofs.Math.IntN.{+ℤ_assoc, +ℤ_idl, +ℤ_idr}
use Rattle.std.proofs.lemmas.Bool.{true≢false}
use Rattle.std.proofs.lemmas.List.{length-append}
use Rattle.lot_num.specs.Amount.{IsWide}
use Rattle.lot_num.specs.Sum.{sum_of}
use Rattle.lot_book.specs.declared.gain.Gain.{Gain}
use Rattle.lot_report.specs.Report.{AreSums, is_wide}
use Rattle.lot_report.specs.declared.fault.ReportFault.{ReportFault}
use Rattle.lot_report.specs.declared.fault.ReportFault.TheVariants.{Range, Write, Memory}
use Rattle.lot_tally.specs.Lots.{CountedLot, RowKey}
use Rattle.lot_tally.specs.Rows.{Adds, AddsFitting, cost_without, has_gain, of_gain, sums_of, with_lot}
use Rattle.lot_tally.specs.declared.sums.RowSums.{RowSums}

-- ---- one more at the end

sum_push : {X : Type 0} (number : X → ℤ) (xs : List X) (x : X) → sum_of (map number (xs ++ x ∷ [])) ≡ sum_of (map number xs) +ℤ number x
sum_push number [] x = +ℤ_idr (number x) ∙ sym (+ℤ_idl (number x))
sum_push number (y ∷ xs) x =
    ap (λ z. number y +ℤ z) (sum_push number xs x) ∙ sym (+ℤ_assoc (number y) (sum_of (map number xs)) (number x))

one_longer : {X : Type 0} (xs : List X) (x : X) → length (xs ++ x ∷ []) ≡ length xs + 1
one_longer xs x = length-append xs (x ∷ [])

pub filter_push : {X : Type 0} (p : X → Bool) (xs : List X) (x : X) → filter p (xs ++ x ∷ []) ≡ cond (p x) (filter p xs ++ x ∷ []) (filter p xs)
filter_push p [] x = refl
filter_push p (y ∷ xs) x = ap (λ l. cond (p y) (y ∷ l) l) (filter_push p xs x) ∙ by (p y) (p x) (filter p xs)
  where
    by : (first last : Bool) (l : List _)
        → cond first (y ∷ cond last (l ++ x ∷ []) l) (cond last (l ++ x ∷ []) l) ≡ cond last (cond first (y ∷ l) l ++ x ∷ []) (cond first (y ∷ l) l)
    by true true l = refl
    by true false l = refl
    by false true l = refl
    by false false l = refl

count_push : {X : Type 0} (p : X → Bool) (xs : List X) (x : X) → length (filter p (xs ++ x ∷ [])) ≡ cond (p x) (length (filter p xs) + 1) (length (filter p xs))
count_push p xs x = ap length (filter_push p xs x) ∙ by (p x)
  where
    by : (b : Bool) → length (cond b (filter p xs ++ x ∷ []) (filter p xs)) ≡ cond b (length (filter p xs) + 1) (length (filter p xs))
    by true = one_longer (filter p xs) x
    by false = refl

-- ---- sums of a row

abbrev pub lot_with : RowKey → ℤ → Option Gain → CountedLot
lot_with row cost gain = record { row = row; cost = cost; gain = gain }

nothing_more : (number : CountedLot → ℤ) (lots : List CountedLot) (lot : CountedLot) → number lot ≡ pos 0
    → sum_of (map number (lots ++ lot ∷ [])) ≡ sum_of (map number lots)
nothing_more number lots lot zero = sum_push number lots lot ∙ ap (λ z. sum_of (map number lots) +ℤ z) zero ∙ +ℤ_idr (sum_of (map number lots))

pub sums_push : (lots : List CountedLot) (row : RowKey) (cost : ℤ) (gain : Option Gain)
    → sums_of (lots ++ lot_with row cost gain ∷ []) ≡ with_lot (sums_of lots) cost gain
sums_push lots row cost None =
    let lot = lot_with row cost None in
    λ i. record {
      priced_lots = count_push (λ (l : CountedLot). has_gain l.gain) lots lot i;
      proceeds = nothing_more (λ (l : CountedLot). of_gain (λ g. g.proceeds) l.gain) lots lot refl i;
      cost = nothing_more (λ (l : CountedLot). of_gain (λ g. g.cost) l.gain) lots lot refl i;
      gain = nothing_more (λ (l : CountedLot). of_gain (λ g. g.gain) l.gain) lots lot refl i;
      unpriced_lots = count_push (λ (l : CountedLot). not (has_gain l.gain)) lots lot i;
      unpriced_cost = sum_push (λ (l : CountedLot). cost_without l.gain l.cost) lots lot i;
    }
sums_push lots row cost (Some gain) =
    let lot = lot_with row cost (Some gain) in
    λ i. record {
      priced_lots = count_push (λ (l : CountedLot). has_gain l.gain) lots lot i;
      proceeds = sum_push (λ (l : CountedLot). of_gain (λ g. g.proceeds) l.gain) lots lot i;
      cost = sum_push (λ (l : CountedLot). of_gain (λ g. g.cost) l.gain) lots lot i;
      gain = sum_push (λ (l : CountedLot). of_gain (λ g. g.gain) l.gain) lots lot i;
      unpriced_lots = count_push (λ (l : CountedLot). not (has_gain l.gain)) lots lot i;
      unpriced_cost = nothing_more (λ (l : CountedLot). cost_without l.gain l.cost) lots lot refl i;
    }

-- ---- sums in range

pub wide_is : (z : ℤ) → IsWide z → is_wide z ≡ true
wide_is z wide = search (rules)

pub not_wide_is : (z : ℤ) → (IsWide z → ⊥) → not (is_wide z) ≡ true
not_wide_is z wide = search (rules)

pub is_wide_so : (z : ℤ) → IsTrue (is_wide z) → IsWide z
is_wide_so z wide = search (rules)

pub first_so : (a b : Bool) → IsTrue (a && b) → IsTrue a
first_so true b both = refl
first_so false b both = both

pub rest_so : (a b : Bool) → IsTrue (a && b) → IsTrue b
rest_so true b both = both
rest_so false b both = absurd (true≢false (sym both))

pub both_so : (a b : Bool) → IsTrue a → IsTrue b → IsTrue (a && b)
both_so a b first rest = ap (λ c. c && b) first ∙ rest

-- ---- something more

-- that memory is lacked by what fits is more than is said of several sums
pub fitting_adds : (fits : Bool) (IsAdded : Type 0) (result : Result (Unit {0}) ReportFault) → AddsFitting fits IsAdded result → Adds fits IsAdded result
fitting_adds fits IsAdded (Ok done) added = added
fitting_adds fits IsAdded (Err Range) unfit = unfit
fitting_adds fits IsAdded (Err Write) never = never
fitting_adds fits IsAdded (Err Memory) fit = tt

-- ---- totals

-- a total with one more amount, that is in range
pub total_set : (amounts : List (List ℕ × ℤ)) (currency : List ℕ) (amount sum : ℤ) (sums : List (List ℕ × ℤ)) (result : Result (Unit {0}) ReportFault) → IsWide sum
    → OnOk result (AreSums (amounts ++ (currency, amount) ∷ []) sums) → IfErr result (λ fault. fault ≡ Memory)
    → AddsFitting (is_wide sum) (AreSums (amounts ++ (currency, amount) ∷ []) sums) result
total_set amounts currency amount sum sums (Ok done) wide set cause = (wide_is sum wide, set)
total_set amounts currency amount sum sums (Err fault) wide set cause = rw (cause) (wide_is sum wide)

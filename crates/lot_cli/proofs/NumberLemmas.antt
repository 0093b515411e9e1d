-- Numbers that follow one another.
use Rattle.std.proofs.Common.{◌≡◌, ◌≢◌, ◌∙◌, ◌<◌, ◌≤◌, ◌+◌, ◌-◌, ◌^◌, ℕ, zero, suc, List, [], ◌∷◌, ◌++◌, add-one, length, get_or, take, drop, sym, ap, subst, arith}
use Rattle.std.proofs.Math.Seq.{take-suc}
use Rattle.std.proofs.lemmas.List.{get_or-drop, get_or-take, length-drop, length-take, take_all}
use Rattle.std.proofs.lemmas.List.FromFn.{get_or-range_with_len}
use Rattle.std.specs.List.{range_with_len}
use Rattle.lot_input.specs.Keyed.{HaveNext}
use Rattle.lot_cli.specs.Runs.{FollowOneAnother, first_number}

range_more : (from count : ℕ) → range_with_len from count ++ (from + count) ∷ [] ≡ range_with_len from (suc count)
range_more from zero = ap (λ n. n ∷ []) none
  where
    none : from + 0 ≡ from
    none = omega arith
range_more from (suc count) =
    ap (λ (ns : List ℕ). from ∷ ns) (ap (λ n. range_with_len (from + 1) count ++ n ∷ []) counted ∙ range_more (from + 1) count)
  where
    counted : from + suc count ≡ from + 1 + count
    counted = omega arith

-- one more of them
pub more_in_a_row : (numbers : List ℕ) (from index : ℕ) → index < length numbers → take index numbers ≡ range_with_len from index
    → get_or numbers index 0 ≡ from + index → take (index + 1) numbers ≡ range_with_len from (index + 1)
more_in_a_row numbers from index within so is =
    rw add-one (take-suc numbers index 0 within ∙ ap (λ (ns : List ℕ). ns ++ get_or numbers index 0 ∷ []) so
    ∙ ap (λ n. range_with_len from index ++ n ∷ []) is ∙ range_more from index)

-- the one at a place is as far from the first
at_place : (numbers : List ℕ) (from count place : ℕ) → take count numbers ≡ range_with_len from count → place < count → get_or numbers place 0 ≡ from + place
at_place numbers from count place follow within =
    sym (get_or-take count numbers place 0 within) ∙ ap (λ (ns : List ℕ). get_or ns place 0) follow ∙ get_or-range_with_len from count place 0 within

-- the number behind them can be counted
pub next_fits : (numbers : List ℕ) (from count : ℕ) → HaveNext numbers → from < 2 ^ 64 → count ≤ length numbers → take count numbers ≡ range_with_len from count
    → from + count < 2 ^ 64
next_fits numbers from zero next fits within follow = omega (arith, fits)
next_fits numbers from (suc count) next fits within follow =
    let last : get_or numbers count 0 ≡ from + count = at_place numbers from (suc count) count follow (omega arith) in
    let small = next count 0 (omega (arith, within)) in omega (arith, last, small)

-- where they end before all, the numbers don't follow one another
pub apart : (numbers : List ℕ) (count : ℕ) → count < length numbers → get_or numbers count 0 ≢ first_number numbers + count → ¬ FollowOneAnother numbers
apart numbers count within ends follow =
    ends (ap (λ (ns : List ℕ). get_or ns count 0) follow ∙ get_or-range_with_len (first_number numbers) (length numbers) count 0 within)

-- ---- those from a place on

rest_is : {A : Type 0} (at : ℕ) (xs : List A) → take (length xs - at) (drop at xs) ≡ drop at xs
rest_is at xs = take_all (length xs - at) (drop at xs) (omega (arith, length-drop at xs))

pub within_rest : (numbers : List ℕ) (at count : ℕ) → count ≤ length (take (length numbers - at) (drop at numbers)) → count ≤ length (drop at numbers)
within_rest numbers at count within = subst (λ (ns : List ℕ). count ≤ length ns) (rest_is at numbers) within

pub follow_rest : (numbers : List ℕ) (at count from : ℕ) → take count (take (length numbers - at) (drop at numbers)) ≡ range_with_len from count
    → take count (drop at numbers) ≡ range_with_len from count
follow_rest numbers at count from follow = ap (take count) (sym (rest_is at numbers)) ∙ follow

next_rest : (numbers : List ℕ) (at : ℕ) → HaveNext numbers → HaveNext (drop at numbers)
next_rest numbers at next k d within =
    subst (λ n. n + 1 < 2 ^ 64) (sym (get_or-drop at numbers k d)) (next (at + k) d (omega (arith, within, length-drop at numbers)))

pub stretch_fits : {A : Type 0} (numbers : List ℕ) (at count : ℕ) (xs : List A) → HaveNext numbers → at < length numbers → count ≤ length (drop at numbers)
    → take count (drop at numbers) ≡ range_with_len (get_or numbers at 0) count → length (take (at + count - at) (drop at xs)) + get_or numbers at 0 < 2 ^ 64
stretch_fits numbers at count xs next here within follow =
    let small = next at 0 here in
    let fits = next_fits (drop at numbers) (get_or numbers at 0) count (next_rest numbers at next) (omega (arith, small)) within follow in
    omega (arith, length-take (at + count - at) (drop at xs), fits)

-- ---- all of them

pub all_follow : (numbers : List ℕ) (from count : ℕ) → count ≡ length numbers → take count numbers ≡ range_with_len from count
    → numbers ≡ range_with_len from (length numbers)
all_follow numbers from count all follow =
    sym (take_all (length numbers) numbers (omega arith)) ∙ subst (λ n. take n numbers ≡ range_with_len from n) all follow

pub all_fit : (numbers : List ℕ) (from : ℕ) → HaveNext numbers → from < 2 ^ 64 → numbers ≡ range_with_len from (length numbers) → from + length numbers < 2 ^ 64
all_fit numbers from next fits follow =
    next_fits numbers from (length numbers) next fits (omega arith) (take_all (length numbers) numbers (omega arith) ∙ follow)

-- How many bytes from the front on pass a test, and how long the whole part of a number is.
use Rattle.std.proofs.Common.{◌≡◌, ℕ, suc, ◌+◌, ◌-◌, ◌≤◌, Bool, true, false, cond, List, [], ◌∷◌, ◌++◌, length, take, drop, refl, ap, ◌∙◌, sym, arith}
use Rattle.std.specs.List.{prefix_len, position, position_or_len, list_all}
use Rattle.std.specs.Prelude.{not, nat_lt, unwrap_or, Some, None}
use Rattle.std.proofs.lemmas.List.Sums.{prefix_len-le-length}
use Rattle.std.proofs.lemmas.Bool.Decides.{nat_tests}
use Rattle.std.proofs.lemmas.Bool.{and_parts, and_from}
use Rattle.std.proofs.lemmas.List.{drop-drop, length-drop, length-take, take_all, take-append-drop}
use Rattle.lot_syntax.specs.Token.{begins}
use Rattle.lot_syntax.specs.Cutting.{run, goes_on, whole_len}

-- ---- A run.

pub run_is : (p : ℕ → Bool) (xs : List ℕ) → run p xs ≡ prefix_len p xs
unfolding run
run_is p [] = refl
run_is p (x ∷ xs) =
    let more = run_is p xs in
    let same : suc (run p xs) ≡ 1 + prefix_len p xs = omega arith in
    ap (λ n. cond (p x) n 0) same

passes_by : (p : ℕ → Bool) (x : ℕ) (xs : List ℕ) (b : Bool) → p x ≡ b → list_all p (take (run p xs) xs) ≡ true
    → list_all p (take (cond b (suc (run p xs)) 0) (x ∷ xs)) ≡ true
passes_by p x xs true e more = and_from _ _ e more
passes_by p x xs false e more = refl

stops_by : (p : ℕ → Bool) (x : ℕ) (xs : List ℕ) (b : Bool) → p x ≡ b → begins p (drop (run p xs) xs) ≡ false
    → begins p (drop (cond b (suc (run p xs)) 0) (x ∷ xs)) ≡ false
stops_by p x xs true e more = more
stops_by p x xs false e more = e

-- each byte of it passes, and the one behind it doesn't
pub run_passes : (p : ℕ → Bool) (xs : List ℕ) → list_all p (take (run p xs) xs) ≡ true
unfolding run
run_passes p [] = refl
run_passes p (x ∷ xs) = passes_by p x xs (p x) refl (run_passes p xs)

pub run_stops : (p : ℕ → Bool) (xs : List ℕ) → begins p (drop (run p xs) xs) ≡ false
unfolding run
run_stops p [] = refl
run_stops p (x ∷ xs) = stops_by p x xs (p x) refl (run_stops p xs)

-- bytes that pass, and one behind them that doesn't, are such a run
pub run_found : (p : ℕ → Bool) (xs ys : List ℕ) → list_all p xs ≡ true → begins p ys ≡ false → run p (xs ++ ys) ≡ length xs
unfolding run
run_found p [] [] all stops = refl
run_found p [] (y ∷ ys) all stops = rw stops refl
run_found p (x ∷ xs) ys all stops =
    let parts = and_parts (p x) (list_all p xs) all in
    let first : p x ≡ true = parts.0 in
    let more : run p (xs ++ ys) ≡ length xs = run_found p xs ys parts.1 stops in
    rw (first, more) refl

position_by : (p : ℕ → Bool) (x : ℕ) (xs : List ℕ) (b : Bool) → p x ≡ b → run p xs ≡ position_or_len (λ y. not (p y)) xs
    → cond b (suc (run p xs)) 0 ≡ cond (not (not b)) (1 + position_or_len (λ y. not (p y)) xs) 0
position_by p x xs true e more = omega arith
position_by p x xs false e more = refl

-- ---- The whole part of a number, byte by byte.

pub whole_more : (xs : List ℕ) → goes_on xs ≡ true → (whole_len xs ≡ suc (whole_len (drop 1 xs))) × (1 ≤ length xs)
unfolding whole_len
whole_more [] e = cc
whole_more (x ∷ xs) e = (rw e refl, omega arith)

pub whole_ends : (xs : List ℕ) → goes_on xs ≡ false → whole_len xs ≡ 0
unfolding whole_len
whole_ends [] e = refl
whole_ends (x ∷ xs) e = rw e refl

-- what is left from a place to the end is all that is behind it
pub rest_of : (n : ℕ) (xs : List ℕ) → n ≤ length xs → take (length xs - n) (drop n xs) ≡ drop n xs
rest_of n xs le = take_all _ _ (omega (arith, length-drop n xs))

pub whole_step : (n : ℕ) (xs : List ℕ) (total : ℕ) → n ≤ length xs → goes_on (take (length xs - n) (drop n xs)) ≡ true
    → n + whole_len (drop n xs) ≡ total → (n + 1 ≤ length xs) × (n + 1 + whole_len (drop (n + 1) xs) ≡ total)
whole_step n xs total le e h =
    let goes : goes_on (drop n xs) ≡ true = sym (ap goes_on (rest_of n xs le)) ∙ e in
    let more = whole_more (drop n xs) goes in
    let next : whole_len (drop 1 (drop n xs)) ≡ whole_len (drop (n + 1) xs) = ap whole_len (drop-drop 1 n xs) in
    (omega (arith, more.1, length-drop n xs), omega (arith, more.0, next))

pub whole_stop : (n : ℕ) (xs : List ℕ) (total : ℕ) → n ≤ length xs → goes_on (take (length xs - n) (drop n xs)) ≡ false
    → n + whole_len (drop n xs) ≡ total → n ≡ total
whole_stop n xs total le e h =
    let ends = whole_ends (drop n xs) (sym (ap goes_on (rest_of n xs le)) ∙ e) in
    omega arith

-- the place of the first byte that doesn't pass, or the length
pub run_position : (p : ℕ → Bool) (xs : List ℕ) → run p xs ≡ position_or_len (λ b. not (p b)) xs
unfolding run
run_position p [] = refl
run_position p (x ∷ xs) = position_by p x xs (p x) refl (run_position p xs)

place_or : (at end : ℕ) → at ≤ end → unwrap_or (cond (nat_lt at end) (Some at) None) end ≡ at
place_or at end le = grind (arith, nat_tests)

pub run_at : (p : ℕ → Bool) (xs : List ℕ) (n : ℕ) → n ≡ unwrap_or (position (λ b. not (p b)) xs) (length xs) → n ≡ run p xs
run_at p xs n e =
    e ∙ place_or (position_or_len (λ b. not (p b)) xs) (length xs) (prefix_len-le-length (λ (b : ℕ). not (not (p b))) xs) ∙ sym (run_position p xs)

-- ---- What stands at the front.

pub take_front : (front rest : List ℕ) → take (length front) (front ++ rest) ≡ front
take_front [] rest = refl
take_front (b ∷ front) rest = ap (λ bytes. b ∷ bytes) (take_front front rest)

pub drop_front : (front rest : List ℕ) → drop (length front) (front ++ rest) ≡ rest
drop_front [] rest = refl
drop_front (b ∷ front) rest = drop_front front rest

pub drop_past : (front : List ℕ) (b : ℕ) (rest : List ℕ) → drop (suc (length front)) (front ++ b ∷ rest) ≡ rest
drop_past [] b rest = refl
drop_past (c ∷ front) b rest = drop_past front b rest

-- a run, and what stands behind it
pub record HasRun (p : ℕ → Bool) (xs : List ℕ) : Type 0 where
  pub front : List ℕ
  pub rest : List ℕ
  pub whole : xs ≡ front ++ rest
  pub all : list_all p front ≡ true
  pub ends : begins p rest ≡ false
  pub len : run p xs ≡ length front

run_le : (p : ℕ → Bool) (xs : List ℕ) → run p xs ≤ length xs
run_le p xs = omega (arith, run_is p xs, prefix_len-le-length p xs)

pub has_run : (p : ℕ → Bool) (xs : List ℕ) → HasRun p xs
has_run p xs = record {
  front = take (run p xs) xs;
  rest = drop (run p xs) xs;
  whole = sym (take-append-drop (run p xs) xs);
  all = run_passes p xs;
  ends = run_stops p xs;
  len = omega (arith, length-take (run p xs) xs, run_le p xs);
}

-- Of the signs that stand at an end of a text none is longer than the longest.
use Rattle.std.proofs.Common.{◌≡◌, ◌⊎◌, inl, inr, ℕ, ◌-◌, ◌≤◌, ◌==◌, Bool, true, false, if◌then◌else◌, List, [], ◌∷◌, ◌++◌, length, take, drop, length-drop, Some, refl, sym, ap, ◌∙◌, arith}
use Rattle.std.proofs.Math.Nat.{le-max_left, le-max_right}
use Rattle.std.specs.Prelude.{nat_le}
use Rattle.std.proofs.lemmas.Bool.Decides.{nat_tests}
use Rattle.std.proofs.lemmas.List.{length-take}
use Rattle.std.specs.List.{ends_with, starts_with}
use Rattle.lot_field.specs.Field.{before, behind}
use Rattle.lot_field.specs.Numbers.{ahead_of_sign, longest_at, past_sign}

module _ (is_there : List ℕ → List ℕ → Bool) (text : List ℕ) where
  no-longer : (front back : List (List ℕ)) (sign : List ℕ) → is_there text sign ≡ true
      → length sign ≤ longest_at is_there (front ++ sign ∷ back) text
  no-longer [] back sign there =
      let most = le-max_left (if is_there text sign then length sign else 0) (longest_at is_there back text) in
      let long : (if is_there text sign then length sign else 0) ≡ length sign = rw there refl in
      omega (arith, most, long)
  no-longer (other ∷ front) back sign there =
      let most = le-max_right (if is_there text other then length other else 0) (longest_at is_there (front ++ sign ∷ back) text) in
      let more = no-longer front back sign there in
      omega (arith, most, more)

some-is : (a b : List ℕ) → Some a ≡ Some b → a ≡ b
some-is a b e = cc

pub no-longer-behind : (front back : List (List ℕ)) (sign text rest : List ℕ) → behind sign text ≡ Some rest
    → length (past_sign (front ++ sign ∷ back) text) ≤ length rest
no-longer-behind front back sign text rest is = go (starts_with ◌==◌ text sign) refl
  where
    go : (there : Bool) → starts_with ◌==◌ text sign ≡ there → length (past_sign (front ++ sign ∷ back) text) ≤ length rest
    go true there =
        let same : drop (length sign) text ≡ rest = some-is _ _ (rw there at is) in
        let long : length text - length sign ≡ length rest = sym (length-drop (length sign) text) ∙ ap (λ (t : List ℕ). length t) same in
        omega (arith, long, no-longer (starts_with ◌==◌) text front back sign there, length-drop (longest_at (starts_with ◌==◌) (front ++ sign ∷ back) text) text)
    go false there = let never = rw there at is in cc never

pub no-longer-before : (front back : List (List ℕ)) (sign text rest : List ℕ) → before sign text ≡ Some rest
    → length (ahead_of_sign (front ++ sign ∷ back) text) ≤ length rest
no-longer-before front back sign text rest is = go (ends_with ◌==◌ text sign) refl
  where
    go : (there : Bool) → ends_with ◌==◌ text sign ≡ there → length (ahead_of_sign (front ++ sign ∷ back) text) ≤ length rest
    go true there =
        let same : take (length text - length sign) text ≡ rest = some-is _ _ (rw there at is) in
        let long = sym (length-take (length text - length sign) text) ∙ ap (λ (t : List ℕ). length t) same in
        omega (arith, long, no-longer (ends_with ◌==◌) text front back sign there, length-take (length text - longest_at (ends_with ◌==◌) (front ++ sign ∷ back) text) text)
    go false there = let never = rw there at is in cc never

-- a sign of the list stands there, and has that length
record HasSign (is_there : List ℕ → List ℕ → Bool) (text : List ℕ) (signs : List (List ℕ)) (long : ℕ) : Type 0 where
  front : List (List ℕ)
  sign : List ℕ
  back : List (List ℕ)
  among : signs ≡ front ++ sign ∷ back
  there : is_there text sign ≡ true
  is : length sign ≡ long

module _ (is_there : List ℕ → List ℕ → Bool) (text : List ℕ) where
  later : (other : List ℕ) (signs : List (List ℕ)) (long most : ℕ) → most ≡ long → HasSign is_there text signs long → HasSign is_there text (other ∷ signs) most
  later other signs long most same h =
      record { front = other ∷ h.front; sign = h.sign; back = h.back; among = ap (λ (ss : List (List ℕ)). other ∷ ss) h.among; there = h.there; is = h.is ∙ sym same }

  by-first : (first : List ℕ) (signs : List (List ℕ)) (there less : Bool) → is_there text first ≡ there
      → nat_le (longest_at is_there signs text) (length first) ≡ less
      → (longest_at is_there signs text ≡ 0) ⊎ HasSign is_there text signs (longest_at is_there signs text)
      → (longest_at is_there (first ∷ signs) text ≡ 0) ⊎ HasSign is_there text (first ∷ signs) (longest_at is_there (first ∷ signs) text)
  by-first first signs true true e f h =
      let long : (if is_there text first then length first else 0) ≡ length first = rw e refl in
      let least : longest_at is_there signs text ≤ length first = grind (arith, nat_tests) in
      inr (record { front = []; sign = first; back = signs; among = refl; there = e; is = omega (arith, long, least) })
  by-first first signs true false e f (inl none) = absurd (let never : nat_le (longest_at is_there signs text) (length first) ≡ false = f in grind (arith, nat_tests))
  by-first first signs true false e f (inr h) =
      let long : (if is_there text first then length first else 0) ≡ length first = rw e refl in
      let more : length first ≤ longest_at is_there signs text = grind (arith, nat_tests) in
      inr (later first signs (longest_at is_there signs text) (longest_at is_there (first ∷ signs) text) (omega (arith, long, more)) h)
  by-first first signs false less e f (inl none) =
      let long : (if is_there text first then length first else 0) ≡ 0 = rw e refl in
      inl (omega (arith, long, none))
  by-first first signs false less e f (inr h) =
      let long : (if is_there text first then length first else 0) ≡ 0 = rw e refl in
      inr (later first signs (longest_at is_there signs text) (longest_at is_there (first ∷ signs) text) (omega (arith, long)) h)

  has-longest : (signs : List (List ℕ)) → (longest_at is_there signs text ≡ 0) ⊎ HasSign is_there text signs (longest_at is_there signs text)
  has-longest [] = inl refl
  has-longest (first ∷ signs) =
      by-first first signs (is_there text first) (nat_le (longest_at is_there signs text) (length first)) refl refl (has-longest signs)

-- what is left is the text, or what stands behind one of the signs
pub one-behind : (signs : List (List ℕ)) (text : List ℕ) → (past_sign signs text ≡ text)
    ⊎ ((front : List (List ℕ)) × (sign : List ℕ) × (back : List (List ℕ)) × (signs ≡ front ++ sign ∷ back) × (behind sign text ≡ Some (past_sign signs text)))
one-behind signs text = go (has-longest (starts_with ◌==◌) text signs)
  where
    go : (longest_at (starts_with ◌==◌) signs text ≡ 0) ⊎ HasSign (starts_with ◌==◌) text signs (longest_at (starts_with ◌==◌) signs text)
        → (past_sign signs text ≡ text)
        ⊎ ((front : List (List ℕ)) × (sign : List ℕ) × (back : List (List ℕ)) × (signs ≡ front ++ sign ∷ back) × (behind sign text ≡ Some (past_sign signs text)))
    go (inl none) = inl (ap (λ (n : ℕ). drop n text) none)
    go (inr h) =
        let there = h.there in
        let long = h.is in
        inr (h.front, h.sign, h.back, h.among, rw (there, long) refl)

-- Rows take back what they should in one way, and no purchase twice.
use Rattle.std.specs.Prelude.{◌≡◌, ◌≢◌, ℕ, zero, suc, ◌<◌, ◌≤◌, ◌⊎◌, List, [], ◌∷◌, length, Option, Some, None}
use Rattle.std.specs.List.{slice_get}
use Rattle.std.proofs.Common.{arith, ap, inl, inr, refl, subst, sym, ◌∙◌}
use Rattle.std.proofs.lemmas.Bool.Decides.{eqb_tells}
use Rattle.lot_sequence.specs.Cancel.{IsLast, IsLastLeft, IsMatching, IsTaken, TakesAs, TakesBack, partner_at}
use Rattle.lot_sequence.specs.Matching.{EachIsTakenOnce, ThereIsOneMatching}
use Rattle.lot_sequence.specs.declared.cancel.Side.{Side}
use Rattle.lot_sequence.specs.declared.cancel.Side.TheVariants.{Buys, Cancels, Neither}
use Rattle.lot_sequence.specs.declared.cancel.Trade.{Trade}

some_at : {X : Type 0} (xs : List X) (place : ℕ) → place < length xs → (x : X) × (slice_get xs place ≡ Some x)
some_at [] place within = absurd (omega arith)
some_at (x ∷ xs) zero within = (x, refl)
some_at (x ∷ xs) (suc place) within = some_at xs place (omega arith)

one_list : (partners others : List (Option ℕ)) → length partners ≡ length others
    → ((place : ℕ) → place < length partners → partner_at partners place ≡ partner_at others place) → partners ≡ others
one_list [] [] long same = refl
one_list [] (o ∷ others) long same = absurd (omega arith)
one_list (p ∷ partners) [] long same = absurd (omega arith)
one_list (p ∷ partners) (o ∷ others) long same =
    let head : p ≡ o = same 0 (omega arith) in
    let tail : partners ≡ others = one_list partners others (omega arith) (λ place within. same (suc place) (omega arith)) in
    λ i. head i ∷ tail i

-- three ways for two numbers to stand
sides : (a b : ℕ) → (a < b) ⊎ ((a ≡ b) ⊎ (b < a))
sides zero zero = inr (inl refl)
sides zero (suc b) = inl (omega arith)
sides (suc a) zero = inr (inr (omega arith))
sides (suc a) (suc b) = elim (sides a b) [
  | inl below ↦ inl (omega arith)
  | inr more ↦ elim more [ inl same ↦ inr (inl (ap (λ n. suc n) same)) | inr above ↦ inr (inr (omega arith)) ]
]

abbrev AllTake : List Trade → ℕ → List (Option ℕ) → Type 0
AllTake rows count partners = (place : ℕ) (trade : Trade) → place < count → slice_get rows place ≡ Some trade → TakesBack rows partners place trade

abbrev Agree : List (Option ℕ) → List (Option ℕ) → ℕ → Type 0
Agree partners others count = (place : ℕ) → place < count → partner_at partners place ≡ partner_at others place

moved : (partners others : List (Option ℕ)) (count purchase : ℕ) → Agree partners others count → IsTaken partners count purchase → IsTaken others count purchase
moved partners others count purchase same (earlier, before, is) = (earlier, before, sym (same earlier before) ∙ is)

turned : (partners others : List (Option ℕ)) (count : ℕ) → Agree partners others count → Agree others partners count
turned partners others count same place within = sym (same place within)

-- two last ones are one
not_below : (rows : List Trade) (partners others : List (Option ℕ)) (count : ℕ) (trade : Trade) (p q : ℕ) → Agree partners others count
    → IsLast rows partners count trade p → IsLast rows others count trade q → p < q → ⊥
not_below rows partners others count trade p q same first second below =
    second.left (moved partners others count q same (first.last q below second.before second.may))

one_last : (rows : List Trade) (partners others : List (Option ℕ)) (count : ℕ) (trade : Trade) (p q : ℕ) → Agree partners others count
    → IsLast rows partners count trade p → IsLast rows others count trade q → p ≡ q
one_last rows partners others count trade p q same first second = elim (sides p q) [
  | inl below ↦ absurd (not_below rows partners others count trade p q same first second below)
  | inr more ↦ elim more [
    | inl is ↦ is
    | inr above ↦ absurd (not_below rows others partners count trade q p (turned partners others count same) second first above)
  ]
]

one_as : (rows : List Trade) (partners others : List (Option ℕ)) (count : ℕ) (trade : Trade) (p q : Option ℕ) → Agree partners others count
    → IsLastLeft rows partners count trade p → IsLastLeft rows others count trade q → p ≡ q
one_as rows partners others count trade None None same first second = refl
one_as rows partners others count trade None (Some q) same first second =
    absurd (second.left (moved partners others count q same (first q second.before second.may)))
one_as rows partners others count trade (Some p) None same first second =
    absurd (first.left (moved others partners count p (turned partners others count same) (second p first.before first.may)))
one_as rows partners others count trade (Some p) (Some q) same first second =
    ap (λ n. Some n) (one_last rows partners others count trade p q same first second)

one_side : (rows : List Trade) (partners others : List (Option ℕ)) (count : ℕ) (trade : Trade) (side : Side) → Agree partners others count
    → TakesAs rows partners count trade side → TakesAs rows others count trade side → partner_at partners count ≡ partner_at others count
one_side rows partners others count trade Buys same first second = first ∙ sym second
one_side rows partners others count trade Neither same first second = first ∙ sym second
one_side rows partners others count trade Cancels same first second =
    one_as rows partners others count trade (partner_at partners count) (partner_at others count) same first second

agree : (rows : List Trade) (partners others : List (Option ℕ)) (count : ℕ) → count ≤ length rows
    → AllTake rows count partners → AllTake rows count others → Agree partners others count
agree rows partners others zero within first second place below = absurd (omega arith)
agree rows partners others (suc count) within first second place below =
    let before : Agree partners others count = agree rows partners others count (omega arith)
    (λ other row ahead. first other row (omega arith)) (λ other row ahead. second other row (omega arith)) in
    elim (eqb_tells place count) [
      | inl same ↦
          let found = some_at rows count (omega arith) in
          let here : partner_at partners count ≡ partner_at others count =
          one_side rows partners others count found.0 found.0.side before (first count found.0 (omega arith) found.1) (second count found.0 (omega arith) found.1) in
          subst (λ (n : ℕ). partner_at partners n ≡ partner_at others n) (sym same.1) here
      | inr apart ↦ let ne : place ≢ count = apart.1 in before place (omega arith)
    ]

pub one_matching : ThereIsOneMatching
one_matching rows partners others first second =
    one_list partners others (first.each ∙ sym second.each)
    (λ place within. agree rows partners others (length rows) (omega arith) first.takes second.takes place (omega (arith, first.each)))

-- ---- No purchase is taken twice.

some_within : (partners : List (Option ℕ)) (place purchase : ℕ) → partner_at partners place ≡ Some purchase → place < length partners
some_within [] place purchase is = cc
some_within (p ∷ partners) zero purchase is = omega arith
some_within (p ∷ partners) (suc place) purchase is = let more = some_within partners place purchase is in omega (arith, more)

not_taken : (rows : List Trade) (partners : List (Option ℕ)) (place purchase : ℕ) (trade : Trade) (side : Side)
    → TakesAs rows partners place trade side → partner_at partners place ≡ Some purchase → IsTaken partners place purchase → ⊥
not_taken rows partners place purchase trade Buys takes is taken = cc
not_taken rows partners place purchase trade Neither takes is taken = cc
not_taken rows partners place purchase trade Cancels takes is taken =
    let last : IsLastLeft rows partners place trade (Some purchase) = subst (λ (p : Option ℕ). IsLastLeft rows partners place trade p) is takes in
    last.left taken

not_twice : (rows : List Trade) (partners : List (Option ℕ)) → IsMatching rows (length rows) partners → (first second purchase : ℕ)
    → partner_at partners first ≡ Some purchase → partner_at partners second ≡ Some purchase → first < second → ⊥
not_twice rows partners matching first second purchase one other before =
    let within : second < length rows = let inside = some_within partners second purchase other in omega (arith, inside, matching.each) in
    let found = some_at rows second within in
    not_taken rows partners second purchase found.0 found.0.side (matching.takes second found.0 within found.1) other (first, before, one)

pub taken_once : EachIsTakenOnce
taken_once rows partners matching first second purchase one other = elim (sides first second) [
  | inl before ↦ absurd (not_twice rows partners matching first second purchase one other before)
  | inr more ↦ elim more [ inl same ↦ same | inr behind ↦ absurd (not_twice rows partners matching second first purchase other one behind) ]
]

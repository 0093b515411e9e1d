-- The fields of a record and the names of columns, compared one after another.
use Rattle.std.proofs.Common.{◌≡◌, ◌≤◌, ◌<◌, ◌+◌, ℕ, Bool, true, false, List, [], length, map, get_or, Bor, refl, sym, ◌∙◌, ap, arith, below_more}
use Rattle.std.specs.Prelude.{not}
use Rattle.std.specs.Cmp.Lexicographic.{pointwise}
use Rattle.std.proofs.lemmas.List.{ext_get_or, get_or-map, length-map}
use Rattle.std.proofs.lemmas.Bool.Decides.{Decides-eqb}
use Rattle.std.proofs.lemmas.Slice.Eq.{slice_eq-Decides}
use Rattle.std.proofs.Math.Dec.{eqb}

-- the bytes of each
abbrev pub texts : List (Bor (List ℕ)) → List (List ℕ)
texts names = map (λ (name : Bor (List ℕ)). name.now) names

-- the name at a place
at_place : (names : List (Bor (List ℕ))) (i : ℕ) (d : Bor (List ℕ)) (name : List ℕ) → i < length names → name ≡ (get_or names i d).now
    → get_or (texts names) i [] ≡ name
at_place names i d name lt is = get_or-map (λ (x : Bor (List ℕ)). x.now) names i d [] lt ∙ sym is

same : (field name : List ℕ) (differs : Bool) → differs ≡ not (pointwise eqb field name) → differs ≡ false → field ≡ name
same field name differs e h =
    let is : pointwise eqb field name ≡ true = equal (pointwise eqb field name) (sym e ∙ h) in
    (slice_eq-Decides Decides-eqb field name (pointwise eqb field name) refl).0 is
  where
    equal : (b : Bool) → not b ≡ false → b ≡ true
    equal true h = refl
    equal false h = cc

other : (field name : List ℕ) (differs : Bool) → differs ≡ not (pointwise eqb field name) → differs ≡ true → field ≡ name → ⊥
other field name differs e h equal =
    let is : pointwise eqb field name ≡ true = (slice_eq-Decides Decides-eqb field name (pointwise eqb field name) refl).1 equal in
    none (pointwise eqb field name) (sym e ∙ h) is
  where
    none : (b : Bool) → not b ≡ true → b ≡ true → ⊥
    none true h k = cc
    none false h k = cc

-- one more field is the name at its place
pub one_more : (fields : List (List ℕ)) (names : List (Bor (List ℕ))) (i : ℕ) (d : Bor (List ℕ)) (field name : List ℕ) (differs : Bool)
    → i < length names → field ≡ get_or fields i [] → name ≡ (get_or names i d).now → differs ≡ not (pointwise eqb field name) → differs ≡ false
    → ((k : ℕ) → k < i → get_or fields k [] ≡ get_or (texts names) k [])
    → (k : ℕ) → k < i + 1 → get_or fields k [] ≡ get_or (texts names) k []
one_more fields names i d field name differs lt f n e h below =
    below_more (λ (k : ℕ). get_or fields k [] ≡ get_or (texts names) k []) i below
    (sym f ∙ same field name differs e h ∙ sym (at_place names i d name lt n))

-- a field that isn't the name at its place
pub other_fields : (fields : List (List ℕ)) (names : List (Bor (List ℕ))) (i : ℕ) (d : Bor (List ℕ)) (field name : List ℕ) (differs : Bool)
    → i < length names → field ≡ get_or fields i [] → name ≡ (get_or names i d).now → differs ≡ not (pointwise eqb field name) → differs ≡ true
    → fields ≡ texts names → ⊥
other_fields fields names i d field name differs lt f n e h all =
    other field name differs e h (f ∙ ap (λ (xs : List (List ℕ)). get_or xs i []) all ∙ at_place names i d name lt n)

-- each field is the name at its place
pub all_fields : (fields : List (List ℕ)) (names : List (Bor (List ℕ))) (i : ℕ) → length fields ≡ length names → length names ≤ i
    → ((k : ℕ) → k < i → get_or fields k [] ≡ get_or (texts names) k []) → fields ≡ texts names
all_fields fields names i long end below =
    ext_get_or [] fields (texts names) (long ∙ sym (length-map names (λ (x : Bor (List ℕ)). x.now)))
    (λ k h. below k (omega (arith, h, long, end)))

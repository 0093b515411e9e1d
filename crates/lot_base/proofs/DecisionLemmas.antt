-- What is decided: it holds, or it doesn't.
use Rattle.std.proofs.Common.{◌≡◌, ◌⊎◌, inl, inr, ℕ, Bool, true, false, List, Option, Some, None, refl}
use Rattle.std.specs.Prelude.{Result, Ok, Err}
use Rattle.std.specs.Cmp.Lexicographic.{bytes_decides}
use Rattle.std.proofs.lemmas.Bool.{false≢true}
use Rattle.std.proofs.lemmas.Option.{none-some}

abbrev pub Decided : Type 0 → Type 0
Decided P = P ⊎ (P → ⊥)

pub decided_by : (P Q : Type 0) → (P → Q) → (Q → P) → Decided P → Decided Q
decided_by P Q to from (inl p) = inl (to p)
decided_by P Q to from (inr none) = inr (λ q. none (from q))

-- ---- Whether there is a value.

pub ok_or_not : {X E : Type 0} (r : Result X E) → Decided ((x : X) × (r ≡ Ok x))
ok_or_not (Ok x) = inl (x, refl)
ok_or_not (Err e) = inr (λ (x, same). cc)

pub some_or_not : {X : Type 0} (o : Option X) → Decided ((x : X) × (o ≡ Some x))
some_or_not None = inr (λ (x, same). none-some x same)
some_or_not (Some x) = inl (x, refl)

-- ---- Tests and texts.

pub true_or_not : (b : Bool) → Decided (b ≡ true)
true_or_not true = inl refl
true_or_not false = inr false≢true

pub same_or_not : (a b : List ℕ) → Decided (a ≡ b)
same_or_not a b = decided_by _ (a ≡ b) (bytes_decides a b).0 (bytes_decides a b).1 (true_or_not _)

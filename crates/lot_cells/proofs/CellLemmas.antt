-- Of a gain that isn't below zero.
use Rattle.std.specs.Prelude.{◌==◌}
use Rattle.std.proofs.Common.{◌≡◌, ◌≢◌, ℕ, List, [], ◌∷◌, ap, refl, inl, inr}
use Rattle.std.proofs.lemmas.Bool.{cases_Bool, eqb-true}
use Rattle.lot_cells.specs.Cell.{gain_cell, number_cell}

pub not_below : (number : List ℕ) → ((rest : List ℕ) → number ≢ 45 ∷ rest) → gain_cell number ≡ number_cell number
not_below [] not = refl
not_below (byte ∷ rest) not = elim (cases_Bool (byte == 45)) [
  | inl is ↦ absurd (not rest (ap (λ (b : ℕ). b ∷ rest) (eqb-true byte 45 is)))
  | inr isnt ↦ rw (isnt) refl
]

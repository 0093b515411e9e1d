-- One more row with the name of its key, and none.
use Rattle.std.proofs.Common.{◌≡◌, ◌⊎◌, inl, inr, ℕ, List, [], ◌∷◌, ◌++◌, refl, sym, ap, ◌∙◌}
use Rattle.std.proofs.lemmas.List.{append-nil}
use Rattle.lot_sequence.specs.declared.row.Row.{Row as Line}
use Rattle.lot_export.specs.Named.{named_of}
use Rattle.lot_export.specs.declared.named.Named.{Named}

pub names_none : (lines : List Line) (names : List (List ℕ)) → (lines ≡ []) ⊎ (names ≡ []) → named_of lines names ≡ []
names_none [] names none = refl
names_none (line ∷ lines) [] none = refl
names_none (line ∷ lines) (name ∷ names) (inl none) = cc
names_none (line ∷ lines) (name ∷ names) (inr none) = cc

-- ---- The rows so far, and what is left.

pub record AreNamed (lines left : List Line) (names more : List (List ℕ)) (rows : List Named) : Type 0 where
  pub are : named_of lines names ≡ rows ++ named_of left more

pub names_all : (lines left : List Line) (names more : List (List ℕ)) (rows : List Named)
    → AreNamed lines left names more rows → (left ≡ []) ⊎ (more ≡ []) → rows ≡ named_of lines names
names_all lines left names more rows are none =
    sym (are.are ∙ ap (λ ns. rows ++ ns) (names_none left more none) ∙ append-nil rows)

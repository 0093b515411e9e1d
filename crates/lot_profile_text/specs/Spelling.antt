-- Texts that are made of parts, one behind another.
use Rattle.std.specs.Prelude.{ℕ, zero, suc, List, [], ◌∷◌, length, Option, None, Some, option_and_then, option_map}

-- the parts of a text of at most so many bytes, where a text begins with a part, and something stands behind it
abbrev pub parts_within : {T : Type 0} → (List ℕ → Option (T × List ℕ)) → ℕ → List ℕ → Option (List T)
parts_within first zero [] = Some []
parts_within first zero (b ∷ text) = None
parts_within first (suc n) [] = Some []
parts_within first (suc n) (b ∷ text) =
    option_and_then (λ read. option_map (λ parts. read.0 ∷ parts) (parts_within first n read.1)) (first (b ∷ text))

-- the parts of a text, each of a byte or more
abbrev pub parts_of : {T : Type 0} → (List ℕ → Option (T × List ℕ)) → List ℕ → Option (List T)
parts_of first text = parts_within first (length text) text

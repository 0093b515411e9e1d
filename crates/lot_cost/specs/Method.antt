-- The words of the methods.
use Rattle.std.specs.Prelude.{ℕ, List, [], ◌∷◌}
use Rattle.lot_cost.specs.declared.method.Method.{Method}
use Rattle.lot_cost.specs.declared.method.Method.TheVariants.{Strict, Fifo, Lifo, Hifo, Unmatched}

-- the word of a method, in bytes
abbrev pub word_of : Method → List ℕ
word_of Strict = 83 ∷ 84 ∷ 82 ∷ 73 ∷ 67 ∷ 84 ∷ []
word_of Fifo = 70 ∷ 73 ∷ 70 ∷ 79 ∷ []
word_of Lifo = 76 ∷ 73 ∷ 70 ∷ 79 ∷ []
word_of Hifo = 72 ∷ 73 ∷ 70 ∷ 79 ∷ []
word_of Unmatched = 78 ∷ 79 ∷ 78 ∷ 69 ∷ []

-- What is collected of the entries of a book, one after another, each on the entries before it.
use Rattle.std.specs.Prelude.{◌≡◌, List, [], ◌∷◌, ◌++◌}
use Rattle.lot_book.specs.Facts.{Entry}

-- what the entries behind those before them give, all of it in their order
abbrev pub Collects : {X : Type 0} → (List Entry → Entry → List X → Type 0) → List Entry → List Entry
    → List X → Type 0
Collects {X} Gives before [] all = all ≡ []
Collects {X} Gives before (entry ∷ entries) all =
    (first more : List X) × Gives before entry first × Collects Gives (before ++ entry ∷ []) entries more
    × (all ≡ first ++ more)

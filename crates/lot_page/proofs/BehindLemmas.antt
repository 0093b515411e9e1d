-- What a cursor says of the rows themselves, and not only of their columns.
use Rattle.std.proofs.Common.{◌≡◌, List, [], ◌∷◌, ◌++◌, map, refl, ap, ap₂, sym, ◌∙◌}
use Rattle.sqlite.specs.Order.{Row}
use Rattle.lot_page.specs.Cursor.{IsBehind, Place}

module _ {X : Type 0} (encode : X → Row) where
  split : (given others : List Row) (rows : List X) → given ++ others ≡ map encode rows → (first rest : List X) × (first ++ rest ≡ rows) × (map encode first ≡ given)
  split [] others rows is = ([], rows, refl, refl)
  split (g ∷ given) others [] is = absurd cc
  split (g ∷ given) others (row ∷ rows) is =
      let head : g ≡ encode row = cc in
      let tail : given ++ others ≡ map encode rows = cc in
      let s = split given others rows tail in
      (row ∷ s.0, s.1, ap (λ l. row ∷ l) s.2, ap₂ (λ x l. x ∷ l) (sym head) s.3)

  -- the rows given have the columns of the first rows of the table
  pub behind_splits : (given rows : List X) (place : Place) → IsBehind encode given rows place → (first rest : List X) × (first ++ rest ≡ rows) × (map encode first ≡ map encode given)
  behind_splits given rows place is = split (map encode given) is.others rows is.whole

  -- where the columns tell the row
  module _ (same : (x y : X) → encode x ≡ encode y → x ≡ y) where
    -- all rows are given
    pub all_rows : (given rows : List X) → map encode given ≡ map encode rows → given ≡ rows
    all_rows [] [] is = refl
    all_rows [] (row ∷ rows) is = absurd cc
    all_rows (g ∷ given) [] is = absurd cc
    all_rows (g ∷ given) (row ∷ rows) is =
        let head : encode g ≡ encode row = cc in
        let tail : map encode given ≡ map encode rows = cc in
        ap₂ (λ x l. x ∷ l) (same g row head) (all_rows given rows tail)

    -- the rows given are the first rows of the table
    pub behind_rows : (given rows : List X) (place : Place) → IsBehind encode given rows place → (rest : List X) × (given ++ rest ≡ rows)
    behind_rows given rows place is =
        let s = behind_splits given rows place is in (s.1, ap (λ l. l ++ s.1) (sym (all_rows s.0 given s.3)) ∙ s.2)

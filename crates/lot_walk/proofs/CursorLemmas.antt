-- What a cursor over a table tells of the rows that it hasn't given.
use Rattle.std.proofs.Common.{◌≡◌, ◌∙◌, ◌++◌, [], ◌∷◌, List, map, refl, sym, ap, subst}
use Rattle.std.specs.List.{AllByRecursion}
use Rattle.std.proofs.lemmas.List.{append-nil, append_assoc, map-append}
use Rattle.sqlite.specs.Order.{Row}
use Rattle.sqlite.specs.Tree.{IsAscending}
use Rattle.lot_page.specs.Cursor.{IsBehind, Place}

pub suffix_up : {X : Type 0} (R : X → X → Type 0) (xs ys all : List X) → xs ++ ys ≡ all → IsAscending R all → IsAscending R ys
suffix_up R [] ys all e up = subst (IsAscending R) (sym e) up
suffix_up R (x ∷ xs) ys [] e up = absurd cc
suffix_up R (x ∷ xs) ys (z ∷ all) e up = let more : xs ++ ys ≡ all = cc in suffix_up R xs ys all more up.1

all_unmapped : {X Y : Type 0} (P : Y → Type 0) (f : X → Y) (xs : List X) → AllByRecursion P (map f xs) → AllByRecursion (λ x. P (f x)) xs
all_unmapped P f [] all = tt
all_unmapped P f (x ∷ xs) all = (all.0, all_unmapped P f xs all.1)

pub unmapped_up : {X Y : Type 0} (R : Y → Y → Type 0) (f : X → Y) (xs : List X) → IsAscending R (map f xs) → IsAscending (λ a b. R (f a) (f b)) xs
unmapped_up R f [] up = tt
unmapped_up R f (x ∷ xs) up = (all_unmapped (R (f x)) f xs up.0, unmapped_up R f xs up.1)

cancelled : {X : Type 0} (xs ys zs : List X) → xs ++ ys ≡ xs ++ zs → ys ≡ zs
cancelled [] ys zs e = e
cancelled (x ∷ xs) ys zs e = let more : xs ++ ys ≡ xs ++ zs = cc in cancelled xs ys zs more

module _ {X : Type 0} (encode : X → Row) where
  first_of_map : (row : Row) (others : List Row) (left : List X) → row ∷ others ≡ map encode left
      → (x : X) × (rest : List X) × (left ≡ x ∷ rest) × (row ≡ encode x)
  first_of_map row others [] e = absurd cc
  first_of_map row others (x ∷ rest) e = let same : row ≡ encode x = cc in (x, rest, refl, same)

  -- where it gives a row, that is the next of those that were left, told by its columns
  pub next_left : (taken left rows : List X) (row : X) (place : Place) → taken ++ left ≡ rows → IsBehind encode (taken ++ row ∷ []) rows place
      → (x : X) × (rest : List X) × (left ≡ x ∷ rest) × (encode row ≡ encode x)
  next_left taken left rows row place e behind =
      let whole : map encode taken ++ (encode row ∷ behind.others) ≡ map encode taken ++ map encode left =
      sym (append_assoc (map encode taken) (encode row ∷ []) behind.others)
      ∙ ap (λ front. front ++ behind.others) (sym (map-append encode taken (row ∷ [])))
      ∙ behind.whole
      ∙ ap (map encode) (sym e)
      ∙ map-append encode taken left in
      first_of_map (encode row) behind.others left (cancelled (map encode taken) (encode row ∷ behind.others) (map encode left) whole)

  none_of_map : (left : List X) → [] ≡ map encode left → left ≡ []
  none_of_map [] e = refl
  none_of_map (x ∷ left) e = absurd cc

  -- where it gives none, none was left
  pub none_left : (taken left rows : List X) → taken ++ left ≡ rows → map encode taken ≡ map encode rows → left ≡ []
  none_left taken left rows e all =
      none_of_map left
      (cancelled (map encode taken) [] (map encode left)
      (append-nil (map encode taken) ∙ all ∙ ap (map encode) (sym e) ∙ map-append encode taken left))

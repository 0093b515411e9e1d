-- The first bad name of names that stand one after another.
use Rattle.std.proofs.Common.{◌≡◌, ℕ, ◌+◌, ◌<◌, List, [], ◌∷◌, ◌++◌, length, drop, get_or, Option, Some, None, refl, sym, ap, ◌∙◌}
use Rattle.std.specs.List.{flat_map}
use Rattle.std.specs.Option.{option_or}
use Rattle.lot_profile.specs.declared.file.Column.{Column}
use Rattle.lot_sheet.specs.Column.{column_name}
use Rattle.lot_sheet.specs.Part.{BadName, column_fault, first_bad, or_bad}
use Rattle.lot_sheet.specs.declared.fault.NameCause.{NameCause}
use Rattle.lot_sheet.proofs.ListLemmas.{drop_item}

or_more : (name : List ℕ) (o : Option NameCause) (a b : Option BadName) → or_bad name o (option_or a b) ≡ option_or (or_bad name o a) b
or_more name None a b = refl
or_more name (Some cause) a b = refl

module _ (optional header : List (List ℕ)) where
  pub first_append : (a b : List Column) → first_bad optional header (a ++ b) ≡ option_or (first_bad optional header a) (first_bad optional header b)
  first_append [] b = refl
  first_append (column ∷ a) b =
      ap (or_bad (column_name column) (column_fault optional header column)) (first_append a b)
      ∙ or_more (column_name column) (column_fault optional header column) (first_bad optional header a) (first_bad optional header b)

  -- the first of two lists has one, or none
  pub first_left : (a b : List Column) (bad : BadName) → Some bad ≡ first_bad optional header a → Some bad ≡ first_bad optional header (a ++ b)
  first_left a b bad e = sym (first_append a b ∙ ap (λ (o : Option BadName). option_or o (first_bad optional header b)) (sym e))

  pub first_right : (a b : List Column) (o : Option BadName) → None ≡ first_bad optional header a → o ≡ first_bad optional header b
      → o ≡ first_bad optional header (a ++ b)
  first_right a b o none e =
      sym (first_append a b ∙ ap (λ (p : Option BadName). option_or p (first_bad optional header b)) (sym none) ∙ sym e)

  module _ {X : Type 0} (f : X → List Column) (xs : List X) (i : ℕ) (all : Option BadName)
      (left : all ≡ first_bad optional header (flat_map f (drop i xs))) where
    step : (x : X) → i < length xs → x ≡ get_or xs i x
        → all ≡ option_or (first_bad optional header (f x)) (first_bad optional header (flat_map f (drop (i + 1) xs)))
    step x here is =
        left ∙ ap (λ (ys : List X). first_bad optional header (flat_map f ys)) (drop_item xs i x here is)
        ∙ first_append (f x) (flat_map f (drop (i + 1) xs))

    -- the next item has no bad name
    pub bad_more : (x : X) → i < length xs → x ≡ get_or xs i x → None ≡ first_bad optional header (f x)
        → all ≡ first_bad optional header (flat_map f (drop (i + 1) xs))
    bad_more x here is none =
        step x here is ∙ ap (λ (o : Option BadName). option_or o (first_bad optional header (flat_map f (drop (i + 1) xs)))) (sym none)

    -- the next item has the first one
    pub bad_here : (x : X) → i < length xs → x ≡ get_or xs i x → (bad : BadName) → Some bad ≡ first_bad optional header (f x) → Some bad ≡ all
    bad_here x here is bad some =
        sym (step x here is ∙ ap (λ (o : Option BadName). option_or o (first_bad optional header (flat_map f (drop (i + 1) xs)))) (sym some))

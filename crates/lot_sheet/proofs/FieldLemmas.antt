-- The field at a place.
use Rattle.std.proofs.Common.{◌≡◌, ℕ, zero, suc, List, [], ◌∷◌, Option, Some, None, get_or, refl}
use Rattle.std.proofs.lemmas.Option.{same_Some}
use Rattle.std.specs.List.{slice_get}
use Rattle.csv.specs.Records as csv
use Rattle.lot_field.specs.Field.{cut}
use Rattle.lot_sheet.specs.Column.{names_in}

pub found : (fields : List (List ℕ)) (i : ℕ) (f : List ℕ) → Some f ≡ csv.field_at fields i → f ≡ get_or fields i []
unfolding csv.field_at
found [] i f e = cc
found (x ∷ xs) zero f e = same_Some f x e
found (x ∷ xs) (suc i) f e = found xs i f e

pub not_found : (fields : List (List ℕ)) (i : ℕ) → ◌≡◌ {A = Option (List ℕ)} None (csv.field_at fields i) → ◌≡◌ {A = List ℕ} [] (get_or fields i [])
unfolding csv.field_at
not_found [] i e = refl
not_found (x ∷ xs) zero e = cc
not_found (x ∷ xs) (suc i) e = not_found xs i e

-- the field at a place, if there is one
pub there : (fields : List (List ℕ)) (i : ℕ) → csv.field_at fields i ≡ slice_get fields i
unfolding csv.field_at
there [] i = refl
there (x ∷ xs) zero = refl
there (x ∷ xs) (suc i) = there xs i

-- the name at a place
pub name_found : (fields : List (List ℕ)) (i : ℕ) → cut (get_or fields i []) ≡ get_or (names_in fields) i []
name_found [] i = refl
name_found (x ∷ xs) zero = refl
name_found (x ∷ xs) (suc i) = name_found xs i

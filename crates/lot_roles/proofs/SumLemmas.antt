-- The sum of parts, one added after another.
use Rattle.std.proofs.Common.{◌≡◌, ℕ, List, [], ◌∷◌, Option, Some, None, Ok, Err, refl, ap, ◌∙◌, sym, ℤ, pos, ◌+ℤ◌}
use Rattle.std.specs.Prelude.{unwrap_or}
use Rattle.std.proofs.Math.IntN.{+ℤ_assoc, +ℤ_idl, +ℤ_idr}
use Rattle.lot_field.specs.declared.numbers.NumberForm.{NumberForm}
use Rattle.lot_profile.specs.declared.role.Role.{Role}
use Rattle.lot_roles.specs.Numbers.{each_part, part_units, sum_of, total, total_of}
use Rattle.lot_roles.specs.Reading.{Read, ◌>>=◌}
use Rattle.lot_roles.specs.declared.numbers.Decimals.{Decimals}

-- what was added so far, if there was any part, and what the others say, or the first fault
abbrev pub sum_behind : NumberForm → Decimals → Role → Option ℤ → List (List ℕ) → Read (Option ℤ)
sum_behind form decimals role so_far [] = Ok so_far
sum_behind form decimals role so_far (part ∷ parts) =
    part_units form decimals role part >>= λ units. sum_behind form decimals role (Some (unwrap_or so_far (pos 0) +ℤ units)) parts

-- a sum behind what was added so far
abbrev onto : Option ℤ → List ℤ → Option ℤ
onto so_far [] = so_far
onto so_far (units ∷ others) = Some (unwrap_or so_far (pos 0) +ℤ sum_of (units ∷ others))

onto_more : (so_far : Option ℤ) (units : ℤ) (others : List ℤ) → onto (Some (unwrap_or so_far (pos 0) +ℤ units)) others ≡ onto so_far (units ∷ others)
onto_more so_far units [] = ap (λ (z : ℤ). Some (unwrap_or so_far (pos 0) +ℤ z)) (sym (+ℤ_idr units))
onto_more so_far units (v ∷ others) = ap (λ (z : ℤ). Some z) (+ℤ_assoc (unwrap_or so_far (pos 0)) units (v +ℤ sum_of others))

module _ (form : NumberForm) (decimals : Decimals) (role : Role) where
  with_others : (so_far : Option ℤ) (units : ℤ) (others : Read (List ℤ))
      → (others >>= λ all. Ok (onto (Some (unwrap_or so_far (pos 0) +ℤ units)) all))
      ≡ ((others >>= λ all. Ok (units ∷ all)) >>= λ all. Ok (onto so_far all))
  with_others so_far units (Ok others) = ap (λ (sum : Option ℤ). Ok sum) (onto_more so_far units others)
  with_others so_far units (Err fault) = refl

  with_part : (parts : List (List ℕ)) (so_far : Option ℤ) (said : Read ℤ)
      → ((before : Option ℤ) → sum_behind form decimals role before parts ≡ (each_part form decimals role parts >>= λ all. Ok (onto before all)))
      → (said >>= λ units. sum_behind form decimals role (Some (unwrap_or so_far (pos 0) +ℤ units)) parts)
      ≡ ((said >>= λ units. each_part form decimals role parts >>= λ others. Ok (units ∷ others)) >>= λ all. Ok (onto so_far all))
  with_part parts so_far (Ok units) others =
      others (Some (unwrap_or so_far (pos 0) +ℤ units)) ∙ with_others so_far units (each_part form decimals role parts)
  with_part parts so_far (Err fault) others = refl

  behind_is : (parts : List (List ℕ)) (so_far : Option ℤ)
      → sum_behind form decimals role so_far parts ≡ (each_part form decimals role parts >>= λ all. Ok (onto so_far all))
  behind_is [] so_far = refl
  behind_is (part ∷ parts) so_far = with_part parts so_far (part_units form decimals role part) (λ before. behind_is parts before)

onto_none : (all : List ℤ) → onto None all ≡ total all
onto_none [] = refl
onto_none (units ∷ others) = ap (λ (z : ℤ). Some z) (+ℤ_idl (units +ℤ sum_of others))

whole : (said : Read (List ℤ)) → (said >>= λ all. Ok (onto None all)) ≡ (said >>= λ all. Ok (total all))
whole (Ok all) = ap (λ (sum : Option ℤ). Ok sum) (onto_none all)
whole (Err fault) = refl

-- all parts are added behind nothing
pub behind_nothing : (form : NumberForm) (decimals : Decimals) (role : Role) (parts : List (List ℕ))
    → total_of form decimals role parts ≡ sum_behind form decimals role None parts
unfolding total_of
behind_nothing form decimals role parts = sym (behind_is form decimals role parts None ∙ whole (each_part form decimals role parts))

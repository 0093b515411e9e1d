-- The header by its two fields.
use Rattle.std.specs.Prelude.{◌≡◌, ◌==◌, ◌&&◌, ℕ, Bool, true, false, List, [], ◌∷◌, length, codes}
use Rattle.std.proofs.Common.{arith, refl, sym, ap, ◌∙◌}
use Rattle.std.proofs.lemmas.Bool.{eqb-true, true≢false}
use Rattle.lot_base.specs.Text.{same_text}
use Rattle.lot_base.proofs.TextLemmas.{one_text}
use Rattle.lot_statement.specs.Line.{columns, is_header}

first_true : (a b : Bool) → (a && b) ≡ true → a ≡ true
first_true true b e = refl
first_true false b e = e

rest_true : (a b : Bool) → (a && b) ≡ true → b ≡ true
rest_true true b e = e
rest_true false b e = absurd (true≢false (sym e))

longer : (a b c : List ℕ) (more : List (List ℕ)) → length (a ∷ b ∷ c ∷ more) ≡ 2 → ⊥
longer a b c more e = omega (arith, e)

pub header_is : (written : List (List ℕ)) → is_header written ≡ true → written ≡ columns
header_is [] e = absurd (true≢false (sym e))
header_is (a ∷ []) e = absurd (true≢false (sym e))
header_is (a ∷ b ∷ c ∷ more) e =
    let counted = length (a ∷ b ∷ c ∷ more) == 2 in
    let named = same_text a (codes "commodity") in
    let both = first_true (counted && named) (same_text b (codes "units")) e in
    absurd (longer a b c more (eqb-true (length (a ∷ b ∷ c ∷ more)) 2 (first_true counted named both)))
header_is (a ∷ b ∷ []) e =
    let first = one_text a (codes "commodity") (first_true (same_text a (codes "commodity")) (same_text b (codes "units")) e) in
    let second = one_text b (codes "units") (rest_true (same_text a (codes "commodity")) (same_text b (codes "units")) e) in
    λ i. first i ∷ second i ∷ []

pub no_header : (written : List (List ℕ)) → is_header written ≡ false → written ≡ columns → ⊥
no_header written other is = true≢false (ap is_header (sym is) ∙ other)

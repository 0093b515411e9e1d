-- A text that begins with neither sign is its own unsigned part.
use Rattle.std.proofs.Common.{◌≡◌, ◌≢◌, ℕ, List, [], ◌∷◌, refl, ap, arith}
use Rattle.std.proofs.lemmas.Bool.Decides.{nat_tests}
use Rattle.lot_num.specs.declared.number_text.Sign.TheVariants.{Plus}
use Rattle.lot_num.specs.NumberText.{sign_of, unsigned}

no_prefix : (c b : ℕ) (rest : List ℕ) → ((others : List ℕ) → (b ∷ rest) ≢ (c ∷ others)) → b ≢ c
no_prefix c b rest none same = none rest (ap (λ x. x ∷ rest) same)

pub sign_of-none : (text : List ℕ) → ((rest : List ℕ) → text ≢ (45 ∷ rest)) → Plus ≡ sign_of text
sign_of-none [] minus = refl
sign_of-none (b ∷ rest) minus =
    let other : b ≢ 45 = no_prefix 45 b rest minus in
    grind (arith, nat_tests)

pub unsigned-none : (text : List ℕ) → ((rest : List ℕ) → text ≢ (45 ∷ rest)) → ((rest : List ℕ) → text ≢ (43 ∷ rest)) → text ≡ unsigned text
unsigned-none [] minus plus = refl
unsigned-none (b ∷ rest) minus plus =
    let other : b ≢ 45 = no_prefix 45 b rest minus in
    let another : b ≢ 43 = no_prefix 43 b rest plus in
    grind (arith, nat_tests)

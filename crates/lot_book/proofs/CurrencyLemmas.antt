-- Lists of currencies.
use Rattle.std.specs.Prelude.{ℕ, not, List, map, filter, ℤ}
use Rattle.lot_base.specs.Text.{same_text}

-- the other currencies
abbrev pub without : List ℕ → List (List ℕ) → List (List ℕ)
without currency currencies = filter (λ other. not (same_text currency other)) currencies

-- currencies, each beside its number
abbrev pub beside : (List ℕ → ℤ) → List (List ℕ) → List (List ℕ × ℤ)
beside f currencies = map (λ (currency : List ℕ). (currency, f currency)) currencies

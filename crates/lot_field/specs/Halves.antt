-- Which way the decimals behind the eighth round a mantissa, for the code alone.
use Rattle.std.specs.Prelude.{◌≡◌, ℕ, ◌*◌, ◌%◌, ◌≤◌, Bool, ◌==◌, List}
use Rattle.std.specs.List.{list_all}

-- what is left of so many parts of a unit is at least half of them; at exactly half the mantissa is odd
pub record RoundsUp (mantissa left parts : ℕ) : Type 0 where
  pub half : parts ≤ 2 * left
  pub odd : 2 * left ≡ parts → mantissa % 2 ≡ 1

-- it is at most half of them; at exactly half the mantissa is even
pub record RoundsDown (mantissa left parts : ℕ) : Type 0 where
  pub half : 2 * left ≤ parts
  pub even : 2 * left ≡ parts → mantissa % 2 ≡ 0

abbrev pub are_zeros : List ℕ → Bool
are_zeros text = list_all (λ byte. byte == 48) text

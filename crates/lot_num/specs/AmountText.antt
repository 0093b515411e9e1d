-- How an amount is printed (docs/RULES.md, Number text): the shortest number text that says it, or the
-- shortest with at least two decimals, as money is written.
use Rattle.std.specs.Prelude.{ℕ, ◌-◌, ◌/◌, ◌%◌, ◌^◌, ◌==◌, ◌&&◌, nat_lt, if◌then◌else◌, List, [], ◌∷◌, ◌++◌, length, replicate, ℤ, pos, negsuc, zero, suc}
use Rattle.std.specs.Fmt.{decimal}

-- so many digits or more, with zeros before the number
abbrev pub zero_padded : ℕ → ℕ → List ℕ
zero_padded places n = replicate (places - length (decimal n)) 48 ++ decimal n

-- exactly the decimals of a fraction of so many places
abbrev pub all_decimals : ℕ → ℕ → List ℕ
all_decimals zero n = []
all_decimals (suc k) n = zero_padded (suc k) n

-- the same without the zeros at their end, but never fewer than `least`
unfoldable pub shown_decimals : ℕ → ℕ → ℕ → List ℕ
shown_decimals least zero n = []
shown_decimals least (suc k) n = if nat_lt least (suc k) && n % 10 == 0 then shown_decimals least k (n / 10) else all_decimals (suc k) n

-- no point where there are no decimals
abbrev pub point_and : List ℕ → List ℕ
point_and [] = []
point_and (d ∷ ds) = 46 ∷ d ∷ ds

-- a magnitude at a scale of so many decimals
abbrev pub magnitude_text : ℕ → ℕ → ℕ → List ℕ
magnitude_text least scale n = decimal (n / 10 ^ scale) ++ point_and (shown_decimals least scale (n % 10 ^ scale))

-- a mantissa at that scale
unfoldable pub amount_text : ℕ → ℕ → ℤ → List ℕ
amount_text least scale (pos n) = magnitude_text least scale n
amount_text least scale (negsuc n) = 45 ∷ magnitude_text least scale (suc n)

-- The numbers at which a run may start (docs/RULES.md, Limits).
use Rattle.std.specs.Prelude.{ℕ, ◌≤◌, ◌&&◌, Bool, if◌then◌else◌, nat_le}

abbrev pub greatest_start : ℕ
greatest_start = 10000000

-- a run may start at the number
abbrev pub IsStart : ℕ → Type 0
IsStart number = (1 ≤ number) × (number ≤ greatest_start)

-- whether it may
abbrev pub is_start : ℕ → Bool
is_start number = nat_le 1 number && nat_le number greatest_start

-- the number itself where a run may start at it, and else 1
abbrev pub start_at : ℕ → ℕ
start_at number = if is_start number then number else 1

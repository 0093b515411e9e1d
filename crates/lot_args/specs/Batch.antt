-- The names of batches (docs/RULES.md, Limits).
use Rattle.std.specs.Prelude.{ℕ, Bool, ◌&&◌, ◌||◌, ◌==◌, nat_le, List, length}
use Rattle.std.specs.Char.{is_ascii_alphanumeric}
use Rattle.std.specs.List.{list_all}

-- the longest, in bytes
abbrev pub longest_batch : ℕ
longest_batch = 32

-- whether this may stand in one: a letter, a digit, or one of . _ -
abbrev pub is_batch_byte : ℕ → Bool
is_batch_byte b = is_ascii_alphanumeric b || ((b == 46) || (b == 95) || (b == 45))

-- whether the text is the name of a batch
abbrev pub is_batch : List ℕ → Bool
is_batch text = nat_le 1 (length text) && nat_le (length text) longest_batch && list_all is_batch_byte text

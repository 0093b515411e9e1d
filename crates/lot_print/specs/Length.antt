-- How long the lines of canonical texts are, in bytes.
use Rattle.std.specs.Prelude.{ℕ, ◌+◌, ◌*◌}
use Rattle.lot_base.specs.Name.{longest_note}

-- the longest line: a day, a flag, and a payee and a narration of the most quotes, each with a backslash before it
abbrev pub longest_printed : ℕ
longest_printed = 4 * longest_note + 18

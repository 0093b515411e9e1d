-- Fields as texts: the blanks at their ends, and what they begin and end with (docs/FORMATS.md, Profiles).
use Rattle.std.specs.Prelude.{ℕ, ◌-◌, Bool, ◌==◌, ◌&&◌, ◌||◌, if◌then◌else◌, List, [], ◌∷◌, length, take, drop, Option, Some, None}
use Rattle.std.specs.List.{ends_with, list_all, starts_with}

-- ---- Blanks.

-- a blank is a space or a tab
abbrev pub is_blank : ℕ → Bool
is_blank byte = (byte == 32) || (byte == 9)

-- a text without the blanks at its start
abbrev pub without_leading : List ℕ → List ℕ
without_leading [] = []
without_leading (byte ∷ rest) = if is_blank byte then without_leading rest else byte ∷ rest

-- a text without the blanks at its end
abbrev pub without_trailing : List ℕ → List ℕ
without_trailing [] = []
without_trailing (byte ∷ rest) = if is_blank byte && list_all is_blank rest then [] else byte ∷ without_trailing rest

-- a text without the blanks at both ends
abbrev pub cut : List ℕ → List ℕ
cut text = without_trailing (without_leading text)

-- ---- Beginnings and ends.

-- what stands behind a beginning of a text, where the text begins so
abbrev pub behind : List ℕ → List ℕ → Option (List ℕ)
behind beginning text = if starts_with ◌==◌ text beginning then Some (drop (length beginning) text) else None

-- what stands before an end of a text, where the text ends so
abbrev pub before : List ℕ → List ℕ → Option (List ℕ)
before end text = if ends_with ◌==◌ text end then Some (take (length text - length end) text) else None

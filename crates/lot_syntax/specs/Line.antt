-- The lines of a text, without their line ends (docs/FORMATS.md, Lines).
use Rattle.std.specs.Prelude.{◌≡◌, ◌≢◌, ◌⊎◌, ℕ, ◌==◌, ◌&&◌, Bool, not, IsTrue, if◌then◌else◌, List, [], ◌∷◌, ◌++◌, map}
use Rattle.std.specs.List.{list_all, onto_first}

-- ---- What is so.

abbrev pub is_within_line : ℕ → Bool
is_within_line b = not (b == 10)

-- a line that LF may end
abbrev pub IsLine : List ℕ → Type 0
IsLine line = IsTrue (list_all is_within_line line)

-- each line ends with LF, which the last one may go without if it isn't empty
abbrev pub AreEnded : List (List ℕ) → List ℕ → Type 0
AreEnded [] text = text ≡ []
AreEnded (line ∷ []) text = IsLine line × ((text ≡ line ++ 10 ∷ []) ⊎ ((text ≡ line) × (line ≢ [])))
AreEnded (line ∷ next ∷ lines) text =
    IsLine line × (rest : List ℕ) × AreEnded (next ∷ lines) rest × (text ≡ line ++ 10 ∷ rest)

-- one CR at the end of a line belongs to the line end
abbrev pub without_return : List ℕ → List ℕ
without_return [] = []
without_return (b ∷ []) = if b == 13 then [] else b ∷ []
without_return (b ∷ c ∷ line) = b ∷ without_return (c ∷ line)

-- a byte order mark at the very start isn't part of the first line
abbrev pub without_mark : List ℕ → List ℕ
without_mark (a ∷ b ∷ c ∷ text) =
    if (a == 239) && ((b == 187) && (c == 191)) then text else a ∷ b ∷ c ∷ text
without_mark text = text

-- the lines of a text, without their line ends
abbrev pub AreLines : List (List ℕ) → List ℕ → Type 0
AreLines lines text = (ended : List (List ℕ)) × AreEnded ended (without_mark text) × (lines ≡ map without_return ended)

-- ---- How the lines are cut from the beginning on.

unfoldable pub ended_lines : List ℕ → List (List ℕ)
ended_lines [] = []
ended_lines (b ∷ text) = if b == 10 then [] ∷ ended_lines text else onto_first b (ended_lines text)

abbrev pub lines_of : List ℕ → List (List ℕ)
lines_of text = map without_return (ended_lines text)

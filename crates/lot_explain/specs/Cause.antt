-- What stands behind what is said of a fault.
use Rattle.std.specs.Prelude.{◌||◌, if◌then◌else◌, [], List, ℕ, Option, Some, None, codes}
use Rattle.std.specs.Str.{bytes_eq}

-- what is known of a fault with that code: where the disk refused, before a commit or in one, why; where the book is damaged, what helps
abbrev pub known_of : List ℕ → Option (List ℕ) → Option (List ℕ) → Option (List ℕ)
known_of code cause help =
    if bytes_eq code (codes "S4") || bytes_eq code (codes "S5") then cause
    else (if bytes_eq code (codes "S7") then help else None)

-- a colon and that, where something is known
abbrev pub behind : Option (List ℕ) → List ℕ × List ℕ
behind (Some known) = (codes ": ", known)
behind None = ([], [])

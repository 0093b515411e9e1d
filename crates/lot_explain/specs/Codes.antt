-- Which of the codes, and of the causes of faulty rows, a word names.
use Rattle.std.specs.Prelude.{ℕ, ◌||◌, Bool, List, map}
use Rattle.std.specs.Char.{to_ascii_lowercase}
use Rattle.std.specs.List.{list_any}
use Rattle.std.specs.Str.{bytes_eq}
use denote.Ref.{Bor}
use Rattle.lot_explain.specs.declared.causes.Cause.{Cause}
use Rattle.lot_explain.specs.declared.codes.Code.{Code}

-- the same text, but for the case of ASCII letters
abbrev pub is_same_word : List ℕ → List ℕ → Bool
is_same_word a b = bytes_eq (map to_ascii_lowercase a) (map to_ascii_lowercase b)

-- the word is the code or its name
abbrev pub is_named : List ℕ → Code → Bool
is_named word code = is_same_word code.code.now word || is_same_word code.name.now word

-- the word names some code of the tables
abbrev pub some_named : List ℕ → List (Bor (List Code)) → Bool
some_named word tables = list_any (λ (table : Bor (List Code)). list_any (is_named word) table.now) tables

-- the word is the name of the cause
abbrev pub is_cause : List ℕ → Cause → Bool
is_cause word cause = is_same_word cause.name.now word

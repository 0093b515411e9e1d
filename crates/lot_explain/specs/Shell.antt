-- How a text is written for a POSIX shell (docs/FORMATS.md, Faults), and what the shell reads of it by its rules of quoting.
use Rattle.std.specs.Prelude.{ℕ, Bool, not, ◌&&◌, ◌||◌, ◌==◌, if◌then◌else◌, nat_lt, List, [], ◌∷◌, ◌++◌, length, Option, Some, None, codes, option_map, slice_index_or}
use Rattle.std.specs.Char.{is_ascii_alphanumeric}
use Rattle.std.specs.List.{flat_map, list_all}

-- whether the byte means no more than itself to a shell, wherever it stands in a word: a letter, a digit, or one of - . / _
abbrev pub is_plain_byte : ℕ → Bool
is_plain_byte b = is_ascii_alphanumeric b || ((b == 45) || (b == 46) || (b == 47) || (b == 95))

-- whether the text is a word as it is
abbrev pub is_plain : List ℕ → Bool
is_plain text = not (length text == 0) && list_all is_plain_byte text

-- ---- reading

-- where a shell is in a word
pub data InputPlace : Type 0 where
  outside : InputPlace
  in_quotes : InputPlace
  behind_backslash : InputPlace

-- what it reads of the rest of a word of plain bytes, of text in single quotes, in which each byte stands for itself, and of
-- quotes behind a backslash; nothing of another
abbrev pub rest_of : InputPlace → List ℕ → Option (List ℕ)
rest_of outside [] = Some []
rest_of in_quotes [] = None
rest_of behind_backslash [] = None
rest_of outside (b ∷ bs) =
    if b == 39 then rest_of in_quotes bs
    else (if b == 92 then rest_of behind_backslash bs
    else (if is_plain_byte b then option_map (λ word. b ∷ word) (rest_of outside bs) else None))
rest_of in_quotes (b ∷ bs) = if b == 39 then rest_of outside bs else option_map (λ word. b ∷ word) (rest_of in_quotes bs)
rest_of behind_backslash (b ∷ bs) = if b == 39 then option_map (λ word. b ∷ word) (rest_of outside bs) else None

-- the word that it reads: there is none without a byte
abbrev pub word_of : List ℕ → Option (List ℕ)
word_of [] = None
word_of (b ∷ bs) = rest_of outside (b ∷ bs)

-- ---- writing

-- the byte in single quotes: a quote ends them, stands behind a backslash, and begins them anew
abbrev pub in_single_quotes : ℕ → List ℕ
in_single_quotes b = if b == 39 then codes "'\\''" else b ∷ []

-- the text as it is written for a shell
abbrev pub quoted : List ℕ → List ℕ
quoted text = if is_plain text then text else (39 ∷ flat_map in_single_quotes text) ++ 39 ∷ []

-- an option with a value: behind a space a value that begins with a dash would be an option
abbrev pub long_option : List ℕ → List ℕ → List ℕ
long_option name value =
    if slice_index_or value 0 0 == 45
    then codes "--" ++ (name ++ (codes "=" ++ quoted value))
    else codes "--" ++ (name ++ (codes " " ++ quoted value))

-- ---- showing

-- whether a terminal shows the byte: it is no control character, or a line end
abbrev pub is_shown_byte : ℕ → Bool
is_shown_byte b = not (nat_lt b 32 || (b == 127)) || (b == 10)

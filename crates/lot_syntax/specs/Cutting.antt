-- How a line is cut from its beginning on. That this gives the tokens of the line, both ways, is proved in
-- proofs/TokenLemmas.antt and proofs/CutLemmas.antt.
use Rattle.std.specs.Prelude.{◌⊎◌, IsTrue, ℕ, zero, suc, ◌+◌, ◌==◌, ◌&&◌, ◌||◌, Bool, if◌then◌else◌, List, [], ◌∷◌, ◌++◌, length, map, take, drop, Option, Some, None, option_map}
use Rattle.std.specs.Char.{is_ascii_digit}
use Rattle.lot_base.specs.Name.{is_note_byte}
use Rattle.lot_base.specs.Day.{is_separator}
use Rattle.lot_syntax.specs.declared.token.Mark.{Mark}
use Rattle.lot_syntax.specs.declared.token.Mark.TheVariants as Marks
use Rattle.lot_syntax.specs.declared.token.Token.{Token}
use Rattle.lot_syntax.specs.declared.token.Token.TheVariants as Tokens
use denote.Ref.{Bor}
use Rattle.lot_syntax.specs.Token.{Lexeme, word, number, date, text, mark, is_blank, is_sign, is_word_start, is_word_byte, begins, begins_comma_digit}

-- what a token of the program stands for
abbrev pub lexeme_of : Token → Lexeme
lexeme_of (Tokens.Word bytes) = word bytes.now
lexeme_of (Tokens.Number bytes) = number bytes.now
lexeme_of (Tokens.Date bytes) = date bytes.now
lexeme_of (Tokens.Text bytes) = text bytes.now
lexeme_of (Tokens.Mark m) = mark m

-- and what stands behind it
abbrev pub seen : Token × Bor (List ℕ) → Lexeme × List ℕ
seen found = (lexeme_of found.0, found.1.now)

-- ---- Lengths of tokens at the front of a text.

-- how many bytes from the front on pass the test
unfoldable pub run : (ℕ → Bool) → List ℕ → ℕ
run passes [] = 0
run passes (b ∷ rest) = if passes b then suc (run passes rest) else 0

-- a digit, or a comma directly before a digit
abbrev pub goes_on : List ℕ → Bool
goes_on rest = begins is_ascii_digit rest || begins_comma_digit rest

-- the whole part of a number
unfoldable pub whole_len : List ℕ → ℕ
whole_len [] = 0
whole_len (b ∷ rest) = if goes_on (b ∷ rest) then suc (whole_len rest) else 0

-- a point and the digits after it
unfoldable pub fraction_len : List ℕ → ℕ
fraction_len [] = 0
fraction_len (b ∷ rest) = if b == 46 then suc (run is_ascii_digit rest) else 0

-- a number without its sign
abbrev pub digits_len : List ℕ → ℕ
digits_len bytes = whole_len bytes + fraction_len (drop (whole_len bytes) bytes)

-- what a number begins with: a digit, or a sign directly before one
abbrev pub BeginsNumber : List ℕ → Type 0
BeginsNumber [] = ⊥
BeginsNumber (b ∷ rest) = IsTrue (is_ascii_digit b) ⊎ (IsTrue (is_sign b) × IsTrue (begins is_ascii_digit rest))

unfoldable pub number_len : List ℕ → ℕ
number_len [] = 0
number_len (b ∷ rest) = if is_sign b then suc (digits_len rest) else digits_len (b ∷ rest)

-- one digit or two
unfoldable pub day_len : List ℕ → Option ℕ
day_len [] = None
day_len (a ∷ rest) =
    if is_ascii_digit a then (if begins is_ascii_digit rest then Some 2 else Some 1) else None

-- one digit or two, a separator, one digit or two
abbrev pub month_len : List ℕ → Option ℕ
month_len (a ∷ b ∷ c ∷ rest) =
    if is_ascii_digit a && is_separator b then option_map (λ n. suc (suc n)) (day_len (c ∷ rest))
    else (if (is_ascii_digit a && is_ascii_digit b) && is_separator c then option_map (λ n. suc (suc (suc n))) (day_len rest)
    else None)
month_len _ = None

-- a date
abbrev pub date_len : List ℕ → Option ℕ
date_len (a ∷ b ∷ c ∷ d ∷ s ∷ rest) =
    if ((is_ascii_digit a && is_ascii_digit b) && (is_ascii_digit c && is_ascii_digit d)) && is_separator s
    then option_map (λ n. suc (suc (suc (suc (suc n))))) (month_len rest)
    else None
date_len _ = None

-- a quote or a backslash
abbrev pub is_escape : ℕ → Bool
is_escape b = (b == 34) || (b == 92)

-- a backslash with what it stands before, or another byte of a text
abbrev pub unit_len : List ℕ → Option ℕ
unit_len [] = None
unit_len (b ∷ rest) =
    if b == 92 then (if begins is_escape rest then Some 2 else None)
    else (if is_note_byte b then Some 1 else None)

-- what stands before the quote that ends a text
unfoldable pub within_len : List ℕ → Option ℕ
within_len [] = None
within_len (b ∷ []) = if b == 34 then Some 0 else None
within_len (b ∷ c ∷ rest) =
    if b == 34 then Some 0
    else (if b == 92 then (if is_escape c then option_map (λ n. suc (suc n)) (within_len rest) else None)
    else (if is_note_byte b then option_map suc (within_len (c ∷ rest)) else None))

-- ---- The token at the front of a text, and what stands behind it.

abbrev pub word_at : List ℕ → Lexeme × List ℕ
word_at bytes = (word (take (run is_word_byte bytes) bytes), drop (run is_word_byte bytes) bytes)

abbrev pub number_at : List ℕ → Lexeme × List ℕ
number_at bytes = (number (take (number_len bytes) bytes), drop (number_len bytes) bytes)

abbrev pub date_or_number : List ℕ → Option ℕ → Lexeme × List ℕ
date_or_number bytes (Some n) = (date (take n bytes), drop n bytes)
date_or_number bytes None = number_at bytes

-- behind the first quote
abbrev pub text_by : List ℕ → Option ℕ → Option (Lexeme × List ℕ)
text_by rest None = None
text_by rest (Some n) = Some (text (take n rest), drop (suc n) rest)

-- a mark of one byte, or one of two where the same byte stands twice
abbrev pub mark_by : Mark → Mark → List ℕ → Lexeme × List ℕ
mark_by single twice [] = (mark single, [])
mark_by single twice (b ∷ []) = (mark single, [])
mark_by single twice (b ∷ c ∷ rest) = if b == c then (mark twice, rest) else (mark single, c ∷ rest)

unfoldable pub token_at : List ℕ → Option (Lexeme × List ℕ)
token_at [] = None
token_at (b ∷ rest) =
    if b == 34 then text_by rest (within_len rest)
    else (if b == 123 then Some (mark_by Marks.Open Marks.OpenOpen (b ∷ rest))
    else (if b == 125 then Some (mark_by Marks.Close Marks.CloseClose (b ∷ rest))
    else (if b == 64 then Some (mark_by Marks.At Marks.AtAt (b ∷ rest))
    else (if b == 44 then Some (mark Marks.Comma, rest)
    else (if b == 42 then Some (mark Marks.Star, rest)
    else (if b == 33 then Some (mark Marks.Exclamation, rest)
    else (if is_ascii_digit b then Some (date_or_number (b ∷ rest) (date_len (b ∷ rest)))
    else (if is_sign b && begins is_ascii_digit rest then Some (number_at (b ∷ rest))
    else (if is_word_start b then Some (word_at (b ∷ rest))
    else None)))))))))

-- ---- The tokens of a line.

-- the end of a line, or the token at the front, behind which there are no blanks
abbrev pub next_in : List ℕ → Option (Option (Lexeme × List ℕ))
next_in [] = Some None
next_in (b ∷ rest) = if b == 59 then Some None else option_map Some (token_at (b ∷ rest))

unfoldable pub next_of : List ℕ → Option (Option (Lexeme × List ℕ))
next_of line = next_in (drop (run is_blank line) line)

-- the tokens of a line that has at most so many
abbrev pub cut_on : (List ℕ → Option (List Lexeme)) → Option (Option (Lexeme × List ℕ)) → Option (List Lexeme)
cut_on more None = None
cut_on more (Some None) = Some []
cut_on more (Some (Some next)) = option_map (λ tokens. next.0 ∷ tokens) (more next.1)

unfoldable pub cut_within : ℕ → List ℕ → Option (List Lexeme)
cut_within zero line = cut_on (λ rest. None) (next_of line)
cut_within (suc n) line = cut_on (λ rest. cut_within n rest) (next_of line)

-- the tokens of a line, where it can be cut
unfoldable pub cut_of : List ℕ → Option (List Lexeme)
cut_of line = cut_within (length line) line

-- the same, and none where it can't
abbrev pub given : Option (List Lexeme) → List Lexeme
given None = []
given (Some tokens) = tokens

-- tokens that are cut, and those that stand behind them
abbrev pub cut_behind : List Token → List ℕ → List Lexeme
cut_behind first rest = map lexeme_of first ++ given (cut_of rest)

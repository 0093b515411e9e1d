-- The tokens of a line (docs/FORMATS.md, Tokens): which bytes a token has, where it stands, and which tokens a line has. Words
-- and their bytes are after Beancount, Language Syntax; the exact form is this project's own.
use Rattle.std.specs.Prelude.{◌≡◌, ◌⊎◌, ◌≤◌, ℕ, ◌==◌, ◌&&◌, ◌||◌, nat_le, Bool, false, IsTrue, IsFalse, List, [], ◌∷◌, ◌++◌, length}
use Rattle.std.specs.List.{list_all}
use Rattle.std.specs.Char.{is_ascii_digit, is_ascii_alphabetic, is_ascii_alphanumeric}
use Rattle.lot_base.specs.Name.{is_note_byte}
use Rattle.lot_base.specs.Day.{is_separator}
use Rattle.lot_command.specs.Canonical.{escaped}
use Rattle.lot_syntax.specs.declared.token.Mark.{Mark}
use Rattle.lot_syntax.specs.declared.token.Mark.TheVariants as Marks

-- a token, with the bytes that tell it from others of its kind
pub data Lexeme : Type 0 where
  word : List ℕ → Lexeme
  number : List ℕ → Lexeme
  date : List ℕ → Lexeme
  -- what stands between the quotes
  text : List ℕ → Lexeme
  mark : Mark → Lexeme

-- ---- Bytes.

-- a space or a tab
abbrev pub is_blank : ℕ → Bool
is_blank b = (b == 32) || (b == 9)

-- `+` or `-`
abbrev pub is_sign : ℕ → Bool
is_sign b = (b == 43) || (b == 45)

-- a letter, or a part of a character beyond ASCII
abbrev pub is_word_start : ℕ → Bool
is_word_start b = is_ascii_alphabetic b || nat_le 128 b

-- a letter, a digit, one of : - . _ ' or a part of a character beyond ASCII
abbrev pub is_word_byte : ℕ → Bool
is_word_byte b =
    (is_ascii_alphanumeric b || nat_le 128 b) || ((b == 58) || (b == 45) || (b == 46) || (b == 95) || (b == 39))

-- the text has a first byte, which passes the test
abbrev pub begins : (ℕ → Bool) → List ℕ → Bool
begins passes [] = false
begins passes (b ∷ rest) = passes b

abbrev pub begins_with : ℕ → List ℕ → Bool
begins_with first bytes = begins (λ b. b == first) bytes

-- a comma directly before a digit
abbrev pub begins_comma_digit : List ℕ → Bool
begins_comma_digit [] = false
begins_comma_digit (b ∷ rest) = (b == 44) && begins is_ascii_digit rest

-- ---- The bytes of dates, numbers and marks.

-- digits, at least and at most so many
pub record AreDigits (least most : ℕ) (part : List ℕ) : Type 0 where
  pub least_len : least ≤ length part
  pub most_len : length part ≤ most
  pub digits : IsTrue (list_all is_ascii_digit part)

-- four digits, a separator, one or two digits, a separator, one or two digits
pub record IsDate (bytes : List ℕ) : Type 0 where
  pub year : List ℕ
  pub first : ℕ
  pub month : List ℕ
  pub second : ℕ
  pub day : List ℕ
  pub whole : bytes ≡ year ++ first ∷ (month ++ second ∷ day)
  pub is_year : AreDigits 4 4 year
  pub is_first : IsTrue (is_separator first)
  pub is_month : AreDigits 1 2 month
  pub is_second : IsTrue (is_separator second)
  pub is_day : AreDigits 1 2 day

-- digits, and commas that stand directly between two of them
abbrev pub IsWhole : List ℕ → Type 0
IsWhole [] = ⊥
IsWhole (b ∷ []) = IsTrue (is_ascii_digit b)
IsWhole (b ∷ c ∷ rest) = IsTrue (is_ascii_digit b) × (IsWhole (c ∷ rest) ⊎ ((c ≡ 44) × IsWhole rest))

-- nothing, or a sign
abbrev pub IsSignPart : List ℕ → Type 0
IsSignPart [] = Unit {0}
IsSignPart (s ∷ []) = IsTrue (is_sign s)
IsSignPart (s ∷ t ∷ rest) = ⊥

-- nothing, or a point and the digits after it
abbrev pub IsFraction : List ℕ → Type 0
IsFraction [] = Unit {0}
IsFraction (b ∷ digits) = (b ≡ 46) × IsTrue (list_all is_ascii_digit digits)

-- no more of the number stands behind its whole part, or behind its point and the digits after it
abbrev pub EndsNumber : List ℕ → List ℕ → Type 0
EndsNumber [] rest =
    IsFalse (begins is_ascii_digit rest) × IsFalse (begins_comma_digit rest) × IsFalse (begins_with 46 rest)
EndsNumber (b ∷ digits) rest = IsFalse (begins is_ascii_digit rest)

-- a sign or none, the whole part, and a point with digits or none, and behind them nothing that belongs to them
pub record IsNumber (bytes rest : List ℕ) : Type 0 where
  pub sign : List ℕ
  pub digits : List ℕ
  pub fraction : List ℕ
  pub whole : bytes ≡ sign ++ (digits ++ fraction)
  pub is_sign : IsSignPart sign
  pub is_digits : IsWhole digits
  pub is_fraction : IsFraction fraction
  pub ends : EndsNumber fraction rest

-- a date stands at the front
abbrev pub HasDate : List ℕ → Type 0
HasDate bytes = (found : List ℕ) × (rest : List ℕ) × IsDate found × (bytes ≡ found ++ rest)

abbrev pub mark_bytes : Mark → List ℕ
mark_bytes Marks.Comma = 44 ∷ []
mark_bytes Marks.Star = 42 ∷ []
mark_bytes Marks.Exclamation = 33 ∷ []
mark_bytes Marks.At = 64 ∷ []
mark_bytes Marks.AtAt = 64 ∷ 64 ∷ []
mark_bytes Marks.Open = 123 ∷ []
mark_bytes Marks.OpenOpen = 123 ∷ 123 ∷ []
mark_bytes Marks.Close = 125 ∷ []
mark_bytes Marks.CloseClose = 125 ∷ 125 ∷ []

-- a mark that begins a longer one stands only where the longer one doesn't
abbrev pub EndsMark : Mark → List ℕ → Type 0
EndsMark Marks.Comma rest = Unit {0}
EndsMark Marks.Star rest = Unit {0}
EndsMark Marks.Exclamation rest = Unit {0}
EndsMark Marks.At rest = IsFalse (begins_with 64 rest)
EndsMark Marks.AtAt rest = Unit {0}
EndsMark Marks.Open rest = IsFalse (begins_with 123 rest)
EndsMark Marks.OpenOpen rest = Unit {0}
EndsMark Marks.Close rest = IsFalse (begins_with 125 rest)
EndsMark Marks.CloseClose rest = Unit {0}

-- ---- Tokens.

-- the bytes of a token
abbrev pub spelled : Lexeme → List ℕ
spelled (word bytes) = bytes
spelled (number bytes) = bytes
spelled (date bytes) = bytes
spelled (text within) = 34 ∷ (within ++ 34 ∷ [])
spelled (mark m) = mark_bytes m

-- The token stands where its bytes stand with that behind them. A word is the longest run of such bytes. The last part of a
-- date takes a second digit where there is one. A number stands where no date does. Between the quotes of a text each quote
-- and each backslash has a backslash before it, and there is no control byte but the tab.
abbrev pub Stands : Lexeme → List ℕ → Type 0
Stands (word bytes) rest =
    IsTrue (begins is_word_start bytes) × IsTrue (list_all is_word_byte bytes) × IsFalse (begins is_word_byte rest)
Stands (number bytes) rest = IsNumber bytes rest × (HasDate (bytes ++ rest) → ⊥)
Stands (date bytes) rest = (found : IsDate bytes) × ((length found.day ≡ 2) ⊎ IsFalse (begins is_ascii_digit rest))
Stands (text within) rest = (content : List ℕ) × IsTrue (list_all is_note_byte content) × (within ≡ escaped content)
Stands (mark m) rest = EndsMark m rest

-- ---- The tokens of a line.

-- blanks, and perhaps a comment behind them
abbrev pub HasNoToken : List ℕ → Type 0
HasNoToken line =
    (blanks : List ℕ) × (comment : List ℕ) × IsTrue (list_all is_blank blanks)
    × ((line ≡ blanks) ⊎ (line ≡ blanks ++ 59 ∷ comment))

-- the line has these tokens from left to right, each behind blanks or none
abbrev pub Cuts : List Lexeme → List ℕ → Type 0
Cuts [] line = HasNoToken line
Cuts (token ∷ tokens) line =
    (blanks : List ℕ) × (rest : List ℕ) × IsTrue (list_all is_blank blanks) × Stands token rest × Cuts tokens rest
    × (line ≡ blanks ++ (spelled token ++ rest))

-- Number texts for the eye (docs/FORMATS.md, Page).
use Rattle.std.specs.Prelude.{◌==◌, ◌&&◌, ◌%◌, ℕ, Bool, not, nat_lt, if◌then◌else◌, List, [], ◌∷◌, ◌++◌, codes, filter, length, take, drop}
use Rattle.std.specs.List.{position_or_len}
use Rattle.lot_html.specs.Html.{close_tag, open_tag}

-- whether a byte goes on with a character of UTF-8; a digit doesn't
abbrev pub goes_on : ℕ → Bool
goes_on byte = nat_lt 127 byte && nat_lt byte 192

-- a comma, where whole thousands are left
abbrev pub comma_at : ℕ → List ℕ
comma_at left = if (left % 3 == 0) && not (left == 0) then 44 ∷ [] else []

-- what stands before the digits that are left; within a character nothing does
abbrev pub comma_before : List ℕ → List ℕ
comma_before [] = []
comma_before (digit ∷ left) = if goes_on digit then [] else comma_at (length (digit ∷ left))

-- digits with commas between thousands
abbrev pub grouped_digits : List ℕ → List ℕ
grouped_digits [] = []
grouped_digits (digit ∷ left) = digit ∷ (comma_before left ++ grouped_digits left)

-- what is left of a text without its commas
abbrev pub without_commas : List ℕ → List ℕ
without_commas text = filter (λ (byte : ℕ). not (byte == 44)) text

-- what stands before the first point, with commas, and the rest as it is
abbrev pub grouped_number : List ℕ → List ℕ
grouped_number digits =
    let whole = position_or_len (λ (byte : ℕ). byte == 46) digits in
    grouped_digits (take whole digits) ++ drop whole digits

-- the minus sign, U+2212, in UTF-8
abbrev pub minus : List ℕ
minus = 226 ∷ 136 ∷ 146 ∷ []

-- a number text with a minus sign and with commas
abbrev pub grouped : List ℕ → List ℕ
grouped [] = []
grouped (byte ∷ rest) = if byte == 45 then minus ++ grouped_number rest else grouped_number (byte ∷ rest)

-- a number text beside what it is
abbrev pub data_text : List ℕ → List ℕ
data_text number = open_tag (codes "data") ((codes "value", number) ∷ []) ++ (grouped number ++ close_tag (codes "data"))

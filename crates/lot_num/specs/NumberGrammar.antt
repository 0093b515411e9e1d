-- Number text as a grammar, one rule a line, apart from how a text is cut (docs/RULES.md, Number text).
use Rattle.std.specs.Prelude.{◌≡◌, ℕ, ◌≤◌, ◌⊎◌, List, [], ◌∷◌, ◌++◌, ⊤}
use Rattle.lot_num.specs.declared.number_text.Sign.{Sign}
use Rattle.lot_num.specs.declared.number_text.Sign.TheVariants.{Plus, Minus}

abbrev pub IsDigit : ℕ → Type 0
IsDigit b = (48 ≤ b) × (b ≤ 57)

abbrev pub AreDigits : List ℕ → Type 0
AreDigits [] = ⊤
AreDigits (d ∷ ds) = IsDigit d × AreDigits ds

-- a digit, and perhaps behind it a whole part, with or without a comma between the two
abbrev pub IsWhole : List ℕ → Type 0
IsWhole [] = ⊥
IsWhole (d ∷ []) = IsDigit d
IsWhole (d ∷ c ∷ rest) = IsDigit d × (IsWhole (c ∷ rest) ⊎ ((c ≡ 44) × IsWhole rest))

-- a plus may be left out
abbrev pub IsSign : Sign → List ℕ → Type 0
IsSign Plus text = (text ≡ []) ⊎ (text ≡ 43 ∷ [])
IsSign Minus text = text ≡ 45 ∷ []

-- a point, and the decimals behind it, of which there may be none; with none the point may be left out
abbrev pub IsFraction : List ℕ → List ℕ → Type 0
IsFraction decimals text = (text ≡ 46 ∷ decimals) ⊎ ((text ≡ []) × (decimals ≡ []))

-- the text is a number text with that sign, whole part and decimals
pub record IsNumberText (text : List ℕ) (sign : Sign) (whole decimals : List ℕ) : Type 0 where
  pub prefix : List ℕ
  pub back : List ℕ
  pub is_sign : IsSign sign prefix
  pub is_whole : IsWhole whole
  pub is_fraction : IsFraction decimals back
  pub are_digits : AreDigits decimals
  pub spelled : text ≡ prefix ++ (whole ++ back)

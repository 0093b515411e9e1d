-- Text of a page, in which no byte is markup, and what a page says with it (docs/FORMATS.md, Page).
use Rattle.std.specs.Prelude.{◌==◌, ◌||◌, ℕ, Bool, IsFalse, if◌then◌else◌, List, [], ◌∷◌, ◌++◌, codes, flat_map}
use Rattle.std.specs.List.{list_any}

-- ---- what is written

-- A byte as it is written: `&`, `<`, `>`, `"` and a carriage return by their references. An end of a line that isn't a line
-- feed would else be read as one.
abbrev pub escaped_byte : ℕ → List ℕ
escaped_byte byte =
    if byte == 38 then codes "&amp;"
    else (if byte == 60 then codes "&lt;"
    else (if byte == 62 then codes "&gt;"
    else (if byte == 34 then codes "&quot;"
    else (if byte == 13 then codes "&#13;" else byte ∷ []))))

-- what is written of a text, which is in UTF-8
abbrev pub escaped : List ℕ → List ℕ
escaped said = flat_map escaped_byte said

-- ---- what it says

-- a byte that may be markup, or that is read as another one
abbrev pub is_markup : ℕ → Bool
is_markup byte = (byte == 60) || ((byte == 62) || ((byte == 34) || (byte == 13)))

abbrev pub is_special : ℕ → Bool
is_special byte = (byte == 38) || is_markup byte

-- the references that are written, each with the byte that it stands for
pub data Stands : List ℕ → ℕ → Type 0 where
  ampersand : Stands (codes "&amp;") 38
  less : Stands (codes "&lt;") 60
  greater : Stands (codes "&gt;") 62
  quote : Stands (codes "&quot;") 34
  return : Stands (codes "&#13;") 13

-- what a text of HTML says, as its standard reads it: a reference the byte that it stands for, every other byte itself
pub data Says : List ℕ → List ℕ → Type 0 where
  end : Says [] []
  plain : (byte : ℕ) (text said : List ℕ) → IsFalse (is_special byte) → Says text said → Says (byte ∷ text) (byte ∷ said)
  reference : (name : List ℕ) (byte : ℕ) (text said : List ℕ) → Stands name byte → Says text said
      → Says (name ++ text) (byte ∷ said)

-- nothing of a text is markup
abbrev pub HasNoMarkup : List ℕ → Type 0
HasNoMarkup text = IsFalse (list_any is_markup text)

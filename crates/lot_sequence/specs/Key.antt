-- The keys of rows in the order of judging (docs/FORMATS.md, Profiles).
use Rattle.std.specs.Prelude.{◌≡◌, ◌≢◌, ℕ, ◌+◌, ◌<◌, ◌^◌, Bool, ◌&&◌, if◌then◌else◌, List, [], ◌∷◌, ◌++◌, length, map, take, slice_index_or, decimal, ℤ}
use Rattle.std.specs.List.{AllByRecursion, count_by, filter}
use Rattle.std.specs.Ordering.{int_eq}
use Rattle.hex.specs.Hex.{encode_lower}
use Rattle.sha2.specs.Sha256.{sha256}
use Rattle.lot_base.specs.Day.{IsDayNumber, day_text}
use Rattle.lot_base.specs.Name.{is_label}
use Rattle.lot_base.specs.Text.{same_text}
use Rattle.lot_sequence.specs.declared.row.Row.{Row}

-- ---- What a key is made of.

-- a day and a text
abbrev pub Said : Type 0
Said = ℤ × List ℕ

-- those of a row
abbrev pub said : Row → Said
said row = (row.day, row.text.now)

abbrev pub is_same : Said → Said → Bool
is_same a b = int_eq a.0 b.0 && same_text a.1 b.1

-- the number of its occurrence, from 1, where these are judged before it
abbrev pub occurrence : List Said → Said → ℕ
occurrence before row = count_by (λ other. is_same other row) before + 1

-- ---- Its text.

-- the day, the number of the occurrence and the text, with blanks between them
abbrev pub full_key : ℤ → ℕ → List ℕ → List ℕ
full_key day number text = day_text day ++ (32 ∷ (decimal number ++ (32 ∷ text)))

-- what stands for a text that is no label: the first 32 digits of its SHA-256
abbrev pub short_digest : List ℕ → List ℕ
short_digest text = take 32 (encode_lower (sha256 text))

-- a text as a key
abbrev pub as_key : List ℕ → List ℕ
as_key text = if is_label text then text else short_digest text

-- ---- The keys of rows.

-- the full key of a row, where these are judged before it
abbrev pub full_key_of : List Said → Said → List ℕ
full_key_of before row = full_key row.0 (occurrence before row) row.1

-- the keys of rows, where these are judged before them
abbrev pub keys_behind : List Said → List Said → List (List ℕ)
keys_behind before [] = []
keys_behind before (row ∷ rows) = as_key (full_key_of before row) ∷ keys_behind (before ++ row ∷ []) rows

abbrev pub keys_of : List Said → List (List ℕ)
keys_of rows = keys_behind [] rows

-- ---- Laws.

-- what rows of a day say, in their order
abbrev pub texts_on : ℤ → List Said → List (List ℕ)
texts_on day rows = map (λ row. row.1) (filter (λ row. int_eq row.0 day) rows)

-- of keys beside their rows, those of the rows of a day
abbrev pub keys_on : ℤ → List Said → List (List ℕ) → List (List ℕ)
keys_on day [] keys = []
keys_on day (row ∷ rows) [] = []
keys_on day (row ∷ rows) (key ∷ keys) = if int_eq row.0 day then key ∷ keys_on day rows keys else keys_on day rows keys

-- two files whose rows of a day say the same give them the same keys, whatever else they have
abbrev pub KeysAreOfTheDay : Type 0
KeysAreOfTheDay =
    (day : ℤ) (rows others : List Said) → texts_on day rows ≡ texts_on day others
    → keys_on day rows (keys_of rows) ≡ keys_on day others (keys_of others)

-- the full key of the row at a place
abbrev pub full_key_at : List Said → ℕ → Said → List ℕ
full_key_at rows place d = full_key_of (take place rows) (slice_index_or rows place d)

-- two texts differ, and their short digests don't
pub record ShareTheirDigest (a b : List ℕ) : Type 0 where
  pub differ : a ≢ b
  pub one : short_digest a ≡ short_digest b

-- the keys of two rows of a file are equal only where their full keys, which differ, share their digest
abbrev pub KeysDiffer : Type 0
KeysDiffer =
    (rows : List Said) (d : Said) → AllByRecursion (λ row. IsDayNumber row.0) rows → length rows < 2 ^ 64
    → (i j : ℕ) → i < j → j < length rows → slice_index_or (keys_of rows) i [] ≡ slice_index_or (keys_of rows) j []
    → ShareTheirDigest (full_key_at rows i d) (full_key_at rows j d)

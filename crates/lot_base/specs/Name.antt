-- Which texts are names. A text is the list of its bytes in UTF-8.
use Rattle.std.specs.Prelude.{ℕ, Bool, false, not, ◌&&◌, ◌||◌, ◌==◌, nat_le, ◌-◌, slice_index, List, [], ◌∷◌, length, codes, IsTrue, IsUtf8}
use Rattle.std.specs.Char.{is_ascii_digit, is_ascii_uppercase, is_ascii_alphanumeric, is_ascii_control}
use Rattle.std.specs.List.{list_all, list_any, slice_split}
use Rattle.lot_base.specs.Text.{same_text}

-- ---- the longest names, in bytes (docs/RULES.md, Limits)

abbrev pub longest_account : ℕ
longest_account = 128

abbrev pub longest_commodity : ℕ
longest_commodity = 24

abbrev pub longest_label : ℕ
longest_label = 64

abbrev pub longest_note : ℕ
longest_note = 1000

-- ---- accounts, as `Assets:Broker`

-- the components of an account: what stands between its colons
abbrev pub components : List ℕ → List (List ℕ)
components text = slice_split (λ b. b == 58) text

-- the five kinds of accounts
abbrev pub roots : List (List ℕ)
roots = codes "Assets" ∷ codes "Liabilities" ∷ codes "Equity" ∷ codes "Income" ∷ codes "Expenses" ∷ []

-- whether this is the first component of an account
unfoldable pub is_root : List ℕ → Bool
is_root part = list_any (λ root. same_text part root) roots

-- whether this may stand in a component after its first byte: a letter, a digit or a dash
abbrev pub is_component_byte : ℕ → Bool
is_component_byte b = is_ascii_alphanumeric b || (b == 45)

-- whether this is a later component: a capital letter or digit, then letters, digits and dashes
unfoldable pub is_component : List ℕ → Bool
is_component [] = false
is_component (first ∷ rest) =
    (is_ascii_uppercase first || is_ascii_digit first) && list_all is_component_byte rest

-- whether the components are those of an account: its kind, and one or more others
abbrev pub is_account_path : List (List ℕ) → Bool
is_account_path [] = false
is_account_path (root ∷ []) = false
is_account_path (root ∷ first ∷ more) = is_root root && list_all is_component (first ∷ more)

-- whether the text is an account
unfoldable pub is_account : List ℕ → Bool
is_account text = nat_le (length text) longest_account && is_account_path (components text)

-- ---- commodities, as `HOOL` or `USD`

-- whether this may stand in a commodity: a capital letter, a digit, or one of ' . _ -
abbrev pub is_commodity_byte : ℕ → Bool
is_commodity_byte b =
    (is_ascii_uppercase b || is_ascii_digit b) || ((b == 39) || (b == 46) || (b == 95) || (b == 45))

-- whether the text is a commodity: one or more such bytes, the first a capital letter, the last a capital letter or a digit
unfoldable pub is_commodity : List ℕ → Bool
is_commodity text =
    nat_le 1 (length text) && nat_le (length text) longest_commodity && list_all is_commodity_byte text
    && is_ascii_uppercase (slice_index text 0)
    && (is_ascii_uppercase (slice_index text (length text - 1)) || is_ascii_digit (slice_index text (length text - 1)))

-- ---- labels of lots

-- whether this may stand in a label: any byte but a control byte, a quote and a backslash
abbrev pub is_label_byte : ℕ → Bool
is_label_byte b = not (is_ascii_control b || ((b == 34) || (b == 92)))

-- whether the text is a label, which isn't empty
unfoldable pub is_label : List ℕ → Bool
is_label text = nat_le 1 (length text) && nat_le (length text) longest_label && list_all is_label_byte text

-- ---- notes: a payee or a narration

-- whether this may stand in a note: any byte but a control byte, and the tab
abbrev pub is_note_byte : ℕ → Bool
is_note_byte b = (b == 9) || not (is_ascii_control b)

-- whether the text is a note, which may be empty
unfoldable pub is_note : List ℕ → Bool
is_note text = nat_le (length text) longest_note && list_all is_note_byte text

-- ---- texts of a grammar

-- a text of that grammar, which is UTF-8
abbrev pub IsName : (List ℕ → Bool) → List ℕ → Type 0
IsName is_name text = IsUtf8 text × IsTrue (is_name text)

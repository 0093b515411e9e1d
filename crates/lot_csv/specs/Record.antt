-- A record of a table as text: fields with commas between them, and a line end. A field stands in
-- quotes where it holds a comma, a quote or a line end, with each of its quotes twice
-- (docs/FORMATS.md, Tables for a spreadsheet).
use Rattle.std.specs.Prelude.{◌==◌, ◌||◌, ℕ, pos, Bool, if◌then◌else◌, List, [], ◌∷◌, ◌++◌, flat_map}
use Rattle.std.specs.List.{list_any}
use Rattle.std.specs.Option.{unwrap_or}
use Rattle.lot_num.specs.AmountText.{amount_text}
use Rattle.lot_cost.specs.declared.lot_key.LotKey.{LotKey}

-- whether a byte calls for quotes: a comma, a quote, a carriage return or a line feed
abbrev pub is_mark : ℕ → Bool
is_mark byte = (byte == 44) || ((byte == 34) || ((byte == 13) || (byte == 10)))

abbrev pub needs_quotes : List ℕ → Bool
needs_quotes field = list_any is_mark field

abbrev pub doubled_byte : ℕ → List ℕ
doubled_byte byte = if byte == 34 then 34 ∷ 34 ∷ [] else byte ∷ []

-- a text with each of its quotes twice
abbrev pub doubled : List ℕ → List ℕ
doubled text = flat_map doubled_byte text

unfoldable pub field_text : List ℕ → List ℕ
field_text field = if needs_quotes field then 34 ∷ (doubled field ++ 34 ∷ []) else field

-- fields behind the first one, each with the comma before it
abbrev pub others_text : List (List ℕ) → List ℕ
others_text fields = flat_map (λ (field : List ℕ). 44 ∷ field_text field) fields

abbrev pub record_text : List (List ℕ) → List ℕ
record_text [] = 10 ∷ []
record_text (first ∷ others) = field_text first ++ (others_text others ++ 10 ∷ [])

-- the label of a lot, or an empty field, and what one unit of it cost
abbrev pub cost_fields : LotKey → List (List ℕ)
cost_fields lot = unwrap_or lot.label [] ∷ amount_text 0 8 (pos lot.number) ∷ lot.currency ∷ []

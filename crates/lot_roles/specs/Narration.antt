-- The narration of a row (docs/FORMATS.md, Profiles).
use Rattle.std.specs.Prelude.{ℕ, zero, suc, Bool, ◌||◌, nat_le, nat_lt, if◌then◌else◌, List, [], ◌∷◌, ◌++◌, length, map, slice_index, take, Option, Some, None}
use Rattle.lot_base.specs.Name.{is_note_byte, longest_note}
use Rattle.lot_profile.specs.declared.role.Role.TheVariants as role
use Rattle.lot_sheet.specs.Sheet.{SheetRow}
use Rattle.lot_roles.specs.Names.{symbol_text_of}
use Rattle.lot_roles.specs.Parts.{text_of}
use Rattle.lot_roles.specs.declared.rules.Rules.{Rules}

-- a text with a further word behind a blank, if there is one
abbrev pub with_word : List ℕ → Option (List ℕ) → List ℕ
with_word text None = text
with_word text (Some []) = text
with_word text (Some (first ∷ rest)) = text ++ 32 ∷ first ∷ rest

-- a byte as it is written: a control byte is a blank
abbrev pub written_byte : ℕ → ℕ
written_byte byte = if is_note_byte byte then byte else 32

-- whether a byte is the first of a character
abbrev pub is_first_byte : ℕ → Bool
is_first_byte byte = nat_lt byte 128 || nat_le 192 byte

-- the last place up to another one at which a character begins
abbrev pub character_place : List ℕ → ℕ → ℕ
character_place text zero = zero
character_place text (suc place) =
    if is_first_byte (slice_index text (suc place)) then suc place else character_place text place

-- a text, cut to what a note may have, not within a character
abbrev pub cut_to_note : List ℕ → List ℕ
cut_to_note text = if nat_le (length text) longest_note then text else take (character_place text longest_note) text

-- the word of the kind, the symbol and the note
abbrev pub words_of : Rules → SheetRow → List ℕ → List ℕ
words_of rules row kind = with_word (with_word kind (symbol_text_of rules row)) (text_of rules row role.Note)

-- the narration
unfoldable pub narration_of : Rules → SheetRow → List ℕ → List ℕ
narration_of rules row kind = cut_to_note (map written_byte (words_of rules row kind))

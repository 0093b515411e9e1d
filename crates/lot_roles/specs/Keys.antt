-- The text of the key of a row (docs/FORMATS.md, Profiles).
use Rattle.std.specs.Prelude.{ℕ, ◌+◌, Bool, false, ◌||◌, if◌then◌else◌, List, [], ◌∷◌, Option, decimal, unwrap_or}
use Rattle.std.specs.List.{join_with_byte, list_any, slice_get}
use Rattle.std.specs.Option.{option_and_then, option_map_or}
use Rattle.lot_base.specs.Text.{same_text}
use Rattle.lot_field.specs.Field.{cut}
use Rattle.lot_profile.specs.declared.file.FileForm.{FileForm}
use Rattle.lot_profile.specs.declared.role.Role.TheVariants as role
use Rattle.lot_sheet.specs.Column.{is_same}
use Rattle.lot_sheet.specs.Sheet.{SheetRow}
use Rattle.lot_roles.specs.Parts.{is_nothing, text_of}
use Rattle.lot_roles.specs.declared.rules.Rules.{Rules}

-- whether the column at a place, counted from 0, has a name that is optional, by the names of the header
abbrev pub is_optional_name : List (List ℕ) → Option (List (List ℕ)) → ℕ → Bool
is_optional_name optional header place =
    option_map_or (λ (name : List ℕ). list_any (λ (lacked : List ℕ). same_text lacked name) optional)
    (option_and_then (λ (names : List (List ℕ)). slice_get names place) header) false

-- whether it is one that some files lack, by its name or by its number, counted from 1
abbrev pub is_optional : List (List ℕ) → Option (List (List ℕ)) → ℕ → Bool
is_optional optional header place =
    is_optional_name optional header place || list_any (is_same (decimal (place + 1))) optional

-- whether a field is left out of the key
abbrev pub is_left_out : FileForm → List ℕ → Bool
is_left_out form field = same_text field [] || is_nothing form field

-- the fields from a place on, cut, without those that are left out
abbrev pub key_fields : FileForm → Option (List (List ℕ)) → ℕ → List (List ℕ) → List (List ℕ)
key_fields form header place [] = []
key_fields form header place (field ∷ fields) =
    if is_optional form.optional header place || is_left_out form (cut field) then key_fields form header (place + 1) fields
    else cut field ∷ key_fields form header (place + 1) fields

-- all columns of a row but those that some files lack, without what is nothing, joined by blanks
unfoldable pub all_fields : FileForm → SheetRow → List ℕ
all_fields form row = join_with_byte 32 (key_fields form row.header 0 row.fields)

-- the broker's name of the deal, or else all columns
abbrev pub key_text_of : Rules → SheetRow → List ℕ
key_text_of rules row = unwrap_or (text_of rules row role.Ref) (all_fields rules.profile.now.file row)

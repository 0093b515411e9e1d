-- The parts of what a row says for a role, and their text (docs/FORMATS.md, Profiles).
use Rattle.std.specs.Prelude.{ℕ, Bool, ◌==◌, if◌then◌else◌, List, [], ◌∷◌, Option, Some, None}
use Rattle.std.specs.List.{filter_map, join_with_byte, list_any, starts_with}
use Rattle.std.specs.Option.{option_and_then}
use Rattle.lot_base.specs.Text.{same_text}
use Rattle.lot_field.specs.Field.{cut}
use Rattle.lot_profile.specs.declared.file.FileForm.{FileForm}
use Rattle.lot_profile.specs.declared.role.Role.{Role}
use Rattle.lot_profile.specs.declared.role.Source.{Source}
use Rattle.lot_profile.specs.declared.role.Source.TheVariants as source
use Rattle.lot_sheet.specs.Column.{found_in}
use Rattle.lot_sheet.specs.Sheet.{SheetRow}
use Rattle.lot_roles.specs.declared.rules.Rules.{Rules}
use Rattle.lot_roles.specs.Rules.{sources_of}

-- ---- A part.

-- whether a field means no value
abbrev pub is_nothing : FileForm → List ℕ → Bool
is_nothing form field = list_any (λ (text : List ℕ). same_text text (cut field)) form.nothing

-- a field, where it means a value
abbrev pub value_in : FileForm → List ℕ → Option (List ℕ)
value_in form field = if is_nothing form field then None else Some field

-- what stands in a field before the first place where a text stands; the whole field where it stands nowhere
abbrev pub up_to : List ℕ → List ℕ → List ℕ
up_to until [] = []
up_to until (byte ∷ rest) = if starts_with ◌==◌ (byte ∷ rest) until then [] else byte ∷ up_to until rest

-- what a source says in a row: a constant always the same; a column its field, where the row has it and it means a value
abbrev pub part_of : FileForm → SheetRow → Source → Option (List ℕ)
part_of form row (source.Constant text) = Some text
part_of form row (source.Column column) = option_and_then (value_in form) (found_in row.header row.fields column)
part_of form row (source.Until column until) =
    option_and_then (λ (field : List ℕ). value_in form (cut (up_to until field))) (found_in row.header row.fields column)

-- ---- The parts of a role.

-- what the sources of a role say, in their order, without those that say nothing
unfoldable pub parts_of : Rules → SheetRow → Role → List (List ℕ)
parts_of rules row role = filter_map (part_of rules.profile.now.file row) (sources_of rules role)

-- parts with a blank between them; nothing where there is none
abbrev pub joined : List (List ℕ) → Option (List ℕ)
joined [] = None
joined (part ∷ parts) = Some (join_with_byte 32 (part ∷ parts))

-- the text of a role
unfoldable pub text_of : Rules → SheetRow → Role → Option (List ℕ)
text_of rules row role = joined (parts_of rules row role)

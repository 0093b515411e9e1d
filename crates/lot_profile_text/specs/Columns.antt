-- Which columns a profile means.
use Rattle.std.specs.Prelude.{ℕ, zero, suc, ℤ, pos, negsuc, List, [], ◌∷◌, if◌then◌else◌, is_some, Option, None, Some, Ok, Err}
use Rattle.toml.specs.Data.{Data, string, integer, get, as_table}
use Rattle.lot_profile.specs.declared.file.Column.{Column}
use Rattle.lot_profile.specs.declared.file.Column.TheVariants.{Number, Named}
use Rattle.lot_profile.specs.declared.table.Header.{Header}
use Rattle.lot_profile.specs.declared.table.Header.TheVariants as header
use Rattle.lot_profile.specs.declared.role.Role.{Role}
use Rattle.lot_profile.specs.declared.role.Source.{Source}
use Rattle.lot_profile.specs.declared.role.Source.TheVariants as source
use Rattle.lot_profile.specs.declared.role.Sources.{Sources}
use Rattle.lot_profile_text.specs.declared.entry.Form.TheVariants as form
use Rattle.lot_profile_text.specs.declared.fault.ProfileFault.TheVariants.{Unknown, Wrong}
use Rattle.lot_profile_text.specs.Keys.{beginning_keys, column_key, constant_is_key, constant_keys, until_key}
use Rattle.lot_profile_text.specs.Reading.{Read, ◌>>=◌, below, entry_of, list_of, named, section_of, text_of}
use Rattle.lot_profile_text.specs.Roles.{may_be_several}
use Rattle.lot_profile_text.specs.Words.{role_all, role_word}

-- ---- A column.

-- a number of a column, from 1
abbrev pub column_number : ℤ → Option ℕ
column_number (pos zero) = None
column_number (pos (suc n)) = Some (suc n)
column_number (negsuc n) = None

abbrev pub counted_column : List ℕ → Option ℕ → Read Column
counted_column place None = Err (Wrong place form.Column)
counted_column place (Some n) = Ok (Number n)

-- the name of a column, or its number
abbrev pub column_of : List ℕ → Data → Read Column
column_of place (string []) = Err (Wrong place form.Column)
column_of place (string (first ∷ more)) = Ok (Named (first ∷ more))
column_of place (integer z) = counted_column place (column_number z)
column_of place value = Err (Wrong place form.Column)

-- ---- A header.

abbrev pub counted_header : List ℕ → ℤ → Read Header
counted_header place (pos zero) = Ok header.Absent
counted_header place (pos (suc n)) = Ok (header.Number (suc n))
counted_header place (negsuc n) = Err (Wrong place form.Header)

-- how a header begins, or its number, or 0 for none
abbrev pub header_of : List ℕ → Data → Read Header
header_of place (string []) = Err (Wrong place form.Header)
header_of place (string (first ∷ more)) = Ok (header.Begins (first ∷ more))
header_of place (integer z) = counted_header place z
header_of place value = Err (Wrong place form.Header)

-- ---- Where a role is found.

-- a constant: `{ is = ".." }`
abbrev pub constant_of : List ℕ → Data → Read Source
constant_of place value = do
  _ ← section_of constant_keys place value
  text ← entry_of text_of constant_is_key place value
  Ok (source.Constant text)

-- up to which text of a field, which isn't empty
abbrev pub until_of : List ℕ → List ℕ → Read (List ℕ)
until_of place [] = Err (Wrong place form.SomeText)
until_of place (first ∷ more) = Ok (first ∷ more)

-- the beginning of a field: `{ column = "..", until = ".." }`
abbrev pub beginning_of : List ℕ → Data → Read Source
beginning_of place value = do
  _ ← section_of beginning_keys place value
  column ← entry_of column_of column_key place value
  text ← entry_of text_of until_key place value
  until ← until_of (below place until_key.name) text
  Ok (source.Until column until)

-- a column, or one of these
abbrev pub source_of : List ℕ → Data → Read Source
source_of place value =
    if is_some (get constant_is_key.name value) then constant_of place value
    else if is_some (as_table value) then beginning_of place value
    else column_of place value >>= λ column. Ok (source.Column column)

abbrev pub some_sources : List ℕ → Role → List Source → Read Sources
some_sources place role [] = Err (Wrong place form.Column)
some_sources place role (only ∷ []) = Ok (record { role = role; from = only ∷ [] })
some_sources place role (first ∷ second ∷ more) =
    if may_be_several role then Ok (record { role = role; from = first ∷ second ∷ more })
    else Err (Wrong place form.OneColumn)

abbrev pub sources_if : List ℕ → Data → Option Role → Read Sources
sources_if place value None = Err (Unknown place)
sources_if place value (Some role) = list_of source_of place value >>= some_sources place role

-- the role that a key names, and its sources, one or more; several where these can be added or joined
abbrev pub sources_of : List ℕ → List ℕ → Data → Read Sources
sources_of place key value = sources_if (below place key) value (named role_word role_all key)

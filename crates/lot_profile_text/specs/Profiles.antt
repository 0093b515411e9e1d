-- The profile that a TOML document says.
use Rattle.std.specs.Prelude.{if◌then◌else◌, is_some, [], ◌∷◌, Ok}
use Rattle.toml.specs.Data.{Data, get}
use Rattle.lot_profile.specs.declared.profile.Profile.{Profile}
use Rattle.lot_profile_text.specs.Accounts.{account_of}
use Rattle.lot_profile_text.specs.Basis.{basis_of}
use Rattle.lot_profile_text.specs.declared.complete.Shape.TheVariants.{OneTable, Tables}
use Rattle.lot_profile_text.specs.Complete.{complete}
use Rattle.lot_profile_text.specs.Columns.{sources_of}
use Rattle.lot_profile_text.specs.Files.{file_of, file_of_one_table, only_table}
use Rattle.lot_profile_text.specs.Keys.{accounts_of_file_key, basis_section_key, columns_of_file_key, file_section_key, name_key, one_table_keys, symbols_key, tables_keys, tables_of_file_key}
use Rattle.lot_profile_text.specs.Kinds.{kinds_of, table_of}
use Rattle.lot_profile_text.specs.Reading.{Read, ◌>>=◌, entry_of, keyed_of, only_list_of, section_of, some_of, text_of}
use Rattle.lot_profile_text.specs.Symbols.{symbol_of}

-- the profile of a file of one table
unfoldable pub profile_of_one_table : Data → Read Profile
profile_of_one_table value = do
  _ ← section_of one_table_keys [] value
  name ← entry_of text_of name_key [] value
  file ← entry_of file_of_one_table file_section_key [] value
  columns ← entry_of (keyed_of sources_of) columns_of_file_key [] value
  accounts ← entry_of (keyed_of account_of) accounts_of_file_key [] value
  basis ← entry_of basis_of basis_section_key [] value
  symbols ← entry_of (keyed_of symbol_of) symbols_key [] value
  kinds ← kinds_of [] value
  Ok (record { name = name; file = file.file; tables = only_table file columns.members kinds ∷ []; accounts = accounts.members; basis = basis; symbols = symbols.members })

-- the profile of a file of several tables
unfoldable pub profile_of_tables : Data → Read Profile
profile_of_tables value = do
  _ ← section_of tables_keys [] value
  name ← entry_of text_of name_key [] value
  file ← entry_of file_of file_section_key [] value
  accounts ← entry_of (keyed_of account_of) accounts_of_file_key [] value
  basis ← entry_of basis_of basis_section_key [] value
  symbols ← entry_of (keyed_of symbol_of) symbols_key [] value
  listed ← entry_of (only_list_of table_of) tables_of_file_key [] value
  tables ← some_of tables_of_file_key.name listed.items
  Ok (record { name = name; file = file; tables = tables; accounts = accounts.members; basis = basis; symbols = symbols.members })

-- what a document says, where it lacks nothing: where it names tables, the file has several
abbrev pub profile_of : Data → Read Profile
profile_of value =
    if is_some (get tables_of_file_key.name value) then (profile_of_tables value >>= complete Tables)
    else (profile_of_one_table value >>= complete OneTable)

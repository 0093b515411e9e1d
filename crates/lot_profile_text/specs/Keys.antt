-- The keys of a profile, and what is meant where nothing stands under one (docs/FORMATS.md, Profiles).
use Rattle.std.specs.Prelude.{List, [], ◌∷◌, ℕ, codes, Option, None, Some}
use Rattle.toml.specs.Data.{Data, string, array, table, no_items, item, no_members}

-- a key
pub record Key : Type 0 where
  pub name : List ℕ
  -- what is meant where nothing stands there; without it, something has to stand there
  pub default : Option Data

-- something has to stand there
abbrev pub required : List ℕ → Key
required name = record { name = name; default = None }

-- it is the same as that text
abbrev pub with_text : List ℕ → List ℕ → Key
with_text name text = record { name = name; default = Some (string text) }

-- it is the same as a list of one text, which is empty
abbrev pub with_empty_text : List ℕ → Key
with_empty_text name = record { name = name; default = Some (array (item (string []) no_items)) }

-- it is the same as a list of nothing
abbrev pub with_no_items : List ℕ → Key
with_no_items name = record { name = name; default = Some (array no_items) }

-- it is the same as a table of nothing
abbrev pub with_no_members : List ℕ → Key
with_no_members name = record { name = name; default = Some (table no_members) }

-- ---- The keys.

abbrev pub name_key : Key
name_key = required (codes "name")

abbrev pub file_section_key : Key
file_section_key = required (codes "file")

abbrev pub columns_of_file_key : Key
columns_of_file_key = required (codes "columns")

abbrev pub columns_key : Key
columns_key = with_no_members (codes "columns")

abbrev pub accounts_of_file_key : Key
accounts_of_file_key = required (codes "accounts")

abbrev pub accounts_key : Key
accounts_key = with_no_members (codes "accounts")

abbrev pub basis_section_key : Key
basis_section_key = with_no_members (codes "basis")

abbrev pub symbols_key : Key
symbols_key = with_no_members (codes "symbols")

abbrev pub kinds_key : Key
kinds_key = required (codes "kind")

abbrev pub tables_of_file_key : Key
tables_of_file_key = required (codes "table")

abbrev pub encoding_key : Key
encoding_key = with_text (codes "encoding") (codes "utf-8")

abbrev pub delimiter_key : Key
delimiter_key = required (codes "delimiter")

abbrev pub decimal_key : Key
decimal_key = required (codes "decimal")

abbrev pub grouping_key : Key
grouping_key = with_text (codes "grouping") []

unfoldable pub currency_signs_key : Key
currency_signs_key = with_no_items (codes "currency-signs")

abbrev pub nothing_key : Key
nothing_key = with_empty_text (codes "nothing")

abbrev pub day_key : Key
day_key = required (codes "day")

abbrev pub optional_key : Key
optional_key = with_no_items (codes "optional")

abbrev pub header_key : Key
header_key = required (codes "header")

abbrev pub order_key : Key
order_key = required (codes "order")

abbrev pub turn_key : Key
turn_key = with_no_items (codes "turn")

abbrev pub rows_key : Key
rows_key = with_no_members (codes "rows")

abbrev pub is_key : Key
is_key = required (codes "is")

abbrev pub when_key : Key
when_key = required (codes "when")

abbrev pub kind_turn_key : Key
kind_turn_key = required (codes "turn")

abbrev pub cost_key : Key
cost_key = with_text (codes "cost") (codes "amount")

abbrev pub within_key : Key
within_key = with_text (codes "within") (codes "0.005")

abbrev pub rounded_key : Key
rounded_key = with_no_members (codes "rounded")

abbrev pub rewards_key : Key
rewards_key = with_text (codes "rewards") (codes "value")

abbrev pub constant_is_key : Key
constant_is_key = required (codes "is")

abbrev pub column_key : Key
column_key = required (codes "column")

abbrev pub until_key : Key
until_key = required (codes "until")

-- ---- The sections.

-- the top, where the file has one table
unfoldable pub one_table_keys : List Key
one_table_keys = name_key ∷ file_section_key ∷ columns_of_file_key ∷ accounts_of_file_key ∷ basis_section_key ∷ symbols_key ∷ kinds_key ∷ []

-- the top, where the file has several tables
unfoldable pub tables_keys : List Key
tables_keys = name_key ∷ file_section_key ∷ accounts_of_file_key ∷ basis_section_key ∷ symbols_key ∷ tables_of_file_key ∷ []

-- the file, where it has one table
unfoldable pub file_keys : List Key
file_keys = encoding_key ∷ delimiter_key ∷ decimal_key ∷ grouping_key ∷ currency_signs_key ∷ nothing_key ∷ day_key ∷ optional_key ∷ header_key ∷ order_key ∷ turn_key ∷ []

-- the file, where it has several tables
unfoldable pub file_of_tables_keys : List Key
file_of_tables_keys = encoding_key ∷ delimiter_key ∷ decimal_key ∷ grouping_key ∷ currency_signs_key ∷ nothing_key ∷ day_key ∷ optional_key ∷ []

-- cost, and how far amounts may differ
abbrev pub basis_keys : List Key
basis_keys = cost_key ∷ within_key ∷ rounded_key ∷ rewards_key ∷ []

-- a table of several
unfoldable pub table_keys : List Key
table_keys = header_key ∷ rows_key ∷ order_key ∷ columns_key ∷ turn_key ∷ kinds_key ∷ []

-- a kind of rows
abbrev pub kind_keys : List Key
kind_keys = is_key ∷ when_key ∷ columns_key ∷ kind_turn_key ∷ accounts_key ∷ []

-- in place of a column, a constant
abbrev pub constant_keys : List Key
constant_keys = constant_is_key ∷ []

-- in place of a column, the beginning of its field
abbrev pub beginning_keys : List Key
beginning_keys = column_key ∷ until_key ∷ []

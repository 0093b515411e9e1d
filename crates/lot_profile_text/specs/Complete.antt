-- What is missing in a profile whose parts are all right.
use Rattle.std.specs.Prelude.{ℕ, suc, Bool, true, false, if◌then◌else◌, List, [], ◌∷◌, codes, find, Option, None, Some, Ok, Err}
use Rattle.std.specs.List.{list_any}
use Rattle.lot_profile.specs.declared.account.AccountRole.{AccountRole}
use Rattle.lot_profile.specs.declared.file.Column.{Column}
use Rattle.lot_profile.specs.declared.file.Column.TheVariants as column
use Rattle.lot_profile.specs.declared.file.Condition.{Condition}
use Rattle.lot_profile.specs.declared.kind.KindRule.{KindRule}
use Rattle.lot_profile.specs.declared.profile.Profile.{Profile}
use Rattle.lot_profile.specs.declared.role.Role.{Role}
use Rattle.lot_profile.specs.declared.role.Source.{Source}
use Rattle.lot_profile.specs.declared.role.Source.TheVariants as source
use Rattle.lot_profile.specs.declared.role.Sources.{Sources}
use Rattle.lot_profile.specs.declared.table.Header.{Header}
use Rattle.lot_profile.specs.declared.table.Header.TheVariants.{Absent}
use Rattle.lot_profile.specs.declared.table.Table.{Table}
use Rattle.lot_profile_text.specs.declared.complete.Shape.{Shape}
use Rattle.lot_profile_text.specs.declared.complete.Shape.TheVariants.{OneTable, Tables}
use Rattle.lot_profile_text.specs.declared.entry.Form.TheVariants as form
use Rattle.lot_profile_text.specs.declared.fault.ProfileFault.TheVariants.{Missing, Wrong}
use Rattle.lot_profile_text.specs.Needs.{missing_account, missing_role}
use Rattle.lot_profile_text.specs.Reading.{Read, ◌>>=◌, below, numbered}
use Rattle.lot_profile_text.specs.Words.{account_role_word, role_word}

-- ---- Roles and accounts.

abbrev pub if_role : List ℕ → Option Role → Read (Unit {0})
if_role place None = Ok tt
if_role place (Some role) = Err (Missing (below (below place (codes "columns")) (role_word role)))

abbrev pub if_account : Option AccountRole → Read (Unit {0})
if_account None = Ok tt
if_account (Some role) = Err (Missing (below (codes "accounts") (account_role_word role)))

-- the roles and then the accounts that a kind of the table at a place needs are there
unfoldable pub needs_of : List ℕ → Profile → Table → KindRule → Read (Unit {0})
needs_of place profile table rule =
    if_role place (missing_role profile.basis table rule) >>= λ _. if_account (missing_account profile table rule)

-- one kind after another
abbrev pub all_needs_of : List ℕ → Profile → Table → List KindRule → Read (Unit {0})
all_needs_of place profile table [] = Ok tt
all_needs_of place profile table (rule ∷ more) = needs_of place profile table rule >>= λ _. all_needs_of place profile table more

-- ---- Names of columns, where a table has no header.

abbrev pub is_named : Column → Bool
is_named (column.Named name) = true
is_named (column.Number n) = false

abbrev pub is_source_named : Source → Bool
is_source_named (source.Column column) = is_named column
is_source_named (source.Constant text) = false
is_source_named (source.Until column until) = is_named column

abbrev pub name_of : Column → List ℕ
name_of (column.Named name) = name
name_of (column.Number n) = []

abbrev pub if_condition : List ℕ → Option Condition → Read (Unit {0})
if_condition place None = Ok tt
if_condition place (Some condition) = Err (Wrong (below place (name_of condition.column)) form.ColumnNumber)

-- the conditions at a place are on columns by their numbers
unfoldable pub numbered_conditions : List ℕ → List Condition → Read (Unit {0})
numbered_conditions place conditions = if_condition place (find (λ condition. is_named condition.column) conditions)

abbrev pub if_sources : List ℕ → Option Sources → Read (Unit {0})
if_sources place None = Ok tt
if_sources place (Some sources) = Err (Wrong (below place (role_word sources.role)) form.ColumnNumber)

-- the roles at a place are found by numbers of columns
unfoldable pub numbered_roles : List ℕ → List Sources → Read (Unit {0})
numbered_roles place columns = if_sources place (find (λ sources. list_any is_source_named sources.from) columns)

abbrev pub numbered_kind : List ℕ → KindRule → Read (Unit {0})
numbered_kind place rule =
    numbered_roles (below place (codes "columns")) rule.columns >>= λ _. numbered_conditions (below place (codes "when")) rule.when

-- the kinds of the list at a place, from that number on
abbrev pub numbered_kinds : List ℕ → ℕ → List KindRule → Read (Unit {0})
numbered_kinds place n [] = Ok tt
numbered_kinds place n (rule ∷ more) = numbered_kind (numbered place n) rule >>= λ _. numbered_kinds place (suc n) more

-- all columns of the table at a place are named by their numbers
unfoldable pub numbered_table : List ℕ → Table → Read (Unit {0})
numbered_table place table = do
  _ ← numbered_conditions (below place (codes "rows")) table.rows
  _ ← numbered_roles (below place (codes "columns")) table.columns
  numbered_kinds (below place (codes "kind")) 1 table.kinds

abbrev pub has_header : Header → Bool
has_header Absent = false
has_header _ = true

-- ---- The whole.

-- a table at a place lacks nothing
unfoldable pub table_complete : List ℕ → Profile → Table → Read (Unit {0})
table_complete place profile table =
    all_needs_of place profile table table.kinds >>= λ _. if has_header table.header then Ok tt else numbered_table place table

-- where a table stands, by its number: at the top, where it is the only one
abbrev pub table_place : Shape → ℕ → List ℕ
table_place OneTable n = []
table_place Tables n = numbered (codes "table") n

-- these tables lack nothing, from that number on
abbrev pub tables_complete : Shape → Profile → ℕ → List Table → Read (Unit {0})
tables_complete shape profile n [] = Ok tt
tables_complete shape profile n (table ∷ more) =
    table_complete (table_place shape n) profile table >>= λ _. tables_complete shape profile (suc n) more

-- a profile, where it lacks nothing
unfoldable pub complete : Shape → Profile → Read Profile
complete shape profile = tables_complete shape profile 1 profile.tables >>= λ _. Ok profile

-- Which rows are of a kind, and what a table is.
use Rattle.std.specs.Prelude.{ℕ, Bool, true, false, if◌then◌else◌, List, option_map, Ok, Err}
use Rattle.std.specs.List.{list_any}
use Rattle.toml.specs.Data.{Data}
use Rattle.lot_profile.specs.declared.account.AccountOf.{AccountOf}
use Rattle.lot_profile.specs.declared.account.AccountRole.{AccountRole}
use Rattle.lot_profile.specs.declared.account.AccountRole.TheVariants.{Rounding}
use Rattle.lot_profile.specs.declared.kind.KindRule.{KindRule}
use Rattle.lot_profile.specs.declared.table.Table.{Table}
use Rattle.lot_profile_text.specs.declared.entry.Form.TheVariants as form
use Rattle.lot_profile_text.specs.declared.fault.ProfileFault.TheVariants.{Unknown}
use Rattle.lot_profile_text.specs.Accounts.{account_of}
use Rattle.lot_profile_text.specs.Columns.{header_of, sources_of}
use Rattle.lot_profile_text.specs.Conditions.{condition_of}
use Rattle.lot_profile_text.specs.Keys.{accounts_key, columns_key, header_key, is_key, kind_keys, kind_turn_key, kinds_key, order_key, rows_key, table_keys, turn_key, when_key}
use Rattle.lot_profile_text.specs.Reading.{Read, ◌>>=◌, below, entry_of, keyed_of, only_list_of, perhaps_of, section_of, some_of, word_of}
use Rattle.lot_profile_text.specs.Roles.{turned_of}
use Rattle.lot_profile_text.specs.Words.{account_role_word, kind_all, kind_word, order_all, order_word}

-- ---- A kind.

abbrev pub is_rounding : AccountRole → Bool
is_rounding Rounding = true
is_rounding _ = false

-- the accounts of a kind: that of crumbs is one for all
unfoldable pub apart_from_crumbs : List ℕ → List AccountOf → Read (List AccountOf)
apart_from_crumbs place accounts =
    if list_any (λ account. is_rounding account.role) accounts then Err (Unknown (below place (account_role_word Rounding))) else Ok accounts

-- which rows are of a kind, and what goes before what the table says
abbrev pub kind_of : List ℕ → Data → Read KindRule
kind_of place value = do
  _ ← section_of kind_keys place value
  kind ← entry_of (word_of kind_word kind_all form.Kind) is_key place value
  when ← entry_of (keyed_of condition_of) when_key place value
  columns ← entry_of (keyed_of sources_of) columns_key place value
  turn ← perhaps_of (only_list_of turned_of) kind_turn_key place value
  named ← entry_of (keyed_of account_of) accounts_key place value
  accounts ← apart_from_crumbs (below place accounts_key.name) named.members
  Ok (record { kind = kind; when = when.members; columns = columns.members; turn = option_map (λ roles. roles.items) turn; accounts = accounts })

-- the kinds of the section at a place, one or more
unfoldable pub kinds_of : List ℕ → Data → Read (List KindRule)
kinds_of place value = do
  kinds ← entry_of (only_list_of kind_of) kinds_key place value
  some_of (below place kinds_key.name) kinds.items

-- ---- A table.

-- a table of several
abbrev pub table_of : List ℕ → Data → Read Table
table_of place value = do
  _ ← section_of table_keys place value
  header ← entry_of header_of header_key place value
  rows ← entry_of (keyed_of condition_of) rows_key place value
  order ← entry_of (word_of order_word order_all form.Order) order_key place value
  columns ← entry_of (keyed_of sources_of) columns_key place value
  turn ← entry_of (only_list_of turned_of) turn_key place value
  kinds ← kinds_of place value
  Ok (record { header = header; rows = rows.members; order = order; columns = columns.members; turn = turn.items; kinds = kinds })

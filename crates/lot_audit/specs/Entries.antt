-- The rows that a command has by itself in the tables of a book that it is an entry of.
use Rattle.std.specs.Prelude.{◌≡◌, ◌≢◌, ℕ, suc, true, List, [], None, Some, ⊤, option_map, slice_get}
use Rattle.std.specs.List.{AllByRecursion, list_any}
use Rattle.lot_command.specs.declared.command.Command.{Command}
use Rattle.lot_command.specs.declared.command.Command.TheVariants.{Opening, Closing, Declaring, Quoting, Transaction}
use Rattle.lot_command.specs.declared.key.Key.{Key}
use Rattle.lot_command.specs.declared.transaction.Posting.{Posting}
use Rattle.lot_command.specs.declared.command.Opening.{Opening as OpeningOf}
use Rattle.lot_command.specs.Sayable.{IsSayable}
use Rattle.lot_book.specs.Book.{entry_of}
use Rattle.lot_book.specs.Facts.{Entry, posts_at_cost}
use Rattle.lot_table.specs.Rows.{with_key}
use Rattle.lot_rows.specs.Allowed.{allowed_cells}
use Rattle.lot_rows.specs.Entry.{named}
use Rattle.lot_rows.specs.Tables.{Tables, account_table, commodity_table, head_table, price_table}
use Rattle.lot_rows.specs.declared.entry.EntryRow.{EntryRow}
use Rattle.lot_stored.specs.Rows.{allowed_rows, commodity_row, entry_row, name_key, pair_key, price_key, row_at}

-- there is a latest day at cost for each of these postings that has braces
abbrev pub HaveHeads : List Posting → Tables → Type 0
HaveHeads postings tables = (account commodity : List ℕ)
    → list_any (posts_at_cost account commodity) postings ≡ true
    → row_at head_table (pair_key account commodity) tables ≢ None

-- Of an account that is opened there is a row, and its currencies are as they are written. A
-- commodity is declared on that day. There is a price of the pair on that day, and a day at cost of
-- each pair that is posted to with braces. What else the rows say depends on the other entries.
abbrev pub HasRows : Command → Tables → Type 0
HasRows (Opening o) tables =
    (row_at account_table (name_key o.account) tables ≢ None)
    × (with_key allowed_cells 1 (name_key o.account) tables.allowed
    ≡ allowed_rows o.account 0 o.currencies)
HasRows (Closing c) tables = ⊤
HasRows (Declaring d) tables =
    row_at commodity_table (name_key d.commodity) tables ≡ Some (commodity_row d.commodity d.day)
HasRows (Quoting q) tables = row_at price_table (price_key q.base q.quote q.day) tables ≢ None
HasRows (Transaction t) tables = HaveHeads t.postings tables

-- the first row under a key is that of the entry of this number
abbrev pub IsFirstUnder : Key → ℕ → Tables → Type 0
IsFirstUnder key number tables =
    option_map (λ (row : EntryRow). row.number)
    (slice_get (named key.source key.name tables.entry) 0) ≡ Some number

-- each entry has its rows
abbrev pub AllHave : Tables → List Entry → Type 0
AllHave tables = AllByRecursion (λ (entry : Entry). HasRows entry.command tables)

-- the rows of an account with that opening
abbrev pub IsOpened : Tables → List ℕ → OpeningOf → Type 0
IsOpened tables account opening =
    (row_at account_table (name_key account) tables ≢ None)
    × (with_key allowed_cells 1 (name_key account) tables.allowed
    ≡ allowed_rows account 0 opening.currencies)

-- the row of the next entry behind so many says this command under this key
abbrev pub IsEntryOf : ℕ → EntryRow → Key → Command → Type 0
IsEntryOf before row key command =
    IsSayable command × (row ≡ entry_row (suc before) (entry_of key command []))

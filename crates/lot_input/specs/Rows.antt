-- The commands of the rows of an input that is a broker file, and why it isn't (docs/FORMATS.md, Broker files).
use Rattle.std.specs.Prelude.{ℕ, List, Option}
use Rattle.lot_command.specs.declared.key.Key.{Key}
use Rattle.lot_import.specs.File.{AreRows, HasFault}
use Rattle.lot_import.specs.Keyed.{AreKeyedFrom, HasInexactRow, HaveCash, remaining}
use Rattle.lot_import.specs.declared.accounts.Accounts.{Accounts}
use Rattle.lot_import.specs.declared.fault.KeyedFault.{KeyedFault}
use Rattle.lot_import.specs.declared.fault.KeyedFault.TheVariants as cash
use Rattle.lot_import.specs.declared.row.Row.{Row}
use Rattle.lot_input.specs.Keyed.{import_source}
use Rattle.lot_input.specs.declared.fault.InputFault.{InputFault}
use Rattle.lot_input.specs.declared.fault.InputFault.TheVariants.{Unasked, Unread, Text, Rows, Cash, Export, Statement, Memory}
use Rattle.lot_rounding.specs.declared.asked.Asked.{Asked}

-- the input is a broker file, and these are its rows from that number on as they are handed in, without those whose `ref` is one
-- of `except`, with cash of so many decimals where they are given, each with its number and under its key in that source
abbrev pub HasRowsOf : List ℕ → Accounts → Option ℕ → ℕ → List (List ℕ) → List ℕ → List ℕ × List (Key × Asked) → Type 0
HasRowsOf source accounts decimals from except input given =
    (rows : List Row) × AreRows input rows × AreKeyedFrom source accounts decimals from except rows given

-- the same of a batch
abbrev pub FileMeans : List ℕ → Accounts → Option ℕ → ℕ → List (List ℕ) → List ℕ → List ℕ × List (Key × Asked) → Type 0
FileMeans batch = HasRowsOf (import_source batch)

-- a row that isn't left out has no cash, and this is the first such row of all; or memory ends, and each row that isn't left out
-- has cash
abbrev pub HasCashFault : Option ℕ → List (List ℕ) → List Row → KeyedFault → Type 0
HasCashFault decimals except rows (cash.InexactAmount number) = HasInexactRow decimals except rows number
HasCashFault decimals except rows cash.Memory = HaveCash decimals (remaining except rows)

-- The input is no broker file, for that fault; or it is one, and a row that isn't left out has no cash. Behind the rows memory ends
-- only where it is one, and each row that isn't left out has cash. It is no fault of a reader.
abbrev pub IsFaultyFile : Option ℕ → List (List ℕ) → List ℕ → InputFault → Type 0
IsFaultyFile decimals except input Unasked = ⊥
IsFaultyFile decimals except input (Unread fault) = ⊥
IsFaultyFile decimals except input (Text fault) = ⊥
IsFaultyFile decimals except input (Rows fault) = HasFault input fault
IsFaultyFile decimals except input (Cash fault) =
    (rows : List Row) × AreRows input rows × HasCashFault decimals except rows fault
IsFaultyFile decimals except input (Export fault) = ⊥
IsFaultyFile decimals except input (Statement fault) = ⊥
IsFaultyFile decimals except input Memory = ⊥

-- Which field of a record of a broker file is shown (docs/FORMATS.md, Broker files).
use Rattle.std.specs.Prelude.{ℕ, ◌&&◌, Bool, List, Option, None, Some, codes, not}
use Rattle.std.specs.Str.{bytes_eq}
use Rattle.lot_import.specs.Row.{at_column}
use Rattle.lot_import.specs.declared.fault.Cause.{Cause}
use Rattle.lot_import.specs.declared.fault.Cause.TheVariants as Causes

-- the column that a cause is of, counted from 0, if it is one alone
abbrev pub column_of : Cause → Option ℕ
column_of Causes.Length = None
column_of Causes.Ref = Some 0
column_of Causes.Date = Some 1
column_of Causes.Action = Some 2
column_of Causes.Symbol = Some 3
column_of Causes.Units = Some 4
column_of Causes.Price = Some 5
column_of Causes.Currency = Some 6
column_of Causes.Fee = Some 7
column_of Causes.Lot = Some 8

-- whether a record is of a purchase whose lot isn't its `ref`
abbrev pub is_of_another_lot : List (List ℕ) → List ℕ → Bool
is_of_another_lot written lot = bytes_eq (at_column written 2) (codes "BUY") && not (bytes_eq lot (at_column written 0))

-- Columns that are read as text.
use Rattle.csv.specs.Records.{fields_of}
use Rattle.lot_import.specs.Row.{SaysDay, SaysRate, SaysUnits, at_column}
use Rattle.lot_import.proofs.FaultyLemmas.{column_read}
use Rattle.lot_import.proofs.faulty.passes.Goals as goal

pub returns-in-Date : goal.returns-in-Date
returns-in-Date c =
    rw (c.in-Date.is) (column_read SaysDay c.args.cause c.field-in-Date.result.now (at_column (fields_of c.args.written.now) 1) c.day.result
    c.is_ok-in-Date.result c.field-in-Date.ensures c.day.ensures c.is_ok-in-Date.ensures.value)

pub returns-in-Units : goal.returns-in-Units
returns-in-Units c =
    rw (c.in-Units.is) (column_read SaysUnits c.args.cause c.field-in-Units.result.now (at_column (fields_of c.args.written.now) 4) c.units.result
    c.is_ok-in-Units.result c.field-in-Units.ensures c.units.ensures c.is_ok-in-Units.ensures.value)

pub returns-in-Price : goal.returns-in-Price
returns-in-Price c =
    rw (c.in-Price.is) (column_read SaysRate c.args.cause c.field-in-Price.result.now (at_column (fields_of c.args.written.now) 5) c.rate.result
    c.is_ok-in-Price.result c.field-in-Price.ensures c.rate.ensures c.is_ok-in-Price.ensures.value)

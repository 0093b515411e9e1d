-- The first bad name is that of what is left.
use Rattle.std.proofs.Common.{◌≡◌, drop}
use Rattle.csv.specs.Records.{fields_of}
use Rattle.lot_sheet.specs.Part.{first_bad, header_columns}
use Rattle.lot_sheet.proofs.names.Given.in_tables.Given as goal

abbrev pub invariant-loop-table : goal.invariant-loop-table
invariant-loop-table l =
    first_bad l.self.optional.now l.self.header.now (header_columns l.delimiter l.number (fields_of l.line) l.tables)
    ≡ first_bad l.self.optional.now l.self.header.now (header_columns l.delimiter l.number (fields_of l.line) (drop l.table-index l.tables))

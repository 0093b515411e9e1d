use Rattle.csv.specs.Records.{fields_of}
use Rattle.lot_sheet.specs.Column.{column_name}
use Rattle.lot_sheet.specs.Part.{columns_under}
use Rattle.lot_sheet.proofs.NameLemmas.{bad_here, bad_more}
use Rattle.lot_sheet.proofs.names.Given.in_tables.Goals as goal

pub loop-table-preserved : goal.loop-table-preserved
loop-table-preserved c =
    let l = c.loop-table in
    bad_more c.args.self.optional.now c.args.self.header.now (columns_under c.args.delimiter c.args.number (fields_of c.args.line.now))
    c.args.tables.now l.table-index _ l.invariant c.table-item.result c.loop-table-test.true c.table-item.is c.in_default.ensures

pub returns-in-Some : goal.returns-in-Some
returns-in-Some c =
    let l = c.loop-table in
    bad_here c.args.self.optional.now c.args.self.header.now (columns_under c.args.delimiter c.args.number (fields_of c.args.line.now))
    c.args.tables.now l.table-index _ l.invariant c.table-item.result c.loop-table-test.true c.table-item.is
    (column_name c.in-Some.bad.column.now, c.in-Some.bad.cause) c.in-Some.ensures

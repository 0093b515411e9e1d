use Rattle.csv.specs.Records.{fields_of}
use Rattle.lot_statement.proofs.LineLemmas.{no_line, taken}
use Rattle.lot_statement.proofs.statement.take.Goals as goal

pub returns-in-Ok : goal.returns-in-Ok
returns-in-Ok c lines has =
    taken lines (fields_of c.args.written.now) (c.in-Ok.commodity, c.in-Ok.units) c.keep.new.said c.keep.result c.in-Ok.ensures (c.keep.ensures lines has)

pub returns-in-Err : goal.returns-in-Err
returns-in-Err c lines has = no_line lines (fields_of c.args.written.now) c.args.said.now c.in-Err.fault c.in-Err.ensures

use Rattle.csv.specs.Records.{fields_of}
use Rattle.lot_sheet.proofs.FieldLemmas.{found, not_found}
use Rattle.lot_sheet.proofs.row.field_at.Goals as goal

pub returns-in-Some : goal.returns-in-Some
returns-in-Some c = found (fields_of c.args.line.now) c.args.place c.in-Some.field.now c.in-Some.ensures.value

pub returns-in-None : goal.returns-in-None
returns-in-None c = not_found (fields_of c.args.line.now) c.args.place c.in-None.ensures.value

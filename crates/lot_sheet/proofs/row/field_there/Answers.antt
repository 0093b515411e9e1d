use Rattle.std.proofs.Common.{◌∙◌}
use Rattle.csv.specs.Records.{fields_of}
use Rattle.lot_sheet.proofs.FieldLemmas.{there}
use Rattle.lot_sheet.proofs.row.field_there.Goals as goal

pub returns : goal.returns
returns c = c.get.ensures.value ∙ there (fields_of c.args.line.now) c.args.place

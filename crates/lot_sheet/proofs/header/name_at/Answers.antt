use Rattle.std.proofs.Common.{ap, ◌∙◌}
use Rattle.csv.specs.Records.{fields_of}
use Rattle.lot_field.specs.Field.{cut}
use Rattle.lot_sheet.proofs.FieldLemmas.{name_found}
use Rattle.lot_sheet.proofs.header.name_at.Goals as goal

pub returns : goal.returns
returns c = c.cut.ensures ∙ ap cut c.field_at.ensures ∙ name_found (fields_of c.args.line.now) c.args.place

use Rattle.std.proofs.Common.{IsTrue, sym, ap, ◌∙◌}
use Rattle.csv.specs.Records.{fields_of}
use Rattle.lot_profile.specs.declared.table.Table.{Table}
use Rattle.lot_sheet.proofs.PartLemmas.{takes_by}
use Rattle.lot_sheet.proofs.part.takes.Goals as goal

pub returns-then-has_begun : goal.returns-then-has_begun
returns-then-has_begun c =
    takes_by (IsTrue c.meets_all.result) c.args.form.now (fields_of c.args.line.now) c.args.table.now _ _ c.names.ensures
    (ap (λ (t : Table). t.rows) c.table.ensures) (sym c.has_begun.ensures ∙ c.if-has_begun.true) c.meets_all.ensures

-- The first bad name is that of what is left.
use Rattle.std.proofs.Common.{◌≡◌, drop}
use Rattle.lot_sheet.specs.Part.{first_bad, asked_columns}
use Rattle.lot_sheet.proofs.names.Given.in_conditions.Given as goal

abbrev pub invariant-loop-condition : goal.invariant-loop-condition
invariant-loop-condition l =
    first_bad l.self.optional.now l.self.header.now (asked_columns l.conditions)
    ≡ first_bad l.self.optional.now l.self.header.now (asked_columns (drop l.condition-index l.conditions))

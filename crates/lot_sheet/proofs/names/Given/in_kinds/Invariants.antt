-- The first bad name is that of what is left.
use Rattle.std.proofs.Common.{◌≡◌, drop}
use Rattle.std.specs.List.{flat_map}
use Rattle.lot_sheet.specs.Part.{first_bad, kind_columns}
use Rattle.lot_sheet.proofs.names.Given.in_kinds.Given as goal

abbrev pub invariant-loop-kind : goal.invariant-loop-kind
invariant-loop-kind l =
    first_bad l.self.optional.now l.self.header.now (flat_map kind_columns l.kinds)
    ≡ first_bad l.self.optional.now l.self.header.now (flat_map kind_columns (drop l.kind-index l.kinds))

-- The first bad name is that of what is left.
use Rattle.std.proofs.Common.{◌≡◌, drop}
use Rattle.lot_sheet.specs.Part.{first_bad, role_columns}
use Rattle.lot_sheet.proofs.names.Given.in_roles.Given as goal

abbrev pub invariant-loop-sources : goal.invariant-loop-sources
invariant-loop-sources l =
    first_bad l.self.optional.now l.self.header.now (role_columns l.roles)
    ≡ first_bad l.self.optional.now l.self.header.now (role_columns (drop l.sources-index l.roles))

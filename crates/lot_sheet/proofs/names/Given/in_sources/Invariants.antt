-- The first bad name is that of what is left.
use Rattle.std.proofs.Common.{◌≡◌, drop}
use Rattle.std.specs.List.{flat_map}
use Rattle.lot_sheet.specs.Part.{first_bad, source_columns}
use Rattle.lot_sheet.proofs.names.Given.in_sources.Given as goal

abbrev pub invariant-loop-source : goal.invariant-loop-source
invariant-loop-source l =
    first_bad l.self.optional.now l.self.header.now (flat_map source_columns l.sources)
    ≡ first_bad l.self.optional.now l.self.header.now (flat_map source_columns (drop l.source-index l.sources))

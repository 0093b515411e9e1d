-- The parts of the sources so far.
use Rattle.std.proofs.Common.{◌≡◌, map, take}
use Rattle.std.specs.List.{filter_map}
use Rattle.lot_roles.specs.Parts.{part_of}
use Rattle.lot_roles.specs.Rules.{sources_of}
use Rattle.lot_roles.proofs.parts.parts.Given as goal

abbrev pub invariant-loop-source : goal.invariant-loop-source
invariant-loop-source l =
    map (λ part. part.now) l.parts.items ≡ filter_map (part_of l.rules.profile.now.file l.row) (take l.source-index (sources_of l.rules l.fn.role))

-- At the end no row is left.
use Rattle.std.specs.Prelude.{None}
use Rattle.std.specs.Iterator.Adapters.{zip_first, zip_second}
use Rattle.std.specs.Slice.Iter.{iter_rest}
use Rattle.std.proofs.Common.{refl}
use Rattle.std.proofs.lemmas.Slice.Zip.{either_empty_from_Zip}
use Rattle.lot_export.proofs.NamedLemmas.{names_all}
use Rattle.lot_export.proofs.named.with_names.Goals as goal

pub returns : goal.returns
returns c =
    names_all c.args.lines.now (iter_rest (zip_first c.loop-line.line-iterator)) c.args.names.now
    (iter_rest (zip_second c.loop-line.line-iterator)) c.loop-line.rows c.loop-line.invariant
    (either_empty_from_Zip c.loop-line.line-iterator c.next.new.self None refl c.in-None.ensures.steps)

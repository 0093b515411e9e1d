-- A text is cut where the byte is found.
use Rattle.std.proofs.Common.{ap, ◌∙◌}
use Rattle.std.specs.Prelude.{option_map}
use Rattle.lot_dump.proofs.CutLemmas.{cut_by, halves}
use Rattle.lot_dump.proofs.cut.cut.Goals as goal

pub returns-in-Some : goal.returns-in-Some
returns-in-Some c =
    cut_by c.args.byte c.args.bytes.now c.memchr.result c.memchr.ensures
    ∙ ap (option_map (halves c.args.byte c.args.bytes.now)) c.in-Some.is

pub returns-in-None : goal.returns-in-None
returns-in-None c =
    cut_by c.args.byte c.args.bytes.now c.memchr.result c.memchr.ensures
    ∙ ap (option_map (halves c.args.byte c.args.bytes.now)) c.in-None.is

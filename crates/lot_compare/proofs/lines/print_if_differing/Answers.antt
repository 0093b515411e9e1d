use Rattle.std.proofs.Common.{rules}
use Rattle.lot_compare.proofs.LineLemmas.{lines_if}
use Rattle.lot_compare.proofs.lines.print_if_differing.Goals as goal

pub returns-clause-lines : goal.returns-clause-lines
returns-clause-lines g c =
    lines_if c.args.kind c.args.subject.now c.args.sides _ _ c.print_difference.result (search rules) c.print_difference.ensures.line

use Rattle.lot_print.proofs.LongestLemmas.{longest_reached}
use Rattle.lot_print.proofs.TextLines.{lines_short}
use Rattle.lot_print.proofs.laws.canonical_lines_are_short.Goals as goal

pub returns-clause-most : goal.returns-clause-most
returns-clause-most c = lines_short

pub returns-clause-reached : goal.returns-clause-reached
returns-clause-reached c = longest_reached

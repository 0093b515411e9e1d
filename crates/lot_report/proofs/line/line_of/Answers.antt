use Rattle.lot_report.proofs.PrintLemmas.{line_is}
use Rattle.lot_report.proofs.line.line_of.Goals as goal

pub returns-in-Ok-clause-bytes : goal.returns-in-Ok-clause-bytes
returns-in-Ok-clause-bytes g c = line_is _ (λ s. s.bytes) (λ w bs v p. p) _ _ _ c.new-line.ensures c.in-Ok.ensures.writes

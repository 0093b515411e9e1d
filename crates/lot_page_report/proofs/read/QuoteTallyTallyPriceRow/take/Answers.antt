use Rattle.lot_page_report.proofs.TakeLemmas.{taken_or_memory}
use Rattle.lot_page_report.proofs.read.QuoteTallyTallyPriceRow.take.Goals as goal

pub returns : goal.returns
returns c = λ range rows taken.
    taken_or_memory _ _ c.add.result (λ adds. adds range rows taken) c.add.ensures.adds c.add.ensures.cause

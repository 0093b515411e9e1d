use Rattle.lot_base.proofs.ReadBackLemmas.{named_day-day_text}
use Rattle.lot_base.proofs.laws.day_text_reads_back.Goals as goal

pub returns : goal.returns
returns c = named_day-day_text

use Rattle.std.proofs.Common.{◌∙◌, sym}
use Rattle.lot_register.proofs.RowLemmas.{head_csv, head_text}
use Rattle.lot_register.proofs.register.Register.begin.Goals as goal

pub returns-in-Text-clause-lines : goal.returns-in-Text-clause-lines
returns-in-Text-clause-lines g c terms legs taken = head_text terms.0 _ (sym taken.0 ∙ c.in-Text.is)

pub returns-in-Csv-clause-lines : goal.returns-in-Csv-clause-lines
returns-in-Csv-clause-lines g c terms legs taken = head_csv terms.0 _ _ _ (sym taken.0 ∙ c.in-Csv.is) c.print_texts.ensures.bytes

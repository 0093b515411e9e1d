-- Each part is told by its first bytes.
use Rattle.lot_field.proofs.FormLemmas.{one-spelling}
use Rattle.lot_field.proofs.laws.a_text_has_one_form_of_days.Goals as goal

pub returns : goal.returns
returns c = λ text one other h k. one-spelling text other one k h

-- Part by part.
use Rattle.lot_profile_text.proofs.DayLemmas.{form-parts, form-some}
use Rattle.lot_profile_text.proofs.laws.a_form_of_days_is_written_by_its_parts.Goals as goal

pub returns : goal.returns
returns c = λ text form. (form-parts text form, form-some text form)

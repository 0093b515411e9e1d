-- A text writes one form of days at most.
use Rattle.std.proofs.Common.{Err, ap, sym}
use Rattle.lot_profile_text.proofs.DayLemmas.{form-none, form-some}
use Rattle.lot_profile_text.proofs.day.day_form.Goals as goal

pub returns-in-Ok : goal.returns-in-Ok
returns-in-Ok c = sym (form-some c.args.text.now c.in-Ok.form c.in-Ok.ensures.ok)

pub returns-in-Err-BadForm : goal.returns-in-Err-BadForm
returns-in-Err-BadForm c = sym (form-none c.args.text.now (c.in-Err-BadForm.ensures.bad (ap Err c.in-Err-BadForm.field-0-is)))

-- The parts that were read are those of the text.
use Rattle.std.proofs.Common.{◌≡◌, true, false, sym, ◌∙◌}
use Rattle.std.proofs.lemmas.Bool.{false≢true}
use Rattle.lot_field.specs.Days.{HaveEachOnce}
use Rattle.lot_field.proofs.FormLemmas.{not-once}
use Rattle.lot_field.proofs.days.DayForm.parse.Goals as goal

pub returns-else-have_each_once-clause-bad : goal.returns-else-have_each_once-clause-bad
returns-else-have_each_once-clause-bad c = λ bad parts form.
    let spelled = rw c.as_bytes.ensures.value at c.in_ok-parts.ensures.ok in
    let not_each : HaveEachOnce c.in_ok-parts.parts → ⊥ = λ each.
    let yes : c.have_each_once.result ≡ true = c.have_each_once.ensures.1 (rw c.as_slice.ensures each) in
    let no : c.have_each_once.result ≡ false = c.if-have_each_once.false in
    false≢true (sym no ∙ yes) in
    not-once c.args.text.now c.in_ok-parts.parts parts spelled not_each form

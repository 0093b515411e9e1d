-- The text of a number is read as the number, and compared with what is printed of it.
use Rattle.std.proofs.Common.{◌∙◌, sym}
use Rattle.std.proofs.lemmas.Bool.{false≢true}
use Rattle.std.proofs.lemmas.Slice.Eq.{bytes_eq-Decides}
use Rattle.lot_without.proofs.ValueLemmas.{not_read, read_as, read_other}
use Rattle.lot_without.proofs.value.number.Goals as goal

pub returns-in_default : goal.returns-in_default
returns-in_default c = sym (not_read c.args.text.now c.parse.result c.parse.ensures.value.0 c.in_default.field-0 c.in_default.is)

pub returns-then-eq : goal.returns-then-eq
returns-then-eq c =
    let same = (bytes_eq-Decides c.as_bytes.result.now c.as_bytes-2.result.now).0 (sym c.eq.ensures ∙ c.if-eq.true) in
    sym (read_as c.args.text.now c.parse.result c.parse.ensures.value.0 c.in-Ok.number c.in-Ok.is
    (sym c.as_bytes-2.ensures.value ∙ sym same ∙ c.as_bytes.ensures.value ∙ c.format.ensures.text))

pub returns-else-eq : goal.returns-else-eq
returns-else-eq c =
    sym (read_other c.args.text.now c.parse.result c.parse.ensures.value.0 c.in-Ok.number c.in-Ok.is (λ whole.
    let same = (bytes_eq-Decides c.as_bytes.result.now c.as_bytes-2.result.now).1
    (c.as_bytes.ensures.value ∙ c.format.ensures.text ∙ sym whole ∙ sym c.as_bytes-2.ensures.value) in
    false≢true (sym c.if-eq.false ∙ c.eq.ensures ∙ same)))

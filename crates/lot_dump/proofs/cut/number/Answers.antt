-- The text of a number is UTF-8, and is read as the number.
use Rattle.std.proofs.Common.{◌∙◌, sym}
use Rattle.std.proofs.lemmas.Bool.{false≢true}
use Rattle.std.proofs.lemmas.Slice.Eq.{bytes_eq-Decides}
use Rattle.lot_dump.proofs.CutLemmas.{not_read, not_text, read_as, read_other}
use Rattle.lot_dump.proofs.cut.number.Goals as goal

pub returns-in_default : goal.returns-in_default
returns-in_default c = sym (not_text c.args.text.now c.in_default.ensures.cases.0)

pub returns-in_default-parse : goal.returns-in_default-parse
returns-in_default-parse c =
    sym (not_read c.args.text.now c.in-Ok.digits.now c.parse.result c.in-Ok.ensures.cases.0 c.parse.ensures.value.0 c.in_default-parse.field-0
    c.in_default-parse.is)

pub returns-then-eq : goal.returns-then-eq
returns-then-eq c =
    let same = (bytes_eq-Decides c.as_bytes.result.now c.args.text.now).0 (sym c.eq.ensures ∙ c.if-eq.true) in
    sym (read_as c.args.text.now c.in-Ok.digits.now c.parse.result c.in-Ok.ensures.cases.0 c.parse.ensures.value.0 c.in-Ok-parse.number
    c.in-Ok-parse.is (sym same ∙ c.as_bytes.ensures.value ∙ c.format.ensures.text))

pub returns-else-eq : goal.returns-else-eq
returns-else-eq c =
    sym (read_other c.args.text.now c.in-Ok.digits.now c.parse.result c.in-Ok.ensures.cases.0 c.parse.ensures.value.0 c.in-Ok-parse.number
    c.in-Ok-parse.is (λ whole.
    let same = (bytes_eq-Decides c.as_bytes.result.now c.args.text.now).1 (c.as_bytes.ensures.value ∙ c.format.ensures.text ∙ sym whole) in
    false≢true (sym c.if-eq.false ∙ c.eq.ensures ∙ same)))

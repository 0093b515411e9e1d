-- The bytes are decoded, and their text is compared, since capital digits are decoded too.
use Rattle.std.proofs.Common.{◌≡◌, ◌∙◌, ap, sym}
use Rattle.std.proofs.lemmas.Bool.{false≢true}
use Rattle.std.proofs.lemmas.Slice.Eq.{bytes_eq-Decides}
use Rattle.hex.specs.Hex.{encode_lower}
use Rattle.lot_dump.specs.Cutting.{bytes_by}
use Rattle.lot_dump.proofs.CutLemmas.{digest_is, digest_other, digest_same}
use Rattle.lot_dump.proofs.cut.digest.Goals as goal

pub returns-in_default : goal.returns-in_default
returns-in_default c =
    sym (ap (bytes_by c.args.text.now) c.in_default.is) ∙ digest_is c.args.text.now c.from_hex.result c.from_hex.ensures

pub returns-then-eq : goal.returns-then-eq
returns-then-eq c =
    let same = (bytes_eq-Decides c.as_slice.result.now c.args.text.now).0 (sym c.eq.ensures ∙ c.if-eq.true) in
    let whole = sym same ∙ c.as_slice.ensures ∙ c.in-Ok-encode_to_slice.ensures.written in
    sym (digest_same c.args.text.now c.in-Ok.bytes whole) ∙ sym (ap (bytes_by c.args.text.now) c.in-Ok.is)
    ∙ digest_is c.args.text.now c.from_hex.result c.from_hex.ensures

pub returns-else-eq : goal.returns-else-eq
returns-else-eq c =
    let other : c.args.text.now ≡ encode_lower c.in-Ok.bytes → ⊥ =
    λ whole.
    let same = (bytes_eq-Decides c.as_slice.result.now c.args.text.now).1 (c.as_slice.ensures ∙ c.in-Ok-encode_to_slice.ensures.written ∙ sym whole) in
    false≢true (sym c.if-eq.false ∙ c.eq.ensures ∙ same) in
    sym (digest_other c.args.text.now c.in-Ok.bytes other) ∙ sym (ap (bytes_by c.args.text.now) c.in-Ok.is)
    ∙ digest_is c.args.text.now c.from_hex.result c.from_hex.ensures

-- The digits of the first sixteen bytes are a label, and the first digits.
use Rattle.std.specs.Prelude.{◌≡◌, true, Err, length, take}
use Rattle.std.proofs.Common.{arith, sym, ap, ◌∙◌}
use Rattle.std.proofs.lemmas.Bool.{true≢false}
use Rattle.std.proofs.lemmas.List.{length-take-le}
use Rattle.hex.specs.Hex.{encode_lower, lower_digits}
use Rattle.lot_base.specs.Name.{is_label}
use Rattle.lot_sequence.proofs.KeyLemmas.{digits_are_label, first_digits, small_taken}
use Rattle.lot_sequence.proofs.key.first_digits.Goals as goal

pub returns-in-Ok : goal.returns-in-Ok
returns-in-Ok c = c.in-Ok.ensures.ok ∙ c.as_str.ensures.value ∙ c.in_ok-digits.ensures ∙ sym (first_digits lower_digits c.args.digest.now 16)

pub unreachable-requires : goal.unreachable-requires
unreachable-requires c =
    let text : c.as_str.result.now ≡ encode_lower (take 16 c.args.digest.now) = c.as_str.ensures.value ∙ c.in_ok-digits.ensures in
    let sixteen : length (take 16 c.args.digest.now) ≡ 16 = length-take-le 16 c.args.digest.now c.requires in
    let label : is_label c.as_str.result.now ≡ true =
    ap is_label text ∙ digits_are_label (take 16 c.args.digest.now) (omega arith) (omega arith) (small_taken 16 c.args.digest.now (λ place. omega (arith, c.type_inv.digest place))) in
    absurd (true≢false (sym label ∙ c.in-Err-BadLabel.ensures.bad.0 (ap (λ fault. Err fault) c.in-Err-BadLabel.field-0-is)))

use Rattle.std.proofs.Common.{◌≡◌, ◌++◌, ◌∙◌, ap, length, sym, length-append, arith}
use Rattle.std.specs.Char.{encode_utf8}
use Rattle.std.specs.Str.{IsUtf8}
use Rattle.std.proofs.lemmas.Str.{IsUtf8-past_char, length-encode}
use Rattle.lot_html.specs.Number.{comma_at, comma_before, grouped_digits}
use Rattle.lot_html.proofs.DigitLemmas.{appended_more, comma_by_length, grouped_character}
use Rattle.lot_html.proofs.number.push_digits.Goals as goal

pub loop-digit-preserved : goal.loop-digit-preserved
loop-digit-preserved c =
    let rest = c.loop-digit.digit-iterator.rest.now in
    let left = c.next.new.self.rest.now in
    let digit = c.in-Some.digit in
    let is : rest ≡ encode_utf8 digit ++ left = c.in-Some.ensures.steps.0 in
    let utf8 : IsUtf8 left = IsUtf8-past_char rest left digit c.loop-digit.invariant.utf8 is in
    let count : c.saturating_sub-left.result ≡ length left =
    omega (arith, ap length is ∙ length-append (encode_utf8 digit) left, length-encode digit, c.len_utf8.ensures.value) in
    let one = ap grouped_digits is ∙ grouped_character digit left in
    let comma : comma_before left ≡ comma_at c.saturating_sub-left.result = comma_by_length left utf8 ∙ ap comma_at (sym count) in
    record {
      appended = appended_more _ _ _ _ (encode_utf8 digit) rest left c.saturating_sub-left.result c.loop-digit.invariant.appended one comma c.in_ok-push.ensures.bytes
          c.in_ok-push_comma.ensures;
      count = count;
      utf8 = utf8;
    }

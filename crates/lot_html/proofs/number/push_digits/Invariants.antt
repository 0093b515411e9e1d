use Rattle.std.proofs.Common.{◌≡◌, ◌++◌, length}
use Rattle.std.specs.Str.{IsUtf8}
use Rattle.std.specs.String.{string_bytes}
use Rattle.lot_html.specs.Number.{grouped_digits}
use Rattle.lot_html.proofs.number.push_digits.Given as goal

-- what is appended and what is left are all digits
abbrev pub invariant-loop-digit : goal.invariant-loop-digit
invariant-loop-digit l = record {
  appended : string_bytes l.text ++ grouped_digits l.digit-iterator.rest.now ≡ string_bytes l.initial.text ++ grouped_digits l.digits;
  count : l.left ≡ length l.digit-iterator.rest.now;
  utf8 : IsUtf8 l.digit-iterator.rest.now;
}

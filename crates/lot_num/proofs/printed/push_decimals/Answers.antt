-- `write!` appends a point and the digits, padded to the places.
use Rattle.std.proofs.Common.{arith, ◌∙◌, ap, ◌++◌}
use Rattle.std.specs.String.{string_bytes}
use Rattle.lot_num.proofs.TextLemmas.{point_and-styled}
use Rattle.lot_num.proofs.printed.push_decimals.Goals as goal

pub returns-in_ok-write : goal.returns-in_ok-write
returns-in_ok-write c =
    let written = rw c.laid_out.ensures at c.in_ok-write.ensures.bytes in
    written ∙ ap (λ bs. string_bytes c.args.text.now ++ bs) (point_and-styled c.args.places c.args.digits c.if-places-gt0.true (omega (arith, c.ranges.digits)))

-- The sign stands before the magnitude.
use Rattle.std.proofs.Common.{arith, lit<, ap, ◌∙◌, ◌≡◌, [], ◌∷◌, unsigned_abs, ◌<ℤ◌, ◌≤ℤ◌, pos, FitsSigned}
use Rattle.std.specs.Int.{w128}
use Rattle.std.specs.String.{string_bytes}
use Rattle.std.proofs.lemmas.Int.{ints, to_z-of_z}
use Rattle.lot_num.proofs.TextLemmas.{amount_text-positive, amount_text-negative}
use Rattle.lot_num.proofs.printed.amount_text.Goals as goal
use Rattle.lot_num.proofs.printed.amount_text.Goals.{then-mantissa-lt0+in_ok-push, else-mantissa-lt0}

pub returns : goal.returns
returns c =
    let z = c.args.mantissa in
    let fits : FitsSigned w128 z = c.ranges.mantissa in
    let magnitude : c.unsigned_abs.result ≡ unsigned_abs z = simp to_z-of_z at c.unsigned_abs.ensures.value in
    elim c.if-mantissa-lt0.branch [
      | then-mantissa-lt0+in_ok-push w ↦
          let below : z <ℤ pos 0 = omega (arith, ints, w.if-mantissa-lt0.true) in
          let minus = w.in_ok-push.ensures.ascii (lit< tt) in
          let prefix : string_bytes c.if-mantissa-lt0.text ≡ 45 ∷ [] = ap string_bytes w.text-is ∙ w.in_ok-push.ensures.bytes ∙ rw (c.new-text.ensures.bytes, minus) in
          amount_text-negative _ _ z _ _ _ below magnitude prefix c.in_ok-push_magnitude.ensures
      | else-mantissa-lt0 w ↦
          let above : pos 0 ≤ℤ z = omega (arith, ints, w.if-mantissa-lt0.false) in
          let prefix : string_bytes c.if-mantissa-lt0.text ≡ [] = ap string_bytes w.text-is ∙ c.new-text.ensures.bytes in
          amount_text-positive _ _ z _ _ _ above magnitude prefix c.in_ok-push_magnitude.ensures
    ]

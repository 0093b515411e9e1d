-- By the first of the decimals, and where it is a five by those behind it.
use Rattle.std.proofs.Common.{◌≡◌, ◌≢◌, ◌<◌, ◌≤◌, ◌%◌, true, false, get_or, drop, sym, ap, ◌∙◌, arith}
use Rattle.std.proofs.lemmas.Bool.Decides.{nat_tests}
use Rattle.lot_field.specs.Halves.{are_zeros}
use Rattle.lot_field.proofs.NumberLemmas.{half_down, half_more, half_up, rest-is, rounds_larger, rounds_smaller}
use Rattle.lot_field.proofs.numbers.rounds_up.Goals as goal

pub returns-then-first-ne53-clause-up : goal.returns-then-first-ne53-clause-up
returns-then-first-ne53-clause-up c = λ up.
    let more : 53 < get_or c.args.others.now 0 0 = grind (arith, nat_tests, up) in
    rounds_larger c.args.mantissa c.args.others.now c.requires c.in-len1-up.len_at_least more

pub returns-then-first-ne53-clause-down : goal.returns-then-first-ne53-clause-down
returns-then-first-ne53-clause-down c = λ down.
    let most : get_or c.args.others.now 0 0 ≤ 53 = grind (arith, nat_tests, down) in
    let other : get_or c.args.others.now 0 0 ≢ 53 = c.if-first-ne53.true in
    let less : get_or c.args.others.now 0 0 < 53 = omega (arith, most, other) in
    rounds_smaller c.args.mantissa c.args.others.now c.requires c.in-len1-up.len_at_least less

pub returns-then-are_zeros-clause-up : goal.returns-then-are_zeros-clause-up
returns-then-are_zeros-clause-up c = λ up.
    let odd : c.args.mantissa % 2 ≡ 1 = grind (arith, nat_tests, up) in
    let zeros : are_zeros (drop 1 c.args.others.now) ≡ true =
    ap are_zeros (sym (rest-is c.args.others.now)) ∙ sym c.are_zeros.ensures ∙ c.if-are_zeros.true in
    half_up c.args.mantissa c.args.others.now c.requires c.in-len1-up.len_at_least c.if-first-ne53.false zeros odd

pub returns-then-are_zeros-clause-down : goal.returns-then-are_zeros-clause-down
returns-then-are_zeros-clause-down c = λ down.
    let even : c.args.mantissa % 2 ≢ 1 = grind (arith, nat_tests, down) in
    let zeros : are_zeros (drop 1 c.args.others.now) ≡ true =
    ap are_zeros (sym (rest-is c.args.others.now)) ∙ sym c.are_zeros.ensures ∙ c.if-are_zeros.true in
    half_down c.args.mantissa c.args.others.now c.requires c.in-len1-up.len_at_least c.if-first-ne53.false zeros even

pub returns-else-are_zeros-clause-up : goal.returns-else-are_zeros-clause-up
returns-else-are_zeros-clause-up c = λ up.
    let left : are_zeros (drop 1 c.args.others.now) ≡ false =
    ap are_zeros (sym (rest-is c.args.others.now)) ∙ sym c.are_zeros.ensures ∙ c.if-are_zeros.false in
    half_more c.args.mantissa c.args.others.now c.requires c.in-len1-up.len_at_least c.if-first-ne53.false left

-- The mantissa is the nearest one, and no other is.
use Rattle.std.proofs.Common.{◌≡◌, ◌≤◌, ◌<◌, ◌^◌, ℕ, min, length, take, drop, refl, sym, ap, ◌∙◌, arith, rules}
use Rattle.std.specs.Str.Parse.{digits_value}
use Rattle.lot_field.specs.Numbers.{digits_of}
use Rattle.lot_field.proofs.NumberLemmas.{byte-is, no-less, one_mantissa, reads, whole-within}
use Rattle.std.proofs.Math.Nat.{one-le-pow}
use Rattle.lot_field.proofs.numbers.mantissa.Goals as goal

pub returns-then-whole-ge-WHOLE_LIMIT-clause-every : goal.returns-then-whole-ge-WHOLE_LIMIT-clause-every
returns-then-whole-ge-WHOLE_LIMIT-clause-every c = λ mantissa exactness range is.
    let number = digits_value 10 (digits_of c.args.whole.now) in
    let large : 10 ^ 10 ≤ number = omega (arith, c.written-whole.ensures, c.if-whole-ge-WHOLE_LIMIT.true) in
    let places = length c.args.decimals.now in
    let least = no-less _ (10 ^ places) number mantissa (whole-within c.args.whole.now c.args.decimals.now 0) (one-le-pow places 10 (omega arith)) is.nearest in
    absurd (omega (arith, large, least, range))

pub returns-then-mantissa-lt-LIMIT-clause-some : goal.returns-then-mantissa-lt-LIMIT-clause-some
returns-then-mantissa-lt-LIMIT-clause-some c =
    let least : min (length c.args.decimals.now) 8 ≡ c.min.result = sym c.min.ensures in
    let small : c.written-whole.result < 10 ^ 10 = c.if-whole-ge-WHOLE_LIMIT.false in
    reads c.args.whole.now c.args.decimals.now c.split_at.result.0.now c.split_at.result.1.now
    c.written-whole.result c.at_scale.result c.from.result c.rounds_up.result c.exactness_of.result c.requires
    (c.split_at.ensures.front ∙ ap (λ (n : ℕ). take n c.args.decimals.now) (sym least))
    (c.split_at.ensures.back ∙ ap (λ (n : ℕ). drop n c.args.decimals.now) (sym least))
    c.written-whole.ensures small c.at_scale.ensures.value c.rounds_up.ensures.up c.rounds_up.ensures.down (c.from.ensures ∙ byte-is c.rounds_up.result) c.exactness_of.ensures

pub returns-then-mantissa-lt-LIMIT-clause-every : goal.returns-then-mantissa-lt-LIMIT-clause-every
returns-then-mantissa-lt-LIMIT-clause-every c = λ mantissa exactness range is.
    let same = one_mantissa _ _ _ mantissa _ exactness (returns-then-mantissa-lt-LIMIT-clause-some c) is in
    rw (same.0, same.1) refl

pub returns-else-mantissa-lt-LIMIT-clause-every : goal.returns-else-mantissa-lt-LIMIT-clause-every
returns-else-mantissa-lt-LIMIT-clause-every c = λ mantissa exactness range is.
    let least : min (length c.args.decimals.now) 8 ≡ c.min.result = search rules in
    let small : c.written-whole.result < 10 ^ 10 = c.if-whole-ge-WHOLE_LIMIT.false in
    let said = reads c.args.whole.now c.args.decimals.now c.split_at.result.0.now c.split_at.result.1.now
    c.written-whole.result c.at_scale.result c.from.result c.rounds_up.result _ c.requires
    (c.split_at.ensures.front ∙ ap (λ (n : ℕ). take n c.args.decimals.now) (sym least))
    (c.split_at.ensures.back ∙ ap (λ (n : ℕ). drop n c.args.decimals.now) (sym least))
    c.written-whole.ensures small c.at_scale.ensures.value c.rounds_up.ensures.up c.rounds_up.ensures.down (c.from.ensures ∙ byte-is c.rounds_up.result) refl in
    let same = one_mantissa _ _ _ mantissa _ exactness said is in
    absurd (omega (arith, same.0, range, c.if-mantissa-lt-LIMIT.false))

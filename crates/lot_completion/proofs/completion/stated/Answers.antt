-- Each amount adds its part in the currency.
use Rattle.std.proofs.Common.{◌≡◌, ◌∙◌, ◌+◌, ◌∷◌, [], ap, arith, take, ◌+ℤ◌, rules}
use Rattle.std.proofs.lemmas.Int.{ints}
use Rattle.lot_book.specs.Currencies.{sum_in}
use Rattle.lot_book.proofs.SumLemmas.{sum_in-append}
use Rattle.lot_completion.proofs.FewLemmas.{IsLittle, part_small}
use Rattle.lot_completion.proofs.RateLemmas.{at_next, next_taken}
use Rattle.lot_completion.proofs.completion.stated.Goals as goal

pub plus-sum-requires : goal.plus-sum-requires
plus-sum-requires c =
    let item = c.amount-item.result in
    let little = at_next IsLittle c.args.left.now c.loop-amount.amount-index item (search rules) c.amount-item.is c.requires.few.small in
    let small = part_small item c.args.currency.now little in
    omega (arith, ints, small, c.part_in.ensures, c.loop-amount.invariant.near, c.requires.within, c.requires.few.count)

pub loop-amount-preserved : goal.loop-amount-preserved
loop-amount-preserved c =
    let before = c.loop-amount.invariant in
    let item = c.amount-item.result in
    let i = c.loop-amount.amount-index in
    let currency = c.args.currency.now in
    let taken = next_taken c.args.left.now i item (search rules) c.amount-item.is in
    let little = at_next IsLittle c.args.left.now i item (search rules) c.amount-item.is c.requires.few.small in
    let more : sum_in (take (i + 1) c.args.left.now) currency ≡ sum_in (take i c.args.left.now) currency +ℤ sum_in (item ∷ []) currency =
    ap (λ ls. sum_in ls currency) taken ∙ sum_in-append (take i c.args.left.now) (item ∷ []) currency in
    record {
      sum = omega (arith, ints, more, before.sum, c.plus-sum.ensures, c.part_in.ensures);
      near = omega (arith, ints, before.near, c.plus-sum.ensures, c.part_in.ensures, part_small item currency little);
    }

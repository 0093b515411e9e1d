use Rattle.std.proofs.Common.{◌≡◌, Some, refl, rules}
use Rattle.std.proofs.lemmas.Result.{on_ok_weaker}
use Rattle.lot_months.specs.Range.{place_in}
use Rattle.lot_months.specs.declared.prices.MonthPrices.{MonthPrices}
use Rattle.lot_months.proofs.PriceLemmas.{SetsRate, rates_more}
use Rattle.lot_months.proofs.prices.MonthPrices.add.Goals as goal

pub returns-clause-adds : goal.returns-clause-adds
returns-clause-adds c =
    let old = c.args.self.now in
    let row = c.args.row in
    let new : MonthPrices = record { alloc = old.alloc; range = old.range; pairs = c.set_rate.new.pairs } in
    let falls : place_in old.range row.day ≡ Some c.in-Some.at = search rules in
    on_ok_weaker {P = SetsRate old.pairs new.pairs (row.base, row.quote) c.in-Some.at row.rate} c.set_rate.result
    (λ sets range quotes has. rates_more range quotes row old new c.in-Some.at refl falls sets has)
    c.set_rate.ensures.sets

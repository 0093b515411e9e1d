-- All units at a price weigh what the legs do.
use Rattle.std.proofs.Common.{neg_ℤ, pos, ◌*ℤ◌, ◌∙◌, ap, sym}
use Rattle.lot_book.specs.Gain.{proceeds_at}
use Rattle.lot_book.proofs.GainLemmas.{proceeds_each}
use Rattle.lot_book.proofs.gain.proceeds.Goals as goal

pub returns-in-Each-clause-value : goal.returns-in-Each-clause-value
returns-in-Each-clause-value c =
    let sale = c.args.sale.now in
    let rate = c.in-Each.price.rate in
    c.weight.ensures.value
    ∙ ap (λ z. z *ℤ pos rate) (c.negated.ensures ∙ ap neg_ℤ (c.units-units.ensures.value ∙ sym c.units-units.ensures.of_legs.sum))
    ∙ sym (proceeds_each rate sale.legs)
    ∙ ap (λ price. proceeds_at price sale.units sale.legs) (sym c.in-Each.is)

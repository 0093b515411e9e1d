-- A day that is named is that of a past day, with its own prices unless another day is named for them.
use Rattle.std.proofs.Common.{◌∙◌, ap, refl, sym}
use Rattle.std.specs.Prelude.{unwrap_or}
use Rattle.lot_args.proofs.words.holdings.Goals as goal

pub returns-in-Some : goal.returns-in-Some
returns-in-Some c =
    (refl, sym c.day.ensures ∙ c.in-Some.is, c.unwrap_or.ensures ∙ ap (λ prices. unwrap_or prices c.in-Some.on) c.day-prices.ensures, c.format-format.ensures)

pub returns-in-None : goal.returns-in-None
returns-in-None c = (refl, sym c.day.ensures ∙ c.in-None.is, c.day-prices.ensures, c.format-format.ensures)

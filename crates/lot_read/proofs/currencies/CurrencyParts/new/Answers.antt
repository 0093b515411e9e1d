use Rattle.lot_read.proofs.DirectiveLemmas.{currencies_named, currency_outside}
use Rattle.std.proofs.Common.{sym, ◌∙◌}
use Rattle.lot_read.proofs.currencies.CurrencyParts.new.Goals as goal

pub returns-then-not-are_commodities-clause-outside : goal.returns-then-not-are_commodities-clause-outside
returns-then-not-are_commodities-clause-outside c =
    currency_outside c.args.words.now (sym c.are_commodities.ensures ∙ c.if-not-are_commodities.true)

pub returns-clause-means : goal.returns-clause-means
returns-clause-means c = currencies_named c.args.words.now (sym c.are_commodities.ensures ∙ c.if-not-are_commodities.false)

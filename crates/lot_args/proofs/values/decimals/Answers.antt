use Rattle.std.proofs.Common.{◌∙◌, ap}
use Rattle.lot_args.specs.Rounding.{decimals_at}
use Rattle.lot_args.proofs.ValueLemmas.{decimals_from}
use Rattle.lot_args.proofs.values.decimals.Goals as goal

pub returns : goal.returns
returns c = c.unwrap_or.ensures ∙ decimals_from _ _ _ c.new.ensures c.of_units.ensures ∙ ap decimals_at c.number_or-number.ensures

use Rattle.std.proofs.Common.{◌∙◌, ap}
use Rattle.lot_args.specs.Start.{start_at}
use Rattle.lot_args.proofs.ValueLemmas.{start_from}
use Rattle.lot_args.proofs.values.from.Goals as goal

pub returns : goal.returns
returns c = c.unwrap_or.ensures ∙ start_from _ _ _ c.new.ensures c.at_first.ensures ∙ ap start_at c.number_or.ensures

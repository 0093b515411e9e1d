-- What they come to with the number that is drawn.
use Rattle.std.proofs.Common.{inr, rules}
use Rattle.lot_files.proofs.files.open_given.Goals as goal

pub returns-in-Some-clause-opens : goal.returns-in-Some-clause-opens
returns-in-Some-clause-opens g c = record {
  seed = c.seed.result;
  draws = c.seed.ensures;
  told = inr (c.in-Some.number, c.open_noted.ensures.opens, search rules);
}

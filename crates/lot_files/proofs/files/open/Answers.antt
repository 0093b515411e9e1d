-- What the files that are given come to.
use Rattle.std.proofs.Common.{inr, rules}
use Rattle.lot_files.proofs.files.open.Goals as goal

pub returns-in-Ok-clause-opens : goal.returns-in-Ok-clause-opens
returns-in-Ok-clause-opens g c = record {
  files = c.open_files.result;
  gives = c.open_files.ensures.gives;
  told = inr (c.in-Ok.files, c.open_given.ensures.opens, search rules);
}

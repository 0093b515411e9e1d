-- The library says why it opens none.
use Rattle.std.proofs.Common.{rules}
use Rattle.lot_files.proofs.copy.open_images.Goals as goal

pub returns-in-Err-clause-opens : goal.returns-in-Err-clause-opens
returns-in-Err-clause-opens c = record {
  found = search rules;
  fails = (c.in-Err.error, c.in-Err._left, c.in-Err.ensures.cause, search rules);
}

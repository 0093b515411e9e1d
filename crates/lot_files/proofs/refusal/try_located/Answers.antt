-- The files that were found are opened.
use Rattle.std.proofs.Common.{inr, rules}
use Rattle.lot_files.proofs.refusal.try_located.Goals as goal

pub returns : goal.returns
returns g c = record {
  located = c.locate.result;
  leads = c.locate.ensures;
  told = inr (c.in_ok-files.files, c.try_files.ensures, search rules);
}

use Rattle.std.proofs.Common.{inr}
use Rattle.lot_files.proofs.OpenLemmas.{over_images}
use Rattle.lot_files.specs.declared.opened.Database.{Database}
use Rattle.lot_files.proofs.copy.open_copied.Goals as goal

pub returns-clause-over : goal.returns-clause-over
returns-clause-over g c =
    over_images (λ (database : Database). database.conn) c.in_ok-files.files c.open_images.result c.open_images.ensures.opens

pub returns-clause-opens : goal.returns-clause-opens
returns-clause-opens g c = record {
  told = inr (c.in_ok-files.files, c.in_ok-files.ensures.copy, c.open_images.ensures.opens);
}

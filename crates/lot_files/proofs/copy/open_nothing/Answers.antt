use Rattle.lot_files.proofs.OpenLemmas.{over_images}
use Rattle.lot_files.specs.declared.opened.Database.{Database}
use Rattle.lot_files.proofs.copy.open_nothing.Goals as goal

pub returns-clause-over : goal.returns-clause-over
returns-clause-over c =
    over_images (λ (database : Database). database.conn) c.no_bytes.result c.open_images.result c.open_images.ensures.opens

pub returns-clause-opens : goal.returns-clause-opens
returns-clause-opens c = record {
  files = c.no_bytes.result;
  hold_nothing = c.no_bytes.ensures;
  opens = c.open_images.ensures.opens;
}

-- The opener opens what the system does.
use Rattle.lot_files.proofs.OpenerLemmas.{opens_as}
use Rattle.lot_files.specs.Opening.{opener_over}
use Rattle.lot_files.specs.declared.opened.Database.{Database}
use Rattle.lot_files.proofs.opened.open_of.Goals as goal

pub returns-clause-opens : goal.returns-clause-opens
returns-clause-opens g c =
    opens_as _ (opener_over (λ (database : Database). database.conn) g.S.FileSystem g.S.FileMaker.opens g.S.FileOpener)
    (λ opener. opener.system.now) (λ opener path result is. is) (λ opener path result is. is) (λ opener path empty is. is)
    _ c.args.access c.args.path.now c.open_for.result c.open_for.ensures.opens

-- What is opened in a copy of the files of a path is a copy.
use Rattle.lot_files.proofs.OpenLemmas.{copy_at}
use Rattle.lot_files.specs.declared.opened.Database.{Database}
use Rattle.lot_files.proofs.opened.SystemOpenerOpener.copy.Goals as goal

pub returns-clause-copy : goal.returns-clause-copy
returns-clause-copy g c =
    copy_at (λ (database : Database). database.conn) g.S.FileSystem c.args.self.now.system.now c.args.path.now c.open_copy.result
    c.open_copy.ensures.opens c.open_copy.ensures.over

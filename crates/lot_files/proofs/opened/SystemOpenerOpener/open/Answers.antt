-- What is opened in the files of a path is in them.
use Rattle.lot_files.proofs.OpenLemmas.{in_file}
use Rattle.lot_files.specs.declared.opened.Database.{Database}
use Rattle.lot_files.proofs.opened.SystemOpenerOpener.open.Goals as goal

pub returns-clause-file : goal.returns-clause-file
returns-clause-file g c =
    in_file (λ (database : Database). database.conn) g.S.FileSystem g.S.FileMaker.opens g.S.FileOpener c.args.self.now.system.now c.args.path.now
    c.open.result c.open.ensures.opens c.open.ensures.over

-- The number of the options is handed over.
use Rattle.lot_files.specs.Opened.{marked_by}
use Rattle.lot_files.proofs.files.open_marked.Goals as goal

pub returns-clause-marked : goal.returns-clause-marked
returns-clause-marked c = marked_by c.args.options.seed c.open_files.result

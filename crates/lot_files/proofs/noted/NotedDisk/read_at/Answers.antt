-- What is read of it is read of the file.
use Rattle.std.proofs.Common.{sym}
use Rattle.lot_files.proofs.noted.NotedDisk.read_at.Goals as goal

pub returns-clause-read : goal.returns-clause-read
returns-clause-read g c =
    let read = c.read_at.ensures.read in
    rw (sym c.pass.ensures.same) at read

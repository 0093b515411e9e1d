-- The system may answer so.
use Rattle.lot_files.specs.System.{answers}
use Rattle.lot_files.proofs.file_opener.HostRuntimeFileOpener.seed.Goals as goal

pub returns-in-Ok : goal.returns-in-Ok
returns-in-Ok c = answers _ _

pub returns-in-Err : goal.returns-in-Err
returns-in-Err c = answers _ _

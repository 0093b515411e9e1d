-- The system may answer so.
use Rattle.lot_files.specs.System.{answers}
use Rattle.lot_files.proofs.file_opener.HostRuntimeFileOpener.open_files.Goals as goal

pub returns-clause-gives : goal.returns-clause-gives
returns-clause-gives c = answers _ _

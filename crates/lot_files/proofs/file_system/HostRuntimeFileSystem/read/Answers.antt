-- The system may answer so.
use Rattle.lot_files.specs.System.{answers}
use Rattle.lot_files.proofs.file_system.HostRuntimeFileSystem.read.Goals as goal

pub returns : goal.returns
returns c = answers _ _

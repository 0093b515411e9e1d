-- The system may answer so.
use Rattle.lot_files.specs.System.{answers}
use Rattle.lot_files.proofs.file_system.HostRuntimeFileSystem.metadata.Goals as goal

pub returns-in_err-metadata : goal.returns-in_err-metadata
returns-in_err-metadata c = answers _ _

pub returns : goal.returns
returns c = answers _ _

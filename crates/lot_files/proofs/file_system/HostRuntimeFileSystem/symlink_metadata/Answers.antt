-- The system may answer so.
use Rattle.lot_files.specs.System.{answers}
use Rattle.lot_files.proofs.file_system.HostRuntimeFileSystem.symlink_metadata.Goals as goal

pub returns-in_err-symlink_metadata : goal.returns-in_err-symlink_metadata
returns-in_err-symlink_metadata c = answers _ _

pub returns : goal.returns
returns c = answers _ _

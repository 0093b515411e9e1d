-- The system may answer so.
use Rattle.lot_files.specs.System.{answers}
use Rattle.lot_files.proofs.file_system.HostRuntimeFileSystem.canonicalize.Goals as goal

pub returns-in_err-canonicalize : goal.returns-in_err-canonicalize
returns-in_err-canonicalize c = answers _ _

pub returns : goal.returns
returns c = answers _ _

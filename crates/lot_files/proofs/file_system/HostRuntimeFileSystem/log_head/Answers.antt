-- The system may answer so.
use Rattle.lot_files.specs.System.{answers}
use Rattle.lot_files.proofs.file_system.HostRuntimeFileSystem.log_head.Goals as goal

pub returns-in_err-open : goal.returns-in_err-open
returns-in_err-open c = answers _ _

pub returns-in_err-read_exact : goal.returns-in_err-read_exact
returns-in_err-read_exact c = answers _ _

pub returns : goal.returns
returns c = answers _ _

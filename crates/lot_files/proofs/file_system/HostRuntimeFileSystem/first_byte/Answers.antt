-- The system may answer so.
use Rattle.lot_files.specs.System.{answers}
use Rattle.lot_files.proofs.file_system.HostRuntimeFileSystem.first_byte.Goals as goal

pub returns-in_err-open : goal.returns-in_err-open
returns-in_err-open c = answers _ _

pub returns-in_err-count : goal.returns-in_err-count
returns-in_err-count c = answers _ _

pub returns-then-count-eq0 : goal.returns-then-count-eq0
returns-then-count-eq0 c = answers _ _

pub returns-else-count-eq0 : goal.returns-else-count-eq0
returns-else-count-eq0 c = answers _ _

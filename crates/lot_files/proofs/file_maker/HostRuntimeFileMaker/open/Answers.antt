-- The system may answer so.
use Rattle.lot_files.specs.System.{answers}
use Rattle.lot_files.proofs.file_maker.HostRuntimeFileMaker.open.Goals as goal

pub returns-in_err-_file : goal.returns-in_err-_file
returns-in_err-_file c = answers _ _

pub returns : goal.returns
returns c = answers _ _

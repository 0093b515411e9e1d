-- A cell may hold any error.
use Rattle.lot_files.specs.Noted.{in_cell}
use Rattle.lot_files.proofs.noted.RefFailureKeeper.keep.Goals as goal

pub returns : goal.returns
returns c = in_cell _ _

-- Those of the causes so far that fail.
use Rattle.std.proofs.Common.{take}
use Rattle.csv.specs.Records.{fields_of}
use Rattle.lot_import.specs.Row.{AreFailing, PassesAlone}
use Rattle.lot_import.proofs.faulty.failing.Given as goal

abbrev pub invariant-loop-cause : goal.invariant-loop-cause
invariant-loop-cause l = AreFailing (PassesAlone l.version (fields_of l.written)) (take l.cause-index l.causes) l.failing.items

-- What an input says as a statement, and why it is none (docs/FORMATS.md, Reconciling).
use Rattle.std.specs.Prelude.{ℕ, ℤ, List}
use Rattle.std.specs.BTreeMap.{BTreeMap}
use Rattle.lot_input.specs.declared.fault.InputFault.{InputFault}
use Rattle.lot_input.specs.declared.fault.InputFault.TheVariants as input
use Rattle.lot_statement.specs.Line.{Line}
use Rattle.lot_statement.specs.Statement.{HasFault, HasSaid, IsStatement}

-- the input is a statement with these lines, and this is what they say
abbrev pub StatementMeans : List ℕ → BTreeMap (List ℕ) ℤ → Type 0
StatementMeans file said = (lines : List Line) × IsStatement file lines × HasSaid lines said

-- the input is none, for that fault; it is no fault of a reader
abbrev pub IsFaultyStatement : List ℕ → InputFault → Type 0
IsFaultyStatement file (input.Statement fault) = HasFault file fault
IsFaultyStatement file _ = ⊥

-- What a text is, and what one statement does.
use Rattle.std.specs.Prelude.{◌≡◌, ◌≢◌, ◌⊎◌, ℕ, Bool, true, false, All, List, map, Ok, Err}
use Rattle.sqlite.specs.Compile.{first}
use Rattle.sqlite.specs.Order.{Row}
use Rattle.sqlite.specs.State.{State, Executes, ExecutesInside, FailsToQuery, Shown}
use Rattle.sqlite.specs.declared.error.Error.{Error}
use Rattle.sqlite_disk.specs.Disk.{MoreFaults}
use Rattle.sqlite_ast.specs.declared.Statement.{Statement}
use Rattle.sqlite_ast.specs.declared.Statement.TheVariants as written
use Rattle.sqlite_syntax.specs.declared.statement.Parsed.{Parsed}
use Rattle.lot_table.specs.Fault.{fault_of}
use Rattle.lot_table.specs.declared.fault.Fault.{Fault}

abbrev pub is_select : Statement → Bool
is_select (written.Select query) = true
is_select _ = false

-- the text begins with a SELECT
abbrev pub IsSelect : List ℕ → Type 0
IsSelect text = (parsed : Parsed) × (first text ≡ Ok parsed) × (is_select parsed.statement ≡ true)

-- the statement ran with these parameters, whatever it changed
abbrev pub Ran : List ℕ → Row → State → State → Type 0
Ran text params old new = (changed : ℕ) × Executes text params old new (Ok changed)

-- the database refused the change, in a transaction, and that is the fault
abbrev pub RefusedChange : List ℕ → Row → State → State → Fault → Type 0
RefusedChange text params old new fault = (error : Error) × (fault ≡ fault_of error) × ExecutesInside 0 text params old new (Err error)

-- the database refused the query, and that is the fault
abbrev pub Refused : List ℕ → Row → State → State → Fault → Type 0
Refused text params old new fault = (error : Error) × (fault ≡ fault_of error) × FailsToQuery text params old new error

-- the query answers rows that aren't those of values that a book can have
abbrev pub ShowsDamage : {X : Type 0} → (X → Row) → (X → Type 0) → List ℕ → Row → State → State → Type 0
ShowsDamage {X} encode good text params old new = (rows : List Row) × Shown text params old new rows × ((xs : List X) → All good xs → rows ≢ map encode xs)

-- the disk failed during the call, or an earlier failure had shut the connection
abbrev pub DiskFailed : State → State → Type 0
DiskFailed old new = MoreFaults old.faults new.faults ⊎ (old.is_open ≡ false)

-- Questions to the tables of a book, which tell where they stand for none.
use Rattle.std.specs.Prelude.{◌≡◌, None, IfOk, OnErr, OnOk, Result, Err}
use Rattle.sqlite.specs.State.{HasCleanDisk, State, Survives}
use Rattle.lot_page.specs.Cursor.{Stays}
use Rattle.lot_rows.specs.Tables.{Has, Tables}
use Rattle.lot_stored.specs.StandFor.{AreOfBook}
use Rattle.lot_table.specs.Statement.{DiskFailed}
use Rattle.lot_table.specs.declared.fault.Fault.{Fault}
use Rattle.lot_table.specs.declared.fault.Fault.TheVariants.{Damaged, Device}
use Rattle.lot_walk.specs.Step.{StaysOrGoesBack}

-- The question is asked where `Where` is so of the tables, and the answer is what `Says` tells of them. Without a limit on
-- steps damage is found only in tables that stand for no book. Nothing is changed.
pub record ChecksWhere {R : Type 0} (Where : Tables → Type 0) (Says : R → Tables → Type 0) (old new : State)
    (result : Result R Fault) : Type 0 where
  pub says : HasCleanDisk new
      → IfOk result (λ (answer : R). (tables : Tables) → Has old tables → Where tables → Says answer tables)
  pub same : HasCleanDisk new → OnOk result (Stays old new)
  pub damaged : HasCleanDisk new → result ≡ Err Damaged → old.step_limit ≡ None
      → (tables : Tables) → Has old tables → Where tables → ¬ AreOfBook tables
  pub device : HasCleanDisk new → result ≡ Err Device → DiskFailed old new
  pub left : HasCleanDisk new → OnErr result (StaysOrGoesBack old new)
  pub crash : Survives old new (λ _. ⊥)

abbrev pub always : Tables → Type 0
always tables = Unit {0}

-- the same of any tables
abbrev pub Checks : {R : Type 0} → (R → Tables → Type 0) → State → State → Result R Fault → Type 0
Checks = ChecksWhere always

-- What a step of a walk leaves of a book: its tables, and whether it needs reopening.
use Rattle.std.specs.Prelude.{◌≡◌, Result, Ok, Err, IsTrue}
use Rattle.sqlite.specs.State.{State}
use Rattle.lot_store.specs.declared.book.Condition.{Condition}
use Rattle.lot_store.specs.declared.book.Condition.TheVariants.{NeedsReopen as MustReopen}
use Rattle.lot_store.specs.declared.fault.StoreFault.{StoreFault}
use Rattle.lot_store.specs.declared.fault.StoreFault.TheVariants.{Damaged, Device, InDoubt, NeedsReopen, Memory}

-- while the connection is open the tables and the last commit are as they were
abbrev pub LeavesTables : State → State → Type 0
LeavesTables old new = IsTrue new.is_open → (new.now ≡ old.now) × (new.committed ≡ old.committed)

-- the condition of a book after a step: a failure of the device, and nothing else, makes it need reopening
abbrev pub condition_from : {A : Type 0} → Condition → Result A StoreFault → Condition
condition_from before (Ok done) = before
condition_from before (Err Device) = MustReopen
condition_from before (Err InDoubt) = before
condition_from before (Err NeedsReopen) = before
condition_from before (Err Damaged) = before
condition_from before (Err Memory) = before

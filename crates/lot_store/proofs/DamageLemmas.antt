-- Commands under whose keys a damaged text stands: the answer to one.
use Rattle.std.proofs.Common.{◌≡◌, Ok, Err, Result, refl}
use Rattle.sqlite.specs.State.{State}
use Rattle.lot_table.specs.Statement.{DiskFailed}
use Rattle.lot_table.specs.declared.fault.Fault as table
use Rattle.lot_book.specs.declared.verdict.Verdict.{Verdict}
use Rattle.lot_store.specs.declared.fault.StoreFault.{StoreFault}
use Rattle.lot_store.specs.Apply.{store_fault_of}
use Rattle.lot_store.specs.Damage.{IsOfDamage}
use Rattle.lot_store.specs.declared.fault.StoreFault.TheVariants.{Damaged, Device, InDoubt, Memory, NeedsReopen}

-- the fault of a look is one of those
pub looked_at : (fault : table.Fault) (old new : State) (answer : Result Verdict StoreFault) → answer ≡ Err (store_fault_of fault)
    → (fault ≡ table.TheVariants.Device → DiskFailed old new) → IsOfDamage old new answer
looked_at table.TheVariants.Device old new answer is failed = rw is (failed refl)
looked_at table.TheVariants.Damaged old new answer is failed = rw is tt
looked_at table.TheVariants.Memory old new answer is failed = rw is tt

-- the disk failed since then, or since before
pub of_damage_since : (old now new : State) → (DiskFailed now new → DiskFailed old new) → (answer : Result Verdict StoreFault) → IsOfDamage now new answer
    → IsOfDamage old new answer
of_damage_since old now new since (Ok done) none = none
of_damage_since old now new since (Err Damaged) is = is
of_damage_since old now new since (Err Memory) is = is
of_damage_since old now new since (Err Device) failed = since failed
of_damage_since old now new since (Err NeedsReopen) is = is
of_damage_since old now new since (Err InDoubt) none = none

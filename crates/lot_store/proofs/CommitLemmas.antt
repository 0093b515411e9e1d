-- A commit over what a transaction wrote, whatever that is.
use Rattle.std.proofs.Common.{◌≡◌, ◌⊎◌, inl, inr, true, false, IsTrue, List, refl, sym, subst, arith}
use Rattle.sqlite.specs.Held.{Held, state}
use Rattle.sqlite.specs.State.{HasCleanDisk, State, Survives}
use Rattle.sqlite.specs.Store.{Ghosts}
use Rattle.sqlite.specs.Tree.{Trees}
use Rattle.sqlite.proofs.Callers.{survives_begin}
use Rattle.sqlite.proofs.StateLemmas.{survives_then, survives_weaker}
use Rattle.lot_write.specs.Call.{Stops}
use Rattle.lot_write.specs.declared.write.Write.{Write}
use Rattle.lot_rows.specs.Tables.{Has, Tables}
use Rattle.lot_table.specs.Statement.{DiskFailed}
use Rattle.lot_table.specs.declared.fault.Fault as table
use Rattle.lot_store.specs.Apply.{store_fault_of}
use Rattle.lot_store.specs.declared.fault.StoreFault.TheVariants.{Damaged, Device}

-- a commit leaves what could be left before, or trees of which P holds
pub commit_leaves : {S : Type 0} (g : Ghosts S) (old begun last end : Held S) (P : Trees → Type 0) → begun ≡ record old { in_transaction = true }
    → Survives (state g begun) (state g last) (λ _. ⊥) → (HasCleanDisk (state g last) → P (state g last).now.trees)
    → Survives (state g last) (state g end) (λ db. db ≡ (state g last).now.trees) → Survives (state g old) (state g end) P
commit_leaves g old begun last end P is wrote holds commits =
    survives_then (state g old) (state g last) (state g end) (λ _. ⊥) (λ db. db ≡ (state g last).now.trees) P (λ _ db none. absurd none)
    (λ clean db same. subst P (sym same) (holds (omega (arith, commits.clean))))
    (survives_begin g old (state g last) (λ _. ⊥) (subst (λ h. Survives (state g h) (state g last) (λ _. ⊥)) is wrote)) commits

-- what a call leaves that wrote nothing down leaves whatever else it may
pub leaves_none : (a b : State) (P : Trees → Type 0) → Survives a b (λ _. ⊥) → Survives a b P
leaves_none a b P none = survives_weaker a b (λ _. ⊥) P (λ _ db absent. absurd absent) none

-- ---- why a device refuses

pub of_device : (fault : table.Fault) → store_fault_of fault ≡ Device → fault ≡ table.TheVariants.Device
of_device table.TheVariants.Device is = refl
of_device table.TheVariants.Damaged is = cc
of_device table.TheVariants.Memory is = cc

pub of_damaged : (fault : table.Fault) → store_fault_of fault ≡ Damaged → fault ≡ table.TheVariants.Damaged
of_damaged table.TheVariants.Device is = cc
of_damaged table.TheVariants.Damaged is = refl
of_damaged table.TheVariants.Memory is = cc

-- outside a transaction nothing is said of what the writes had made
stops_undone : (writes : List Write) (tables : Tables) (before : Trees) (a b : State) → b.in_transaction ≡ false → Stops writes tables before a → Stops writes tables before b
stops_undone writes tables before a b outside stops = record {
  made = stops.made;
  next = stops.next;
  left = stops.left;
  trees = stops.trees;
  split = stops.split;
  holds = stops.holds;
  reach = stops.reach;
  lacks = stops.lacks;
  stands = λ inside. absurd (inside_outside b inside outside);
}
  where
    inside_outside : (s : State) → IsTrue s.in_transaction → s.in_transaction ≡ false → ⊥
    inside_outside s inside outside = cc

-- what refused the writes of a transaction refused them for a caller who has it rolled back
pub refused_undone : {S : Type 0} (g : Ghosts S) (old begun last end : Held S) (writes : List Write) (tables : Tables) → begun ≡ record old { in_transaction = true }
    → (HasCleanDisk (state g last) → Has (state g begun) tables → DiskFailed (state g begun) (state g last) ⊎ Stops writes tables (state g begun).now.trees (state g last))
    → Survives (state g last) (state g end) (λ _. ⊥) → end.in_transaction ≡ false → HasCleanDisk (state g end)
    → Has (state g old) tables → DiskFailed (state g old) (state g end) ⊎ Stops writes tables (state g old).now.trees (state g end)
refused_undone g old begun last end writes tables is refused undone outside clean has =
    by_cause (subst (λ h. Has (state g h) tables → DiskFailed (state g h) (state g last) ⊎ Stops writes tables (state g h).now.trees (state g last)) is
    (refused (omega (arith, clean, undone.clean))) has)
  where
    by_cause : DiskFailed (state g old) (state g last) ⊎ Stops writes tables (state g old).now.trees (state g last) → DiskFailed (state g old) (state g end) ⊎ Stops writes tables (state g old).now.trees (state g end)
    by_cause (inl (inl more)) = inl (inl (omega (arith, more, undone.counts)))
    by_cause (inl (inr shut)) = inl (inr shut)
    by_cause (inr stops) = inr (stops_undone writes tables (state g old).now.trees (state g last) (state g end) outside stops)

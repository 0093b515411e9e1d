-- How two books differ, written behind the answer that one of them is made (docs/RULES.md, The program).
use Rattle.std.specs.Prelude.{◌≡◌, ◌++◌, ℕ, Bool, true, false, List, [], Ok, Err, Option, Result, codes}
use Rattle.sqlite.specs.Store.{Ghosts}
use Rattle.lot_compare.specs.Books.{HoldsOfBoth, ReadsNew, ReadsOld, ShowsDifferences, ShowsSomeLines}
use Rattle.lot_compare.specs.Fault.{HasCause, fault_name, is_of_writer}
use Rattle.lot_compare.specs.declared.fault.CompareFault.{CompareFault}
use Rattle.lot_io.specs.Writes.{WriteCalls, WritesMade}
use Rattle.lot_report.specs.Printed.{line}
use Rattle.lot_store.specs.declared.book.Book.{Book}
use Rattle.lot_stream.specs.Status.{code_of}
use Rattle.lot_stream.specs.declared.status.Status.{Status}
use Rattle.lot_stream.specs.declared.status.Status.TheVariants.{Stopped}
use Rattle.lot_cli.specs.Says.{Says}

-- the line that reports why books aren't compared to the end
abbrev pub compare_line : CompareFault → List ℕ
compare_line fault = line (codes "fault " ++ fault_name fault)

-- what follows where they aren't: nothing where the writer failed, of which nothing more is asked; else that line
abbrev pub EndsWithFault : Bool → CompareFault → Option (List ℕ) → Option (List ℕ) → WritesMade → ℕ → Type 0
EndsWithFault true fault mid written calls end = (written ≡ mid) × (calls.after ≡ calls.before) × (end ≡ code_of Stopped)
EndsWithFault false fault mid written calls end = Says (compare_line fault) Stopped mid written calls end

-- where they are, what is written is flushed, and the action ends as it had
abbrev pub EndsCompared : Result (Unit {0}) CompareFault → Status → Option (List ℕ) → Option (List ℕ) → WritesMade → ℕ → Type 0
EndsCompared (Ok done) status mid written calls end = Says [] status mid written calls end
EndsCompared (Err fault) status mid written calls end = EndsWithFault (is_of_writer fault) fault mid written calls end

-- The lines in which two books differ are written, as far as a fault lets it, behind an action that had ended with that status.
pub record TellsDifferences {S T : Type 0} (g : Ghosts S) (h : Ghosts T) (new_before new_after : Book S g) (old_before old_after : Book T h)
    (status : Status) (before written : Option (List ℕ)) (calls : WritesMade) (end : ℕ) : Type 0 where
  pub compared : Result (Unit {0}) CompareFault
  pub mid : Option (List ℕ)
  pub between : Option WriteCalls
  pub shows : HoldsOfBoth g h new_before new_after old_before old_after (λ new old. ShowsDifferences new old before mid compared)
  pub lines : ShowsSomeLines before mid compared
  pub reads_new : ReadsNew g new_before new_after compared
  pub reads_old : ReadsOld h old_before old_after compared
  pub cause : HasCause compared (record { before = calls.before; after = between })
  pub ends : EndsCompared compared status mid written (record { before = between; after = calls.after }) end

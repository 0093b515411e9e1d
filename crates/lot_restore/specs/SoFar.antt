-- What came of the commands of a dump so far.
use Rattle.std.specs.Prelude.{◌≡◌, ◌⊎◌, ℕ, List, [], ◌∷◌, ◌++◌, length, map, Option}
use Rattle.std.specs.Io.KnownBytes.{Appends}
use Rattle.sqlite.specs.State.{HasCleanDisk, State}
use Rattle.sqlite.specs.Tree.{Trees}
use Rattle.lot_book.specs.Facts.{Entry}
use Rattle.lot_book.specs.declared.verdict.Verdict.{Verdict}
use Rattle.lot_book.specs.declared.verdict.Verdict.TheVariants.{Accepted, Repeated, Refused as IsRefused}
use Rattle.lot_load.specs.Kept.{IsOf}
use Rattle.lot_parts.specs.declared.dumped.Dumped.{Dumped}
use Rattle.lot_io.specs.Writes.{HasFailed, WriteCalls}
use Rattle.lot_rows.specs.Tables.{Tables}
use Rattle.lot_store.specs.declared.fault.CreateFault.TheVariants.{Device, InDoubt, Memory, NotABook}
use Rattle.lot_table.specs.Statement.{DiskFailed}
use Rattle.lot_restore.specs.Judge.{AreRestored, HasNoRoomBy}
use Rattle.lot_restore.specs.LeftOut.{kept_of, unmet_of}
use Rattle.lot_restore.specs.Lines.{verdict_lines}
use Rattle.lot_restore.specs.Restored.{NeverFall, Restores, edition_at}
use Rattle.lot_restore.specs.declared.fault.RestoreFault.{RestoreFault}
use Rattle.lot_restore.specs.declared.fault.RestoreFault.TheVariants.{Book, Sum, Text, Write}
use Rattle.lot_restore.specs.declared.restoration.Refused.{Refused}
use Rattle.lot_restore.specs.declared.restoration.Refused.TheVariants as refused
use Rattle.lot_restore.specs.declared.restoration.Restoration.{Restoration}

-- whether commands were refused, with one more verdict: a key that comes again is refused
abbrev pub refused_with : Refused → Verdict → Refused
refused_with before Accepted = before
refused_with before Repeated = refused.Some
refused_with before (IsRefused refusal) = refused.Some

-- the same of all verdicts
abbrev pub refused_behind : Refused → List Verdict → Refused
refused_behind before [] = before
refused_behind before (verdict ∷ verdicts) = refused_behind (refused_with before verdict) verdicts

abbrev pub refused_of : List Verdict → Refused
refused_of = refused_behind refused.None

-- What came of these commands of a dump with that place of migration: those that aren't left out are restored in the open
-- transaction; what leaves out none is known, and whether one was refused; and what was written of them.
pub record SoFar (place : ℕ) (start now : Option (List ℕ)) (done : List Dumped) (r : Restoration) (s : State) : Type 0 where
  pub verdicts : List Verdict
  pub as_many : length verdicts ≡ length (kept_of r.without.now done)
  pub restored : HasCleanDisk s → AreRestored place (kept_of r.without.now done) verdicts (IsOf r.restorer.kept) s
  pub placed : r.restorer.place ≡ place
  pub unmet : map (λ it. it.now) r.unmet.items ≡ unmet_of r.without.now done
  pub refused : r.refused ≡ refused_of verdicts
  pub written : Appends start now (verdict_lines (kept_of r.without.now done) verdicts)

-- The database has no room for what a command writes, behind those that were restored before it.
abbrev pub HasNoRoomBehind : ℕ → List Dumped → Dumped → Trees → State → Type 0
HasNoRoomBehind place done next before new =
    (verdicts : List Verdict) × (book : List Entry) × Restores place [] done verdicts book
    × (tables : Tables) × HasNoRoomBy (edition_at place next.number) next.key next.command book tables before new

-- Why a command isn't judged, by the faults that this may have. The device refuses only where the disk failed, or the database has
-- no room; tables that are no book's are found nowhere.
abbrev pub JudgeFails : Restoration → Dumped → State → State → Option WriteCalls → RestoreFault → Type 0
JudgeFails r next old new calls (Book Device) =
    HasCleanDisk new → (place : ℕ) (start now : Option (List ℕ)) (done : List Dumped) → NeverFall 0 (done ++ next ∷ [])
    → SoFar place start now done r old
    → DiskFailed old new ⊎ HasNoRoomBehind place (kept_of r.without.now done) next old.now.trees new
JudgeFails r next old new calls (Book NotABook) =
    HasCleanDisk new → (place : ℕ) (start now : Option (List ℕ)) (done : List Dumped) → NeverFall 0 (done ++ next ∷ [])
    → ¬ SoFar place start now done r old
JudgeFails r next old new calls (Book InDoubt) = ⊥
JudgeFails r next old new calls (Book Memory) = Unit {0}
JudgeFails r next old new calls (Text fault) = ⊥
JudgeFails r next old new calls (Sum fault) = ⊥
JudgeFails r next old new calls Write = HasFailed calls

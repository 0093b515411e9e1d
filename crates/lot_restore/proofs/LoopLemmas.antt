-- The commands of a dump, one after another.
use Rattle.std.proofs.Common.{◌≡◌, List, ℕ, [], ◌∷◌, ◌++◌, IsTrue, Ok, Option, arith, inr, refl}
use Rattle.std.specs.Io.KnownBytes.{prepend_known}
use Rattle.sqlite.specs.State.{HasCleanDisk, KeepsCommit, State, Survives}
use Rattle.lot_parts.specs.Commands.{FaultNext, GoesOn, IsReadTo}
use Rattle.lot_parts.specs.Dump.{Front, with_end, with_part}
use Rattle.lot_parts.specs.Reading.{Reading}
use Rattle.lot_parts.specs.declared.commands.CommandFault.{CommandFault}
use Rattle.lot_parts.specs.declared.commands.Next.TheVariants.{Command as NextCommand, End as AtEnd}
use Rattle.lot_parts.specs.declared.dumped.Dumped.{Dumped}
use Rattle.lot_parts.specs.declared.step.Sum.{Sum}
use Rattle.lot_io.specs.Writes.{WriteCalls}
use Rattle.lot_rows.proofs.StateLemmas.{survives_both}
use Rattle.lot_table.proofs.MakeLemmas.{keeps_then}
use Rattle.lot_restore.specs.Restored.{NeverFall}
use Rattle.lot_restore.specs.Restoring.{FailsBehind, IsBehindAll, Point}
use Rattle.lot_restore.specs.SoFar.{JudgeFails, SoFar}
use Rattle.lot_restore.specs.declared.fault.RestoreFault.{RestoreFault}
use Rattle.lot_restore.specs.declared.fault.RestoreFault.TheVariants.{Text}
use Rattle.lot_restore.specs.declared.restoration.Restoration.{Restoration}
use Rattle.lot_restore.proofs.SoFarLemmas.{fails_on, says_rise}

-- ---- what the loop keeps

-- what was read and judged at a point goes on with more
abbrev pub GoneOn : Point → Point → Type 0
GoneOn old new =
    (place : ℕ) (input start : Option (List ℕ)) (front : Front) (done : List Dumped)
    → IsReadTo input old.known old.reading front done → SoFar place start old.written done old.made old.state
    → (now : Front) × (all : List Dumped) × (now.head ≡ front.head) × IsReadTo input new.known new.reading now all
    × SoFar place start new.written all new.made new.state

-- the transaction is open, and nothing is committed
abbrev pub Unbroken : State → State → Type 0
Unbroken old new =
    (HasCleanDisk new → IsTrue new.in_transaction) × (HasCleanDisk new → KeepsCommit old new) × Survives old new (λ _. ⊥)

pub keeps_all : (s : State) → KeepsCommit s s
keeps_all s = record { was_open = λ opened. opened; committed = λ opened. refl }

pub none_gone : (p : Point) → GoneOn p p
none_gone p place input start front done read so = (front, done, refl, read, so)

pub broken_on : (a b c : State) → Unbroken a b → (HasCleanDisk c → IsTrue c.in_transaction) → (HasCleanDisk c → KeepsCommit b c)
    → Survives b c (λ _. ⊥) → Unbroken a c
broken_on a b c old inside kept crash = (
  inside,
  λ clean. keeps_then a b c (old.1 (omega (arith, clean, crash.clean))) (kept clean),
  survives_both a b c old.2 crash,
)

-- ---- a command

module _ (old mid : Point) (gone : GoneOn old mid) (known : Option (List ℕ)) (reading : Reading) (dumped : Dumped)
    (reads : (start : Option (List ℕ)) (front : Front) (before : List Dumped) → IsReadTo start mid.known mid.reading front before
    → GoesOn start front before known reading (Ok (NextCommand dumped))) where
  pub gone_on : (written : Option (List ℕ)) (made : Restoration) (s : State)
      → ((place : ℕ) (start : Option (List ℕ)) (done : List Dumped) → NeverFall 0 (done ++ dumped ∷ [])
      → SoFar place start mid.written done mid.made mid.state → SoFar place start written (done ++ dumped ∷ []) made s)
      → GoneOn old (record { known = known; reading = reading; written = written; made = made; state = s })
  gone_on written made s takes place input start front done read so =
      let at = gone place input start front done read so in
      let next = reads input at.0 at.1 at.3 in
      let rise = says_rise 0 (with_part at.0 next.0).parts (at.1 ++ dumped ∷ []) next.1.parts next.1.says in
      (with_part at.0 next.0, at.1 ++ dumped ∷ [], at.2, next.1, takes place start at.1 rise at.4)

  pub stops_on : (new : Point) (calls : Option WriteCalls) (fault : RestoreFault) → Survives old.state mid.state (λ _. ⊥)
      → Survives mid.state new.state (λ _. ⊥) → JudgeFails mid.made dumped mid.state new.state calls fault → FailsBehind old new calls fault
  stops_on new calls fault one two fails place input start front done read so =
      let at = gone place input start front done read so in
      let next = reads input at.0 at.1 at.3 in
      let rise = says_rise 0 (with_part at.0 next.0).parts (at.1 ++ dumped ∷ []) next.1.parts next.1.says in
      fails_on input old.state mid.state new.state calls fault mid.made dumped place start mid.written at.1 at.4 rise one two fails

-- ---- the end, or a text that goes on otherwise

pub ends_all : (old mid : Point) → GoneOn old mid → (known : Option (List ℕ)) (reading : Reading) (sum : Sum)
    → ((start : Option (List ℕ)) (front : Front) (before : List Dumped) → IsReadTo start mid.known mid.reading front before
    → GoesOn start front before known reading (Ok (AtEnd sum)))
    → IsBehindAll sum old (record { known = known; reading = reading; written = mid.written; made = mid.made; state = mid.state })
ends_all old mid gone known reading sum reads place input start front done read so =
    let at = gone place input start front done read so in
    (with_end at.0 sum.end, at.1, reads input at.0 at.1 at.3, at.2, at.4)

pub stops_reading : (old mid new : Point) → GoneOn old mid → (calls : Option WriteCalls) (fault : CommandFault)
    → FaultNext (prepend_known mid.reading.ahead mid.known) mid.reading fault → FailsBehind old new calls (Text fault)
stops_reading old mid new gone calls fault fails place input start front done read so =
    let at = gone place input start front done read so in
    inr (at.0, at.1, mid.known, mid.reading, at.3, fails)

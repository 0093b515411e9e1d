-- What restoring has read and written where it ends with an error.
use Rattle.std.specs.Prelude.{◌≡◌, ◌⊎◌, false, ℕ, List, [], ◌∷◌, ◌++◌, IfSome, Option, Result, Ok, Err, ⊤}
use Rattle.sqlite.specs.State.{HasCleanDisk, State}
use Rattle.lot_book.specs.Facts.{Entry}
use Rattle.lot_book.specs.declared.verdict.Verdict.{Verdict}
use Rattle.lot_parts.specs.Commands.{HasCauseOf, IsReadTo, SayAll, front_text}
use Rattle.lot_parts.specs.Dump.{Front}
use Rattle.lot_parts.specs.declared.dumped.Dumped.{Dumped}
use Rattle.lot_store.specs.Run.{AppendsSome}
use Rattle.lot_io.specs.Reads.{ReadsMade}
use Rattle.lot_stream.specs.Input.{NoneFailed}
use Rattle.lot_without.specs.declared.without.Without.{Without}
use Rattle.lot_restore.specs.LeftOut.{is_left_out, kept_of, unmet_of}
use Rattle.lot_restore.specs.Lines.{unmet_lines, verdict_line, verdict_lines}
use Rattle.lot_restore.specs.Restored.{NeverFall, Restores}
use Rattle.lot_restore.specs.Restoring.{Point}
use Rattle.lot_restore.specs.SoFar.{SoFar}
use Rattle.lot_restore.specs.declared.fault.RestoreFault.{RestoreFault}
use Rattle.lot_restore.specs.declared.restoration.Restoration.{Restoration}
use Rattle.lot_restore.specs.declared.fault.RestoreFault.TheVariants.{Book, Sum as OfSum, Text, Write}

-- ---- the calls of the reader

-- Where the text is no dump of commands, or wasn't read, the calls say why; else no call failed.
abbrev pub ReadsIn : {A : Type 0} → Result A RestoreFault → ReadsMade → Type 0
ReadsIn (Ok done) calls = NoneFailed calls
ReadsIn (Err (Text fault)) calls = HasCauseOf calls fault
ReadsIn (Err (Book fault)) calls = NoneFailed calls
ReadsIn (Err (OfSum fault)) calls = NoneFailed calls
ReadsIn (Err Write) calls = NoneFailed calls

-- ---- what was written

-- the text begins with these commands, as that of a dump with that place of migration
abbrev pub BeginsWith : ℕ → List Dumped → List ℕ → Type 0
BeginsWith place [] text = ⊤
BeginsWith place (dumped ∷ more) text =
    (front : Front) × (rest : List ℕ) × SayAll front.parts (dumped ∷ more) × (front.head.place ≡ place)
    × (text ≡ front_text front ++ rest)

-- The lines of the first commands of a dump are written, or a part of them from the first line on; and behind those of all commands
-- the lines of what leaves out none. Where the disk returned what was written, each says the verdict to which its command comes.
pub record SaysSome (without : List Without) (input before written : Option (List ℕ)) (s : State) : Type 0 where
  pub place : ℕ
  pub commands : List Dumped
  pub begin : IfSome input (BeginsWith place commands)
  pub verdicts : List Verdict
  pub judged : HasCleanDisk s → (book : List Entry) × Restores place [] (kept_of without commands) verdicts book
  pub some : AppendsSome before written
      (verdict_lines (kept_of without commands) verdicts ++ unmet_lines (unmet_of without commands))

-- behind those so far the command comes to that verdict
abbrev pub ComesTo : Restoration → Dumped → Verdict → State → State → Type 0
ComesTo r next verdict old new =
    HasCleanDisk new → (place : ℕ) (start now : Option (List ℕ)) (done : List Dumped) → NeverFall 0 (done ++ next ∷ [])
    → (so : SoFar place start now done r old)
    → (book : List Entry) × Restores place [] (kept_of r.without.now (done ++ next ∷ [])) (so.verdicts ++ verdict ∷ []) book

-- nothing is written of a command, or its line is, or a part of it, where it isn't left out
abbrev pub SaysSomeOf : Restoration → Dumped → Option (List ℕ) → Option (List ℕ) → State → State → Type 0
SaysSomeOf r next before written old new =
    (written ≡ before)
    ⊎ ((is_left_out r.without.now next ≡ false) × (verdict : Verdict) × ComesTo r next verdict old new
    × AppendsSome before written (verdict_line next verdict))

-- so much is written of a dump that was read and judged from some point on
abbrev pub SaysSomeBehind : Point → Option (List ℕ) → State → Type 0
SaysSomeBehind old written s =
    (place : ℕ) (input start : Option (List ℕ)) (front : Front) (done : List Dumped) → front.head.place ≡ place
    → IsReadTo input old.known old.reading front done → SoFar place start old.written done old.made old.state
    → SaysSome old.made.without.now input start written s

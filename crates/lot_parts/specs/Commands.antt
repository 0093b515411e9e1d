-- The commands of a dump: one below each heading, and none above the first (docs/FORMATS.md, Dump).
use Rattle.std.specs.Prelude.{◌≡◌, ◌≢◌, ◌⊎◌, ◌+◌, ℕ, List, [], ◌∷◌, ◌++◌, flat_map, length, IfSome, Option, Result, Ok, Err, ⊤}
use Rattle.std.specs.Io.KnownBytes.{Consumes, prepend_known}
use Rattle.sha2.specs.Hashers.{Holds256}
use Rattle.lot_command.specs.declared.command.Command.{Command}
use Rattle.lot_read.specs.Text.{IsFaultAt, Reads}
use Rattle.lot_read.specs.declared.fault.TextFault.{TextFault}
use Rattle.lot_read.specs.declared.fault.TextFault.TheVariants as Texts
use Rattle.lot_report.specs.Printed.{line}
use Rattle.lot_io.specs.Reads.{ReadsMade, counted}
use Rattle.lot_stream.specs.Input.{NoneFailed}
use Rattle.lot_dump.specs.Form.{IsHead, head_text}
use Rattle.lot_dump.specs.declared.head.Head.{Head}
use Rattle.lot_parts.specs.Dump.{AreParts, Dump, Front, IsDump, IsLedger, Part, dump_text, last_number, part_text, with_end, with_part}
use Rattle.lot_parts.specs.Fault.{HasCause}
use Rattle.lot_parts.specs.Reading.{BeginsNewer, BeginsOther, HasLong, IsNoDumpAt, IsNoRestAt, Reading, lines_in}
use Rattle.lot_parts.specs.Sum.{IsSumOf}
use Rattle.lot_parts.specs.declared.commands.CommandFault.{CommandFault}
use Rattle.lot_parts.specs.declared.commands.CommandFault.TheVariants.{Dump as OfDump, Text}
use Rattle.lot_parts.specs.declared.commands.Next.{Next}
use Rattle.lot_parts.specs.declared.commands.Next.TheVariants.{Command as NextCommand, End as AtEnd}
use Rattle.lot_parts.specs.declared.dumped.Dumped.{Dumped}
use Rattle.lot_parts.specs.declared.fault.DumpFault.TheVariants.{Memory, NewerFormat, NotADump, Read, TooLong}
use Rattle.lot_parts.specs.declared.step.Sum.{Sum}

-- ---- the commands of a dump

-- the ledger text below the heading says that command alone
abbrev pub Says : Part → Dumped → Type 0
Says part dumped =
    (dumped.number ≡ part.heading.number) × (dumped.key ≡ part.heading.key) × Reads part.text (dumped.command ∷ [])

-- each entry says one command
abbrev pub SayAll : List Part → List Dumped → Type 0
SayAll [] [] = ⊤
SayAll (part ∷ parts) (dumped ∷ more) = Says part dumped × SayAll parts more
SayAll [] (dumped ∷ more) = ⊥
SayAll (part ∷ parts) [] = ⊥

-- the text is that dump, and these are its commands
abbrev pub IsDumpOf : List ℕ → Dump → List Dumped → Type 0
IsDumpOf text dump commands = IsDump text dump × Reads dump.above [] × SayAll dump.parts commands

-- ---- a dump that is read command by command

abbrev pub front_text : Front → List ℕ
front_text front = line (head_text front.head) ++ (front.above ++ flat_map part_text front.parts)

-- the head of a dump and the text above its first heading
abbrev pub front_of : Head → List ℕ → Front
front_of head above = record { head = head; above = above; parts = [] }

-- The front of a dump was taken of a reader. It says these commands; what is ahead begins with a heading or the end; and all of
-- the front was hashed, and its headings and its lines counted.
pub record IsReadTo (start now : Option (List ℕ)) (reading : Reading) (front : Front) (commands : List Dumped) : Type 0 where
  pub is_head : IsHead front.head
  pub ledger : IsLedger front.above
  pub above : Reads front.above []
  pub parts : AreParts 0 front.parts
  pub says : SayAll front.parts commands
  pub takes : Consumes start (prepend_known reading.ahead now) (front_text front)
  pub other : BeginsOther reading.ahead
  pub heard : Holds256 reading.hasher (front_text front)
  pub last : reading.last ≡ last_number 0 front.parts
  pub count : reading.headings ≡ counted (length front.parts)
  pub line : reading.line ≡ counted (lines_in (front_text front) + 1)

-- A whole dump was taken of a reader, which has nothing behind it. It says these commands, and this is what was found of it.
pub record IsReadWhole (start : Option (List ℕ)) (dump : Dump) (commands : List Dumped) (sum : Sum) : Type 0 where
  pub is : IsDumpOf (dump_text dump) dump commands
  pub whole : IfSome start (λ text. text ≡ dump_text dump)
  pub found : IsSumOf sum dump

-- the head and the text above the first heading were taken, which says no command
abbrev pub BeginsCommands : Option (List ℕ) → Option (List ℕ) → Head → Reading → Type 0
BeginsCommands start now head reading = (above : List ℕ) × IsReadTo start now reading (front_of head above) []

-- what comes next: one more command, or the end
abbrev pub GoesOn : Option (List ℕ) → Front → List Dumped → Option (List ℕ) → Reading → Result Next CommandFault → Type 0
GoesOn start front before now reading (Ok (NextCommand dumped)) =
    (part : Part) × IsReadTo start now reading (with_part front part) (before ++ dumped ∷ [])
GoesOn start front before now reading (Ok (AtEnd sum)) = IsReadWhole start (with_end front sum.end) before sum
GoesOn start front before now reading (Err fault) = ⊤

-- ---- why it isn't read

-- the fault of a dump for that of the text below a line
abbrev pub fault_below : ℕ → TextFault → CommandFault
fault_below at (Texts.Line number fault) = Text (counted (at + number)) fault
fault_below at (Texts.Memory number) = OfDump Memory

-- the text below a line has a faulty line, or memory ended
abbrev pub IsFaultIn : ℕ → List ℕ → CommandFault → Type 0
IsFaultIn at text (Text number fault) = (below : ℕ) × IsFaultAt text below fault × (number ≡ counted (at + below))
IsFaultIn at text (OfDump fault) = fault ≡ Memory

-- the text says no command, or several
abbrev pub IsNotOne : List ℕ → Type 0
IsNotOne text = (commands : List Command) × Reads text commands × (length commands ≢ 1)

-- the text below a heading isn't one command: it has a faulty line, or none or several commands, or memory ended
abbrev pub IsFaultBelow : ℕ → List ℕ → CommandFault → Type 0
IsFaultBelow at text (Text number fault) = IsFaultIn at text (Text number fault)
IsFaultBelow at text (OfDump (NotADump number)) = IsNotOne text × (number ≡ at)
IsFaultBelow at text (OfDump NewerFormat) = ⊥
IsFaultBelow at text (OfDump Read) = ⊥
IsFaultBelow at text (OfDump TooLong) = ⊥
IsFaultBelow at text (OfDump Memory) = ⊤

-- a text begins with an entry behind that number, whose whole text is of that kind
abbrev pub HasEntry : ℕ → (List ℕ → Type 0) → List ℕ → Type 0
HasEntry last Kind text =
    (part : Part) × (rest : List ℕ) × AreParts last (part ∷ []) × BeginsOther rest × (text ≡ part_text part ++ rest)
    × Kind part.text

-- the next command isn't read, of what is ahead, for that fault
abbrev pub FaultNext : Option (List ℕ) → Reading → CommandFault → Type 0
FaultNext ahead reading (Text number fault) =
    IfSome ahead (HasEntry reading.last (λ text. IsFaultIn reading.line text (Text number fault)))
FaultNext ahead reading (OfDump (NotADump number)) =
    IfSome ahead (λ text. IsNoRestAt reading.last reading.line number text
    ⊎ (HasEntry reading.last IsNotOne text × (number ≡ reading.line)))
FaultNext ahead reading (OfDump NewerFormat) = ⊥
FaultNext ahead reading (OfDump Read) = ⊤
FaultNext ahead reading (OfDump TooLong) = IfSome ahead HasLong
FaultNext ahead reading (OfDump Memory) = ⊤

-- a text begins with the head of a dump, and above its first heading stands a text of that kind
abbrev pub HasAbove : (List ℕ → Type 0) → List ℕ → Type 0
HasAbove Kind text =
    (head : Head) × (above : List ℕ) × (rest : List ℕ) × IsHead head × IsLedger above × BeginsOther rest
    × (text ≡ line (head_text head) ++ (above ++ rest)) × Kind above

-- the text says commands
abbrev pub HasCommands : List ℕ → Type 0
HasCommands text = (commands : List Command) × Reads text commands × (commands ≢ [])

-- no command is read of a text, for that fault; the head is its first line
abbrev pub FaultAbove : Option (List ℕ) → CommandFault → Type 0
FaultAbove start (Text number fault) = IfSome start (HasAbove (λ text. IsFaultIn 1 text (Text number fault)))
FaultAbove start (OfDump (NotADump number)) =
    IfSome start (λ text. IsNoDumpAt number text ⊎ (HasAbove HasCommands text × (number ≡ 1)))
FaultAbove start (OfDump NewerFormat) = IfSome start BeginsNewer
FaultAbove start (OfDump Read) = ⊤
FaultAbove start (OfDump TooLong) = IfSome start HasLong
FaultAbove start (OfDump Memory) = ⊤

-- Reading a dump of commands may end only so: the reader can't be read, a line or an entry is too long, or memory ends.
abbrev pub MayEnd : CommandFault → Type 0
MayEnd (Text number fault) = ⊥
MayEnd (OfDump (NotADump number)) = ⊥
MayEnd (OfDump NewerFormat) = ⊥
MayEnd (OfDump Read) = ⊤
MayEnd (OfDump TooLong) = ⊤
MayEnd (OfDump Memory) = ⊤

-- why reading ends, by the calls that were made
abbrev pub HasCauseOf : ReadsMade → CommandFault → Type 0
HasCauseOf all (Text number fault) = NoneFailed all
HasCauseOf all (OfDump fault) = HasCause all fault

-- What is read of a dump (docs/FORMATS.md, Dump).
use Rattle.std.specs.Prelude.{◌≡◌, ◌≢◌, ◌⊎◌, ◌<◌, ◌==◌, Bool, filter, length, ℕ, ◌+◌, List, [], ◌∷◌, ◌++◌, IfSome, Option, Result, Ok, Err, ⊤}
use Rattle.std.specs.Io.KnownBytes.{Consumes, prepend_known}
use Rattle.sha2.specs.Hashers.{Holds256}
use Rattle.sha2.specs.Sha256.{sha256}
use Rattle.sha2.specs.declared.Sha256.{Sha256}
use Rattle.lot_syntax.specs.Line.{IsLine}
use Rattle.lot_report.specs.Printed.{line}
use Rattle.lot_io.specs.Reads.{counted}
use Rattle.lot_dump.specs.Form.{IsEnd, IsHead, IsNewer, end_text, head_text}
use Rattle.lot_dump.specs.Lines.{longest_input_line}
use Rattle.lot_dump.specs.declared.end.End.{End}
use Rattle.lot_dump.specs.declared.head.Head.{Head}
use Rattle.lot_dump.specs.declared.heading.Heading.{Heading}
use Rattle.lot_parts.specs.Dump.{AreParts, Dump, IsDump, IsLedger, IsRest, IsText, Part, part_text}
use Rattle.lot_parts.specs.declared.fault.DumpFault.{DumpFault}
use Rattle.lot_parts.specs.declared.feed.Feed.{Feed}
use Rattle.lot_parts.specs.declared.step.Step.{Step}
use Rattle.lot_parts.specs.declared.step.Step.TheVariants.{Entry, End as AtEnd}

-- what a contract sees of a reader of a dump
pub record Reading : Type 0 where
  -- what was read and belongs to no part yet: the next heading or the end, and what stands behind it
  pub ahead : List ℕ
  -- of all bytes above that
  pub hasher : Sha256
  -- the number of the last entry, 0 before the first
  pub last : ℕ
  -- how many entries there were, up to the largest number of 64 bits
  pub headings : ℕ
  -- the number of the line that was read last: the next heading or the end
  pub line : ℕ

-- the message of a hasher grows by these bytes
abbrev pub Hears : Sha256 → Sha256 → List ℕ → Type 0
Hears old new bytes = (message : List ℕ) → Holds256 old message → Holds256 new (message ++ bytes)

-- ---- How many lines there are.

abbrev pub is_line_end : ℕ → Bool
is_line_end b = b == 10

-- how many line ends a text has
abbrev pub lines_in : List ℕ → ℕ
lines_in text = length (filter is_line_end text)

-- each line has its line end, the last one too
abbrev pub AreWhole : List ℕ → Type 0
AreWhole text = (text ≡ []) ⊎ ((body : List ℕ) × (text ≡ line body))

-- ---- What is no dump.

-- two texts go on alike: they are the same, or have the same next line, with its line end
abbrev pub GoOnAlike : List ℕ → List ℕ → Type 0
GoOnAlike a b =
    (a ≡ b)
    ⊎ ((next : List ℕ) × (x : List ℕ) × (y : List ℕ) × IsLine next × (a ≡ line next ++ x) × (b ≡ line next ++ y))

-- A text of no such kind, of which the line of that number is the first that isn't what it has to be: some text of the kind has all
-- lines above it, and none of those goes on alike. The first line of the text has a number, too. Lines are counted up to the largest
-- number of 64 bits.
pub record LeavesAt (Kind : List ℕ → Type 0) (first number : ℕ) (text : List ℕ) : Type 0 where
  pub above : List ℕ
  pub behind : List ℕ
  pub whole : text ≡ above ++ behind
  pub lines : AreWhole above
  pub place : counted number ≡ counted (first + lines_in above)
  pub some : (more : List ℕ) × Kind (above ++ more)
  pub none : (more : List ℕ) → Kind (above ++ more) → GoOnAlike behind more → ⊥

abbrev pub IsSomeDump : List ℕ → Type 0
IsSomeDump text = (dump : Dump) × IsDump text dump

-- the text is no dump, since that line isn't one of it
abbrev pub IsNoDumpAt : ℕ → List ℕ → Type 0
IsNoDumpAt = LeavesAt IsSomeDump 1

-- it doesn't begin with the head of a dump
abbrev pub HasNoHead : List ℕ → Type 0
HasNoHead text = (head : Head) (rest : List ℕ) → IsHead head → text ≡ line (head_text head) ++ rest → ⊥

-- it begins with the head of a dump of a later format or edition
abbrev pub BeginsNewer : List ℕ → Type 0
BeginsNewer text = (first : List ℕ) × (rest : List ℕ) × IsNewer first × (text ≡ line first ++ rest)

-- a rest of a dump behind an entry of that number
abbrev pub IsSomeRest : ℕ → List ℕ → Type 0
IsSomeRest last text = (parts : List Part) × (end : End) × IsRest last parts end text

-- the text, of which the first line has such a number, is no rest behind an entry, since that line isn't one of it
abbrev pub IsNoRestAt : ℕ → ℕ → ℕ → List ℕ → Type 0
IsNoRestAt last first = LeavesAt (IsSomeRest last) first

-- ledger text, and a line of that number without a line end, or none
abbrev pub IsEndlessAt : ℕ → ℕ → List ℕ → Type 0
IsEndlessAt first number text =
    (front : List ℕ) × (last : List ℕ) × IsLedger front × IsLine last × (text ≡ front ++ last)
    × (number ≡ counted (first + lines_in front))

-- the line of that number is no end
abbrev pub IsOtherThanEnd : List ℕ → Type 0
IsOtherThanEnd last = (end : End) → IsEnd end → last ≡ end_text end → ⊥

-- it is one, and more stands behind it
abbrev pub HasMoreBehind : List ℕ → Option (List ℕ) → Type 0
HasMoreBehind last rest = ((end : End) × IsEnd end × (last ≡ end_text end)) × IfSome rest (λ text. text ≢ [])

-- the number is that of the line, which is no end, or of the one behind it
abbrev pub IsNoEndAt : ℕ → ℕ → List ℕ → Option (List ℕ) → Type 0
IsNoEndAt at number last rest =
    (IsOtherThanEnd last × (number ≡ at)) ⊎ (HasMoreBehind last rest × (number ≡ counted (at + 1)))

-- ---- What is too long.

-- the most bytes that the text of an entry may have: 16 MiB
abbrev pub longest_text : ℕ
longest_text = 16777216

-- a line has more bytes than may be, or ledger text has
abbrev pub IsLong : List ℕ → Type 0
IsLong text = (IsLine text × (longest_input_line < length text)) ⊎ (IsLedger text × (longest_text < length text))

-- it stands somewhere in the text
abbrev pub HasLong : List ℕ → Type 0
HasLong text = (front : List ℕ) × (long : List ℕ) × (rest : List ℕ) × IsLong long × (text ≡ front ++ (long ++ rest))

-- ---- What is read.

-- the line that was read last, with its line end, and what was read behind it
abbrev pub ahead_of : Feed → List ℕ
ahead_of feed = line feed.line.items ++ feed.lines

-- a whole line comes next that isn't ledger text
abbrev pub BeginsOther : List ℕ → Type 0
BeginsOther text =
    (other : List ℕ) × (rest : List ℕ) × IsLine other × (IsText other → ⊥) × (text ≡ line other ++ rest)

-- The head and the text above the first entry were taken of a reader.
abbrev pub Begins : Option (List ℕ) → Option (List ℕ) → Head → List ℕ → Reading → Type 0
Begins old new head above reading =
    IsHead head × IsLedger above
    × Consumes old (prepend_known reading.ahead new) (line (head_text head) ++ above)
    × BeginsOther reading.ahead × Holds256 reading.hasher (line (head_text head) ++ above) × (reading.last ≡ 0) × (reading.headings ≡ 0)
    × (reading.line ≡ counted (lines_in (line (head_text head) ++ above) + 1))

abbrev pub part_of : Heading → List ℕ → Part
part_of heading text = record { heading = heading; text = text }

-- What a step takes of what was ahead and left of the reader: an entry. At the end, the end is all that was left.
abbrev pub Takes : Option (List ℕ) → Option (List ℕ) → List ℕ → Result Step DumpFault → Type 0
Takes old new text (Ok (Entry heading)) = Consumes old new (part_text (part_of heading text))
Takes old new text (Ok (AtEnd sum)) = IfSome old (λ known. known ≡ line (end_text sum.end))
Takes old new text (Err fault) = ⊤

-- What a step says: the next part, which is hashed and counted. At the end, what it says, what all above it has as its digest,
-- and how many entries there were.
abbrev pub SaysNext : Reading → Reading → List ℕ → Result Step DumpFault → Type 0
SaysNext old new text (Ok (Entry heading)) =
    AreParts old.last (part_of heading text ∷ []) × Hears old.hasher new.hasher (part_text (part_of heading text))
    × BeginsOther new.ahead × (new.last ≡ heading.number) × (new.headings ≡ counted (old.headings + 1))
    × (new.line ≡ counted (old.line + lines_in (part_text (part_of heading text))))
SaysNext old new text (Ok (AtEnd sum)) =
    IsEnd sum.end × ((message : List ℕ) → Holds256 old.hasher message → sum.digest ≡ sha256 message)
    × (sum.headings ≡ old.headings)
SaysNext old new text (Err fault) = ⊤

-- The lines of an input, one after another, and what is made of its bytes, call by call.
use Rattle.std.specs.Prelude.{◌≡◌, ◌≢◌, ◌⊎◌, ◌<◌, ◌+◌, ℕ, List, [], ◌∷◌, ◌++◌, length, Option, None, Some, IfSome, Result, Ok, Err, ⊤}
use Rattle.std.specs.Io.KnownBytes.{IsAtEnd}
use Rattle.lot_io.specs.Reads.{Counts, ReadCalls, ReadsMade}
use Rattle.lot_stream.specs.Input.{most_calls}
use Rattle.lot_syntax.specs.Line.{IsLine}
use Rattle.lot_dump.specs.declared.lines.Filled.{Filled}
use Rattle.lot_dump.specs.declared.lines.Filled.TheVariants.{Ended, Goes}
use Rattle.lot_dump.specs.declared.lines.Found.{Found}
use Rattle.lot_dump.specs.declared.lines.Found.TheVariants.{Part, Whole}
use Rattle.lot_dump.specs.declared.lines.LineEnd.{LineEnd}
use Rattle.lot_dump.specs.declared.lines.LineEnd.TheVariants.{Missing, Newline}
use Rattle.lot_dump.specs.declared.lines.LineFault.{LineFault}
use Rattle.lot_dump.specs.declared.lines.LineFault.TheVariants.{Memory, Read, TooLong}

-- the most bytes that a line may have without its line end: 1 MiB
abbrev pub longest_input_line : ℕ
longest_input_line = 1048576

-- ---- What is read.

-- a line with its end, as they stand in the input
abbrev pub ended : List ℕ → LineEnd → List ℕ
ended line Newline = line ++ 10 ∷ []
ended line Missing = line

-- the bytes that were taken from the input
abbrev pub text_of : List ℕ → Result (Option LineEnd) LineFault → List ℕ
text_of line (Ok (Some end)) = ended line end
text_of line (Ok None) = line
text_of line (Err fault) = line

-- A line that the input ends isn't empty, and nothing is left behind it. There is no line where nothing is left.
abbrev pub EndsLine : Option LineEnd → List ℕ → Option (List ℕ) → Type 0
EndsLine (Some Newline) line left = ⊤
EndsLine (Some Missing) line left = (line ≢ []) × IsAtEnd left
EndsLine None line left = (line ≡ []) × IsAtEnd left

-- the first line of the text is longer than a line may be
abbrev pub BeginsLong : List ℕ → Type 0
BeginsLong text =
    (front : List ℕ) × (rest : List ℕ) × (text ≡ front ++ rest) × IsLine front × (longest_input_line < length front)

-- the same of an input, where it is known
abbrev pub HasLongLine : Option (List ℕ) → Type 0
HasLongLine known = IfSome known BeginsLong

-- ---- What calls come to.

-- so many calls were made, and so many of them failed
abbrev pub Made : ReadsMade → ℕ → ℕ → Type 0
Made all made failed =
    (calls : ReadCalls) × Counts all.before all.after calls × (calls.made ≡ made) × (calls.failed ≡ failed)

-- The cause of a fault. The reader can't be read: a call failed, or as many were made as may be. Else no call failed.
abbrev pub EndsFor : ReadsMade → LineFault → Type 0
EndsFor all Read = ((made : ℕ) × Made all made 1) ⊎ Made all most_calls 0
EndsFor all TooLong = (made : ℕ) × Made all made 0
EndsFor all Memory = (made : ℕ) × Made all made 0

-- ---- One step, for private contracts alone.

-- what was read ahead is put behind a line up to the line end, or whole where that isn't there; nothing is where that would
-- be too long, or there is no memory for it
abbrev pub TakesAhead : List ℕ → List ℕ → List ℕ → List ℕ → Result Found LineFault → Type 0
TakesAhead ahead line left after (Ok Whole) =
    (part : List ℕ) × IsLine part × (ahead ≡ part ++ 10 ∷ left) × (after ≡ line ++ part)
TakesAhead ahead line left after (Ok Part) = IsLine ahead × (left ≡ []) × (after ≡ line ++ ahead)
TakesAhead ahead line left after (Err TooLong) =
    (left ≡ ahead) × (after ≡ line)
    × ((part : List ℕ) × (rest : List ℕ) × IsLine part × (ahead ≡ part ++ rest) × (longest_input_line < length line + length part))
TakesAhead ahead line left after (Err Memory) = (left ≡ ahead) × (after ≡ line)
TakesAhead ahead line left after (Err Read) = ⊥

-- what is ahead after a call, and what the reader has left
abbrev pub Fills : Option (List ℕ) → List ℕ → Result Filled LineFault → Type 0
Fills left ahead (Ok Ended) = (ahead ≡ []) × IsAtEnd left
Fills left ahead (Ok Goes) = ⊤
Fills left ahead (Err fault) = (ahead ≡ []) × (fault ≡ Read)

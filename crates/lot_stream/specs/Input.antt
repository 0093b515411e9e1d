-- What is made of the bytes of a reader, call by call (docs/RULES.md, Limits).
use Rattle.std.specs.Prelude.{◌≡◌, ◌≢◌, ◌⊎◌, ℕ, ◌+◌, ◌<◌, ◌≤◌, List, ◌++◌, length, take, Option, Result, Ok, Err}
use Rattle.std.specs.IoError.{error_kind}
use Rattle.std.specs.declared.io.Error.{Error}
use Rattle.std.specs.declared.io.ErrorKind.{ErrorKind}
use Rattle.lot_io.specs.Reads.{Counts, ReadCalls, ReadsMade}
use Rattle.lot_stream.specs.declared.input.Intake.{Intake}
use Rattle.lot_stream.specs.declared.input.Intake.TheVariants.{Ended, Goes}
use Rattle.lot_stream.specs.declared.input.SlurpFault.{SlurpFault}
use Rattle.lot_stream.specs.declared.input.SlurpFault.TheVariants.{Read, TooLong, Memory}

-- the most bytes that an input may have: 16 MiB
abbrev pub longest_input : ℕ
longest_input = 16777216

-- the most calls that are made on a reader, the interrupted ones included
abbrev pub most_calls : ℕ
most_calls = 20000000

-- how many bytes a reader is asked for at a time
abbrev pub chunk_size : ℕ
chunk_size = 65536

-- What one call of `read` comes to, which gave its bytes at the start of the chunk: the bytes so far, those after it,
-- and whether the reader is at its end.
-- A call that gave nothing ends the input. One that was interrupted is tried again, and one that failed otherwise is a
-- fault of the reader. The bytes that it gave are kept, where there is memory for them; they are too many if that is
-- more than the limit, and not otherwise.
abbrev pub TakesIn : List ℕ → List ℕ → Result ℕ Error → List ℕ → Result Intake SlurpFault → Type 0
TakesIn bytes chunk (Ok count) after (Ok Ended) = (count ≡ 0) × (after ≡ bytes)
TakesIn bytes chunk (Ok count) after (Ok Goes) =
    (0 < count) × (length bytes + count ≤ longest_input) × (after ≡ bytes ++ take count chunk)
TakesIn bytes chunk (Ok count) after (Err Read) = ⊥
TakesIn bytes chunk (Ok count) after (Err TooLong) = longest_input < length bytes + count
TakesIn bytes chunk (Ok count) after (Err Memory) = (0 < count) × (length bytes + count ≤ longest_input)
TakesIn bytes chunk (Err error) after (Ok Ended) = ⊥
TakesIn bytes chunk (Err error) after (Ok Goes) = (error_kind error ≡ ErrorKind.Interrupted) × (after ≡ bytes)
TakesIn bytes chunk (Err error) after (Err Read) = error_kind error ≢ ErrorKind.Interrupted
TakesIn bytes chunk (Err error) after (Err TooLong) = ⊥
TakesIn bytes chunk (Err error) after (Err Memory) = ⊥

-- how many bytes were taken from the reader before the fault
abbrev pub TookBefore : SlurpFault → ℕ → Type 0
TookBefore Read count = count ≤ longest_input
TookBefore TooLong count = (longest_input < count) × (count ≤ longest_input + chunk_size)
TookBefore Memory count = count ≤ longest_input

-- ---- why reading ends, by what its calls came to

-- The cause of a fault, which comes before a call met the end. The reader can't be read: a call failed, the last one, or as
-- many were made as may be; and no more bytes came than may. It is too long: more came, and no call failed. Memory ended:
-- neither is so.
abbrev pub IsCause : SlurpFault → ReadCalls → Type 0
IsCause Read calls =
    ((calls.failed ≡ 1) ⊎ ((calls.failed ≡ 0) × (calls.made ≡ most_calls))) × (calls.ended ≡ 0) × (calls.given ≤ longest_input)
IsCause TooLong calls = (calls.failed ≡ 0) × (calls.ended ≡ 0) × (longest_input < calls.given)
IsCause Memory calls = (calls.failed ≡ 0) × (calls.ended ≡ 0) × (calls.given ≤ longest_input)

-- calls were made until that fault, for its cause
abbrev pub EndsFor : ReadsMade → SlurpFault → Type 0
EndsFor all fault = (calls : ReadCalls) × Counts all.before all.after calls × (calls.made ≤ most_calls) × IsCause fault calls

-- calls were made until the reader was at its end: none failed, one met the end, and they gave so many bytes
abbrev pub EndsWell : ReadsMade → ℕ → Type 0
EndsWell all count =
    (calls : ReadCalls) × Counts all.before all.after calls × (calls.made ≤ most_calls)
    × (calls.failed ≡ 0) × (calls.ended ≡ 1) × (calls.given ≡ count)

-- calls were made of which none failed
abbrev pub NoneFailed : ReadsMade → Type 0
NoneFailed all = (calls : ReadCalls) × Counts all.before all.after calls × (calls.failed ≡ 0)

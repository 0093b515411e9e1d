-- The commands that an input gives, each under its key, or why it gives none.
use Rattle.std.specs.Prelude.{◌≡◌, ◌<◌, ◌≤◌, ℕ, List, length, IfSome, Option}
use Rattle.std.specs.Io.KnownBytes.{IsAtEnd}
use Rattle.lot_io.specs.Reads.{ReadsMade}
use Rattle.lot_stream.specs.Input.{EndsFor, EndsWell, longest_input}
use Rattle.lot_stream.specs.declared.input.SlurpFault.{SlurpFault}
use Rattle.lot_stream.specs.declared.input.SlurpFault.TheVariants as slurp
use Rattle.lot_input.specs.declared.fault.InputFault.{InputFault}
use Rattle.lot_input.specs.declared.fault.InputFault.TheVariants.{Unasked, Unread, Text, Rows, Cash, Export, Statement, Memory}

-- what is known of a reader: the bytes that it had, those that it has left, and what its calls came to
pub record Reading : Type 0 where
  pub bytes : Option (List ℕ)
  pub left : Option (List ℕ)
  pub calls : ReadsMade

-- what is known of it by the bytes that it had before some calls, and by those that it has left after them
abbrev pub reading_between : Option (List ℕ) → Option (List ℕ) → ReadsMade → Reading
reading_between before after calls = record { bytes = before; left = after; calls = calls }

-- This input is all that a reader has, where its bytes are known. It is no longer than an input may be. The reader has none
-- left, and no call of it failed before it was at its end.
abbrev pub IsAllOf : Reading → List ℕ → Type 0
IsAllOf reading input =
    IfSome reading.bytes (λ bytes. input ≡ bytes) × (length input ≤ longest_input) × IsAtEnd reading.left × EndsWell reading.calls (length input)

-- nothing was asked of it
abbrev pub IsUnasked : Reading → Type 0
IsUnasked reading = (reading.left ≡ reading.bytes) × (reading.calls.after ≡ reading.calls.before)

-- why a reader wasn't read to its end: it can't be read, or is too long; or memory ends, and neither is so
abbrev pub IsUnread : Reading → SlurpFault → Type 0
IsUnread reading slurp.Read = EndsFor reading.calls slurp.Read
IsUnread reading slurp.TooLong =
    EndsFor reading.calls slurp.TooLong × IfSome reading.bytes (λ bytes. longest_input < length bytes)
IsUnread reading slurp.Memory = EndsFor reading.calls slurp.Memory

-- all that a reader has gives this, where `Means` tells what an input gives
abbrev pub Gives : {A : Type 0} → (List ℕ → A → Type 0) → Reading → A → Type 0
Gives Means reading given = (input : List ℕ) × IsAllOf reading input × Means input given

-- Why an input gives nothing: memory ends before anything is read; the reader isn't read to its end; or the input has this
-- fault, where `IsFaulty` tells which one. Where memory ends later, `IsFaulty` tells for which input that can be.
abbrev pub GivesNone : (List ℕ → InputFault → Type 0) → Reading → InputFault → Type 0
GivesNone IsFaulty reading Unasked = IsUnasked reading
GivesNone IsFaulty reading (Unread fault) = IsUnread reading fault
GivesNone IsFaulty reading (Text fault) = (input : List ℕ) × IsAllOf reading input × IsFaulty input (Text fault)
GivesNone IsFaulty reading (Rows fault) = (input : List ℕ) × IsAllOf reading input × IsFaulty input (Rows fault)
GivesNone IsFaulty reading (Cash fault) = (input : List ℕ) × IsAllOf reading input × IsFaulty input (Cash fault)
GivesNone IsFaulty reading (Export fault) = (input : List ℕ) × IsAllOf reading input × IsFaulty input (Export fault)
GivesNone IsFaulty reading (Statement fault) = (input : List ℕ) × IsAllOf reading input × IsFaulty input (Statement fault)
GivesNone IsFaulty reading Memory = (input : List ℕ) × IsAllOf reading input × IsFaulty input Memory

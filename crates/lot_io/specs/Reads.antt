-- What calls of `read` on a reader come to.
use Rattle.std.specs.Prelude.{◌≡◌, ◌≢◌, ◌⊎◌, ℕ, zero, suc, ◌+◌, ◌-◌, ◌^◌, min, Option, None, Some, Result, Ok, Err, ⊤}
use Rattle.std.specs.IoError.{error_kind}
use Rattle.std.specs.declared.io.Error.{Error}
use Rattle.std.specs.declared.io.ErrorKind.{ErrorKind}

-- how many calls were made, how many of them failed, how many met the end, and how many bytes they gave
pub record ReadCalls : Type 0 where
  pub made : ℕ
  pub failed : ℕ
  pub ended : ℕ
  pub given : ℕ

-- no call was made
abbrev pub no_reads : ReadCalls
no_reads = record { made = 0; failed = 0; ended = 0; given = 0 }

-- a count stops at the largest number of 64 bits
abbrev pub counted : ℕ → ℕ
counted count = min count (2 ^ 64 - 1)

-- ---- one call

-- how many failed calls a call with that error is: none where it was interrupted and may be made again, else one
abbrev pub IsFailure : Error → ℕ → Type 0
IsFailure error failed =
    ((error_kind error ≡ ErrorKind.Interrupted) × (failed ≡ 0)) ⊎ ((error_kind error ≢ ErrorKind.Interrupted) × (failed ≡ 1))

-- how many calls met the end, of a call for at least one byte that gave so many: one where it gave nothing, else none
abbrev pub ends : ℕ → ℕ
ends zero = 1
ends (suc more) = 0

-- what one call for at least one byte comes to
abbrev pub IsCall : Result ℕ Error → ReadCalls → Type 0
IsCall (Ok count) call =
    (call.made ≡ 1) × (call.failed ≡ 0) × (call.ended ≡ ends count) × (call.given ≡ count)
IsCall (Err error) call =
    (call.made ≡ 1) × IsFailure error call.failed × (call.ended ≡ 0) × (call.given ≡ 0)

-- ---- more calls

-- what all calls came to grows by what more calls came to
abbrev pub GrowsBy : ReadCalls → ReadCalls → ReadCalls → Type 0
GrowsBy old new more =
    (counted new.made ≡ counted (old.made + more.made)) × (counted new.failed ≡ counted (old.failed + more.failed))
    × (counted new.ended ≡ counted (old.ended + more.ended))
    × (counted new.given ≡ counted (old.given + more.given))

-- the same, where it is known what all calls came to
abbrev pub Counts : Option ReadCalls → Option ReadCalls → ReadCalls → Type 0
Counts None new more = ⊤
Counts (Some old) None more = ⊥
Counts (Some old) (Some new) more = GrowsBy old new more

-- the same of one call with that outcome
abbrev pub CountsRead : Option ReadCalls → Option ReadCalls → Result ℕ Error → Type 0
CountsRead None new outcome = ⊤
CountsRead (Some old) None outcome = ⊥
CountsRead (Some old) (Some new) outcome = (call : ReadCalls) × IsCall outcome call × GrowsBy old new call

-- what is known of all calls of a reader before some were made, and after them
pub record ReadsMade : Type 0 where
  pub before : Option ReadCalls
  pub after : Option ReadCalls

-- the calls between the two
abbrev pub reads_between : Option ReadCalls → Option ReadCalls → ReadsMade
reads_between before after = record { before = before; after = after }

-- What calls come to, one after another, and why reading ends.
use Rattle.std.proofs.Common.{◌≡◌, ◌<◌, ◌≤◌, ◌∙◌, inl, inr, ℕ, zero, suc, List, length, take, ◌++◌, sym, ap, subst, arith, refl, length-append}
use Rattle.std.specs.Prelude.{◌+◌, Option, None, Some, Result, Ok, Err, IfErr, IsErrAnd}
use Rattle.std.specs.Io.{ReadsAtMost}
use Rattle.std.specs.Io.KnownBytes.{Consumes, ReadConsumes}
use Rattle.std.proofs.KnownBytes.{Consumes-kept, Consumes-trans}
use Rattle.std.specs.declared.io.Error.{Error}
use Rattle.lot_io.proofs.ReadLemmas.{gives, gives_none}
use Rattle.lot_io.specs.Reads.{Counts, CountsRead, GrowsBy, IsCall, ReadCalls, ReadsMade, ends}
use Rattle.lot_stream.specs.Input.{EndsFor, EndsWell, NoneFailed, TakesIn, longest_input, most_calls}
use Rattle.lot_stream.specs.declared.input.Intake.TheVariants.{Ended, Goes}
use Rattle.lot_stream.specs.declared.input.SlurpFault.{SlurpFault}

-- what calls come to together
abbrev AreTogether : ReadCalls → ReadCalls → ReadCalls → Type 0
AreTogether a b both =
    (both.made ≡ a.made + b.made) × (both.failed ≡ a.failed + b.failed) × (both.ended ≡ a.ended + b.ended) × (both.given ≡ a.given + b.given)

grows_on : (old mid new a b both : ReadCalls) → GrowsBy old mid a → GrowsBy mid new b → AreTogether a b both → GrowsBy old new both
grows_on old mid new a b both one two is =
    (omega (arith, one.0, two.0, is.0), omega (arith, one.1, two.1, is.1), omega (arith, one.2, two.2, is.2), omega (arith, one.3, two.3, is.3))

-- no calls were made
pub none_made : (known : Option ReadCalls) → Counts known known (record { made = 0; failed = 0; ended = 0; given = 0 })
none_made None = tt
none_made (Some calls) = (omega arith, omega arith, omega arith, omega arith)

-- one call more
one_more : (old mid new : Option ReadCalls) (so_far after : ReadCalls) (outcome : Result ℕ Error) → Counts old mid so_far → CountsRead mid new outcome
    → ((call : ReadCalls) → IsCall outcome call → AreTogether so_far call after) → Counts old new after
one_more None mid new so_far after outcome counts called together = tt
one_more (Some old) None new so_far after outcome counts called together = absurd counts
one_more (Some old) (Some mid) None so_far after outcome counts called together = absurd called
one_more (Some old) (Some mid) (Some new) so_far after outcome counts (call, is, grows) together =
    grows_on old mid new so_far call after counts grows (together call is)

-- so many calls gave these bytes, none failed, and none met the end
abbrev pub so_far : ℕ → List ℕ → ReadCalls
so_far made bytes = record { made = made; failed = 0; ended = 0; given = length bytes }

-- a call that didn't fail
gave : (made next : ℕ) (bytes : List ℕ) (count ended given : ℕ) → next ≡ made + 1 → ends count ≡ ended → given ≡ length bytes + count
    → (call : ReadCalls) → IsCall (Ok count) call
    → AreTogether (so_far made bytes) call (record { made = next; failed = 0; ended = ended; given = given })
gave made next bytes count ended given at meets is call came =
    (omega (arith, at, came.0), omega (arith, came.1), omega (arith, came.2, meets), omega (arith, is, came.3))

-- a call that was interrupted
paused : (made next : ℕ) (bytes after : List ℕ) (error : Error) → next ≡ made + 1 → TakesIn bytes bytes (Err error) after (Ok Goes)
    → (call : ReadCalls) → IsCall (Err error) call → AreTogether (so_far made bytes) call (so_far next after)
paused made next bytes after error at takes call (one, inl (kind, none), on, nothing) =
    (omega (arith, at, one), omega (arith, none), omega (arith, on), ap length takes.1 ∙ sym (omega (arith, nothing)))
paused made next bytes after error at takes call (one, inr (kind, failed), on, nothing) = absurd (kind takes.0)

-- a call that failed
failing : (made next : ℕ) (bytes : List ℕ) (error : Error) → next ≡ made + 1 → TakesIn bytes bytes (Err error) bytes (Err SlurpFault.Read)
    → (call : ReadCalls) → IsCall (Err error) call → AreTogether (so_far made bytes) call (record { made = next; failed = 1; ended = 0; given = length bytes })
failing made next bytes error at takes call (one, inl (kind, none), on, nothing) = absurd (takes kind)
failing made next bytes error at takes call (one, inr (kind, failed), on, nothing) =
    (omega (arith, at, one), omega (arith, failed), omega (arith, on), omega (arith, nothing))

lengths : (bytes chunk after : List ℕ) (count : ℕ) → count ≡ length (take count chunk) → after ≡ bytes ++ take count chunk
    → length after ≡ length bytes + count
lengths bytes chunk after count is so =
    ap length so ∙ length-append bytes (take count chunk) ∙ ap (λ n. length bytes + n) (sym is)

module _ (old mid new : Option ReadCalls) (bytes chunk : List ℕ) (made next : ℕ) (counts : Counts old mid (so_far made bytes)) (at : next ≡ made + 1) where
  -- reading goes on
  pub call_goes : (outcome : Result ℕ Error) (after : List ℕ) → CountsRead mid new outcome → ReadsAtMost outcome chunk
      → TakesIn bytes chunk outcome after (Ok Goes) → Counts old new (so_far next after)
  call_goes (Ok count) after called bound takes =
      one_more old mid new (so_far made bytes) (so_far next after) (Ok count) counts called
      (gave made next bytes count 0 (length after) at (gives count takes.0) (lengths bytes chunk after count bound.1 takes.2))
  call_goes (Err error) after called bound takes =
      one_more old mid new (so_far made bytes) (so_far next after) (Err error) counts called (paused made next bytes after error at takes)

  -- the reader is at its end
  pub call_ends : (outcome : Result ℕ Error) (after : List ℕ) → CountsRead mid new outcome → TakesIn bytes chunk outcome after (Ok Ended)
      → next ≤ most_calls → EndsWell (record { before = old; after = new }) (length after)
  call_ends (Ok count) after called takes few = (
    record { made = next; failed = 0; ended = 1; given = length after },
    one_more old mid new (so_far made bytes) (record { made = next; failed = 0; ended = 1; given = length after }) (Ok count) counts called
        (gave made next bytes count 1 (length after) at (gives_none count takes.0) (ap length takes.1 ∙ omega (arith, takes.0))),
    few,
    refl,
    refl,
    refl,
  )
  call_ends (Err error) after called takes few = absurd takes

  -- reading ends at a fault
  pub call_stops : (outcome : Result ℕ Error) (after : List ℕ) (fault : SlurpFault) → CountsRead mid new outcome
      → TakesIn bytes chunk outcome after (Err fault) → length bytes ≤ longest_input → next ≤ most_calls
      → EndsFor (record { before = old; after = new }) fault
  call_stops (Ok count) after SlurpFault.Read called takes short few = absurd takes
  call_stops (Ok count) after SlurpFault.TooLong called takes short few = (
    record { made = next; failed = 0; ended = 0; given = length bytes + count },
    one_more old mid new (so_far made bytes) (record { made = next; failed = 0; ended = 0; given = length bytes + count }) (Ok count) counts called
        (gave made next bytes count 0 (length bytes + count) at (gives count (omega (arith, takes, short))) refl),
    few,
    (refl, refl, takes),
  )
  call_stops (Ok count) after SlurpFault.Memory called takes short few = (
    record { made = next; failed = 0; ended = 0; given = length bytes + count },
    one_more old mid new (so_far made bytes) (record { made = next; failed = 0; ended = 0; given = length bytes + count }) (Ok count) counts called
        (gave made next bytes count 0 (length bytes + count) at (gives count takes.0) refl),
    few,
    (refl, refl, takes.1),
  )
  call_stops (Err error) after SlurpFault.Read called takes short few = (
    record { made = next; failed = 1; ended = 0; given = length bytes },
    one_more old mid new (so_far made bytes) (record { made = next; failed = 1; ended = 0; given = length bytes }) (Err error) counts called
        (failing made next bytes error at takes),
    few,
    (inl refl, refl, short),
  )
  call_stops (Err error) after SlurpFault.TooLong called takes short few = absurd takes
  call_stops (Err error) after SlurpFault.Memory called takes short few = absurd takes

-- what was read stands before what the reader has left, and is short enough
pub bytes_go : (old mid new : Option (List ℕ)) (bytes chunk : List ℕ) (outcome : Result ℕ Error) (after : List ℕ)
    → Consumes old mid bytes → length bytes ≤ longest_input → ReadConsumes mid new outcome chunk → ReadsAtMost outcome chunk
    → TakesIn bytes chunk outcome after (Ok Goes) → Consumes old new after × (length after ≤ longest_input)
bytes_go old mid new bytes chunk (Ok count) after before short now bound takes = (
  subst (Consumes old new) (sym takes.2) (Consumes-trans old mid new bytes (take count chunk) before now.0),
  omega (arith, lengths bytes chunk after count bound.1 takes.2, takes.1),
)
bytes_go old mid new bytes chunk (Err error) after before short now bound takes =
    (subst (Consumes old new) (sym takes.1) (Consumes-kept old mid new bytes before now), subst (λ (bs : List ℕ). length bs ≤ longest_input) (sym takes.1) short)

-- as many calls were made as may be
pub called_out : (old mid : Option ReadCalls) (bytes : List ℕ) (made : ℕ) → Counts old mid (so_far made bytes) → length bytes ≤ longest_input
    → made ≡ most_calls → EndsFor (record { before = old; after = mid }) SlurpFault.Read
called_out old mid bytes made counts short all = (so_far made bytes, counts, omega (arith, all), (inr (refl, all), refl, short))

-- no memory before the first call
pub no_room : (known : Option ReadCalls) → EndsFor (record { before = known; after = known }) SlurpFault.Memory
no_room known = (record { made = 0; failed = 0; ended = 0; given = 0 }, none_made known, omega arith, (refl, refl, omega arith))

pub for_fault : {A : Type 0} (all : ReadsMade) (fault : SlurpFault) (result : Result A SlurpFault)
    → IsErrAnd result (λ e. e ≡ fault) → EndsFor all fault → IfErr result (EndsFor all)
for_fault all fault (Ok x) is ends = tt
for_fault all fault (Err e) is ends = rw (is) ends

-- all was read, so no call failed
pub ended_well : (all : ReadsMade) (count : ℕ) → EndsWell all count → NoneFailed all
ended_well all count (calls, counts, few, none, met, given) = (calls, counts, none)

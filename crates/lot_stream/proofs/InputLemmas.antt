-- What was taken from a reader at a fault: what was read before, and at the last call.
use Rattle.std.proofs.Common.{◌≡◌, ℕ, List, ◌++◌, length, take, sym, ap, subst, ◌∙◌, length-append}
use Rattle.std.proofs.Math.Seq.{take-append_seam}
use native.Mathlib.Omega.{arith}
use Rattle.std.specs.Prelude.{◌≤◌, ◌+◌, Option, Result, Ok, Err, IfErr, IsErrAnd}
use Rattle.std.specs.Io.{ReadsAtMost}
use Rattle.std.specs.Io.KnownBytes.{Consumes, ReadConsumes}
use Rattle.std.proofs.KnownBytes.{Consumes-kept, Consumes-trans}
use Rattle.std.specs.declared.io.Error.{Error}
use Rattle.lot_stream.specs.declared.input.SlurpFault.{SlurpFault}
use Rattle.lot_stream.specs.Input.{TakesIn, TookBefore, chunk_size, longest_input}

-- what was taken from the reader where reading ends at a fault
abbrev pub TookAtFault : Option (List ℕ) → Option (List ℕ) → SlurpFault → Type 0
TookAtFault old new fault = (taken : List ℕ) × Consumes old new taken × TookBefore fault (length taken)

-- a chunk that was lent to its end
pub written_back : (n : ℕ) (buf rest : List ℕ) → length buf ≡ n → take n (buf ++ rest) ≡ buf
written_back n buf rest is = ap (λ m. take m (buf ++ rest)) (sym is) ∙ take-append_seam buf rest

both_lengths : (bytes chunk : List ℕ) (count : ℕ) → count ≡ length (take count chunk) → length (bytes ++ take count chunk) ≡ length bytes + count
both_lengths bytes chunk count is = length-append bytes (take count chunk) ∙ ap (λ n. length bytes + n) (sym is)

-- where the bytes that were given are those of the chunk
fault_at_call : (old mid new : Option (List ℕ)) (bytes chunk : List ℕ) (outcome : Result ℕ Error) (after : List ℕ) (fault : SlurpFault)
    → Consumes old mid bytes → length bytes ≤ longest_input → length chunk ≡ chunk_size
    → ReadsAtMost outcome chunk → ReadConsumes mid new outcome chunk → TakesIn bytes chunk outcome after (Err fault)
    → TookAtFault old new fault
fault_at_call old mid new bytes chunk (Ok count) after SlurpFault.Read before small room bound now takes = absurd takes
fault_at_call old mid new bytes chunk (Ok count) after SlurpFault.TooLong before small room bound now takes =
    let is = both_lengths bytes chunk count bound.1 in
    (bytes ++ take count chunk, Consumes-trans old mid new bytes (take count chunk) before now.0, (omega (arith, is, takes), omega (arith, is, bound.0, room, small)))
fault_at_call old mid new bytes chunk (Ok count) after SlurpFault.Memory before small room bound now takes =
    let is = both_lengths bytes chunk count bound.1 in
    (bytes ++ take count chunk, Consumes-trans old mid new bytes (take count chunk) before now.0, omega (arith, is, takes.1))
fault_at_call old mid new bytes chunk (Err error) after SlurpFault.Read before small room bound now takes =
    (bytes, Consumes-kept old mid new bytes before now, small)
fault_at_call old mid new bytes chunk (Err error) after SlurpFault.TooLong before small room bound now takes = absurd takes
fault_at_call old mid new bytes chunk (Err error) after SlurpFault.Memory before small room bound now takes = absurd takes

pub fault_taken : (old mid new : Option (List ℕ)) (bytes given chunk : List ℕ) (outcome : Result ℕ Error) (after : List ℕ) (fault : SlurpFault)
    → Consumes old mid bytes → length bytes ≤ longest_input → length chunk ≡ chunk_size → given ≡ chunk
    → ReadsAtMost outcome chunk → ReadConsumes mid new outcome chunk → TakesIn bytes given outcome after (Err fault)
    → TookAtFault old new fault
fault_taken old mid new bytes given chunk outcome after fault before small room same bound now takes =
    fault_at_call old mid new bytes chunk outcome after fault before small room bound now
    (subst (λ xs. TakesIn bytes xs outcome after (Err fault)) same takes)

pub at_fault : {A : Type 0} (old new : Option (List ℕ)) (fault : SlurpFault) (result : Result A SlurpFault)
    → IsErrAnd result (λ e. e ≡ fault) → TookAtFault old new fault → IfErr result (TookAtFault old new)
at_fault old new fault (Ok x) is took = tt
at_fault old new fault (Err e) is took = rw (is) took

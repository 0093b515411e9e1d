-- A line that is printed and flushed, or not.
use Rattle.std.proofs.Common.{◌≡◌, ◌∙◌, ◌⊎◌, inl, inr, ℕ, List, [], ◌∷◌, ap, append-nil, refl, subst, sym}
use Rattle.std.proofs.KnownBytes.{Appends-kept}
use Rattle.std.specs.Io.KnownBytes.{Keeps}
use Rattle.std.proofs.lemmas.Bool.{true≢false}
use Rattle.std.specs.Prelude.{Err, IsErr, Ok, OnErr, OnOk, Option, Result}
use Rattle.lot_stream.specs.Status.{code_of}
use Rattle.lot_stream.specs.declared.status.Status.{Status}
use Rattle.lot_stream.specs.declared.status.Status.TheVariants.{Stopped}
use Rattle.lot_io.specs.Writes.{AllFlushed, HasFailed, NoneFailed, WriteCalls, WritesMade}
use Rattle.lot_report.specs.Written.{WritesLine}
use Rattle.lot_report.specs.declared.line.PrintFault.{PrintFault}
use Rattle.lot_report.specs.declared.line.PrintFault.TheVariants.{Memory, Write}
use Rattle.lot_cli.specs.Says.{EndsWithLine, Says}

-- behind a line that was printed whole it is flushed, or a call of the writer failed
pub finished : (status : Status) (calls : WritesMade) (code : ℕ) → EndsWithLine (Ok tt) status calls code
    → ((code ≡ code_of status) × AllFlushed calls) ⊎ ((code ≡ code_of Stopped) × HasFailed calls.after)
finished status calls code (end, is, inl (same, flushed), inl none) = inl (is ∙ ap code_of same, (flushed, none))
finished status calls code (end, is, inl (same, flushed), inr (stopped, failed)) = inr (is ∙ ap code_of stopped, failed)
finished status calls code (end, is, inr (stopped, failed), either) = inr (is ∙ ap code_of stopped, failed)

pub said : (text : List ℕ) (status : Status) (old mid new : Option (List ℕ)) (first between last : Option WriteCalls) (printed : Result (Unit {0}) PrintFault) (code : ℕ)
    → WritesLine old mid printed text → Keeps mid new → OnOk printed (NoneFailed first between) → (IsErr printed → HasFailed last)
    → EndsWithLine printed status (record { before = between; after = last }) code → Says text status old new (record { before = first; after = last }) code
said text status old mid new first between last (Ok done) code written kept none failed ends = by (finished status (record { before = between; after = last }) code ends)
  where
    by : ((code ≡ code_of status) × AllFlushed (record { before = between; after = last })) ⊎ ((code ≡ code_of Stopped) × HasFailed last)
        → Says text status old new (record { before = first; after = last }) code
    by (inl (is, (flushed, then))) = inl (is, Appends-kept old mid new text written kept, (flushed, then ∙ none))
    by (inr (is, why)) = inr (is, (text, ([], sym (append-nil text)), Appends-kept old mid new text written kept), why)
said text status old mid new first between last (Err Write) code (prefix, (byte, rest, whole), written) kept none failed (end, is, stopped, either) =
    inr (is ∙ ap code_of stopped, (prefix, (byte ∷ rest, whole), Appends-kept old mid new prefix written kept), failed refl)
said text status old mid new first between last (Err Memory) code written kept none failed (end, is, stopped, either) =
    inr (is ∙ ap code_of stopped, ([], (text, refl), Appends-kept old mid new [] written kept), failed refl)

-- where a line isn't printed whole, a call of the writer failed, which is asked for nothing more
pub failed_before : {W : Type 0} (calls : W → Option WriteCalls) (old new : W) (printed : Result (Unit {0}) PrintFault) → OnErr printed (HasFailed (calls old))
    → (IsErr printed → new ≡ old) → IsErr printed → HasFailed (calls new)
failed_before calls old new (Ok done) failed same is = absurd (true≢false (sym is))
failed_before calls old new (Err cut) failed same is = subst (λ (w : _). HasFailed (calls w)) (sym (same is)) failed

-- Lines that are flushed, or a writer that failed.
use Rattle.std.proofs.Common.{◌≡◌, ◌∙◌, List, ℕ, ap, inl, refl}
use Rattle.std.specs.Prelude.{Option, None, Some, Result, Ok, Err, IsErrAnd, OnErr, OnOk}
use Rattle.std.specs.declared.io.Error.{Error}
use Rattle.lot_io.specs.Writes.{CountsFlush, HasFailed, NoneFailed, WriteCalls}
use Rattle.lot_report.specs.declared.line.PrintFault.{PrintFault}
use Rattle.lot_store.specs.Run.{FlushesLine, IsWrittenOut, IsWrittenOutAs, flush_outcome}
use Rattle.lot_store.specs.declared.run.Ending.{Ending}
use Rattle.lot_store.specs.declared.run.Ending.TheVariants.{Complete, Output, Stopped}

-- the outcome of a flush
pub flush_out : (old new : Option WriteCalls) (outcome : Result (Unit {0}) Error) (result : Result (Unit {0}) Ending) → CountsFlush old new outcome
    → result ≡ flush_outcome outcome → IsWrittenOutAs result (record { before = old; after = new })
flush_out None None (Ok done) result counts is = rw (is) (tt, refl)
flush_out None None (Err error) result counts is = rw (is) tt
flush_out None (Some new) outcome result counts is = absurd counts
flush_out (Some old) None outcome result counts is = absurd counts
flush_out (Some old) (Some new) (Ok done) result (made, (same, flushed)) is = rw (is) (flushed, ap Some same)
flush_out (Some old) (Some new) (Err error) result (made, (failed, same)) is = rw (is) (inl failed)

-- a line that isn't written whole
pub cut_out : (printed : Result (Unit {0}) PrintFault) (cut : PrintFault) (old calls : Option WriteCalls) → printed ≡ Err cut → OnErr printed (HasFailed calls)
    → IsWrittenOutAs {A = Unit {0}} (Err Output) (record { before = old; after = calls })
cut_out (Ok done) cut old calls is failed = absurd cc
cut_out (Err fault) cut old calls is failed = failed

-- an error that is passed on
pub err_out : {A : Type 0} (result : Result A Ending) (ending : Ending) (old calls : Option WriteCalls) → IsErrAnd result (λ e. e ≡ ending)
    → IsWrittenOut ending (record { before = old; after = calls }) → IsWrittenOutAs result (record { before = old; after = calls })
err_out (Ok done) ending old calls is out = absurd is
err_out (Err e) ending old calls is out = rw (is) out

module _ (old mid new : Option WriteCalls) where
  -- none failed before
  pub out_then : (ending : Ending) → NoneFailed old mid → IsWrittenOut ending (record { before = mid; after = new }) → IsWrittenOut ending (record { before = old; after = new })
  out_then Complete none (flushed, then) = (flushed, then ∙ none)
  out_then (Stopped fault) none (flushed, then) = (flushed, then ∙ none)
  out_then Output none failed = failed

  -- a line that was printed, and flushed where that was all of it
  pub line_out : (printed : Result (Unit {0}) PrintFault) (held shown : Option (List ℕ)) (result : Result (Unit {0}) Ending) → OnOk printed (NoneFailed old mid)
      → FlushesLine printed held shown result → IsWrittenOutAs result (record { before = mid; after = new })
      → IsWrittenOutAs result (record { before = old; after = new })
  line_out (Ok done) held shown (Ok flushed) none line (all, then) = (all, then ∙ none)
  line_out (Ok done) held shown (Err ending) none line out = out_then ending none out
  line_out (Err cut) held shown (Ok flushed) none line out = absurd line
  line_out (Err cut) held shown (Err Output) none line out = out
  line_out (Err cut) held shown (Err Complete) none (is, line) out = absurd cc
  line_out (Err cut) held shown (Err (Stopped fault)) none (is, line) out = absurd cc

-- What is known of a writer after calls of it.
use Rattle.std.proofs.Common.{◌≡◌, ◌∙◌, ◌<◌, ◌≤◌, inl, inr, ℕ, ap, arith, refl}
use Rattle.std.specs.Prelude.{◌+◌, Option, None, Some, Result, Ok, Err, IsErrAnd, IsErrOf, OnErr, OnOk}
use Rattle.std.specs.declared.io.Error.{Error}
use Rattle.lot_report.specs.declared.fault.ReportFault.{ReportFault}
use Rattle.lot_report.specs.declared.fault.RowFault.{RowFault}
use Rattle.lot_report.specs.declared.line.PrintFault.{PrintFault}
use Rattle.lot_io.specs.Writes.{AtLeast, CountsWrite, HasFailed, NoneFailed, WriteCalls, most_calls}
use Rattle.lot_report.specs.Report.{report_fault}
use Rattle.lot_report.specs.Written.{IsTaken}

-- no call was made yet
pub none_made : (known : Option WriteCalls) → AtLeast 0 known
none_made None = tt
none_made (Some calls) = omega arith

-- one call more
pub one_more : (old new : Option WriteCalls) (made : ℕ) (outcome : Result ℕ Error) → AtLeast made old → CountsWrite old new outcome
    → made < most_calls → AtLeast (made + 1) new
one_more None None made outcome least counts below = tt
one_more None (Some new) made outcome least counts below = absurd counts
one_more (Some old) None made outcome least counts below = absurd counts
one_more (Some old) (Some new) made outcome least (is, marks) below = omega (arith, least, is, below)

-- as many calls were made as may be
pub called_out : (known : Option WriteCalls) (made : ℕ) → AtLeast made known → most_calls ≤ made → HasFailed known
called_out None made least all = tt
called_out (Some calls) made least all = inr (omega (arith, least, all))

-- a call failed
pub failed_call : (old new : Option WriteCalls) (outcome : Result ℕ Error) (fault : PrintFault) → CountsWrite old new outcome
    → IsTaken outcome (Err fault) → HasFailed new
failed_call None None outcome fault counts failed = tt
failed_call None (Some new) outcome fault counts failed = absurd counts
failed_call (Some old) None outcome fault counts failed = absurd counts
failed_call (Some old) (Some new) (Ok taken) fault (made, inl (none, marked, flushed)) (nothing, is) = inl marked
failed_call (Some old) (Some new) (Ok taken) fault (made, inr (some, same, flushed)) (nothing, is) = absurd (omega (arith, some, nothing))
failed_call (Some old) (Some new) (Err error) fault (made, (inl (kind, same), flushed)) (failed, is) = absurd (failed kind)
failed_call (Some old) (Some new) (Err error) fault (made, (inr (kind, marked), flushed)) (failed, is) = inl marked

-- no call failed, or it was interrupted
pub went_on : (old new : Option WriteCalls) (outcome : Result ℕ Error) (count : ℕ) → CountsWrite old new outcome
    → IsTaken outcome (Ok count) → NoneFailed old new
went_on None None outcome count counts taken = refl
went_on None (Some new) outcome count counts taken = absurd counts
went_on (Some old) None outcome count counts taken = absurd counts
went_on (Some old) (Some new) (Ok some) count (made, inl (none, marked, flushed)) (below, is) = absurd (omega (arith, below, none))
went_on (Some old) (Some new) (Ok some) count (made, inr (more, same, flushed)) taken = ap Some same
went_on (Some old) (Some new) (Err error) count (made, (inl (kind, same), flushed)) taken = ap Some same
went_on (Some old) (Some new) (Err error) count (made, (inr (kind, marked), flushed)) (paused, is) = absurd (kind paused)

-- none failed before either
pub none_then : {A E : Type 0} (result : Result A E) (old mid new : Option WriteCalls) → NoneFailed old mid
    → OnOk result (NoneFailed mid new) → OnOk result (NoneFailed old new)
none_then (Ok x) old mid new before then = then ∙ before
none_then (Err e) old mid new before then = tt

-- where there is an error, what holds anyway
pub on_err : {A E : Type 0} (result : Result A E) (P : Type 0) → P → OnErr result P
on_err (Ok x) P holds = tt
on_err (Err e) P holds = holds

-- out of memory isn't a fault of the writer
pub not_of_writer : {A : Type 0} (result : Result A PrintFault) (known : Option WriteCalls)
    → IsErrAnd result (λ fault. fault ≡ PrintFault.Memory) → IsErrOf result PrintFault.Write → HasFailed known
not_of_writer (Ok x) known memory write = absurd memory
not_of_writer (Err fault) known memory write = cc

-- a report ends for the writer where one of its lines does
pub line_of_writer : {A : Type 0} (result : Result A ReportFault) (fault : PrintFault) → IsErrAnd result (λ e. e ≡ report_fault fault)
    → IsErrOf result ReportFault.Write → fault ≡ PrintFault.Write
line_of_writer (Ok x) fault from write = absurd from
line_of_writer (Err e) PrintFault.Write from write = refl
line_of_writer (Err e) PrintFault.Memory from write = cc

pub writer_of_line : (fault : PrintFault) → report_fault fault ≡ ReportFault.Write → fault ≡ PrintFault.Write
writer_of_line PrintFault.Write is = refl
writer_of_line PrintFault.Memory is = cc

-- the same of a row
pub row_of_writer : {A : Type 0} (result : Result A RowFault) (fault : ReportFault) → IsErrAnd result (λ e. e ≡ RowFault.Report fault)
    → IsErrOf result (RowFault.Report ReportFault.Write) → fault ≡ ReportFault.Write
row_of_writer (Ok x) fault from write = absurd from
row_of_writer (Err e) fault from write = cc

-- Which faults of the parts of a run are faults of the writer.
use Rattle.std.proofs.Common.{◌≡◌, ◌⊎◌, inl, inr, refl}
use Rattle.std.specs.Prelude.{Option, Result, Ok, Err, IsErrAnd, IsErrOf}
use Rattle.lot_read.specs.declared.fault.TextFault.{TextFault}
use Rattle.lot_io.specs.Writes.{HasFailed, WriteCalls}
use Rattle.lot_report.specs.declared.fault.ReportFault.{ReportFault}
use Rattle.lot_stream.specs.Status.{fault_of_input, fault_of_report, fault_of_text}
use Rattle.lot_stream.specs.declared.fault.Fault.{Fault}
use Rattle.lot_stream.specs.declared.input.SlurpFault.{SlurpFault}

-- where there is none, what is so unless there is one
pub no_fault : {A : Type 0} (done : A) (P : Type 0) → IsErrOf {T = A} (Ok done) Fault.Write ⊎ P → P
no_fault {A} done P (inl write) = cc
no_fault {A} done P (inr holds) = holds

-- none of the input is
pub input_is_not : {A : Type 0} (result : Result A Fault) (fault : SlurpFault) (calls : Option WriteCalls)
    → IsErrAnd result (λ e. e ≡ fault_of_input fault) → IsErrOf result Fault.Write → HasFailed calls
input_is_not (Ok x) fault calls is write = absurd is
input_is_not (Err e) SlurpFault.Read calls is write = cc
input_is_not (Err e) SlurpFault.TooLong calls is write = cc
input_is_not (Err e) SlurpFault.Memory calls is write = cc

-- none of a text is
pub text_is_not : {A : Type 0} (result : Result A Fault) (fault : TextFault) (calls : Option WriteCalls)
    → IsErrAnd result (λ e. e ≡ fault_of_text fault) → IsErrOf result Fault.Write → HasFailed calls
text_is_not (Ok x) fault calls is write = absurd is
text_is_not (Err e) (TextFault.Line number fault) calls is write = cc
text_is_not (Err e) (TextFault.Memory number) calls is write = cc

-- out of memory isn't
pub memory_is_not : {A : Type 0} (result : Result A Fault) (calls : Option WriteCalls) → IsErrAnd result (λ e. e ≡ Fault.Memory)
    → IsErrOf result Fault.Write → HasFailed calls
memory_is_not (Ok x) calls is write = absurd is
memory_is_not (Err e) calls is write = cc

-- of a report one is
pub report_is : {A : Type 0} (result : Result A Fault) (fault : ReportFault) → IsErrAnd result (λ e. e ≡ fault_of_report fault)
    → IsErrOf result Fault.Write → fault ≡ ReportFault.Write
report_is (Ok x) fault is write = absurd is
report_is (Err e) ReportFault.Range is write = cc
report_is (Err e) ReportFault.Write is write = refl
report_is (Err e) ReportFault.Memory is write = cc

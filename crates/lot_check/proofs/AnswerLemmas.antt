-- From the parts of the way to the answer.
use Rattle.std.proofs.Common.{inl, inr, ◌≡◌, ◌⊎◌, ◌<◌, ◌∙◌, ℕ, List, [], ◌++◌, length, refl, sym, ap, subst, append_assoc, append-nil}
use Rattle.std.proofs.lemmas.Bool.{true≢false}
use Rattle.std.specs.Prelude.{IfSome, IsErr, IsErrOf, None, OnErr, OnOk, Some, ◌≤◌, Option, Result, Ok, Err, IsErrAnd}
use Rattle.std.specs.Io.KnownBytes.{Appends, Keeps}
use Rattle.std.proofs.KnownBytes.{Appends-kept, Appends-nil, Appends-trans}
use Rattle.lot_stream.specs.declared.fault.Fault.{Fault}
use Rattle.lot_stream.specs.declared.status.Status.{Status}
use Rattle.lot_book.specs.declared.holding.Holding.{Holding}
use Rattle.lot_book.specs.declared.verdict.Verdict.{Verdict}
use Rattle.lot_view.specs.declared.view.View.{View}
use Rattle.lot_report.specs.declared.fault.ReportFault.{ReportFault}
use Rattle.lot_report.specs.declared.line.PrintFault.{PrintFault}
use Rattle.lot_command.specs.declared.command.Command.{Command}
use Rattle.lot_read.specs.Text.{IsFaultOf, Reads}
use Rattle.lot_read.specs.declared.fault.TextFault.{TextFault}
use Rattle.lot_book.specs.Facts.{Entry, Facts}
use Rattle.lot_book.specs.Holding.{ListsHoldings}
use Rattle.lot_book.specs.Judged.{JudgesAll, numbered}
use Rattle.lot_view.specs.View.{known}
use Rattle.lot_io.specs.Writes.{HasFailed, NoneFailed, WriteCalls, WritesMade}
use Rattle.lot_report.specs.Printed.{replies}
use Rattle.lot_report.specs.Written.{AppendsPrefix}
use Rattle.lot_report.specs.Holdings.{WritesReport, unvalued}
use Rattle.lot_stream.specs.FaultLine.{fault_line}
use Rattle.lot_check.specs.Key.{key_of}
use Rattle.lot_io.specs.Reads.{ReadsMade}
use Rattle.lot_stream.specs.Input.{EndsFor, EndsWell, longest_input}
use Rattle.lot_stream.specs.declared.input.SlurpFault.{SlurpFault}
use Rattle.lot_stream.specs.Status.{Ends, EndsIfFailed, code_of, status_of, fault_of_input, fault_of_report, fault_of_text}
use Rattle.lot_check.specs.Answer.{IsBegun, IsJudged, IsOutcome, IsOutput, IsStoppedReport, RunsOut, RunsOutInReport, status_of_replies}
use Rattle.lot_check.specs.Way.{Answers, RunsCommands, Reaches, ReportsFault, Concludes, IsUnheard}
use Rattle.lot_report.proofs.PrintLemmas.{prefix_behind}
use Rattle.lot_check.proofs.CauseLemmas.{no_fault}
use Rattle.lot_book.specs.Recorded.{facts_in}

-- ---- A text that was read.

-- the first faulty line, or out of memory at a line before it
pub text_stopped : (input : List ℕ) (calls : Option WriteCalls) (held : Option (List ℕ)) (fault : TextFault) (result : Result Status Fault) → length input ≤ longest_input
    → IsFaultOf input fault → IsErrAnd result (λ e. e ≡ fault_of_text fault)
    → Reaches input (record { before = calls; after = calls }) held held result
text_stopped input calls held fault (Ok status) short is told = absurd told
text_stopped input calls held (TextFault.Line number fault) (Err e) short is told =
    subst (λ f. Reaches input (record { before = calls; after = calls }) held held (Err f)) (sym told) (short, is, refl, Appends-nil held)
text_stopped input calls held (TextFault.Memory number) (Err e) short is told =
    subst (λ f. Reaches input (record { before = calls; after = calls }) held held (Err f)) (sym told)
    ([], inl (short, number, is, refl, refl), inl refl, Appends-nil held)

pub run_stopped : {A : Type 0} (input : List ℕ) (commands : List Command) (calls : WritesMade) (old new : Option (List ℕ)) (fault : Fault)
    → length input ≤ longest_input → Reads input commands
    → RunsCommands commands old new (Err fault) → IsErrOf {T = A} (Err fault) Fault.Write ⊎ NoneFailed calls.before calls.after
    → Reaches input calls old new (Err fault)
run_stopped {A} input commands calls old new Fault.Write short reads (done, rest, verdicts, book, split, judged, part) either =
    (replies 1 verdicts, inl (done, rest, verdicts, book, short, subst (Reads input) split reads, judged, refl), part)
run_stopped {A} input commands calls old new (Fault.MemoryAt number) short reads ran (inl write) = cc
run_stopped {A} input commands calls old new (Fault.MemoryAt number) short reads (done, command, rest, verdicts, book, split, judged, numbered, lack, before) (inr none) = (
  replies 1 verdicts,
  inr (inl (
    number,
    verdicts,
    record {
      short = short;
      done = done;
      command = command;
      rest = rest;
      book = book;
      reads = subst (Reads input) split reads;
      judged = judged;
      numbered = numbered;
      may_lack = lack;
    },
    refl,
    refl,
  )),
  inl none,
  before,
)
run_stopped {A} input commands calls old new Fault.Memory short reads none either = absurd none
run_stopped {A} input commands calls old new Fault.Range short reads none either = absurd none
run_stopped {A} input commands calls old new (Fault.Text line fault) short reads none either = absurd none
run_stopped {A} input commands calls old new Fault.TooLong short reads none either = absurd none
run_stopped {A} input commands calls old new Fault.Read short reads none either = absurd none

-- what a run has judged
judged_input : (input : List ℕ) (commands : List Command) (verdicts : List Verdict) (book : List Entry) (rows : List Holding)
    → length input ≤ longest_input → Reads input commands → JudgesAll [] (numbered key_of 1 commands) verdicts book → ListsHoldings (facts_in book) rows
    → IsJudged input verdicts rows
judged_input input commands verdicts book rows short reads judged inventory =
    record { short = short; commands = commands; book = book; reads = reads; judged = judged; inventory = inventory }

pub reaches_the_end : (input : List ℕ) (commands : List Command) (view : View) (rows : List Holding) (status : Status) (first then last : Option WriteCalls)
    (old mid new : Option (List ℕ)) (done : Unit {0}) → length input ≤ longest_input → Reads input commands
    → RunsCommands commands old mid (Ok (view, status)) → IsErrOf {T = View × Status} (Ok (view, status)) Fault.Write ⊎ NoneFailed first then
    → ListsHoldings (known view) rows → WritesReport (unvalued rows) mid new (Ok done) → NoneFailed then last
    → Reaches input (record { before = first; after = last }) old new (Ok status)
reaches_the_end input commands view rows status first then last old mid new done short reads (verdicts, book, judged, same, replied, said) before
    inventory (report, is_report, reported) none = (
      replies 1 verdicts ++ report,
      (verdicts, rows, report, judged_input input commands verdicts book rows short reads judged (subst (λ (facts : Facts). ListsHoldings facts rows) same inventory), is_report, refl, ap code_of said),
      none ∙ no_fault (view, status) (NoneFailed first then) before,
      Appends-trans old mid new (replies 1 verdicts) report replied reported,
    )

-- out of memory before the report
pub rows_stopped : (input : List ℕ) (commands : List Command) (view : View) (status : Status) (calls : WritesMade) (old new : Option (List ℕ))
    → length input ≤ longest_input → Reads input commands → RunsCommands commands old new (Ok (view, status))
    → IsErrOf {T = View × Status} (Ok (view, status)) Fault.Write ⊎ NoneFailed calls.before calls.after → Reaches input calls old new (Err Fault.Memory)
rows_stopped input commands view status calls old new short reads (verdicts, book, judged, same, replied, said) before = (
  replies 1 verdicts,
  inr (inr (inl (commands, verdicts, book, short, reads, judged, refl, refl))),
  inl (no_fault (view, status) (NoneFailed calls.before calls.after) before),
  replied,
)

pub report_stopped : (input : List ℕ) (commands : List Command) (view : View) (rows : List Holding) (status : Status) (calls : WritesMade)
    (old mid new : Option (List ℕ)) (fault : ReportFault) (result : Result Status Fault) → length input ≤ longest_input → Reads input commands
    → RunsCommands commands old mid (Ok (view, status)) → ListsHoldings (known view) rows → WritesReport (unvalued rows) mid new (Err fault)
    → IsErrAnd result (λ e. e ≡ fault_of_report fault) → Reaches input calls old new result
report_stopped input commands view rows status calls old mid new fault (Ok x) short reads ran inventory reported fails = absurd fails
report_stopped input commands view rows status calls old mid new fault (Err e) short reads (verdicts, book, judged, same, replied, said) inventory reported fails =
    subst (λ f. Reaches input calls old new (Err f)) (sym fails) (at fault reported)
  where
    whole : IsJudged input verdicts rows
    whole = judged_input input commands verdicts book rows short reads judged (subst (λ (facts : Facts). ListsHoldings facts rows) same inventory)

    at : (f : ReportFault) → WritesReport (unvalued rows) mid new (Err f) → Reaches input calls old new (Err (fault_of_report f))
    at ReportFault.Range (report, is_report, written) =
        (verdicts, rows, report, whole, is_report, Appends-trans old mid new (replies 1 verdicts) report replied written)
    at ReportFault.Write (text, inl first, part) = (
      replies 1 verdicts ++ text,
      inr (inl (verdicts, rows, text, whole, inl first, refl)),
      prefix_behind old mid new (replies 1 verdicts) text replied part,
    )
    at ReportFault.Write (text, inr report, part) = (
      replies 1 verdicts ++ text,
      inr (inr (code_of (status_of_replies verdicts), inr (inl (verdicts, rows, text, whole, report, refl, refl)))),
      prefix_behind old mid new (replies 1 verdicts) text replied part,
    )
    at ReportFault.Memory (lines, first, written) =
        let stopped : RunsOutInReport input (replies 1 verdicts ++ lines) (fault_line Fault.Memory) =
        (verdicts, rows, lines, whole, first, refl, refl) in (
          replies 1 verdicts ++ lines,
          inr (inr (inr stopped)),
          inr stopped,
          Appends-trans old mid new (replies 1 verdicts) lines replied written,
        )

-- ---- What a reader has.

-- it isn't read to its end
pub unheard : {T : Type 0} (all : ReadsMade) (known : Option (List ℕ)) (calls : Option WriteCalls) (held : Option (List ℕ)) (fault : SlurpFault) (result : Result Status Fault)
    → IsErrAnd result (λ e. e ≡ fault_of_input fault) → EndsFor all fault
    → (IsErrOf {T = T} (Err fault) SlurpFault.TooLong → IfSome known (λ input. longest_input < length input))
    → IfSome known (λ input. Answers all input (record { before = calls; after = calls }) held held result)
unheard {T} all None calls held fault result is ends long = tt
unheard {T} all (Some input) calls held fault (Ok status) is ends long = absurd is
unheard {T} all (Some input) calls held fault (Err e) is ends long =
    subst (λ f. Answers all input (record { before = calls; after = calls }) held held (Err f)) (sym is) (inl (at fault ends long, refl))
  where
    at : (f : SlurpFault) → EndsFor all f → (IsErrOf {T = T} (Err f) SlurpFault.TooLong → longest_input < length input)
        → IsUnheard all input held held (Err (fault_of_input f))
    at SlurpFault.Read ends long = (ends, Appends-nil held)
    at SlurpFault.TooLong ends long = (ends, long refl, Appends-nil held)
    at SlurpFault.Memory ends long = (ends, Appends-nil held)

-- it is
pub heard : (all : ReadsMade) (known : Option (List ℕ)) (calls : WritesMade) (old new : Option (List ℕ)) (items text : List ℕ) (count : ℕ) (result : Result Status Fault)
    → IfSome known (λ input. items ≡ input) → text ≡ items → length text ≡ count → EndsWell all count → Reaches text calls old new result
    → IfSome known (λ input. Answers all input calls old new result)
heard all None calls old new items text count result every same long ends reached = tt
heard all (Some input) calls old new items text count result every same long ends reached =
    subst (λ (t : List ℕ). Answers all t calls old new result) (same ∙ every) (inr (subst (EndsWell all) (sym long) ends, reached))

-- ---- The outcome.

-- nothing stands behind a text
nothing_behind : (old mid new : Option (List ℕ)) (text : List ℕ) → Appends old mid text → Appends mid new [] → Appends old new text
nothing_behind old mid new text before nothing = subst (Appends old new) (append-nil text) (Appends-trans old mid new text [] before nothing)

module _ (all : ReadsMade) (input : List ℕ) where
  -- a report that was stopped is an output
  stopped_output : (text : List ℕ) (status : ℕ) → EndsWell all (length input) → IsStoppedReport input text status → IsOutput all input text status
  stopped_output text status ended (inl broken) = inr (ended, inl (inr (inr broken)))
  stopped_output text status ended (inr (kept, last, stops, is, stopped)) =
      inr (ended, inr (kept, last, inr (inr (inr stops)), is, stopped))

  -- an output before which no call of the writer failed, or that of a report that was stopped
  abbrev IsFine : WritesMade → List ℕ → ℕ → Type 0
  IsFine calls text status =
      (IsOutput all input text status × NoneFailed calls.before calls.after)
      ⊎ (EndsWell all (length input) × IsStoppedReport input text status)

  fine_output : (calls : WritesMade) (text : List ℕ) (status : ℕ) → IsFine calls text status → IsOutput all input text status
  fine_output calls text status (inl (output, none)) = output
  fine_output calls text status (inr (ended, stopped)) = stopped_output text status ended stopped

  -- none of the calls after them failed
  fine_on : (first then between : Option WriteCalls) (text : List ℕ) (status : ℕ) → IsFine (record { before = first; after = then }) text status
      → NoneFailed then between → IsFine (record { before = first; after = between }) text status
  fine_on first then between text status (inl (output, before)) none = inl (output, none ∙ before)
  fine_on first then between text status (inr stopped) none = inr stopped

  -- calls before the first part of an answer was written, after it, behind the line of a fault, and at the end; and the status then
  module _ (first then between last : Option WriteCalls) (end : Status) (flushed : EndsIfFailed (record { before = between; after = last }) end) where
    abbrev Comes : Option (List ℕ) → Option (List ℕ) → Type 0
    Comes old new = (written : List ℕ) × Appends old new written × IsOutcome all (record { before = first; after = last }) input written (code_of end)

    -- all of an output stands there
    written_whole : (text : List ℕ) (status : Status) (old new : Option (List ℕ))
        → IsFine (record { before = first; after = between }) text (code_of status) → Ends (Ok status) last end → Appends old new text → Comes old new
    written_whole text status old new fine (inr (is, failed)) before =
        (text, before, inr (inr ((code_of status, fine_output (record { before = first; after = between }) text (code_of status) fine), ap code_of is), failed))
    written_whole text status old new (inr (ended, stopped)) (inl (is, all_flushed)) before =
        (text, before, inl (inr (ended, subst (λ s. IsStoppedReport input text (code_of s)) (sym is) stopped, all_flushed)))
    written_whole text status old new (inl (output, none)) (inl (is, all_flushed)) before = by flushed
      where
        by : EndsIfFailed (record { before = between; after = last }) end → Comes old new
        by (inl same) = (text, before, inl (inl (subst (λ s. IsOutput all input text (code_of s)) (sym is) output, (all_flushed, same ∙ none))))
        by (inr (stopped, failed)) = (text, before, inr (inr ((code_of status, output), ap code_of stopped), failed))

    -- a prefix of what was begun stands there
    written_in_part : (text : List ℕ) (old new : Option (List ℕ)) → IsBegun all input text → AppendsPrefix old new text → end ≡ Status.Stopped
        → HasFailed last → Comes old new
    written_in_part text old new begun (prefix, proper, before) is failed =
        (prefix, before, inr (inl (text, begun, proper, ap code_of is), failed))

    -- the line of a fault behind what was written of the answer, or a prefix of it
    with_line : (kept : List ℕ) (fault : Fault) (old mid new : Option (List ℕ)) (concluded : Result Status PrintFault)
        → IsFine (record { before = first; after = then }) (kept ++ fault_line fault) (code_of (status_of fault)) → Appends old mid kept
        → ReportsFault fault mid new concluded → OnOk concluded (NoneFailed then between) → Ends concluded last end → (IsErr concluded → HasFailed last)
        → Comes old new
    with_line kept fault old mid new (Ok status) fine before (line, is) none ends failed =
        let text = kept ++ fault_line fault in
        written_whole text (status_of fault) old new (fine_on first then between text (code_of (status_of fault)) fine none)
        (subst (λ s. Ends (Ok s) last end) is ends) (Appends-trans old mid new kept (fault_line fault) before line)
    with_line kept fault old mid new (Err cut) fine before line none ends failed =
        let text = kept ++ fault_line fault in
        written_in_part text old new
        (inr (code_of (status_of fault), fine_output (record { before = first; after = then }) text (code_of (status_of fault)) fine))
        (prefix_behind old mid new kept (fault_line fault) before line) ends (failed refl)

    -- the reader isn't read to its end
    outcome_unheard : (old mid new : Option (List ℕ)) (reached : Result Status Fault) (concluded : Result Status PrintFault)
        → IsUnheard all input old mid reached → NoneFailed first then → Concludes mid new reached concluded → OnOk concluded (NoneFailed then between)
        → Ends concluded last end → (IsErr concluded → HasFailed last) → Comes old new
    outcome_unheard old mid new (Ok status) concluded none so reported still ends failed = absurd none
    outcome_unheard old mid new (Err Fault.Read) concluded (why, nothing) so reported still ends failed =
        with_line [] Fault.Read old mid new concluded (inl (inl (inl (why, refl, refl)), so)) nothing reported still ends failed
    outcome_unheard old mid new (Err Fault.TooLong) concluded (why, long, nothing) so reported still ends failed =
        with_line [] Fault.TooLong old mid new concluded (inl (inl (inr (inl (why, (long, refl, refl)))), so)) nothing reported still ends failed
    outcome_unheard old mid new (Err Fault.Memory) concluded (why, nothing) so reported still ends failed =
        with_line [] Fault.Memory old mid new concluded (inl (inl (inr (inr (why, refl, refl))), so)) nothing reported still ends failed
    outcome_unheard old mid new (Err (Fault.Text number fault)) concluded none so reported still ends failed = absurd none
    outcome_unheard old mid new (Err Fault.Range) concluded none so reported still ends failed = absurd none
    outcome_unheard old mid new (Err Fault.Write) concluded none so reported still ends failed = absurd none
    outcome_unheard old mid new (Err (Fault.MemoryAt number)) concluded none so reported still ends failed = absurd none

    -- memory ended before the report, and no call of the writer failed; or in the report
    fine_without_memory : (kept : List ℕ) (fault : Fault) → status_of fault ≡ Status.Stopped → EndsWell all (length input) → RunsOut input kept (fault_line fault)
        → NoneFailed first then ⊎ RunsOutInReport input kept (fault_line fault)
        → IsFine (record { before = first; after = then }) (kept ++ fault_line fault) (code_of (status_of fault))
    fine_without_memory kept fault is ended stops (inl none) = inl (inr (ended, inr (kept, fault_line fault, stops, refl, ap code_of is)), none)
    fine_without_memory kept fault is ended stops (inr in_report) =
        inr (ended, inr (kept, fault_line fault, in_report, refl, ap code_of is))

    -- it is read to its end
    outcome_of_text : (old mid new : Option (List ℕ)) (reached : Result Status Fault) (concluded : Result Status PrintFault)
        → EndsWell all (length input) → Reaches input (record { before = first; after = then }) old mid reached → Concludes mid new reached concluded
        → OnOk concluded (NoneFailed then between) → Ends concluded last end → (IsErr concluded → HasFailed last) → Comes old new
    outcome_of_text old mid new (Ok status) (Ok final) ended (text, whole, none, before) (nothing, is) still ends failed =
        written_whole text status old new (inl (inr (ended, inl (inr (inl whole))), still ∙ none)) (subst (λ s. Ends (Ok s) last end) is ends)
        (nothing_behind old mid new text before nothing)
    outcome_of_text old mid new (Ok status) (Err cut) ended reached none still ends failed = absurd none
    outcome_of_text old mid new (Err Fault.Read) concluded ended none reported still ends failed = absurd none
    outcome_of_text old mid new (Err Fault.TooLong) concluded ended none reported still ends failed = absurd none
    outcome_of_text old mid new (Err (Fault.Text number fault)) concluded ended (short, faulty, none, nothing) reported still ends failed =
        with_line [] (Fault.Text number fault) old mid new concluded (inl (inr (ended, inl (inl (short, number, fault, faulty, refl, refl))), none))
        nothing reported still ends failed
    outcome_of_text old mid new (Err Fault.Range) concluded ended (verdicts, rows, report, judged, broken, before) reported still ends failed =
        with_line (replies 1 verdicts ++ report) Fault.Range old mid new concluded
        (inr (ended, inl (verdicts, rows, report, judged, broken, append_assoc (replies 1 verdicts) report (fault_line Fault.Range), refl)))
        before reported still ends failed
    outcome_of_text old mid new (Err Fault.Write) (Ok final) ended reached none still ends failed = absurd none
    outcome_of_text old mid new (Err Fault.Write) (Err cut) ended (text, part, (prefix, proper, before)) nothing still ends failed =
        written_in_part text old new (inl (ended, part)) (prefix, proper, nothing_behind old mid new prefix before nothing) ends (failed refl)
    outcome_of_text old mid new (Err Fault.Memory) concluded ended (kept, stops, either, before) reported still ends failed =
        with_line kept Fault.Memory old mid new concluded (fine_without_memory kept Fault.Memory refl ended stops either) before reported still ends failed
    outcome_of_text old mid new (Err (Fault.MemoryAt number)) concluded ended (kept, stops, either, before) reported still ends failed =
        with_line kept (Fault.MemoryAt number) old mid new concluded (fine_without_memory kept (Fault.MemoryAt number) refl ended stops either)
        before reported still ends failed

    outcome : (old mid new : Option (List ℕ)) (reached : Result Status Fault) (concluded : Result Status PrintFault)
        → Answers all input (record { before = first; after = then }) old mid reached → Concludes mid new reached concluded
        → OnOk concluded (NoneFailed then between) → Ends concluded last end → (IsErr concluded → HasFailed last) → Comes old new
    outcome old mid new reached concluded (inl (stopped, none)) concludes still ends failed =
        outcome_unheard old mid new reached concluded stopped none concludes still ends failed
    outcome old mid new reached concluded (inr (ended, reaches)) concludes still ends failed =
        outcome_of_text old mid new reached concluded ended reaches concludes still ends failed

-- where the bytes of the reader are known
pub outcome_of_input : (all : ReadsMade) (first then between last : Option WriteCalls) (known : Option (List ℕ)) (old mid new after : Option (List ℕ)) (reached : Result Status Fault)
    (concluded : Result Status PrintFault) (end : Status) (code : ℕ)
    → IfSome known (λ input. Answers all input (record { before = first; after = then }) old mid reached) → Concludes mid new reached concluded
    → OnOk concluded (NoneFailed then between) → Keeps new after → Ends concluded last end → EndsIfFailed (record { before = between; after = last }) end
    → (IsErr concluded → HasFailed last) → code ≡ code_of end
    → IfSome known (λ input. (written : List ℕ) × Appends old after written × IsOutcome all (record { before = first; after = last }) input written code)
outcome_of_input all first then between last None old mid new after reached concluded end code answers concludes still keeps ends flushed failed is = tt
outcome_of_input all first then between last (Some input) old mid new after reached concluded end code answers concludes still keeps ends flushed failed is =
    let (written, before, so) = outcome all input first then between last end flushed old mid new reached concluded answers concludes still ends failed in
    (written, Appends-kept old new after written before keeps, subst (IsOutcome all (record { before = first; after = last }) input written) (sym is) so)

-- where not all is written, a call of the writer failed, which is asked for nothing more
pub failed_before : {W : Type 0} (calls : W → Option WriteCalls) (old new : W) (concluded : Result Status PrintFault) → OnErr concluded (HasFailed (calls old))
    → (IsErr concluded → new ≡ old) → IsErr concluded → HasFailed (calls new)
failed_before calls old new (Ok status) failed same is = absurd (true≢false (sym is))
failed_before calls old new (Err cut) failed same is = subst (λ (w : _). HasFailed (calls w)) (sym (same is)) failed

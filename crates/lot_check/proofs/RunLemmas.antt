-- Runs of commands.
use Rattle.std.proofs.Common.{◌≡◌, ℕ, List, [], ◌∷◌, ◌++◌, length, refl, sym, ap, ◌∙◌, subst, append_assoc, append-nil, length-append}
use Rattle.std.specs.Prelude.{suc, ◌+◌, ◌<◌, ◌^◌, Option, Ok, Err}
use native.Mathlib.Omega.{arith}
use Rattle.std.specs.Io.KnownBytes.{Appends}
use Rattle.std.proofs.KnownBytes.{Appends-trans}
use Rattle.lot_report.specs.declared.line.PrintFault.{PrintFault}
use Rattle.lot_stream.specs.declared.fault.Fault.{Fault}
use Rattle.lot_stream.specs.declared.status.Status.{Status}
use Rattle.lot_book.specs.declared.verdict.Verdict.{Verdict}
use Rattle.lot_view.specs.declared.view.View.{View}
use Rattle.lot_command.specs.declared.command.Command.{Command}
use Rattle.lot_command.specs.declared.key.Key.{Key}
use Rattle.lot_stream.specs.Status.{status_after}
use Rattle.lot_report.specs.Written.{AppendsPrefix, WritesLine}
use Rattle.lot_report.specs.Printed.{reply, replies}
use Rattle.lot_book.specs.Facts.{Entry, facts_of}
use Rattle.lot_book.specs.Judged.{JudgesOn, JudgesAll, numbered}
use Rattle.lot_book.specs.Openings.{FactsWithOpenings, facts_with_openings}
use Rattle.lot_view.specs.View.{known_with_openings}
use Rattle.lot_check.specs.Key.{key_of}
use Rattle.lot_check.specs.Answer.{JudgingMayLackMemory, status_of_replies, status_of_verdict}
use Rattle.lot_check.specs.Way.{JudgesKnown, Replies, RunsCommands}
use Rattle.lot_laws.proofs.JudgedLaws.{judges_more}
use Rattle.lot_report.proofs.PrintLemmas.{prefix_behind}
use Rattle.lot_report.proofs.ReplyLemmas.{replies_more}
use Rattle.lot_check.proofs.KeyLemmas.{Stands, judged_as, to_next}
use Rattle.lot_check.proofs.MemoryLemmas.{may_lack_on_book}

-- a reply that isn't written whole
pub reply_stops : (before after : FactsWithOpenings) (command : Command) (verdict : Verdict) (number : ℕ) (old new : Option (List ℕ)) (fault : PrintFault)
    → JudgesKnown before command verdict after → WritesLine old new (Err fault) (reply number verdict) → fault ≡ PrintFault.Write
    → Replies before command number old new (Err Fault.Write)
reply_stops before after command verdict number old new fault judged part is =
    let cut : AppendsPrefix old new (reply number verdict) = subst (λ (f : PrintFault). WritesLine old new (Err f) (reply number verdict)) is part in
    (verdict, after, judged, cut)

-- ---- One command more.

as_many : (number : ℕ) (before : List Entry) (done : List Command) (verdicts : List Verdict) (after : List Entry)
    → JudgesAll before (numbered key_of number done) verdicts after → length done ≡ length verdicts
as_many number before [] [] after all = refl
as_many number before [] (v ∷ verdicts) after all = absurd all
as_many number before (c ∷ done) [] after all = absurd all
as_many number before (c ∷ done) (v ∷ verdicts) after all = ap suc (as_many (suc number) all.0 done verdicts after all.2)

numbered_more : (number : ℕ) (done : List Command) (command : Command)
    → numbered key_of number (done ++ command ∷ []) ≡ numbered key_of number done ++ (key_of (length done + number), command) ∷ []
numbered_more number [] command =
    let same : number ≡ length {A = Command} [] + number = omega arith in ap (λ (n : ℕ). (key_of n, command) ∷ []) same
numbered_more number (first ∷ done) command =
    let same : length done + suc number ≡ length (first ∷ done) + number = omega arith in
    ap (λ (more : List (Key × Command)). (key_of number, first) ∷ more)
    (numbered_more (suc number) done command ∙ ap (λ (n : ℕ). numbered key_of (suc number) done ++ (key_of n, command) ∷ []) same)

judges_next : (done : List Command) (verdicts : List Verdict) (mid after : List Entry) (command : Command) (verdict : Verdict)
    → JudgesAll [] (numbered key_of 1 done) verdicts mid → JudgesOn mid (key_of (length verdicts + 1)) command verdict after
    → JudgesAll [] (numbered key_of 1 (done ++ command ∷ [])) (verdicts ++ verdict ∷ []) after
judges_next done verdicts mid after command verdict all one =
    subst (λ (commands : List (Key × Command)). JudgesAll [] commands (verdicts ++ verdict ∷ []) after) (sym (numbered_more 1 done command))
    (judges_more [] (numbered key_of 1 done) verdicts mid after (key_of (length done + 1), command) verdict all
    (subst (λ (n : ℕ). JudgesOn mid (key_of (n + 1)) command verdict after) (sym (as_many 1 [] done verdicts mid all)) one))

after_accepted : (verdict : Verdict) → status_after (status_of_verdict verdict) Status.Accepted ≡ status_of_verdict verdict
after_accepted Verdict.Accepted = refl
after_accepted Verdict.Repeated = refl
after_accepted (Verdict.Refused refusal) = refl

regroup : (a b c : Status) → status_after a (status_after b c) ≡ status_after (status_after a b) c
regroup Status.Accepted b c = refl
regroup Status.Refused b c = refl
regroup Status.BadInput b c = refl
regroup Status.Stopped b c = refl

status_more : (verdicts : List Verdict) (verdict : Verdict)
    → status_of_replies (verdicts ++ verdict ∷ []) ≡ status_after (status_of_replies verdicts) (status_of_verdict verdict)
status_more [] verdict = after_accepted verdict
status_more (v ∷ verdicts) verdict =
    ap (λ s. status_after (status_of_verdict v) s) (status_more verdicts verdict)
    ∙ regroup (status_of_verdict v) (status_of_replies verdicts) (status_of_verdict verdict)

-- ---- A run so far.

-- some commands were judged and replied to, so many in number, and these are left
abbrev pub RanSoFar : List Command → List Command → ℕ → View → Status → Option (List ℕ) → Option (List ℕ) → Type 0
RanSoFar commands left count view status old new =
    (done : List Command) × (verdicts : List Verdict) × (book : List Entry) × (commands ≡ done ++ left) × (count ≡ length verdicts)
    × JudgesAll [] (numbered key_of 1 done) verdicts book × Stands (known_with_openings view) (length verdicts + 1) book × Appends old new (replies 1 verdicts) × (status ≡ status_of_replies verdicts)

next_number : (number count : ℕ) (verdicts : List Verdict) → count ≡ length verdicts → number ≡ count + 1 → number ≡ length verdicts + 1
next_number number count verdicts so_far is = omega (arith, so_far, is)

-- where commands are left, the number of the next one is in range
in_range : (commands left rest : List Command) (command : Command) (done : List Command) (verdicts : List Verdict) (book : List Entry)
    → JudgesAll [] (numbered key_of 1 done) verdicts book → commands ≡ done ++ left → left ≡ command ∷ rest → length commands < 2 ^ 64
    → length verdicts + 1 < 2 ^ 64
in_range commands left rest command done verdicts book all split is small =
    let counted = as_many 1 [] done verdicts book all in
    let whole : length commands ≡ length done + length (command ∷ rest) =
    ap length (split ∙ ap (λ (cs : List Command). done ++ cs) is) ∙ length-append done (command ∷ rest) in
    omega (arith, counted, whole, small)

more_by_one : (verdicts : List Verdict) (verdict : Verdict) → suc (length verdicts + 1) ≡ length (verdicts ++ verdict ∷ []) + 1
more_by_one verdicts verdict = omega (arith, length-append verdicts (verdict ∷ []))

pub run_next : (commands left rest : List Command) (command : Command) (count number later : ℕ) (view next : View) (status replied both : Status)
    (old mid new : Option (List ℕ))
    → RanSoFar commands left count view status old mid → left ≡ command ∷ rest → number ≡ count + 1 → later ≡ count + 1
    → length commands < 2 ^ 64 → Replies (known_with_openings view) command number mid new (Ok (next, replied)) → both ≡ status_after status replied
    → RanSoFar commands rest later next both old new
run_next commands left rest command count number later view next status replied both old mid new so_far is numbered counted_on small
    (verdict, judged, written, said) joined =
    let (done, verdicts, book, split, counted, all, stands, before, status_is) = so_far in
    let place = next_number number count verdicts counted numbered in
    let (after, one, stands_next) =
    judged_as (known_with_openings view) (known_with_openings next) book (length verdicts + 1) command verdict (in_range commands left rest command done verdicts book all split is small) stands judged in (
      done ++ command ∷ [],
      verdicts ++ verdict ∷ [],
      after,
      split ∙ ap (λ cs. done ++ cs) is ∙ sym (append_assoc done (command ∷ []) rest),
      counted_on ∙ ap (λ n. n + 1) counted ∙ sym (length-append verdicts (verdict ∷ [])),
      judges_next done verdicts book after command verdict all one,
      subst (λ (n : ℕ). Stands (known_with_openings next) n after) (more_by_one verdicts verdict) stands_next,
      subst (Appends old new) (sym (replies_more 1 verdicts verdict ∙ ap (λ n. replies 1 verdicts ++ reply n verdict) (sym place)))
          (Appends-trans old mid new _ _ before written),
      joined ∙ ap (λ s. status_after s replied) status_is ∙ ap (λ s. status_after (status_of_replies verdicts) s) said ∙ sym (status_more verdicts verdict),
    )

pub run_stops : (commands left rest : List Command) (command : Command) (count number : ℕ) (view : View) (status : Status) (fault : Fault)
    (old mid new : Option (List ℕ))
    → RanSoFar commands left count view status old mid → left ≡ command ∷ rest → number ≡ count + 1
    → length commands < 2 ^ 64 → Replies (known_with_openings view) command number mid new (Err fault)
    → RunsCommands commands old new (Err fault)
run_stops commands left rest command count number view status Fault.Write old mid new so_far is numbered small (verdict, after, judged, part) =
    let (done, verdicts, book, split, counted, all, stands, before, status_is) = so_far in
    let place = next_number number count verdicts counted numbered in
    let (more, one, stands_next) =
    judged_as (known_with_openings view) after book (length verdicts + 1) command verdict (in_range commands left rest command done verdicts book all split is small) stands judged in (
      done ++ command ∷ [],
      rest,
      verdicts ++ verdict ∷ [],
      more,
      split ∙ ap (λ cs. done ++ cs) is ∙ sym (append_assoc done (command ∷ []) rest),
      judges_next done verdicts book more command verdict all one,
      subst (AppendsPrefix old new) (sym (replies_more 1 verdicts verdict ∙ ap (λ n. replies 1 verdicts ++ reply n verdict) (sym place)))
          (prefix_behind old mid new (replies 1 verdicts) (reply number verdict) before part),
    )
run_stops commands left rest command count number view status (Fault.MemoryAt stopped) old mid new so_far is numbered small (same, lack, nothing) =
    let (done, verdicts, book, split, counted, all, stands, before, status_is) = so_far in
    let place = same ∙ next_number number count verdicts counted numbered in
    let known = known_with_openings view in
    let key = key_of (length verdicts + 1) in
    let told : known.facts ≡ facts_of book key =
    to_next known book (length verdicts + 1) (in_range commands left rest command done verdicts book all split is small) stands in (
      done,
      command,
      rest,
      verdicts,
      book,
      split ∙ ap (λ cs. done ++ cs) is,
      all,
      place,
      subst (λ (n : ℕ). JudgingMayLackMemory (facts_with_openings book (key_of n)) command) (sym place)
          (may_lack_on_book known book key command told stands.openings lack),
      subst (Appends old new) (append-nil (replies 1 verdicts)) (Appends-trans old mid new _ _ before nothing),
    )
run_stops commands left rest command count number view status Fault.Memory old mid new so_far is numbered small none = none
run_stops commands left rest command count number view status Fault.Range old mid new so_far is numbered small none = none
run_stops commands left rest command count number view status (Fault.Text line fault) old mid new so_far is numbered small none = none
run_stops commands left rest command count number view status Fault.TooLong old mid new so_far is numbered small none = none
run_stops commands left rest command count number view status Fault.Read old mid new so_far is numbered small none = none

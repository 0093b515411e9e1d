-- An input has one answer, and what is written of it where memory ends or the writer fails is a prefix of that one.
use Rattle.std.specs.Prelude.{◌≡◌, ℕ, suc, ◌<◌, ◌≤◌, List, [], ◌∷◌, ◌++◌, length}
use Rattle.std.proofs.Common.{refl, sym, ap, subst, ◌∙◌, inl, inr, append_assoc, append-nil, not-le_of_lt}
use Rattle.lot_stream.specs.declared.fault.Fault.{Fault}
use Rattle.lot_command.specs.declared.command.Command.{Command}
use Rattle.lot_book.specs.declared.holding.Holding.{Holding}
use Rattle.lot_book.specs.declared.verdict.Verdict.{Verdict}
use Rattle.lot_check.specs.Answer.{IsJudged, IsTooLong, IsNoText, IsWhole, IsBroken, IsAnswer, AreReplies, AreLines, IsJudgedBefore, RunsOut, status_of_replies}
use Rattle.lot_stream.specs.Input.{longest_input}
use Rattle.lot_book.specs.Facts.{Entry}
use Rattle.lot_book.specs.Holding.{ListsHoldings}
use Rattle.lot_book.specs.Judged.{JudgesAll, numbered}
use Rattle.lot_report.specs.Printed.{replies, reply}
use Rattle.lot_stream.specs.FaultLine.{fault_line}
use Rattle.lot_check.specs.Key.{key_of}
use Rattle.lot_report.specs.Holdings.{IsReport, IsReportToFault, AreFirstLines, unvalued}
use Rattle.lot_stream.specs.Status.{code_of}
use Rattle.lot_read.specs.Text.{IsFaultAt, Reads}
use Rattle.lot_read.specs.declared.fault.LineFault.{LineFault}
use Rattle.lot_report.specs.Written.{IsPrefixOf}
use Rattle.lot_check.proofs.LawAnswersReports.{one_report, one_report_to_fault, whole_or_to_fault, lines_of_report, lines_of_report_to_fault, kept_are_first}
use Rattle.lot_laws.proofs.JudgedLaws.{judged_alike, one_holdings}
use Rattle.lot_read.proofs.TextLaws.{reads_one, line_one, fault_one, not_both}
use Rattle.lot_book.specs.Recorded.{facts_in}

-- ---- Prefixes of texts.

prefix_of_prefix : (a b c : List ℕ) → IsPrefixOf a b → IsPrefixOf b c → IsPrefixOf a c
prefix_of_prefix a b c h k = (h.0 ++ k.0, k.1 ∙ ap (λ text. text ++ k.0) h.1 ∙ append_assoc a h.0 k.0)

prefix_of_more : (a b more : List ℕ) → IsPrefixOf a b → IsPrefixOf a (b ++ more)
prefix_of_more a b more h = prefix_of_prefix a b (b ++ more) h (more, refl)

prefix_behind : (start a b : List ℕ) → IsPrefixOf a b → IsPrefixOf (start ++ a) (start ++ b)
prefix_behind start a b h = (h.0, ap (λ text. start ++ text) h.1 ∙ sym (append_assoc start a h.0))

-- ---- Inputs that are judged.

one_judgement : (input : List ℕ) (vs ws : List Verdict) (rows others : List Holding)
    → IsJudged input vs rows → IsJudged input ws others → (vs ≡ ws) × (rows ≡ others)
one_judgement input vs ws rows others h k =
    let commands = reads_one input h.commands k.commands h.reads k.reads in
    let same = judged_alike [] (numbered key_of 1 h.commands) vs ws h.book k.book h.judged (subst (λ cs. JudgesAll [] (numbered key_of 1 cs) ws k.book) (sym commands) k.judged) in
    (same.0, one_holdings (facts_in h.book) rows others h.inventory (subst (λ (book : List Entry). ListsHoldings (facts_in book) others) (sym same.1) k.inventory))

judged_first : (number : ℕ) (before : List Entry) (done rest : List Command) (verdicts : List Verdict) (after : List Entry)
    → JudgesAll before (numbered key_of number (done ++ rest)) verdicts after
    → (first : List Verdict) × (more : List Verdict) × (mid : List Entry) × JudgesAll before (numbered key_of number done) first mid × (verdicts ≡ first ++ more)
judged_first number before [] rest verdicts after h = ([], verdicts, before, refl, refl)
judged_first number before (command ∷ done) rest [] after h = absurd h
judged_first number before (command ∷ done) rest (verdict ∷ verdicts) after h =
    let parts = judged_first (suc number) h.0 done rest verdicts after h.2 in
    (verdict ∷ parts.0, parts.1, parts.2, (h.0, h.1, parts.3), ap (λ vs. verdict ∷ vs) parts.4)

replies_first : (number : ℕ) (verdicts more : List Verdict) → IsPrefixOf (replies number verdicts) (replies number (verdicts ++ more))
replies_first number [] more = (replies number more, refl)
replies_first number (verdict ∷ verdicts) more =
    prefix_behind (reply number verdict) (replies (suc number) verdicts) (replies (suc number) (verdicts ++ more)) (replies_first (suc number) verdicts more)

-- the replies to the first commands are a prefix of the replies to all
prefix_of_replies : (input text : List ℕ) (verdicts : List Verdict) (rows : List Holding)
    → AreReplies input text → IsJudged input verdicts rows → IsPrefixOf text (replies 1 verdicts)
prefix_of_replies input text verdicts rows h k =
    let commands = reads_one input k.commands (h.0 ++ h.1) k.reads h.5 in
    let parts = judged_first 1 [] h.0 h.1 verdicts k.book (subst (λ cs. JudgesAll [] (numbered key_of 1 cs) verdicts k.book) commands k.judged) in
    let same = (judged_alike [] (numbered key_of 1 h.0) parts.0 h.2 parts.2 h.3 parts.3 h.6).0 in
    let first = replies_first 1 parts.0 parts.1 in
    (first.0, ap (replies 1) parts.4 ∙ first.1 ∙ ap (λ vs. replies 1 vs ++ first.0) same ∙ ap (λ t. t ++ first.0) (sym h.7))

-- ---- One answer.

apart : {P : Type 0} (n m : ℕ) → m < n → n ≤ m → P
apart n m h k = absurd (not-le_of_lt h k)

too_long : (input a b : List ℕ) (s t : ℕ) → IsTooLong input a s → IsAnswer input b t → (a ≡ b) × (s ≡ t)
too_long input a b s t h (inl k) = (h.1 ∙ sym k.1, h.2 ∙ sym k.2)
too_long input a b s t h (inr (inl k)) = apart (length input) longest_input h.0 k.0
too_long input a b s t h (inr (inr (inl k))) = apart (length input) longest_input h.0 k.3.short
too_long input a b s t h (inr (inr (inr k))) = apart (length input) longest_input h.0 k.3.short

-- no input has a faulty line and is judged
no_verdicts : {P : Type 0} → (input : List ℕ) (number : ℕ) (fault : LineFault) (verdicts : List Verdict) (rows : List Holding)
    → IsFaultAt input number fault → IsJudged input verdicts rows → P
no_verdicts input number fault verdicts rows h k = absurd (not_both input k.commands number fault k.reads h)

no_text : (input a b : List ℕ) (s t : ℕ) → IsNoText input a s → IsAnswer input b t → (a ≡ b) × (s ≡ t)
no_text input a b s t h (inl k) = apart (length input) longest_input k.0 h.0
no_text input a b s t h (inr (inl k)) =
    let line = line_one input h.1 k.1 h.2 k.2 h.3 k.3 in
    let same = fault_one input h.1 k.1 h.2 k.2 h.3 k.3 in (
      h.4 ∙ ap (λ number. fault_line (Fault.Text number h.2)) line ∙ ap (λ fault. fault_line (Fault.Text k.1 fault)) same ∙ sym k.4,
      h.5 ∙ sym k.5,
    )
no_text input a b s t h (inr (inr (inl k))) = no_verdicts input h.1 h.2 k.0 k.1 h.3 k.3
no_text input a b s t h (inr (inr (inr k))) = no_verdicts input h.1 h.2 k.0 k.1 h.3 k.3

whole_alike : (input a b : List ℕ) (s t : ℕ) → IsWhole input a s → IsWhole input b t → (a ≡ b) × (s ≡ t)
whole_alike input a b s t h k =
    let same = one_judgement input h.0 k.0 h.1 k.1 h.3 k.3 in
    let report = one_report (unvalued k.1) h.2 k.2 (subst (λ (rows : List Holding). IsReport (unvalued rows) h.2) same.1 h.4) k.4 in (
      h.5 ∙ ap (λ vs. replies 1 vs ++ h.2) same.0 ∙ ap (λ text. replies 1 k.0 ++ text) report ∙ sym k.5,
      h.6 ∙ ap (λ vs. code_of (status_of_replies vs)) same.0 ∙ sym k.6,
    )

broken_alike : (input a b : List ℕ) (s t : ℕ) → IsBroken input a s → IsBroken input b t → (a ≡ b) × (s ≡ t)
broken_alike input a b s t h k =
    let same = one_judgement input h.0 k.0 h.1 k.1 h.3 k.3 in
    let report = one_report_to_fault (unvalued k.1) h.2 k.2 (subst (λ (rows : List Holding). IsReportToFault (unvalued rows) h.2) same.1 h.4) k.4 in (
      h.5 ∙ ap (λ vs. replies 1 vs ++ (h.2 ++ fault_line Fault.Range)) same.0 ∙ ap (λ text. replies 1 k.0 ++ (text ++ fault_line Fault.Range)) report ∙ sym k.5,
      h.6 ∙ sym k.6,
    )

-- no answer is whole and broken
whole_or_broken : {P : Type 0} → (input a b : List ℕ) (s t : ℕ) → IsWhole input a s → IsBroken input b t → P
whole_or_broken input a b s t h k =
    let same = one_judgement input h.0 k.0 h.1 k.1 h.3 k.3 in
    absurd (whole_or_to_fault (unvalued k.1) h.2 k.2 (subst (λ (rows : List Holding). IsReport (unvalued rows) h.2) same.1 h.4) k.4)

whole : (input a b : List ℕ) (s t : ℕ) → IsWhole input a s → IsAnswer input b t → (a ≡ b) × (s ≡ t)
whole input a b s t h (inl k) = apart (length input) longest_input k.0 h.3.short
whole input a b s t h (inr (inl k)) = no_verdicts input k.1 k.2 h.0 h.1 k.3 h.3
whole input a b s t h (inr (inr (inl k))) = whole_alike input a b s t h k
whole input a b s t h (inr (inr (inr k))) = whole_or_broken input a b s t h k

broken : (input a b : List ℕ) (s t : ℕ) → IsBroken input a s → IsAnswer input b t → (a ≡ b) × (s ≡ t)
broken input a b s t h (inl k) = apart (length input) longest_input k.0 h.3.short
broken input a b s t h (inr (inl k)) = no_verdicts input k.1 k.2 h.0 h.1 k.3 h.3
broken input a b s t h (inr (inr (inl k))) = whole_or_broken input b a t s k h
broken input a b s t h (inr (inr (inr k))) = broken_alike input a b s t h k

pub one_answer : (input a b : List ℕ) (s t : ℕ) → IsAnswer input a s → IsAnswer input b t → (a ≡ b) × (s ≡ t)
one_answer input a b s t (inl h) k = too_long input a b s t h k
one_answer input a b s t (inr (inl h)) k = no_text input a b s t h k
one_answer input a b s t (inr (inr (inl h))) k = whole input a b s t h k
one_answer input a b s t (inr (inr (inr h))) k = broken input a b s t h k

-- ---- Prefixes of the answer.

no_replies : {P : Type 0} → (input text : List ℕ) (number : ℕ) (fault : LineFault) → AreReplies input text → IsFaultAt input number fault → P
no_replies input text number fault h k = absurd (not_both input (h.0 ++ h.1) number fault h.5 k)

pub replies_begin : (input part text : List ℕ) (status : ℕ) → AreReplies input part → IsAnswer input text status → IsPrefixOf part text
replies_begin input part text status h (inl k) = apart (length input) longest_input k.0 h.4
replies_begin input part text status h (inr (inl k)) = no_replies input part k.1 k.2 h k.3
replies_begin input part text status h (inr (inr (inl k))) =
    subst (IsPrefixOf part) (sym k.5) (prefix_of_more part (replies 1 k.0) k.2 (prefix_of_replies input part k.0 k.1 h k.3))
replies_begin input part text status h (inr (inr (inr k))) =
    subst (IsPrefixOf part) (sym k.5) (prefix_of_more part (replies 1 k.0) (k.2 ++ fault_line Fault.Range) (prefix_of_replies input part k.0 k.1 h k.3))

-- the same replies, and behind them a prefix of what the answer has there
prefix_behind_replies : (verdicts others : List Verdict) (lines part report text : List ℕ) → verdicts ≡ others
    → part ≡ replies 1 verdicts ++ lines → text ≡ replies 1 others ++ report → IsPrefixOf lines report → IsPrefixOf part text
prefix_behind_replies verdicts others lines part report text same is answered first =
    subst (λ a. IsPrefixOf a text) (ap (λ vs. replies 1 vs ++ lines) (sym same) ∙ sym is)
    (subst (IsPrefixOf (replies 1 others ++ lines)) (sym answered) (prefix_behind (replies 1 others) lines report first))

pub lines_begin : (input part text : List ℕ) (status : ℕ) → AreLines input part → IsAnswer input text status → IsPrefixOf part text
lines_begin input part text status h (inl k) = apart (length input) longest_input k.0 h.3.short
lines_begin input part text status h (inr (inl k)) = no_verdicts input k.1 k.2 h.0 h.1 k.3 h.3
lines_begin input part text status h (inr (inr (inl k))) =
    let same = one_judgement input h.0 k.0 h.1 k.1 h.3 k.3 in
    prefix_behind_replies h.0 k.0 h.2 part k.2 text same.0 h.5 k.5
    (lines_of_report (unvalued k.1) h.2 k.2 (subst (λ (rows : List Holding). AreFirstLines (unvalued rows) h.2) same.1 h.4) k.4)
lines_begin input part text status h (inr (inr (inr k))) =
    let same = one_judgement input h.0 k.0 h.1 k.1 h.3 k.3 in
    prefix_behind_replies h.0 k.0 h.2 part (k.2 ++ fault_line Fault.Range) text same.0 h.5 k.5
    (prefix_of_more h.2 k.2 (fault_line Fault.Range)
    (lines_of_report_to_fault (unvalued k.1) h.2 k.2 (subst (λ (rows : List Holding). AreFirstLines (unvalued rows) h.2) same.1 h.4) k.4))

-- the replies to the commands before one are those to the first commands
replies_before : (input text : List ℕ) (number : ℕ) (verdicts : List Verdict) → IsJudgedBefore input number verdicts → text ≡ replies 1 verdicts
    → AreReplies input text
replies_before input text number verdicts h is = (h.done, h.command ∷ h.rest, verdicts, h.book, h.short, h.reads, h.judged, is)

-- the replies to all commands are those to the first ones, of which none is left
all_replies : (input text : List ℕ) (commands : List Command) (verdicts : List Verdict) (book : List Entry)
    → length input ≤ longest_input → Reads input commands → JudgesAll [] (numbered key_of 1 commands) verdicts book → text ≡ replies 1 verdicts
    → AreReplies input text
all_replies input text commands verdicts book short reads judged is =
    (commands, [], verdicts, book, short, subst (Reads input) (sym (append-nil commands)) reads, judged, is)

pub kept_begins : (input kept last text : List ℕ) (status : ℕ) → RunsOut input kept last → IsAnswer input text status → IsPrefixOf kept text
kept_begins input kept last text status (inl h) k = (text, ap (λ start. start ++ text) (sym h.3))
kept_begins input kept last text status (inr (inl h)) k =
    replies_begin input kept text status (replies_before input kept h.0 h.1 h.2 h.3) k
kept_begins input kept last text status (inr (inr (inl h))) k =
    replies_begin input kept text status (all_replies input kept h.0 h.1 h.2 h.3 h.4 h.5 h.6) k
kept_begins input kept last text status (inr (inr (inr h))) k =
    lines_begin input kept text status (h.0, h.1, h.2, h.3, kept_are_first (unvalued h.1) h.2 h.4, h.5) k

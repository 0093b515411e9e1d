-- A key acts once: what stands under it remains, and a command under it is refused, or is a repeat,
-- which may be taken out of a list of commands.
use Rattle.std.proofs.Common.{◌≡◌, ◌≢◌, ◌∙◌, ap, refl, subst, ℕ, cond, List, [], ◌∷◌, ◌++◌, Option, Some}
use Rattle.lot_base.proofs.TextLemmas.{one_text}
use Rattle.lot_base.specs.Text.{same_text}
use Rattle.lot_book.proofs.CaseLemmas.{by_bool}
use Rattle.lot_book.specs.Edition.{Edition, ties_in}
use Rattle.lot_book.specs.Facts.{Entry, facts_of, text_under}
use Rattle.lot_book.specs.Judged.{JudgesBy}
use Rattle.lot_book.specs.Step.{Accept, DecidesByUnder, Outcome, Refuse, Repeat, StepIn}
use Rattle.lot_book.specs.declared.refusal.Refusal.TheVariants.{KeyReused}
use Rattle.lot_book.specs.declared.verdict.Verdict.{Verdict}
use Rattle.lot_book.specs.declared.verdict.Verdict.TheVariants.{Accepted, Refused, Repeated}
use Rattle.lot_command.specs.Canonical.{canonical}
use Rattle.lot_command.specs.declared.command.Command.{Command}
use Rattle.lot_command.specs.declared.key.Key.{Key}
use Rattle.lot_laws.specs.Laws.{JudgesAllBy}
use Rattle.lot_laws.proofs.LawKeys.{only_repeats, repeats, stands, still_stands}

-- ---- what stands

pub accepted_stands : (edition : Edition) (book after : List Entry) (key : Key) (command : Command) → JudgesBy edition book key command Accepted after
    → text_under after key ≡ Some (canonical command)
accepted_stands edition book after key command judged = ap (λ (entries : List Entry). text_under entries key) judged.2 ∙ stands edition book key command judged.0 judged.1

pub remains : (edition : Edition) (book after : List Entry) (key other : Key) (text : List ℕ) (command : Command) (verdict : Verdict) → text_under book key ≡ Some text
    → JudgesBy edition book other command verdict after → text_under after key ≡ Some text
remains edition book after key other text command Accepted known judged =
    ap (λ (entries : List Entry). text_under entries key) judged.2 ∙ still_stands book key text other command (Accept judged.0) known
remains edition book after key other text command Repeated known judged = ap (λ (entries : List Entry). text_under entries key) judged.1 ∙ known
remains edition book after key other text command (Refused refusal) known judged = ap (λ (entries : List Entry). text_under entries key) judged.1 ∙ known

-- ---- a command under a key that stands

-- with the text that stands there
pub is_repeat : (edition : Edition) (book after : List Entry) (key : Key) (command : Command) (verdict : Verdict) → text_under book key ≡ Some (canonical command)
    → JudgesBy edition book key command verdict after → (verdict ≡ Repeated) × (after ≡ book)
is_repeat edition book after key command Accepted known judged = let none : Accept judged.0 ≡ Repeat = only_repeats edition book key command (Accept judged.0) known judged.1 in absurd cc
is_repeat edition book after key command Repeated known judged = (refl, judged.1)
is_repeat edition book after key command (Refused refusal) known judged = let none : Refuse refusal ≡ Repeat = only_repeats edition book key command (Refuse refusal) known judged.0 in absurd cc

only_refuses : (edition : Edition) (book : List Entry) (key : Key) (command : Command) (text : List ℕ) (outcome : Outcome) → text_under book key ≡ Some text
    → text ≢ canonical command → StepIn edition book key command outcome → outcome ≡ Refuse KeyReused
only_refuses edition book key command text outcome known other step =
    subst (λ (found : Option (List ℕ)). DecidesByUnder (ties_in edition book) found (facts_of book key) command outcome) known step
    ∙ by_bool (same_text text (canonical command)) (λ same. absurd (other (one_text text (canonical command) same)))
    (λ apart. ap (λ b. cond b Repeat (Refuse KeyReused)) apart)

-- with another text
pub is_refused : (edition : Edition) (book after : List Entry) (key : Key) (command : Command) (text : List ℕ) (verdict : Verdict) → text_under book key ≡ Some text
    → text ≢ canonical command → JudgesBy edition book key command verdict after → (verdict ≡ Refused KeyReused) × (after ≡ book)
is_refused edition book after key command text Accepted known other judged =
    let none : Accept judged.0 ≡ Refuse KeyReused = only_refuses edition book key command text (Accept judged.0) known other judged.1 in absurd cc
is_refused edition book after key command text Repeated known other judged =
    let none : Repeat ≡ Refuse KeyReused = only_refuses edition book key command text Repeat known other judged.0 in absurd cc
is_refused edition book after key command text (Refused refusal) known other judged =
    let same : Refuse refusal ≡ Refuse KeyReused = only_refuses edition book key command text (Refuse refusal) known other judged.0 in (cc, judged.1)

-- ---- a list with a command that stands

pub taken_out : (edition : List Entry → Edition) (book result : List Entry) (key : Key) (command : Command) (first more : List (Key × Command)) (verdicts : List Verdict)
    → text_under book key ≡ Some (canonical command) → JudgesAllBy edition book (first ++ (key, command) ∷ more) verdicts result
    → (earlier later : List Verdict) × (verdicts ≡ earlier ++ Repeated ∷ later) × JudgesAllBy edition book (first ++ more) (earlier ++ later) result
taken_out edition book result key command [] more [] known h = absurd h
taken_out edition book result key command [] more (verdict ∷ verdicts) known h =
    let repeat = is_repeat (edition book) book h.0 key command verdict known h.1 in (
      [],
      verdicts,
      ap (λ (v : Verdict). v ∷ verdicts) repeat.0,
      subst (λ (mid : List Entry). JudgesAllBy edition mid more verdicts result) repeat.1 h.2,
    )
taken_out edition book result key command (next ∷ first) more [] known h = absurd h
taken_out edition book result key command (next ∷ first) more (verdict ∷ verdicts) known h =
    let still = remains (edition book) book h.0 key next.0 (canonical command) next.1 verdict known h.1 in
    let rest = taken_out edition h.0 result key command first more verdicts still h.2 in
    (verdict ∷ rest.0, rest.1, ap (λ (vs : List Verdict). verdict ∷ vs) rest.2, (h.0, h.1, rest.3))

pub put_in : (edition : List Entry → Edition) (book result : List Entry) (key : Key) (command : Command) (first more : List (Key × Command)) (verdicts : List Verdict)
    → text_under book key ≡ Some (canonical command) → JudgesAllBy edition book (first ++ more) verdicts result
    → (earlier later : List Verdict) × (verdicts ≡ earlier ++ later) × JudgesAllBy edition book (first ++ (key, command) ∷ more) (earlier ++ Repeated ∷ later) result
put_in edition book result key command [] more verdicts known h = ([], verdicts, refl, (book, (repeats (edition book) book key command known, refl), h))
put_in edition book result key command (next ∷ first) more [] known h = absurd h
put_in edition book result key command (next ∷ first) more (verdict ∷ verdicts) known h =
    let still = remains (edition book) book h.0 key next.0 (canonical command) next.1 verdict known h.1 in
    let rest = put_in edition h.0 result key command first more verdicts still h.2 in
    (verdict ∷ rest.0, rest.1, ap (λ (vs : List Verdict). verdict ∷ vs) rest.2, (h.0, h.1, rest.3))

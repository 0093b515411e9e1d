-- The first line of the canonical text of a command is that of a command with the same narration.
use Rattle.std.specs.Prelude.{◌≡◌, ◌≢◌, ◌+◌, ℕ, suc, ◌==◌, true, false, List, [], ◌∷◌, ◌++◌, length, map, take, Option}
use Rattle.std.specs.List.{before_first, list_all, position_or_len}
use Rattle.std.proofs.Common.{refl, sym, ap, subst, ◌∙◌, append_assoc, append-nil, arith, length-append}
use Rattle.std.proofs.lemmas.Bool.{true≢false}
use Rattle.std.proofs.lemmas.Bool.Decides.{Decides-eqb}
use Rattle.std.proofs.lemmas.List.{take_all}
use Rattle.lot_base.specs.Name.{is_note_byte}
use Rattle.lot_book.proofs.CaseLemmas.{by_bool}
use Rattle.lot_command.specs.Canonical.{canonical}
use Rattle.lot_command.specs.Sayable.{IsSayable}
use Rattle.lot_command.specs.declared.command.Command.{Command}
use Rattle.lot_command.specs.declared.command.Command.TheVariants.{Closing, Declaring, Opening, Quoting, Transaction}
use Rattle.lot_print.specs.Canonical.{IsCanonical}
use Rattle.lot_print.proofs.CanonicalLines.{canonical_is, canonical_lines, closing_line, declaring_line, opening_line, posting_line, quoting_line, transaction_line, with_ends}
use Rattle.lot_print.proofs.LinePieces.{line_pieces}
use Rattle.lot_print.proofs.ListLemmas.{first_passes}
use Rattle.lot_noted.specs.Book.{Narrates, first_line, is_line_end, narration_of}

-- ---- a transaction without its postings

abbrev pub headed : Command → Command
headed (Opening o) = Opening o
headed (Closing c) = Closing c
headed (Declaring d) = Declaring d
headed (Quoting q) = Quoting q
headed (Transaction t) = Transaction (record t { postings = [] })

pub headed_sayable : (command : Command) → IsSayable command → IsSayable (headed command)
headed_sayable (Opening o) said = said
headed_sayable (Closing c) said = said
headed_sayable (Declaring d) said = said
headed_sayable (Quoting q) said = said
headed_sayable (Transaction t) said = record { on_day = said.on_day; of_narration = said.of_narration; of_postings = tt }

same_narration : (command : Command) → narration_of (headed command) ≡ narration_of command
same_narration (Opening o) = refl
same_narration (Closing c) = refl
same_narration (Declaring d) = refl
same_narration (Quoting q) = refl
same_narration (Transaction t) = refl

-- ---- lines

abbrev head_of : Command → List ℕ
head_of (Opening o) = opening_line o
head_of (Closing c) = closing_line c
head_of (Declaring d) = declaring_line d
head_of (Quoting q) = quoting_line q
head_of (Transaction t) = transaction_line t

abbrev rest_of : Command → List (List ℕ)
rest_of (Opening o) = []
rest_of (Closing c) = []
rest_of (Declaring d) = []
rest_of (Quoting q) = []
rest_of (Transaction t) = map posting_line t.postings

lines_are : (command : Command) → canonical_lines command ≡ head_of command ∷ rest_of command
lines_are (Opening o) = refl
lines_are (Closing c) = refl
lines_are (Declaring d) = refl
lines_are (Quoting q) = refl
lines_are (Transaction t) = refl

head_lines_are : (command : Command) → canonical_lines (headed command) ≡ head_of command ∷ []
head_lines_are (Opening o) = refl
head_lines_are (Closing c) = refl
head_lines_are (Declaring d) = refl
head_lines_are (Quoting q) = refl
head_lines_are (Transaction t) = refl

text_is : (command : Command) → canonical command ≡ head_of command ++ 10 ∷ with_ends (rest_of command)
text_is command = canonical_is command ∙ ap with_ends (lines_are command) ∙ append_assoc (head_of command) (10 ∷ []) (with_ends (rest_of command))

head_text_is : (command : Command) → canonical (headed command) ≡ head_of command ++ 10 ∷ []
head_text_is command = canonical_is (headed command) ∙ ap with_ends (head_lines_are command) ∙ append-nil (head_of command ++ 10 ∷ [])

head_plain : (command : Command) → IsSayable command → list_all is_note_byte (head_of command) ≡ true
head_plain (Opening o) said = (line_pieces (Opening o) said).0.plain
head_plain (Closing c) said = (line_pieces (Closing c) said).0.plain
head_plain (Declaring d) said = (line_pieces (Declaring d) said).0.plain
head_plain (Quoting q) said = (line_pieces (Quoting q) said).0.plain
head_plain (Transaction t) said = (line_pieces (Transaction t) said).0.plain

-- ---- no line holds a line end

never_end : (b : ℕ) → is_note_byte b ≡ true → (b == 10) ≡ false
never_end b plain =
    by_bool (b == 10)
    (λ is. let never : false ≡ true = subst (λ (n : ℕ). is_note_byte n ≡ true) ((Decides-eqb b 10).0 is) plain in absurd (true≢false (sym never)))
    (λ other. other)

before_more : (b : ℕ) (rest : List ℕ) → (b == 10) ≡ false → before_first is_line_end (b ∷ rest) ≡ b ∷ before_first is_line_end rest
before_more b rest other =
    let one_more : 1 + position_or_len is_line_end rest ≡ suc (position_or_len is_line_end rest) = omega arith in
    rw (other, one_more)

before_end : (line rest : List ℕ) → list_all is_note_byte line ≡ true → before_first is_line_end (line ++ 10 ∷ rest) ≡ line
before_end [] rest plain = refl
before_end (b ∷ line) rest plain =
    let parts = first_passes is_note_byte b line plain in
    before_more b (line ++ 10 ∷ rest) (never_end b parts.0) ∙ ap (λ (l : List ℕ). b ∷ l) (before_end line rest parts.1)

-- ---- the first line of a canonical text

pub first_line_is : (command : Command) → IsSayable command → first_line (canonical command) ≡ canonical (headed command)
first_line_is command said =
    ap (λ (text : List ℕ). before_first is_line_end text ++ 10 ∷ []) (text_is command)
    ∙ ap (λ (line : List ℕ). line ++ 10 ∷ []) (before_end (head_of command) (with_ends (rest_of command)) (head_plain command said))
    ∙ sym (head_text_is command)

-- a text without a line end is none
pub no_end : (text : List ℕ) → position_or_len is_line_end text ≡ length text → (command : Command) → IsSayable command → text ≢ canonical command
no_end text none command said is =
    let rest = with_ends (rest_of command) in
    let all : before_first is_line_end text ≡ text = ap (λ (n : ℕ). take n text) none ∙ take_all (length text) text (omega arith) in
    let head : before_first is_line_end text ≡ head_of command =
    ap (before_first is_line_end) (is ∙ text_is command) ∙ before_end (head_of command) rest (head_plain command said) in
    let short : length text ≡ length (head_of command) = ap length (sym all ∙ head) in
    let long : length text ≡ length (head_of command ++ 10 ∷ rest) = ap length (is ∙ text_is command) in
    omega (arith, short, long, length-append (head_of command) (10 ∷ rest))

-- nor is one whose first line isn't canonical
pub no_head : (text line : List ℕ) → line ≡ first_line text → ¬ IsCanonical line → (command : Command) → IsSayable command → text ≢ canonical command
no_head text line is never command said same =
    never (headed command, headed_sayable command said, is ∙ ap first_line same ∙ first_line_is command said)

-- ---- the narration

-- commands whose canonical texts are one are one
abbrev pub TellsApart : Type 0
TellsApart = (a b : Command) → IsSayable a → IsSayable b → canonical a ≡ canonical b → a ≡ b

pub narrates_own : TellsApart → (text : List ℕ) (command : Command) → IsSayable command → text ≡ canonical command → (narration : Option (List ℕ))
    → Narrates text narration
    → narration ≡ narration_of command
narrates_own apart text command said same narration (other, sayable, line, says) =
    let one : other ≡ headed command = apart other (headed command) sayable (headed_sayable command said) (sym line ∙ ap first_line same ∙ first_line_is command said) in
    says ∙ ap narration_of one ∙ same_narration command

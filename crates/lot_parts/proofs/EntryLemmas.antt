-- The canonical text of a command is ledger text: each line begins with a digit or a blank.
use Rattle.std.proofs.Common.{◌≡◌, ℕ, ◌+◌, ◌≤◌, true, List, [], ◌∷◌, ◌++◌, map, refl, ap, ◌∙◌, sym, subst, arith, get_or}
use Rattle.std.specs.Char.{is_ascii_digit}
use Rattle.std.specs.List.{AllByRecursion, list_all}
use Rattle.std.proofs.lemmas.Bool.{and_from, and_parts}
use Rattle.std.proofs.lemmas.Bool.Decides.{nat_tests}
use Rattle.lot_base.specs.Day.{day_text}
use Rattle.lot_base.specs.Name.{is_note_byte}
use Rattle.lot_syntax.specs.Line.{IsLine, is_within_line}
use Rattle.lot_command.specs.declared.command.Command.{Command}
use Rattle.lot_command.specs.declared.command.Command.TheVariants as Commands
use Rattle.lot_command.specs.declared.transaction.Posting.{Posting}
use Rattle.lot_print.specs.Canonical.{IsCanonical}
use Rattle.lot_print.specs.Length.{longest_printed}
use Rattle.lot_print.proofs.CanonicalLines.{canonical_is, canonical_lines, posting_line}
use Rattle.lot_print.proofs.DayLemmas.{StartsWithDigit, day_starts}
use Rattle.lot_print.proofs.LinePieces.{line_pieces}
use Rattle.lot_print.proofs.PieceLemmas.{IsPiece}
use Rattle.lot_parts.specs.Dump.{AreParts, AreTextLines, IsLedger, IsText, Part}
use Rattle.lot_parts.specs.Entries.{AreEntries}

-- ---- Each line is a line.

note_byte : (b : ℕ) → is_note_byte b ≡ true → is_within_line b ≡ true
note_byte b is = grind (arith, nat_tests)

plain_line : (text : List ℕ) → list_all is_note_byte text ≡ true → IsLine text
plain_line [] is = refl
plain_line (b ∷ text) is = let parts = and_parts _ _ is in and_from _ _ (note_byte b parts.0) (plain_line text parts.1)

-- ---- Each line begins as ledger text.

other_first : (b : ℕ) (rest : List ℕ) → (b ≡ 59 → ⊥) → IsText (b ∷ rest)
other_first b rest other = (
  λ (more, is). other (ap (λ (t : List ℕ). get_or t 0 0) is),
  λ (more, is). other (ap (λ (t : List ℕ). get_or t 0 0) is),
  λ (more, is). other (ap (λ (t : List ℕ). get_or t 0 0) is),
)

no_digit : (b : ℕ) → is_ascii_digit b ≡ true → b ≡ 59 → ⊥
no_digit b is same = grind (arith, nat_tests)

dated : (bytes rest : List ℕ) → StartsWithDigit bytes → IsText (bytes ++ rest)
dated bytes rest s =
    subst (λ (t : List ℕ). IsText (t ++ rest)) (sym s.whole) (other_first s.first (s.rest ++ rest) (no_digit s.first s.is_digit))

indented : (posting : Posting) → IsText (posting_line posting)
indented posting = other_first 32 _ (λ same. omega (arith, same))

postings_are_text : (postings : List Posting) → AllByRecursion IsText (map posting_line postings)
postings_are_text [] = tt
postings_are_text (posting ∷ postings) = (indented posting, postings_are_text postings)

lines_are_text : (command : Command) → AllByRecursion IsText (canonical_lines command)
lines_are_text (Commands.Opening o) = (dated (day_text o.day) _ (day_starts o.day), tt)
lines_are_text (Commands.Closing c) = (dated (day_text c.day) _ (day_starts c.day), tt)
lines_are_text (Commands.Declaring d) = (dated (day_text d.day) _ (day_starts d.day), tt)
lines_are_text (Commands.Quoting q) = (dated (day_text q.day) _ (day_starts q.day), tt)
lines_are_text (Commands.Transaction t) = (dated (day_text t.day) _ (day_starts t.day), postings_are_text t.postings)

both_ways : (lines : List (List ℕ)) → AllByRecursion (IsPiece longest_printed) lines → AllByRecursion IsText lines → AreTextLines lines
both_ways [] pieces texts = tt
both_ways (l ∷ lines) (piece, pieces) (text, texts) = ((plain_line l piece.plain, text), both_ways lines pieces texts)

pub canonical_ledger : (text : List ℕ) → IsCanonical text → IsLedger text
canonical_ledger text (command, sayable, is) =
    (canonical_lines command, both_ways (canonical_lines command) (line_pieces command sayable) (lines_are_text command), is ∙ canonical_is command)

-- ---- The entries of a book.

pub entries_are_parts : (last number : ℕ) (entries : List Part) → last ≤ number → AreEntries number entries → AreParts last entries
entries_are_parts last number [] low are = tt
entries_are_parts last number (entry ∷ entries) low (is, heading, canonical, are) = (
  omega (arith, low, is),
  heading,
  canonical_ledger entry.text canonical,
  entries_are_parts entry.heading.number (number + 1) entries (omega (arith, is)) are,
)

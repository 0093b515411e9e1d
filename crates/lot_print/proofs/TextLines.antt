-- The lines of canonical texts, and how long they are.
use Rattle.std.proofs.Common.{◌≡◌, ℕ, ◌≤◌, true, false, List, [], ◌∷◌, ◌++◌, length, map, refl, ap, ◌∙◌, sym, subst, arith, eqb, append_assoc}
use Rattle.std.specs.List.{AllByRecursion, flat_map, list_all}
use Rattle.std.specs.Char.{is_ascii_digit}
use Rattle.std.proofs.lemmas.Bool.{and_parts}
use Rattle.std.proofs.lemmas.Bool.Decides.{nat_tests}
use Rattle.std.proofs.lemmas.Grind.{flat_map-append}
use Rattle.std.proofs.lemmas.List.{append-nil}
use Rattle.lot_base.specs.Day.{day_text}
use Rattle.lot_base.specs.Name.{is_note_byte}
use Rattle.lot_cost.proofs.ListLemmas.{all_weaker}
use Rattle.lot_command.specs.Canonical.{canonical}
use Rattle.lot_command.specs.declared.command.Command.{Command}
use Rattle.lot_command.specs.declared.command.Command.TheVariants as Commands
use Rattle.lot_syntax.specs.Line.{AreEnded, AreLines, ended_lines, is_within_line, without_mark, without_return}
use Rattle.lot_syntax.proofs.LineLemmas.{are_ended, ended_first, lines_are}
use Rattle.lot_print.specs.Length.{longest_printed}
use Rattle.lot_command.specs.Sayable.{IsSayable}
use Rattle.lot_print.proofs.CanonicalLines.{canonical_is, canonical_lines, with_ends}
use Rattle.lot_print.proofs.DayLemmas.{StartsWithDigit, day_starts}
use Rattle.lot_print.proofs.LinePieces.{line_pieces}
use Rattle.lot_print.proofs.ListLemmas.{all_pass, both_hold}
use Rattle.lot_print.proofs.PieceLemmas.{IsPiece}

abbrev pub AreSayable : List Command → Type 0
AreSayable commands = AllByRecursion IsSayable commands

abbrev pub all_lines : List Command → List (List ℕ)
all_lines commands = flat_map canonical_lines commands

-- ---- Lines with no control byte.

-- no control byte but the tab
abbrev ArePlain : List (List ℕ) → Type 0
ArePlain lines = AllByRecursion (λ line. list_all is_note_byte line ≡ true) lines

no_end : (b : ℕ) → is_note_byte b ≡ true → is_within_line b ≡ true
no_end b e = grind (arith, nat_tests)

no_return : (b : ℕ) → is_note_byte b ≡ true → eqb b 13 ≡ false
no_return b e = grind (arith, nat_tests)

plain_kept : (line : List ℕ) → list_all is_note_byte line ≡ true → without_return line ≡ line
plain_kept [] all = refl
plain_kept (b ∷ []) all =
    let other = no_return b (and_parts _ _ all).0 in
    rw other refl
plain_kept (b ∷ c ∷ line) all =
    ap (λ rest. b ∷ rest) (plain_kept (c ∷ line) (and_parts (is_note_byte b) (list_all is_note_byte (c ∷ line)) all).1)

all_kept : (lines : List (List ℕ)) → ArePlain lines → map without_return lines ≡ lines
all_kept [] all = refl
all_kept (line ∷ lines) (plain, all) =
    ap (λ x. x ∷ map without_return lines) (plain_kept line plain) ∙ ap (λ xs. line ∷ xs) (all_kept lines all)

lines_end : (lines : List (List ℕ)) → ArePlain lines → ended_lines (with_ends lines) ≡ lines
unfolding ended_lines
lines_end [] all = refl
lines_end (line ∷ lines) (plain, all) =
    ap ended_lines (append_assoc line (10 ∷ []) (with_ends lines))
    ∙ ended_first line (with_ends lines) (all_pass is_note_byte is_within_line no_end line plain)
    ∙ ap (λ rest. line ∷ rest) (lines_end lines all)

are_lines : (lines : List (List ℕ)) (bytes : List ℕ) → ArePlain lines → bytes ≡ with_ends lines → without_mark bytes ≡ bytes
    → AreLines lines bytes
are_lines lines bytes all whole no_mark =
    let ended : AreEnded lines (with_ends lines) =
    subst (λ (xs : List (List ℕ)). AreEnded xs (with_ends lines)) (lines_end lines all) (are_ended (with_ends lines)) in
    (lines, subst (AreEnded lines) (sym (no_mark ∙ whole)) ended, sym (all_kept lines all))

-- ---- No byte order mark.

digit_no_mark : (b : ℕ) → is_ascii_digit b ≡ true → eqb b 239 ≡ false
digit_no_mark b e = grind (arith, nat_tests)

unmarked : (first : ℕ) (bytes : List ℕ) → eqb first 239 ≡ false → without_mark (first ∷ bytes) ≡ first ∷ bytes
unmarked first [] e = refl
unmarked first (a ∷ []) e = refl
unmarked first (a ∷ b ∷ bytes) e = rw e refl

digit_first : (bytes rest : List ℕ) → StartsWithDigit bytes → without_mark (bytes ++ rest) ≡ bytes ++ rest
digit_first bytes rest s =
    subst (λ (xs : List ℕ). without_mark (xs ++ rest) ≡ xs ++ rest) (sym s.whole)
    (unmarked s.first (s.rest ++ rest) (digit_no_mark s.first s.is_digit))

starts_behind : (bytes rest : List ℕ) → StartsWithDigit bytes → StartsWithDigit (bytes ++ rest)
starts_behind bytes rest s = record {
  first = s.first;
  rest = s.rest ++ rest;
  whole = ap (λ xs. xs ++ rest) s.whole;
  is_digit = s.is_digit;
}

command_starts : (command : Command) → StartsWithDigit (canonical command)
command_starts (Commands.Opening o) = starts_behind (day_text o.day) _ (day_starts o.day)
command_starts (Commands.Closing c) = starts_behind (day_text c.day) _ (day_starts c.day)
command_starts (Commands.Declaring d) = starts_behind (day_text d.day) _ (day_starts d.day)
command_starts (Commands.Quoting q) = starts_behind (day_text q.day) _ (day_starts q.day)
command_starts (Commands.Transaction t) = starts_behind (day_text t.day) _ (day_starts t.day)

no_mark_first : (commands : List Command) → without_mark (flat_map canonical commands) ≡ flat_map canonical commands
no_mark_first [] = refl
no_mark_first (c ∷ commands) = digit_first (canonical c) (flat_map canonical commands) (command_starts c)

-- ---- Canonical texts, one after another.

all_plain : (lines : List (List ℕ)) → AllByRecursion (IsPiece longest_printed) lines → ArePlain lines
all_plain lines all =
    all_weaker (IsPiece longest_printed) (λ line. list_all is_note_byte line ≡ true) (λ line piece. piece.plain) lines all

lines_plain : (commands : List Command) → AreSayable commands → ArePlain (all_lines commands)
lines_plain [] all = tt
lines_plain (c ∷ commands) (h, all) =
    both_hold (λ line. list_all is_note_byte line ≡ true) (canonical_lines c) (all_lines commands)
    (all_plain (canonical_lines c) (line_pieces c h)) (lines_plain commands all)

texts_are : (commands : List Command) → flat_map canonical commands ≡ with_ends (all_lines commands)
texts_are [] = refl
texts_are (c ∷ commands) =
    ap (λ bytes. bytes ++ flat_map canonical commands) (canonical_is c)
    ∙ ap (λ rest. with_ends (canonical_lines c) ++ rest) (texts_are commands)
    ∙ sym (flat_map-append (λ line. line ++ 10 ∷ []) (canonical_lines c) (all_lines commands))

pub commands_lines : (commands : List Command) → AreSayable commands → AreLines (all_lines commands) (flat_map canonical commands)
commands_lines commands all =
    are_lines (all_lines commands) (flat_map canonical commands) (lines_plain commands all) (texts_are commands)
    (no_mark_first commands)

-- ---- One canonical text.

pub command_lines : (command : Command) → IsSayable command → AreLines (canonical_lines command) (canonical command)
command_lines command h =
    are_lines (canonical_lines command) (canonical command) (all_plain (canonical_lines command) (line_pieces command h))
    (canonical_is command)
    (subst (λ (bytes : List ℕ). without_mark bytes ≡ bytes) (append-nil (canonical command)) (no_mark_first (command ∷ [])))

pub lines_short : (command : Command) (lines : List (List ℕ)) → IsSayable command → AreLines lines (canonical command)
    → AllByRecursion (λ line. length line ≤ longest_printed) lines
lines_short command lines h are =
    let own = lines_are (canonical_lines command) (canonical command) (command_lines command h) in
    let short : AllByRecursion (λ line. length line ≤ longest_printed) (canonical_lines command) =
    all_weaker (IsPiece longest_printed) (λ line. length line ≤ longest_printed) (λ line piece. piece.short)
    (canonical_lines command)
    (line_pieces command h) in
    subst (AllByRecursion (λ (line : List ℕ). length line ≤ longest_printed))
    (sym own ∙ lines_are lines (canonical command) are) short

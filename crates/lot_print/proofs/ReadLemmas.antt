-- Canonical texts, one after another, read as their commands.
use Rattle.std.proofs.Common.{◌≡◌, ℕ, List, [], ◌∷◌, ◌++◌, map, refl, ap, ◌∙◌, subst, arith}
use Rattle.std.specs.Prelude.{Option, Some}
use Rattle.std.specs.List.{AllByRecursion, AllZip, flat_map}
use Rattle.std.proofs.lemmas.List.{append-nil, map-append}
use Rattle.lot_command.specs.Canonical.{canonical}
use Rattle.lot_command.specs.declared.command.Command.{Command}
use Rattle.lot_command.specs.declared.command.Command.TheVariants as Commands
use Rattle.lot_command.specs.declared.transaction.Posting.{Posting}
use Rattle.lot_read.specs.Line.{IsPostingLine, IsReadable, SaysStatement}
use Rattle.lot_read.specs.Text.{LinesSay, Reads, present, statements_of}
use Rattle.lot_read.proofs.TextLaws.{reads_one}
use Rattle.lot_print.specs.Length.{longest_printed}
use Rattle.lot_command.specs.Sayable.{IsPosting, IsSayable}
use Rattle.lot_print.proofs.CanonicalLines.{canonical_lines, posting_line}
use Rattle.lot_print.proofs.HeaderLines.{closing_says, declaring_says, opening_says, quoting_says, transaction_says}
use Rattle.lot_print.proofs.LinePieces.{line_pieces}
use Rattle.lot_print.proofs.ListLemmas.{both_zip}
use Rattle.lot_print.proofs.PieceLemmas.{IsPiece}
use Rattle.lot_print.proofs.PostingLines.{posting_says}
use Rattle.lot_print.proofs.TextLines.{AreSayable, all_lines, commands_lines}

-- ---- Each line says its statement.

readable : (line : List ℕ) → IsPiece longest_printed line → IsReadable line
readable line piece = record { utf8 = piece.utf8; short = omega (arith, piece.short) }

-- whatever the statement of a posting is: the reader's own type of statements has no name here
postings_say : {T : Type 0} (Said : List ℕ → Option T → Type 0) (posts : Posting → T)
    → ((p : Posting) → IsReadable (posting_line p) → IsPostingLine (posting_line p) p → Said (posting_line p) (Some (posts p)))
    → (postings : List Posting) → AllByRecursion IsPosting postings
    → AllByRecursion (IsPiece longest_printed) (map posting_line postings)
    → AllZip Said (map posting_line postings) (map Some (map posts postings))
postings_say Said posts each [] all pieces = tt
postings_say Said posts each (p ∷ postings) (h, all) (piece, pieces) =
    (each p (readable (posting_line p) piece) (posting_says p h), postings_say Said posts each postings all pieces)

lines_say : (command : Command) → IsSayable command → AllZip SaysStatement (canonical_lines command) (map Some (statements_of command))
lines_say (Commands.Opening o) h = ((readable _ (line_pieces (Commands.Opening o) h).0, opening_says o h), tt)
lines_say (Commands.Closing c) h = ((readable _ (line_pieces (Commands.Closing c) h).0, closing_says c h), tt)
lines_say (Commands.Declaring d) h = ((readable _ (line_pieces (Commands.Declaring d) h).0, declaring_says d h), tt)
lines_say (Commands.Quoting q) h = ((readable _ (line_pieces (Commands.Quoting q) h).0, quoting_says q h), tt)
lines_say (Commands.Transaction t) h =
    let pieces = line_pieces (Commands.Transaction t) h in
    ((readable _ pieces.0, transaction_says t h), postings_say SaysStatement _ (λ p r is. (r, is)) t.postings h.of_postings pieces.1)

-- ---- Lists of commands.

all_say : (commands : List Command) → AreSayable commands
    → AllZip SaysStatement (all_lines commands) (map Some (flat_map statements_of commands))
all_say [] all = tt
all_say (c ∷ commands) (h, all) =
    rw (map-append Some (statements_of c) (flat_map statements_of commands))
    (both_zip SaysStatement (canonical_lines c) (all_lines commands) _ _ (lines_say c h) (all_say commands all))

-- what keeps the items that are there keeps all of these
all_kept_by : {T : Type 0} (kept : List (Option T) → List T) → kept [] ≡ []
    → ((x : T) (rest : List (Option T)) → kept (Some x ∷ rest) ≡ x ∷ kept rest) → (xs : List T) → kept (map Some xs) ≡ xs
all_kept_by kept none more [] = none
all_kept_by kept none more (x ∷ xs) = more x (map Some xs) ∙ ap (λ rest. x ∷ rest) (all_kept_by kept none more xs)

commands_said : (commands : List Command) → AreSayable commands → LinesSay (all_lines commands) commands
commands_said commands all = record {
  said = map Some (flat_map statements_of commands);
  each = all_say commands all;
  all = all_kept_by present refl (λ x rest. refl) (flat_map statements_of commands);
}

-- ---- The texts read as the commands.

pub commands_read : (commands : List Command) → AreSayable commands → Reads (flat_map canonical commands) commands
commands_read commands all = (all_lines commands, commands_lines commands all, commands_said commands all)

pub command_reads : (command : Command) → IsSayable command → Reads (canonical command) (command ∷ [])
command_reads command h =
    subst (λ (bytes : List ℕ). Reads bytes (command ∷ [])) (append-nil (canonical command)) (commands_read (command ∷ []) (h, tt))

-- ---- No other commands have these texts.

pub same_commands : (xs ys : List Command) → AreSayable xs → AreSayable ys → flat_map canonical xs ≡ flat_map canonical ys
    → xs ≡ ys
same_commands xs ys h k same =
    reads_one (flat_map canonical ys) xs ys (subst (λ (bytes : List ℕ). Reads bytes xs) same (commands_read xs h))
    (commands_read ys k)

pub same_command : (a b : Command) → IsSayable a → IsSayable b → canonical a ≡ canonical b → a ≡ b
same_command a b h k same =
    let both : a ∷ [] ≡ b ∷ [] = same_commands (a ∷ []) (b ∷ []) (h, tt) (k, tt) (ap (λ text. text ++ []) same) in
    cc

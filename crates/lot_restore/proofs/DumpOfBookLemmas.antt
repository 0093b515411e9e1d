-- What restoring the dump of a book gives.
use Rattle.std.proofs.Common.{◌≡◌, ◌≤◌, ◌∙◌, ◌+◌, ℕ, suc, List, [], ◌∷◌, ◌++◌, Some, ap, arith, length, refl, subst, sym}
use Rattle.lot_book.specs.Book.{IsBookIn}
use Rattle.lot_book.specs.Edition.{After}
use Rattle.lot_book.specs.Facts.{Entry}
use Rattle.lot_book.specs.declared.verdict.Verdict.{Verdict}
use Rattle.lot_command.specs.Canonical.{canonical}
use Rattle.lot_command.specs.declared.command.Command.{Command}
use Rattle.lot_command.specs.declared.key.Key.{Key}
use Rattle.lot_dump.specs.Form.{IsEnd, IsHead}
use Rattle.lot_dump.specs.declared.end.End.{End}
use Rattle.lot_parts.proofs.DumpLemmas.{one_dump}
use Rattle.lot_parts.proofs.EntryLemmas.{entries_are_parts}
use Rattle.lot_parts.proofs.ReadLemmas.{nothing_ledger}
use Rattle.lot_parts.specs.Commands.{SayAll}
use Rattle.lot_parts.specs.Dump.{Dump, IsDump, dump_text}
use Rattle.lot_parts.specs.Entries.{AreEntries}
use Rattle.lot_parts.specs.declared.dumped.Dumped.{Dumped}
use Rattle.lot_print.proofs.ReadLemmas.{command_reads}
use Rattle.lot_read.proofs.TextLaws.{reads_one}
use Rattle.lot_without.specs.declared.without.Without.{Without}
use Rattle.lot_without.specs.declared.terms.Tolerance.{Tolerance}
use Rattle.lot_restore.specs.DumpOfBook.{CanBeDumped, GivesBack, dump_of_book, parts_from}
use Rattle.lot_restore.specs.LeftOut.{kept_of, unmet_of}
use Rattle.lot_restore.specs.Lines.{unmet_lines, verdict_lines}
use Rattle.lot_restore.specs.Restored.{Restores, all_accepted, dumped_from, place_after}
use Rattle.lot_restore.specs.Restoring.{IsBookOf, JudgedDump, Terms, how_of, judged_of, outcome_of, place_of, said_of}
use Rattle.lot_restore.specs.SoFar.{refused_of}
use Rattle.lot_restore.specs.declared.restoration.Refused.TheVariants as refused
use Rattle.lot_restore.specs.declared.restoring.Restored.TheVariants.{Whole}
use Rattle.lot_restore.proofs.RestoredLemmas.{dump_gives, place_of_dump, restored_alike}

-- ---- its text

pub are_entries : (number : ℕ) (entries : List Entry) → CanBeDumped number entries → AreEntries number (parts_from number entries)
are_entries number [] can = tt
are_entries number (entry ∷ entries) (heading, sayable, more) = (
  refl,
  heading,
  (entry.command, sayable, refl),
  subst (λ (n : ℕ). AreEntries n (parts_from (suc number) entries)) (omega arith) (are_entries (suc number) entries more),
)

same_dumped : (it : Dumped) (number : ℕ) (key : Key) (command : Command) → it.number ≡ number → it.key ≡ key → it.command ≡ command
    → it ≡ record { number = number; key = key; command = command }
same_dumped it number key command a b c = rw (sym a, sym b, sym c) refl

one_command : (a b : Command) → (a ∷ []) ≡ (b ∷ []) → a ≡ b
one_command a b same = cc

-- the entries say their commands, and no others
says_entries : (number : ℕ) (entries : List Entry) (commands : List Dumped) → CanBeDumped number entries → SayAll (parts_from number entries) commands
    → commands ≡ dumped_from number entries
says_entries number [] [] can says = refl
says_entries number [] (it ∷ more) can says = absurd says
says_entries number (entry ∷ entries) [] can says = absurd says
says_entries number (entry ∷ entries) (it ∷ more) (heading, sayable, can) ((is_number, is_key, reads), says) =
    let same = one_command it.command entry.command
    (reads_one (canonical entry.command) (it.command ∷ []) (entry.command ∷ []) reads (command_reads entry.command sayable)) in
    ap (λ d. d ∷ more) (same_dumped it number entry.key entry.command is_number is_key same)
    ∙ ap (λ l. record { number = number; key = entry.key; command = entry.command } ∷ l) (says_entries (suc number) entries more can says)

-- ---- nothing is left out, and nothing refused

pub keeps_all : (commands : List Dumped) → kept_of [] commands ≡ commands
keeps_all [] = refl
keeps_all (it ∷ more) = ap (λ l. it ∷ l) (keeps_all more)

none_refused : (entries : List Entry) → refused_of (all_accepted entries) ≡ refused.None
none_refused [] = refl
none_refused (entry ∷ entries) = none_refused entries

nothing_said : (commands : List Dumped) (entries : List Entry) → verdict_lines commands (all_accepted entries) ≡ []
nothing_said [] entries = refl
nothing_said (it ∷ more) [] = refl
nothing_said (it ∷ more) (entry ∷ entries) = nothing_said more entries

-- ---- the book

module _ (asked : Terms) (place : ℕ) (entries : List Entry) (end : End) (none : asked.without ≡ []) (can : CanBeDumped 1 entries)
    (head : IsHead (dump_of_book place entries end).head) (is_end : IsEnd end) (book : IsBookIn (After place) entries) (within : place ≤ length entries)
    (it : JudgedDump asked (Some (dump_text (dump_of_book place entries end)))) where
  is_dump : it.dump ≡ dump_of_book place entries end
  is_dump =
      one_dump (dump_text it.dump) it.dump (dump_of_book place entries end) it.read.is.0
      (head, nothing_ledger, entries_are_parts 0 1 (parts_from 1 entries) (omega arith) (are_entries 1 entries can), is_end, sym it.read.whole)

  commands_are : it.commands ≡ dumped_from 1 entries
  commands_are = says_entries 1 entries it.commands can (subst (λ (d : Dump). SayAll d.parts it.commands) is_dump it.read.is.2)

  judged_are : judged_of asked it ≡ dumped_from 1 entries
  judged_are = ap (λ w. kept_of w it.commands) none ∙ keeps_all it.commands ∙ commands_are

  place_is : it.dump.head.place ≡ place
  place_is = ap (λ (d : Dump). d.head.place) is_dump

  pub gives_back : (made : List Entry) → IsBookOf asked it made → GivesBack asked it place entries made
  gives_back made is =
      let restores : Restores place [] (dumped_from 1 entries) it.verdicts made =
      subst (λ p. Restores p [] (dumped_from 1 entries) it.verdicts made) place_is
      (subst (λ l. Restores it.dump.head.place [] l it.verdicts made) judged_are is) in
      let alike = restored_alike place [] (dumped_from 1 entries) it.verdicts (all_accepted entries) made entries restores (dump_gives place [] entries book) in
      record {
        same = alike.1;
        placed = ap (λ p. place_after p (judged_of asked it) it.verdicts 0) place_is ∙ ap (λ l. place_after place l it.verdicts 0) judged_are
            ∙ ap (λ v. place_after place (dumped_from 1 entries) v 0) alike.0 ∙ place_of_dump place 0 entries (omega arith) (omega (arith, within));
        whole = ap (λ w. outcome_of asked.tolerance (unmet_of w it.commands) (refused_of it.verdicts)) none
            ∙ ap (λ v. outcome_of asked.tolerance [] (refused_of v)) alike.0 ∙ ap (outcome_of asked.tolerance []) (none_refused entries)
            ∙ whole_of asked.tolerance;
        silent = ap (λ w. verdict_lines (judged_of asked it) it.verdicts ++ unmet_lines (unmet_of w it.commands)) none
            ∙ ap (λ v. verdict_lines (judged_of asked it) v ++ []) alike.0
            ∙ ap (λ t. t ++ []) (nothing_said (judged_of asked it) entries);
      }
    where
      whole_of : (tolerance : Tolerance) → outcome_of tolerance [] refused.None ≡ Whole
      whole_of tolerance = refl

-- What restoring the dump of a book comes to: it is taken, and gives the book back.
use Rattle.std.proofs.Common.{◌≡◌, ◌≤◌, ◌<◌, ◌+◌, ◌^◌, ◌∙◌, ℕ, inl, inr, suc, List, [], ◌∷◌, ◌++◌, None, Option, Some, ap, arith, length, refl, subst, sym}
use Rattle.std.specs.Prelude.{All, IsTrue}
use Rattle.std.specs.Io.KnownBytes.{Appends}
use Rattle.std.proofs.lemmas.List.Elements.{All-head, All-tail}
use Rattle.sqlite.specs.State.{HasCleanDisk, State}
use Rattle.lot_book.specs.Book.{IsBookIn}
use Rattle.lot_book.specs.Edition.{After}
use Rattle.lot_book.specs.Facts.{Entry}
use Rattle.lot_command.specs.Sayable.{IsSayable}
use Rattle.lot_dump.specs.Form.{HasNoBlank, IsEnd, IsHead}
use Rattle.lot_dump.specs.declared.end.End.{End}
use Rattle.lot_load.specs.Kept.{IsOf}
use Rattle.lot_parts.proofs.DumpLemmas.{one_dump}
use Rattle.lot_parts.proofs.EntryLemmas.{entries_are_parts}
use Rattle.lot_parts.proofs.ReadLemmas.{nothing_ledger}
use Rattle.lot_parts.proofs.TakenLemmas.{taken_above, taken_next}
use Rattle.lot_parts.specs.Commands.{IsDumpOf, IsReadWhole, MayEnd, SayAll}
use Rattle.lot_parts.specs.Dump.{Dump, IsDump, IsUnchanged, dump_text}
use Rattle.lot_parts.specs.Sum.{IsSumOf, SaysOtherwise}
use Rattle.lot_parts.specs.declared.commands.CommandFault.{CommandFault}
use Rattle.lot_parts.specs.declared.compare.SumFault.{SumFault}
use Rattle.lot_parts.specs.declared.compare.SumFault.TheVariants.{WrongCount, WrongDigest}
use Rattle.lot_parts.specs.declared.dumped.Dumped.{Dumped}
use Rattle.lot_parts.specs.declared.step.Sum.{Sum}
use Rattle.lot_print.proofs.ReadLemmas.{command_reads, commands_read}
use Rattle.lot_io.specs.Writes.{WriteCalls}
use Rattle.lot_rows.specs.Entry.{IsEntryRow}
use Rattle.lot_rows.specs.Tables.{Tables}
use Rattle.lot_store.specs.Step.{LeavesTables}
use Rattle.lot_stored.specs.Rows.{entry_rows}
use Rattle.lot_stored.specs.StandFor.{StandFor}
use Rattle.lot_io.specs.Reads.{counted}
use Rattle.lot_without.specs.declared.without.Without.{Without}
use Rattle.lot_without.specs.declared.terms.Strictness.TheVariants.{Unchanged}
use Rattle.lot_restore.specs.DumpOfBook.{CanBeDumped, GivesBack, HaveNoBlanks, IsGivenBack, MayEndSo, dump_of_book, parts_from}
use Rattle.lot_restore.specs.Judge.{StandsAt}
use Rattle.lot_restore.specs.LeftOut.{kept_of}
use Rattle.lot_restore.specs.Restored.{Restores, all_accepted, dumped_from}
use Rattle.lot_restore.specs.Restoring.{Fails, IsBookOf, IsOpenWith, JudgedDump, LeavesAs, RestoresDump, SumFails, Terms, TextFails, how_of, judged_of, place_of, said_of}
use Rattle.lot_restore.specs.declared.fault.RestoreFault.{RestoreFault}
use Rattle.lot_restore.specs.declared.fault.RestoreFault.TheVariants.{Book, Sum as OfSum, Text, Write}
use Rattle.lot_restore.specs.declared.restoring.Restored.{Restored}
use Rattle.lot_restore.specs.declared.restoring.Restored.TheVariants.{InPart, NotMade, Whole}
use Rattle.lot_restore.proofs.DumpOfBookLemmas.{are_entries, gives_back, keeps_all}
use Rattle.lot_restore.proofs.RestoredLemmas.{dump_gives}

-- ---- a book in tables can be dumped

can_from : (number : ℕ) (entries : List Entry) → All IsEntryRow (entry_rows number entries) → All (λ (entry : Entry). IsSayable entry.command) entries
    → HaveNoBlanks entries → CanBeDumped number entries
can_from number [] rows said blanks = tt
can_from number (entry ∷ entries) rows said blanks =
    let row = All-head IsEntryRow _ _ rows in (
      record { number = row.number.1; source = row.source; no_blank = All-head (λ (e : Entry). HasNoBlank e.key.source) entry entries blanks; name = row.name },
      All-head (λ (e : Entry). IsSayable e.command) entry entries said,
      can_from (suc number) entries (All-tail IsEntryRow _ _ rows) (All-tail (λ (e : Entry). IsSayable e.command) entry entries said)
          (All-tail (λ (e : Entry). HasNoBlank e.key.source) entry entries blanks),
    )

numbers_fit : (number : ℕ) (entries : List Entry) → number ≤ 2 ^ 32 → All IsEntryRow (entry_rows number entries) → number + length entries ≤ 2 ^ 32
numbers_fit number [] small rows = omega (arith, small)
numbers_fit number (entry ∷ entries) small rows =
    let row = All-head IsEntryRow _ _ rows in
    let more = numbers_fit (suc number) entries (omega (arith, row.number.1)) (All-tail IsEntryRow _ _ rows) in
    omega (arith, more)

module _ (tables : Tables) (entries : List Entry) (stand : StandFor tables entries) where
  its_rows : All IsEntryRow (entry_rows 1 entries)
  its_rows = subst (λ l. All IsEntryRow l) stand.entry stand.good.entry

  pub can_be_dumped : HaveNoBlanks entries → CanBeDumped 1 entries
  can_be_dumped blanks = can_from 1 entries its_rows stand.said blanks

  pub head_fits : (end : End) → IsHead (dump_of_book stand.place entries end).head
  head_fits end =
      let fit = numbers_fit 1 entries (omega arith) its_rows in
      (omega (arith, fit, stand.placed), omega (arith, fit))

-- ---- its text is a dump of its commands

says_all : (number : ℕ) (entries : List Entry) → CanBeDumped number entries → SayAll (parts_from number entries) (dumped_from number entries)
says_all number [] can = tt
says_all number (entry ∷ entries) (heading, sayable, can) =
    ((refl, refl, command_reads entry.command sayable), says_all (suc number) entries can)

pub as_many : (number : ℕ) (entries : List Entry) → length (parts_from number entries) ≡ length entries
as_many number [] = refl
as_many number (entry ∷ entries) = ap suc (as_many (suc number) entries)

module _ (asked : Terms) (place : ℕ) (entries : List Entry) (end : End) (can : CanBeDumped 1 entries)
    (head : IsHead (dump_of_book place entries end).head) (is_end : IsEnd end) where
  abbrev dump : Dump
  dump = dump_of_book place entries end

  abbrev text : List ℕ
  text = dump_text dump

  is_dump : IsDump text dump
  is_dump = (head, nothing_ledger, entries_are_parts 0 1 (parts_from 1 entries) (omega arith) (are_entries 1 entries can), is_end, refl)

  is_of : IsDumpOf text dump (dumped_from 1 entries)
  is_of = (is_dump, commands_read [] tt, says_all 1 entries can)

  -- ---- its faults

  text_fails : (fault : CommandFault) → TextFails (Some text) fault → MayEnd fault
  text_fails fault (inl above) = taken_above text dump (dumped_from 1 entries) is_of fault above
  text_fails fault (inr (front, commands, now, reading, to, next)) =
      taken_next text dump (dumped_from 1 entries) is_of now reading front commands to fault next

  module _ (unchanged : IsUnchanged dump) where
    sum_same : (sum : Sum) → IsSumOf sum dump → (fault : SumFault) → SaysOtherwise dump sum fault → ⊥
    sum_same sum (ends, digest, headings) WrongDigest other =
        other (ap (λ (e : End). e.digest) ends ∙ unchanged.0 ∙ sym digest)
    sum_same sum (ends, digest, headings) WrongCount other =
        let long = as_many 1 entries in
        other (omega (arith, headings, long, head.1), omega (arith, ap (λ (e : End). e.entries) ends, unchanged.2, headings, long, head.1))

    sum_fails : (fault : SumFault) → SumFails asked (Some text) fault → ⊥
    sum_fails fault (strict, other, commands, sum, read, says) =
        let same : other ≡ dump = one_dump (dump_text other) other dump read.is.0 (is_dump.0, is_dump.1, is_dump.2, is_dump.3, sym read.whole) in
        sum_same sum (subst (IsSumOf sum) same read.found) fault (subst (λ (d : Dump). SaysOtherwise d sum fault) same says)

    pub may_end : (old new : State) (calls : Option WriteCalls) (fault : RestoreFault) → Fails asked (Some text) old new calls fault → MayEndSo fault
    may_end old new calls (Book fault) fails = tt
    may_end old new calls (Text fault) fails = text_fails fault fails
    may_end old new calls (OfSum fault) fails = sum_fails fault fails
    may_end old new calls Write fails = tt

    -- ---- it is judged so

    module _ (none : asked.without ≡ []) (book : IsBookIn (After place) entries) where
      pub a_judged : (it : JudgedDump asked (Some text)) × IsBookOf asked it entries
      a_judged = (
        record {
          dump = dump;
          commands = dumped_from 1 entries;
          sum = record { end = end; digest = end.digest; headings = counted (length (parts_from 1 entries)) };
          read = record { is = is_of; whole = refl; found = (refl, unchanged.0, refl) };
          unchanged = λ strict. unchanged;
          verdicts = all_accepted entries;
        },
        subst (λ l. Restores place [] l (all_accepted entries) entries)
            (sym (ap (λ w. kept_of w (dumped_from 1 entries)) none ∙ keeps_all (dumped_from 1 entries)))
            (dump_gives place [] entries book),
      )

  -- ---- and gives its book

  module _ (none : asked.without ≡ []) (book : IsBookIn (After place) entries) (within : place ≤ length entries) where
    is_whole : (how : Restored) (made : List Entry) (at : ℕ) (old new : State) → how ≡ Whole → LeavesAs how made at old new
        → StandsAt (IsOf None) new made at × (new.now ≡ new.committed)
    is_whole Whole made at old new is leaves = leaves
    is_whole InPart made at old new is leaves = cc
    is_whole NotMade made at old new is leaves = cc

    pub given_back : (before written : Option (List ℕ)) (old new : State) (how : Restored) → RestoresDump asked (Some text) before written old new how
        → HasCleanDisk new → IsTrue new.is_open → IsGivenBack place entries before written new how
    given_back before written old new how (it, is_how, appends, opens, leaves) clean opened =
        let left = leaves clean opened in
        let gives = gives_back asked place entries end none can head is_end book within it left.0 left.1 in
        let whole = is_how ∙ gives.whole in
        let stands = is_whole how left.0 (place_of asked it) old new whole left.2 in
        record {
          whole = whole;
          silent = subst (Appends before written) gives.silent appends;
          stands = subst (λ p. StandsAt (IsOf None) new entries p) gives.placed (subst (λ m. StandsAt (IsOf None) new m (place_of asked it)) gives.same stands.0);
          committed = stands.1;
        }

-- The text of a dump that is written of a book.
use Rattle.std.proofs.Common.{inl, inr, Option, ◌≡◌, ◌≤◌, ◌∙◌, ℕ, suc, zero, List, [], ◌∷◌, ◌++◌, Some, ap, append_assoc, arith, flat_map, length, refl, subst, sym}
use Rattle.std.specs.Fmt.{digits}
use Rattle.std.specs.Prelude.{codes, decimal}
use Rattle.std.proofs.lemmas.Grind.{common_steps}
use Rattle.hex.specs.Hex.{IsBytes, encode_lower}
use Rattle.sha2.proofs.Facts256.{length-sha256}
use Rattle.sha2.specs.Sha256.{digest_bytes, sha256}
use Rattle.std.specs.Int.{to_be_bytes, w32}
use Rattle.std.specs.List.{slice_index}
use Rattle.lot_book.specs.Book.{IsBookIn}
use Rattle.lot_book.specs.Edition.{After}
use Rattle.lot_book.specs.Facts.{Entry}
use Rattle.lot_book_report.specs.Dump.{digest_of, dump_body, dump_end, dump_head, dump_text}
use Rattle.lot_book_report.specs.Journal.{journal_text}
use Rattle.lot_command.specs.Canonical.{canonical}
use Rattle.lot_dump.specs.declared.end.End.{End}
use Rattle.lot_dump.specs.Form.{IsEnd, IsHead, end_front, end_text, head_front, head_text, heading_front}
use Rattle.lot_input.specs.Input.{Reading}
use Rattle.lot_parts.specs.Dump.{IsUnchanged, dump_text as text_of_dump, part_text, text_above_end}
use Rattle.lot_io.specs.Writes.{WritesMade}
use Rattle.lot_report.specs.Printed.{line}
use Rattle.lot_restore.proofs.DumpOfBookLemmas.{gives_back}
use Rattle.lot_restore.proofs.TakenLemmas.{as_many, can_be_dumped, given_back, head_fits, may_end}
use Rattle.lot_restore.specs.DumpOfBook.{CanBeDumped, GivesBack, HaveNoBlanks, heading_of, parts_from}
use Rattle.lot_restore.specs.Restoring.{Fails, IsBookOf, JudgedDump, RestoresDump, Terms}
use Rattle.lot_store.specs.Extent.{extent_of}
use Rattle.lot_stored.specs.Rows.{entry_rows}
use Rattle.lot_stored.specs.StandFor.{Stands}
use Rattle.sqlite.specs.State.{State}
use Rattle.lot_cli.specs.Dumped.{TakesDump, book_dump, book_end}
use Rattle.lot_cli.specs.Restore.{RestoresBook}
use Rattle.lot_cli.specs.Says.{Told}

-- ---- its digest has bytes

bytes_behind : (xs ys : List ℕ) → IsBytes xs → IsBytes ys → IsBytes (xs ++ ys)
bytes_behind [] ys first second = second
bytes_behind (x ∷ xs) ys first second = both (bytes_behind xs ys (λ j. first (suc j)) second)
  where
    both : IsBytes (xs ++ ys) → IsBytes (x ∷ (xs ++ ys))
    both rest zero = first zero
    both rest (suc i) = rest i

word_bytes : (n : ℕ) → IsBytes (to_be_bytes w32 n)
word_bytes n zero = omega arith
word_bytes n (suc zero) = omega arith
word_bytes n (suc (suc zero)) = omega arith
word_bytes n (suc (suc (suc zero))) = omega arith
word_bytes n (suc (suc (suc (suc i)))) = omega arith

digest_is_bytes : (hash : List ℕ) (n : ℕ) → IsBytes (digest_bytes hash n)
unfolding digest_bytes
digest_is_bytes hash zero = λ i. omega arith
digest_is_bytes hash (suc n) = bytes_behind (digest_bytes hash n) (to_be_bytes w32 (slice_index hash n)) (digest_is_bytes hash n) (word_bytes (slice_index hash n))

are_bytes : (text : List ℕ) → IsBytes (sha256 text)
unfolding sha256
are_bytes text = digest_is_bytes _ 8

-- ---- its text

heading_is : (number source name : List ℕ)
    → line (codes "; entry " ++ number ++ codes " key " ++ source ++ codes " " ++ name)
    ≡ line (heading_front ++ (number ++ (codes " key " ++ (source ++ 32 ∷ name))))
heading_is number source name = grind (arith, common_steps)

entries_are : (number : ℕ) (entries : List Entry) → journal_text (entry_rows number entries) ≡ flat_map part_text (parts_from number entries)
entries_are number [] = refl
entries_are number (entry ∷ entries) =
    ap (λ t. (t ++ canonical entry.command) ++ journal_text (entry_rows (suc number) entries)) (heading_is (decimal number) entry.key.source entry.key.name)
    ∙ ap (λ t. part_text (record { heading = heading_of number entry; text = canonical entry.command }) ++ t) (entries_are (suc number) entries)

one_is : decimal 1 ≡ codes "1"
unfolding digits
one_is = refl

two_is : decimal 2 ≡ codes "2"
unfolding digits
two_is = refl

head_is : (place entries : List ℕ)
    → line (codes "; lotbook dump 1 edition 2 migrated " ++ place ++ codes " entries " ++ entries)
    ≡ line (head_front ++ (codes "1" ++ (codes " edition " ++ (codes "2" ++ (codes " migrated " ++ (place ++ (codes " entries " ++ entries)))))))
head_is place entries = grind (arith, common_steps)

head_text_is : (place : ℕ) (entries : List Entry) → dump_head (extent_of place entries) ≡ line (head_text (book_dump place entries).head)
head_text_is place entries = rw (one_is, two_is) (head_is (decimal place) (decimal (length entries)))

end_is : (entries digest : List ℕ)
    → codes "; end " ++ line (entries ++ codes " sha256 " ++ digest) ≡ line (end_front ++ (entries ++ (codes " sha256 " ++ digest)))
end_is entries digest = grind (arith, common_steps)

pub text_is : (place : ℕ) (entries : List Entry) → dump_text (extent_of place entries) (entry_rows 1 entries) ≡ text_of_dump (book_dump place entries)
text_is place entries =
    let head = line (head_text (book_dump place entries).head) in
    let body = flat_map part_text (parts_from 1 entries) in
    let end = book_end place entries in
    ap (λ t. (t ++ journal_text (entry_rows 1 entries)) ++ dump_end (digest_of (extent_of place entries) (entry_rows 1 entries))) (head_text_is place entries)
    ∙ ap (λ t. (head ++ t) ++ dump_end (digest_of (extent_of place entries) (entry_rows 1 entries))) (entries_are 1 entries)
    ∙ ap (λ t. (head ++ body) ++ t) (end_is (decimal end.entries) (encode_lower end.digest))
    ∙ append_assoc head body (line (end_text end))

pub restored : (asked : Terms) (place : ℕ) (entries : List Entry) → asked.without ≡ [] → CanBeDumped 1 entries → IsHead (book_dump place entries).head
    → IsBookIn (After place) entries → place ≤ length entries
    → (it : JudgedDump asked (Some (dump_text (extent_of place entries) (entry_rows 1 entries)))) (book : List Entry) → IsBookOf asked it book
    → GivesBack asked it place entries book
restored asked place entries none can head book within =
    subst (λ (text : List ℕ). (it : JudgedDump asked (Some text)) (made : List Entry) → IsBookOf asked it made → GivesBack asked it place entries made)
    (sym (text_is place entries))
    (λ it made is. gives_back asked place entries (book_end place entries) none can head (head.1, length-sha256 _, are_bytes _) book within it made is)

-- ---- and is taken

body_is : (place : ℕ) (entries : List Entry) → dump_body (extent_of place entries) (entry_rows 1 entries) ≡ text_above_end (book_dump place entries)
body_is place entries =
    ap (λ t. t ++ journal_text (entry_rows 1 entries)) (head_text_is place entries)
    ∙ ap (λ t. line (head_text (book_dump place entries).head) ++ t) (entries_are 1 entries)

unchanged : (place : ℕ) (entries : List Entry) → IsUnchanged (book_dump place entries)
unchanged place entries = (ap sha256 (body_is place entries), sym (as_many 1 entries), sym (as_many 1 entries))

module _ (asked : Terms) (s : State) (entries : List Entry) (stands : Stands s entries) (none : asked.without ≡ []) (blanks : HaveNoBlanks entries)
    (input : Reading) (is : input.bytes ≡ Some (dump_text (extent_of stands.stand.place entries) (entry_rows 1 entries))) where
  abbrev place : ℕ
  place = stands.stand.place

  abbrev end : End
  end = book_end place entries

  can : CanBeDumped 1 entries
  can = can_be_dumped stands.tables entries stands.stand blanks

  head : IsHead (book_dump place entries).head
  head = head_fits stands.tables entries stands.stand end

  is_end : IsEnd end
  is_end = (head.1, length-sha256 _, are_bytes _)

  same : input.bytes ≡ Some (text_of_dump (book_dump place entries))
  same = is ∙ ap Some (text_is place entries)

  pub taken : (old new : State) (before written : Option (List ℕ)) (calls : WritesMade) (told : Told)
      → RestoresBook asked input old new before written calls told → TakesDump place entries asked input old new before written calls told
  taken old new before written calls told (inl it) =
      inl (
        it,
        given_back asked place entries end can head is_end none stands.stand.judged stands.stand.placed before it.mid old new it.how
            (subst (λ b. RestoresDump asked b before it.mid old new it.how) same it.restores),
      )
  taken old new before written calls told (inr (fault, it)) =
      inr (
        fault,
        it,
        may_end asked place entries end can head is_end (unchanged place entries) old new it.between fault
            (subst (λ b. Fails asked b old new it.between fault) same it.fails),
      )

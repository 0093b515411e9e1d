-- Each label is a note.
use Rattle.std.proofs.Common.{◌≡◌, ℕ, Bool, true, false, List, [], ◌∷◌, length, refl, arith}
use Rattle.std.specs.Prelude.{nat_le, not, ◌&&◌, ◌||◌, ◌==◌}
use Rattle.std.specs.Char.{is_ascii_control}
use Rattle.std.specs.List.{list_all}
use Rattle.std.proofs.lemmas.Bool.{and_from, and_parts}
use Rattle.std.proofs.lemmas.Bool.Decides.{nat_tests}
use Rattle.lot_base.specs.Name.{is_label, is_label_byte, is_note, is_note_byte, longest_label, longest_note}

note_byte : (control quoted tab : Bool) → not (control || quoted) ≡ true → (tab || not control) ≡ true
note_byte true quoted tab h = cc
note_byte false quoted true h = refl
note_byte false quoted false h = refl

note_bytes : (text : List ℕ) → list_all is_label_byte text ≡ true → list_all is_note_byte text ≡ true
note_bytes [] h = refl
note_bytes (b ∷ bs) h =
    let parts = and_parts (is_label_byte b) (list_all is_label_byte bs) h in
    and_from (is_note_byte b) (list_all is_note_byte bs)
    (note_byte (is_ascii_control b) ((b == 34) || (b == 92)) (b == 9) parts.0)
    (note_bytes bs parts.1)

short : (n : ℕ) → nat_le n longest_label ≡ true → nat_le n longest_note ≡ true
short n h = grind (arith, nat_tests)

pub label_is_note : (text : List ℕ) → is_label text ≡ true → is_note text ≡ true
unfolding is_label is_note
label_is_note text h =
    let parts = and_parts (nat_le 1 (length text) && nat_le (length text) longest_label) (list_all is_label_byte text) h in
    let lengths = and_parts (nat_le 1 (length text)) (nat_le (length text) longest_label) parts.0 in
    and_from (nat_le (length text) longest_note) (list_all is_note_byte text) (short (length text) lengths.1) (note_bytes text parts.1)

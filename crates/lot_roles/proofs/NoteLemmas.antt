-- What is written is a note.
use Rattle.std.proofs.Common.{◌≡◌, ℕ, zero, suc, ◌<◌, ◌≤◌, Bool, true, false, cond, List, [], ◌∷◌, length, take, map, refl, arith}
use Rattle.std.specs.Prelude.{◌&&◌, nat_le, slice_index}
use Rattle.std.specs.List.{list_all}
use Rattle.std.proofs.lemmas.Bool.{and_parts}
use Rattle.std.proofs.lemmas.Bool.Decides.{nat_tests}
use Rattle.std.proofs.lemmas.List.{length-take}
use Rattle.lot_base.specs.Name.{is_note, is_note_byte, longest_note}
use Rattle.lot_roles.specs.Narration.{character_place, cut_to_note, is_first_byte, written_byte}

le_true : (a b : ℕ) → a ≤ b → nat_le a b ≡ true
le_true a b le = grind (arith, nat_tests)

written_good : (byte : ℕ) (good : Bool) → is_note_byte byte ≡ good → is_note_byte (cond good byte 32) ≡ true
written_good byte true e = e
written_good byte false e = refl

written_bytes : (text : List ℕ) → list_all is_note_byte (map written_byte text) ≡ true
written_bytes [] = refl
written_bytes (byte ∷ text) = rw (written_good byte (is_note_byte byte) refl) (written_bytes text)

first_bytes : (n : ℕ) (text : List ℕ) → list_all is_note_byte text ≡ true → list_all is_note_byte (take n text) ≡ true
first_bytes zero text e = refl
first_bytes (suc n) [] e = refl
first_bytes (suc n) (byte ∷ text) e =
    let both = and_parts (is_note_byte byte) (list_all is_note_byte text) e in
    rw both.0 (first_bytes n text both.1)

place_by : (text : List ℕ) (place : ℕ) (first : Bool) → character_place text place ≤ place → cond first (suc place) (character_place text place) ≤ suc place
place_by text place true le = omega arith
place_by text place false le = omega (arith, le)

place_most : (text : List ℕ) (place : ℕ) → character_place text place ≤ place
place_most text zero = omega arith
place_most text (suc place) = place_by text place (is_first_byte (slice_index text (suc place))) (place_most text place)

pub cut_short : (text : List ℕ) → length text ≤ 1000 → cut_to_note text ≡ text
cut_short text few =
    let short : nat_le (length text) 1000 ≡ true = grind (arith, nat_tests) in
    rw short refl

pub cut_long : (text : List ℕ) → 1000 < length text → cut_to_note text ≡ take (character_place text 1000) text
cut_long text many =
    let long : nat_le (length text) 1000 ≡ false = grind (arith, nat_tests) in
    rw long refl

note_by : (text : List ℕ) (short : Bool) → nat_le (length text) longest_note ≡ short → list_all is_note_byte text ≡ true
    → (nat_le (length (cond short text (take (character_place text longest_note) text))) longest_note
    && list_all is_note_byte (cond short text (take (character_place text longest_note) text))) ≡ true
note_by text true e good = rw e good
note_by text false e good =
    let most = place_most text longest_note in
    let few : length (take (character_place text longest_note) text) ≤ longest_note = omega (arith, most, length-take (character_place text longest_note) text) in
    let short : nat_le (length (take (character_place text longest_note) text)) longest_note ≡ true = le_true _ _ few in
    rw short (first_bytes (character_place text longest_note) text good)

pub is_written : (text : List ℕ) → is_note (cut_to_note (map written_byte text)) ≡ true
unfolding is_note
is_written text = note_by (map written_byte text) (nat_le (length (map written_byte text)) longest_note) refl (written_bytes text)

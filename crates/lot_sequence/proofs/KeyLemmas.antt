-- Keys: one more row, and the digits of a digest.
use Rattle.std.specs.Prelude.{◌≡◌, ℕ, zero, suc, ◌+◌, ◌*◌, ◌/◌, ◌%◌, ◌<◌, ◌≤◌, Bool, true, false, ◌&&◌, cond, nat_le, List, [], ◌∷◌, ◌++◌, length, map, take, slice_index}
use Rattle.std.specs.List.{count_by, list_all}
use Rattle.std.proofs.Common.{arith, ap, append_assoc, append-nil, get_or, refl, sym, ◌∙◌}
use Rattle.std.proofs.lemmas.Bool.Decides.{nat_tests}
use Rattle.std.proofs.lemmas.List.{map-append, take_more}
use Rattle.std.proofs.lemmas.List.Folds.{list_all_at}
use Rattle.std.proofs.lemmas.List.Sums.{sum_by-append}
use Rattle.hex.specs.Hex.{encode_lower, encode_with, lower_digits}
use Rattle.hex.proofs.HexLemmas.{length-encode_with}
use Rattle.lot_base.specs.Name.{is_label, is_label_byte}
use Rattle.lot_sequence.specs.Key.{Said, as_key, full_key, full_key_of, is_same, keys_behind, keys_of, occurrence, said}
use Rattle.lot_sequence.specs.declared.row.Row.{Row}

-- ---- one more row

pub keys_more : (before rows : List Said) (row : Said)
    → keys_behind before (rows ++ row ∷ []) ≡ keys_behind before rows ++ as_key (full_key_of (before ++ rows) row) ∷ []
keys_more before [] row = ap (λ all. as_key (full_key_of all row) ∷ []) (sym (append-nil before))
keys_more before (first ∷ rows) row =
    ap (λ keys. as_key (full_key_of before first) ∷ keys)
    (keys_more (before ++ first ∷ []) rows row
    ∙ ap (λ all. keys_behind (before ++ first ∷ []) rows ++ as_key (full_key_of all row) ∷ []) (append_assoc before (first ∷ []) rows))

pub said_more : (rows : List Row) (place : ℕ) (row : Row) → place < length rows → row ≡ get_or rows place row
    → map said (take (place + 1) rows) ≡ map said (take place rows) ++ said row ∷ []
said_more rows place row within is =
    ap (λ (taken : List Row). map said taken) (take_more rows place row within)
    ∙ map-append said (take place rows) (get_or rows place row ∷ [])
    ∙ ap (λ (one : Row). map said (take place rows) ++ said one ∷ []) (sym is)

pub keys_step : (before : List Said) (row : Said) (number : ℕ) (keys all : List (List ℕ)) (key : List ℕ) → keys ≡ keys_of before
    → number ≡ occurrence before row → key ≡ as_key (full_key row.0 number row.1) → all ≡ keys ++ key ∷ [] → all ≡ keys_of (before ++ row ∷ [])
keys_step before row number keys all key were counted is pushed =
    pushed
    ∙ ap (λ (ks : List (List ℕ)). ks ++ key ∷ []) were
    ∙ ap (λ (k : List ℕ). keys_of before ++ k ∷ []) (is ∙ ap (λ (n : ℕ). as_key (full_key row.0 n row.1)) counted)
    ∙ sym (keys_more [] before row)

added : (b : Bool) (n : ℕ) → cond b (n + 1) n ≡ n + (0 + cond b 1 0)
added true n = omega arith
added false n = omega arith

pub counts_step : (before : List Said) (row other : Said) (old new : ℕ) → old ≡ count_by (λ one. is_same one other) before
    → new ≡ cond (is_same row other) (old + 1) old → new ≡ count_by (λ one. is_same one other) (before ++ row ∷ [])
counts_step before row other old new was is =
    is
    ∙ added (is_same row other) old
    ∙ ap (λ (n : ℕ). n + (0 + cond (is_same row other) 1 0)) was
    ∙ sym (sum_by-append (λ one. cond (is_same one other) 1 0) before (row ∷ []))

-- ---- digits

take_nothing : (count : ℕ) → take {A = ℕ} count [] ≡ []
take_nothing zero = refl
take_nothing (suc count) = refl

-- the digits of the first bytes are the first digits
pub first_digits : (table bytes : List ℕ) (count : ℕ) → take (2 * count) (encode_with table bytes) ≡ encode_with table (take count bytes)
unfolding encode_with
first_digits table bytes zero = refl
first_digits table [] (suc count) = take_nothing (2 * suc count)
first_digits table (byte ∷ bytes) (suc count) =
    let more = first_digits table bytes count in
    let twice : 2 * suc count ≡ suc (suc (2 * count)) = omega arith in
    rw twice (ap (λ digits. slice_index table (byte / 16) ∷ slice_index table (byte % 16) ∷ digits) more)

true_of : (b : Bool) → (b ≡ false → ⊥) → b ≡ true
true_of true h = refl
true_of false h = absurd (h refl)

digit_passes : (place : ℕ) → place < 16 → is_label_byte (slice_index lower_digits place) ≡ true
digit_passes place within =
    true_of (is_label_byte (slice_index lower_digits place)) (λ fails.
    let none : true ≡ false = list_all_at is_label_byte lower_digits place 0 within fails in cc)

digits_pass : (bytes : List ℕ) → ((place : ℕ) → get_or bytes place 0 < 256) → list_all is_label_byte (encode_with lower_digits bytes) ≡ true
unfolding encode_with
digits_pass [] small = refl
digits_pass (byte ∷ bytes) small =
    let below : byte < 256 = small 0 in
    let high = digit_passes (byte / 16) (omega arith) in
    let low = digit_passes (byte % 16) (omega arith) in
    let more = digits_pass bytes (λ place. small (suc place)) in
    λ i. high i && (low i && more i)

pub small_taken : (count : ℕ) (bytes : List ℕ) → ((place : ℕ) → get_or bytes place 0 < 256) → (place : ℕ) → get_or (take count bytes) place 0 < 256
small_taken zero bytes small place = omega arith
small_taken (suc count) [] small place = omega arith
small_taken (suc count) (byte ∷ bytes) small zero = small 0
small_taken (suc count) (byte ∷ bytes) small (suc place) = small_taken count bytes (λ at. small (suc at)) place

-- the digits of some bytes are a label
pub digits_are_label : (bytes : List ℕ) → 1 ≤ length bytes → length bytes ≤ 32 → ((place : ℕ) → get_or bytes place 0 < 256)
    → is_label (encode_lower bytes) ≡ true
unfolding is_label
digits_are_label bytes some few small =
    let twice = length-encode_with lower_digits bytes in
    let least : nat_le 1 (length (encode_lower bytes)) ≡ true = grind (arith, nat_tests, twice) in
    let most : nat_le (length (encode_lower bytes)) 64 ≡ true = grind (arith, nat_tests, twice) in
    let all = digits_pass bytes small in
    λ i. (least i && most i) && all i

-- Texts with blanks between them, and what stands before another text.
use Rattle.std.proofs.Common.{◌≡◌, ℕ, zero, suc, ◌+◌, ◌/◌, ◌%◌, ◌<◌, ◌≤◌, Bool, true, false, cond, eqb, ltb, List, [], ◌∷◌, ◌++◌, length, take, drop, map, refl, ap, arith}
use Rattle.std.specs.Char.{encode_utf8}
use Rattle.std.specs.List.{join_by, join_with_byte, starts_with}
use Rattle.std.specs.Str.Pattern.{LacksTextAt}
use Rattle.std.proofs.lemmas.Bool.Decides.{Decides-eqb, nat_tests}
use Rattle.std.proofs.lemmas.List.{append-nil}
use Rattle.std.proofs.lemmas.Slice.Eq.{starts_is}
use Rattle.lot_base.specs.Name.{is_note_byte}
use Rattle.lot_roles.specs.Narration.{written_byte}
use Rattle.lot_roles.specs.Parts.{up_to}
use denote.Ref.{Bor}

-- ---- Blanks between texts.

pub join_bytes : (parts : List (Bor (List ℕ))) → join_by (λ (p : Bor (List ℕ)). p.now) (32 ∷ []) parts ≡ join_with_byte 32 (map (λ (p : Bor (List ℕ)). p.now) parts)
join_bytes [] = refl
join_bytes (x ∷ []) = append-nil x.now
join_bytes (x ∷ y ∷ xs) = ap (λ (rest : List ℕ). x.now ++ 32 ∷ rest) (join_bytes (y ∷ xs))

-- ---- What stands before a text.

lacks_by : (until s : List ℕ) (r : Bool) → r ≡ starts_with eqb s until → LacksTextAt until s 0 → r ≡ false
lacks_by until s true e lacks = absurd (lacks (drop (length until) s) ((starts_is Decides-eqb s until true e).0 refl))
lacks_by until s false e lacks = refl

lacks_start : (until s : List ℕ) → LacksTextAt until s 0 → starts_with eqb s until ≡ false
lacks_start until s lacks = lacks_by until s (starts_with eqb s until) refl lacks

-- it stands nowhere
pub up_to_all : (until s : List ℕ) → ((i : ℕ) → i ≤ length s → LacksTextAt until s i) → up_to until s ≡ s
up_to_all until [] lacks = refl
up_to_all until (b ∷ s) lacks =
    let no = lacks_start until (b ∷ s) (lacks 0 (omega arith)) in
    rw no (ap (λ (rest : List ℕ). b ∷ rest) (up_to_all until s (λ i le. lacks (suc i) (omega (arith, le)))))

-- it stands at a place, and at none before that
pub up_to_at : (until s : List ℕ) (i : ℕ) (behind : List ℕ) → ((k : ℕ) → k < i → LacksTextAt until s k) → drop i s ≡ until ++ behind
    → up_to until s ≡ take i s
up_to_at until [] zero behind lacks is = refl
up_to_at until [] (suc i) behind lacks is = refl
up_to_at until (b ∷ s) zero behind lacks is =
    let so : starts_with eqb (b ∷ s) until ≡ true = (starts_is Decides-eqb (b ∷ s) until (starts_with eqb (b ∷ s) until) refl).1 behind is in
    rw so refl
up_to_at until (b ∷ s) (suc i) behind lacks is =
    let no = lacks_start until (b ∷ s) (lacks 0 (omega arith)) in
    rw no (ap (λ (rest : List ℕ). b ∷ rest) (up_to_at until s i behind (λ k less. lacks (suc k) (omega (arith, less))) is))

-- ---- Control bytes.

-- a byte that may stand in a note is written as it is
pub note_byte : (byte : ℕ) → is_note_byte byte ≡ true → written_byte byte ≡ byte
note_byte byte good = rw good refl

high_byte : (byte : ℕ) → 128 ≤ byte → written_byte byte ≡ byte
high_byte byte high = note_byte byte (grind (arith, nat_tests))

abbrev IsPlain : List ℕ → Type 0
IsPlain bytes = map written_byte bytes ≡ bytes

behind : (byte : ℕ) (bytes : List ℕ) → 128 ≤ byte → IsPlain bytes → IsPlain (byte ∷ bytes)
behind byte bytes high plain = rw (high_byte byte high) (ap (λ rest. byte ∷ rest) plain)

either : (b : Bool) (xs ys : List ℕ) → IsPlain xs → IsPlain ys → IsPlain (cond b xs ys)
either true xs ys x y = x
either false xs ys x y = y

high : (byte : ℕ) → 128 ≤ 128 + byte
high byte = omega arith

-- so is a character that isn't a control byte
pub written_plain : (c : ℕ) → is_note_byte c ≡ true → map written_byte (encode_utf8 c) ≡ encode_utf8 c
unfolding encode_utf8
written_plain c good =
    let last : IsPlain ((128 + c % 64) ∷ []) = behind _ [] (high (c % 64)) refl in
    let third : IsPlain ((128 + c / 64 % 64) ∷ (128 + c % 64) ∷ []) = behind _ _ (high (c / 64 % 64)) last in
    let second : IsPlain ((128 + c / 4096 % 64) ∷ (128 + c / 64 % 64) ∷ (128 + c % 64) ∷ []) =
    behind _ _ (high (c / 4096 % 64)) third in
    either (ltb c 128) _ _ (rw (note_byte c good) refl)
    (either (ltb c 2048) _ _ (behind (192 + c / 64) _ (omega arith) last)
    (either (ltb c 65536) _ _ (behind (224 + c / 4096) _ (omega arith) third) (behind (240 + c / 262144) _ (omega arith) second)))

control : (c : ℕ) → is_note_byte c ≡ false → c < 128
control c bad = grind (arith, nat_tests)

small : (c : ℕ) → c < 128 → ltb c 128 ≡ true
small c less = grind (arith, nat_tests)

-- and a control byte is a blank
pub written_control : (c : ℕ) → is_note_byte c ≡ false → map written_byte (encode_utf8 c) ≡ 32 ∷ []
unfolding encode_utf8
written_control c bad = rw (small c (control c bad)) (rw bad refl)

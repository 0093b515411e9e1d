-- Texts joined from parts, and notes with their backslashes.
use Rattle.std.proofs.Common.{◌≡◌, ◌≢◌, ℕ, ◌+◌, ◌/◌, ◌%◌, ◌≤◌, Bool, true, false, cond, ltb, List, [], ◌∷◌, ◌++◌, map, refl, sym, ap, ◌∙◌, arith}
use Rattle.std.specs.Prelude.{Result, Ok, Err, IfOk}
use Rattle.std.specs.List.{join_by}
use Rattle.std.specs.Char.{encode_utf8}
use Rattle.std.proofs.lemmas.List.Folds.{flat_map-map}
use Rattle.std.proofs.lemmas.Bool.Decides.{nat_tests}
use Rattle.lot_command.specs.Canonical.{escaped, escaped_byte, joined}

-- ---- joined texts

join_by-map : {X : Type 0} (text : X → List ℕ) (separator : List ℕ) (xs : List X)
    → join_by text separator xs ≡ joined separator (map text xs)
join_by-map text separator [] = refl
join_by-map text separator (x ∷ xs) = ap (λ rest. text x ++ rest) (sym (flat_map-map (λ y. separator ++ y) text xs))

-- a call that joins texts of these parts
pub joins_parts : {X Y E : Type 0} (text : X → List ℕ) (bytes : Y → List ℕ) (separator : List ℕ) (xs : List X)
    (parts : List (List ℕ)) (result : Result Y E) → map text xs ≡ parts
    → IfOk result (λ y. bytes y ≡ join_by text separator xs) → IfOk result (λ y. bytes y ≡ joined separator parts)
joins_parts text bytes separator xs parts (Ok y) are is = is ∙ join_by-map text separator xs ∙ ap (joined separator) are
joins_parts text bytes separator xs parts (Err e) are is = tt

-- ---- escapes

plain_byte : (byte : ℕ) → byte ≢ 34 → byte ≢ 92 → escaped_byte byte ≡ byte ∷ []
plain_byte byte quote backslash = grind (arith, nat_tests)

high_byte : (byte : ℕ) → 128 ≤ byte → escaped_byte byte ≡ byte ∷ []
high_byte byte high = plain_byte byte (omega arith) (omega arith)

-- the bytes stand for themselves
abbrev IsPlain : List ℕ → Type 0
IsPlain bytes = escaped bytes ≡ bytes

behind : (byte : ℕ) (bytes : List ℕ) → 128 ≤ byte → IsPlain bytes → IsPlain (byte ∷ bytes)
behind byte bytes high plain = rw (high_byte byte high) (ap (λ rest. byte ∷ rest) plain)

either : (b : Bool) (xs ys : List ℕ) → IsPlain xs → IsPlain ys → IsPlain (cond b xs ys)
either true xs ys x y = x
either false xs ys x y = y

high : (byte : ℕ) → 128 ≤ 128 + byte
high byte = omega arith

pub escaped_plain : (c : ℕ) → c ≢ 34 → c ≢ 92 → escaped (encode_utf8 c) ≡ encode_utf8 c
unfolding encode_utf8
escaped_plain c quote backslash =
    let last : IsPlain ((128 + c % 64) ∷ []) = behind _ [] (high (c % 64)) refl in
    let third : IsPlain ((128 + c / 64 % 64) ∷ (128 + c % 64) ∷ []) = behind _ _ (high (c / 64 % 64)) last in
    let second : IsPlain ((128 + c / 4096 % 64) ∷ (128 + c / 64 % 64) ∷ (128 + c % 64) ∷ []) =
    behind _ _ (high (c / 4096 % 64)) third in
    either (ltb c 128) _ _ (rw (plain_byte c quote backslash) refl)
    (either (ltb c 2048) _ _ (behind (192 + c / 64) _ (omega arith) last)
    (either (ltb c 65536) _ _ (behind (224 + c / 4096) _ (omega arith) third) (behind (240 + c / 262144) _ (omega arith) second)))

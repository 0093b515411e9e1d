-- Of the characters only those with a reference have a byte that is written by one.
use Rattle.std.proofs.Common.{◌≡◌, ◌≢◌, ℕ, ◌+◌, ◌/◌, ◌%◌, Bool, true, false, cond, ltb, List, [], ◌∷◌, ap, refl, arith}
use Rattle.std.specs.Char.{encode_utf8}
use Rattle.std.proofs.lemmas.Bool.Decides.{nat_tests}
use Rattle.lot_html.specs.Text.{escaped, escaped_byte}

own_byte : (byte : ℕ) → byte ≢ 38 → byte ≢ 60 → byte ≢ 62 → byte ≢ 34 → byte ≢ 13 → escaped_byte byte ≡ byte ∷ []
own_byte byte ampersand less greater quote return = grind (arith, nat_tests)

-- the bytes stand for themselves
abbrev IsPlain : List ℕ → Type 0
IsPlain bytes = escaped bytes ≡ bytes

behind : (byte : ℕ) (bytes : List ℕ) → escaped_byte byte ≡ byte ∷ [] → IsPlain bytes → IsPlain (byte ∷ bytes)
behind byte bytes own plain = rw own (ap (λ rest. byte ∷ rest) plain)

either : (b : Bool) (xs ys : List ℕ) → IsPlain xs → IsPlain ys → IsPlain (cond b xs ys)
either true xs ys x y = x
either false xs ys x y = y

-- a byte above those of ASCII
high : (byte : ℕ) → escaped_byte (128 + byte) ≡ (128 + byte) ∷ []
high byte =
    own_byte (128 + byte) (λ is. absurd (omega (arith, is))) (λ is. absurd (omega (arith, is))) (λ is. absurd (omega (arith, is)))
    (λ is. absurd (omega (arith, is))) (λ is. absurd (omega (arith, is)))

two : (byte : ℕ) → escaped_byte (192 + byte) ≡ (192 + byte) ∷ []
two byte =
    own_byte (192 + byte) (λ is. absurd (omega (arith, is))) (λ is. absurd (omega (arith, is))) (λ is. absurd (omega (arith, is)))
    (λ is. absurd (omega (arith, is))) (λ is. absurd (omega (arith, is)))

three : (byte : ℕ) → escaped_byte (224 + byte) ≡ (224 + byte) ∷ []
three byte =
    own_byte (224 + byte) (λ is. absurd (omega (arith, is))) (λ is. absurd (omega (arith, is))) (λ is. absurd (omega (arith, is)))
    (λ is. absurd (omega (arith, is))) (λ is. absurd (omega (arith, is)))

four : (byte : ℕ) → escaped_byte (240 + byte) ≡ (240 + byte) ∷ []
four byte =
    own_byte (240 + byte) (λ is. absurd (omega (arith, is))) (λ is. absurd (omega (arith, is))) (λ is. absurd (omega (arith, is)))
    (λ is. absurd (omega (arith, is))) (λ is. absurd (omega (arith, is)))

pub escaped_plain : (c : ℕ) → c ≢ 38 → c ≢ 60 → c ≢ 62 → c ≢ 34 → c ≢ 13 → escaped (encode_utf8 c) ≡ encode_utf8 c
unfolding encode_utf8
escaped_plain c ampersand less greater quote return =
    let last : IsPlain ((128 + c % 64) ∷ []) = behind _ [] (high (c % 64)) refl in
    let third : IsPlain ((128 + c / 64 % 64) ∷ (128 + c % 64) ∷ []) = behind _ _ (high (c / 64 % 64)) last in
    let second : IsPlain ((128 + c / 4096 % 64) ∷ (128 + c / 64 % 64) ∷ (128 + c % 64) ∷ []) =
    behind _ _ (high (c / 4096 % 64)) third in
    either (ltb c 128) _ _ (behind c [] (own_byte c ampersand less greater quote return) refl)
    (either (ltb c 2048) _ _ (behind (192 + c / 64) _ (two (c / 64)) last)
    (either (ltb c 65536) _ _ (behind (224 + c / 4096) _ (three (c / 4096)) third)
    (behind (240 + c / 262144) _ (four (c / 262144)) second)))

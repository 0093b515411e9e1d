-- Texts with each of their quotes twice, and fields one behind another.
use Rattle.std.proofs.Common.{◌≡◌, ◌≢◌, ℕ, ◌+◌, ◌/◌, ◌%◌, Bool, true, false, cond, ltb, List, [], ◌∷◌, ◌++◌, append_assoc, refl, sym, ap, subst, ◌∙◌, arith}
use Rattle.std.specs.Prelude.{OnOk, Result}
use Rattle.std.specs.Char.{encode_utf8}
use Rattle.std.proofs.lemmas.Bool.Decides.{nat_tests}
use Rattle.std.proofs.lemmas.Grind.{flat_map-append}
use Rattle.lot_csv.specs.Record.{doubled, doubled_byte, field_text, others_text, record_text}

plain_byte : (byte : ℕ) → byte ≢ 34 → doubled_byte byte ≡ byte ∷ []
plain_byte byte quote = grind (arith, nat_tests)

-- the bytes stand for themselves
abbrev IsPlain : List ℕ → Type 0
IsPlain bytes = doubled bytes ≡ bytes

behind : (byte : ℕ) (bytes : List ℕ) → byte ≢ 34 → IsPlain bytes → IsPlain (byte ∷ bytes)
behind byte bytes quote plain = rw (plain_byte byte quote) (ap (λ rest. byte ∷ rest) plain)

either : (b : Bool) (xs ys : List ℕ) → IsPlain xs → IsPlain ys → IsPlain (cond b xs ys)
either true xs ys x y = x
either false xs ys x y = y

high : (byte : ℕ) → 128 + byte ≢ 34
high byte is = absurd (omega (arith, is))

-- of the characters only a quote has the byte of one
pub doubled_plain : (c : ℕ) → c ≢ 34 → doubled (encode_utf8 c) ≡ encode_utf8 c
unfolding encode_utf8
doubled_plain c quote =
    let last : IsPlain ((128 + c % 64) ∷ []) = behind _ [] (high (c % 64)) refl in
    let third : IsPlain ((128 + c / 64 % 64) ∷ (128 + c % 64) ∷ []) = behind _ _ (high (c / 64 % 64)) last in
    let second : IsPlain ((128 + c / 4096 % 64) ∷ (128 + c / 64 % 64) ∷ (128 + c % 64) ∷ []) =
    behind _ _ (high (c / 4096 % 64)) third in
    either (ltb c 128) _ _ (behind c [] quote refl)
    (either (ltb c 2048) _ _ (behind (192 + c / 64) _ (λ is. absurd (omega (arith, is))) last)
    (either (ltb c 65536) _ _ (behind (224 + c / 4096) _ (λ is. absurd (omega (arith, is))) third)
    (behind (240 + c / 262144) _ (λ is. absurd (omega (arith, is))) second)))

-- ---- fields behind a comma

-- the same fields
pub told_fields : {A E : Type 0} (result : Result A E) (new old : List ℕ) (fields others : List (List ℕ)) → fields ≡ others
    → OnOk result (new ≡ old ++ others_text fields) → OnOk result (new ≡ old ++ others_text others)
told_fields result new old fields others same held = subst (λ (fs : List (List ℕ)). OnOk result (new ≡ old ++ others_text fs)) same held

-- more fields
grown : (front old new : List ℕ) (fields more : List (List ℕ)) → old ≡ front ++ others_text fields → new ≡ old ++ others_text more
    → new ≡ front ++ others_text (fields ++ more)
grown front old new fields more was is =
    is
    ∙ ap (λ (text : List ℕ). text ++ others_text more) was
    ∙ append_assoc front (others_text fields) (others_text more)
    ∙ ap (λ (text : List ℕ). front ++ text) (sym (flat_map-append (λ (field : List ℕ). 44 ∷ field_text field) fields more))

-- the parts of a record of a sale, one behind another
pub one_record : (a b c d e f g : List ℕ) (entry posting account commodity : List ℕ) (taken cost gain term : List (List ℕ))
    → a ≡ field_text entry ++ others_text (posting ∷ []) → b ≡ a ++ others_text (account ∷ commodity ∷ []) → c ≡ b ++ others_text taken
    → d ≡ c ++ others_text cost → e ≡ d ++ others_text gain → f ≡ e ++ others_text term → g ≡ f ++ 10 ∷ []
    → g ≡ record_text (entry ∷ posting ∷ account ∷ commodity ∷ (taken ++ (cost ++ (gain ++ term))))
one_record a b c d e f g entry posting account commodity taken cost gain term one two three four five six end =
    let front = field_text entry in
    let second = grown front a b (posting ∷ []) (account ∷ commodity ∷ []) one two in
    let third = grown front b c (posting ∷ account ∷ commodity ∷ []) taken second three in
    let fourth = grown front c d (posting ∷ account ∷ commodity ∷ taken) cost third four in
    let fifth = grown front d e (posting ∷ account ∷ commodity ∷ (taken ++ cost)) gain fourth five in
    let sixth = grown front e f (posting ∷ account ∷ commodity ∷ ((taken ++ cost) ++ gain)) term fifth six in
    end
    ∙ ap (λ (text : List ℕ). text ++ 10 ∷ []) sixth
    ∙ append_assoc front (others_text (posting ∷ account ∷ commodity ∷ (((taken ++ cost) ++ gain) ++ term))) (10 ∷ [])
    ∙ ap (λ (fields : List (List ℕ)). front ++ (others_text (posting ∷ account ∷ commodity ∷ fields) ++ 10 ∷ []))
    (append_assoc (taken ++ cost) gain term ∙ append_assoc taken cost (gain ++ term))

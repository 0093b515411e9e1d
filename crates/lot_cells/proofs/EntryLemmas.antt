-- A command is written character by character, since no byte within one is a quote or a backslash.
use Rattle.std.specs.Prelude.{◌==◌, IfOk, Result, codes}
use Rattle.std.proofs.Common.{◌≡◌, ◌≢◌, ℕ, ◌+◌, ◌/◌, ◌%◌, ◌<◌, Bool, true, false, cond, ltb, List, [], ◌∷◌, ◌++◌, ap, refl, sym, subst, ◌∙◌, append-nil, append_assoc, inl, inr, arith}
use Rattle.std.specs.Char.{encode_utf8}
use Rattle.std.proofs.lemmas.Bool.{cases_Bool, eqb-true}
use Rattle.std.proofs.lemmas.Result.{IfOk-weaker}
use Rattle.lot_html.specs.Text.{escaped, escaped_byte}
use Rattle.lot_cells.specs.Entry.{GoesOn, Place, behind, byte_html, command_html, inside, next_place, outside, place_of}
use Rattle.lot_cells.specs.declared.entries.Place.{Place as PlaceOf}

-- a byte stands for itself, and the next one stands there
pub record Goes (place next : Place) (byte : ℕ) : Type 0 where
  pub html : byte_html place byte ≡ escaped (byte ∷ [])
  pub to : next_place place byte ≡ next

-- so do some bytes
abbrev pub IsSame : Place → Place → List ℕ → Type 0
IsSame place next bytes = (rest : List ℕ) → command_html place (bytes ++ rest) ≡ escaped bytes ++ command_html next rest

more : (place next last : Place) (byte : ℕ) (bytes : List ℕ) → Goes place next byte → IsSame next last bytes
    → IsSame place last (byte ∷ bytes)
more place next last byte bytes goes same rest =
    (λ i. goes.html i ++ command_html (goes.to i) (bytes ++ rest))
    ∙ ap (λ (t : List ℕ). escaped (byte ∷ []) ++ t) (same rest)
    ∙ ap (λ (t : List ℕ). t ++ (escaped bytes ++ command_html last rest)) (append-nil (escaped_byte byte))
    ∙ sym (append_assoc (escaped_byte byte) (escaped bytes) (command_html last rest))

isnt : (byte other : ℕ) → byte ≢ other → (byte == other) ≡ false
isnt byte other not = elim (cases_Bool (byte == other)) [
  | inl is ↦ absurd (not (eqb-true byte other is))
  | inr differs ↦ differs
]

pub goes_outside : (byte : ℕ) → byte ≢ 34 → Goes outside outside byte
goes_outside byte quote = record { html = rw (isnt byte 34 quote) refl; to = rw (isnt byte 34 quote) refl }

pub goes_inside : (byte : ℕ) → byte ≢ 34 → byte ≢ 92 → Goes inside inside byte
goes_inside byte quote backslash = record {
  html = rw (isnt byte 34 quote) refl;
  to = rw (isnt byte 34 quote, isnt byte 92 backslash) refl;
}

goes_behind : (byte : ℕ) → Goes behind inside byte
goes_behind byte = record { html = refl; to = refl }

high_inside : (byte : ℕ) → 127 < byte → Goes inside inside byte
high_inside byte high = goes_inside byte (λ is. absurd (omega (arith, is))) (λ is. absurd (omega (arith, is)))

high_outside : (byte : ℕ) → 127 < byte → Goes outside outside byte
high_outside byte high = goes_outside byte (λ is. absurd (omega (arith, is)))

either : (place last : Place) (b : Bool) (xs ys : List ℕ) → IsSame place last xs → IsSame place last ys → IsSame place last (cond b xs ys)
either place last true xs ys x y = x
either place last false xs ys x y = y

-- a character stands for itself where its byte does, if it is one of ASCII
character : (place next : Place) (c : ℕ) → ((byte : ℕ) → 127 < byte → Goes place next byte)
    → ((byte : ℕ) → 127 < byte → Goes next next byte) → Goes place next c → IsSame place next (encode_utf8 c)
unfolding encode_utf8
character place next c first later ascii =
    let none : IsSame next next [] = λ rest. refl in
    let last : IsSame next next ((128 + c % 64) ∷ []) = more next next next (128 + c % 64) [] (later (128 + c % 64) (omega arith)) none in
    let third : IsSame next next ((128 + c / 64 % 64) ∷ (128 + c % 64) ∷ []) =
    more next next next (128 + c / 64 % 64) ((128 + c % 64) ∷ []) (later (128 + c / 64 % 64) (omega arith)) last in
    let second : IsSame next next ((128 + c / 4096 % 64) ∷ (128 + c / 64 % 64) ∷ (128 + c % 64) ∷ []) =
    more next next next (128 + c / 4096 % 64) ((128 + c / 64 % 64) ∷ (128 + c % 64) ∷ []) (later (128 + c / 4096 % 64) (omega arith)) third in
    either place next (ltb c 128) _ _ (more place next next c [] ascii none)
    (either place next (ltb c 2048) _ _ (more place next next (192 + c / 64) ((128 + c % 64) ∷ []) (first (192 + c / 64) (omega arith)) last)
    (either place next (ltb c 65536) _ _ (more place next next (224 + c / 4096) ((128 + c / 64 % 64) ∷ (128 + c % 64) ∷ []) (first (224 + c / 4096) (omega arith)) third)
    (more place next next (240 + c / 262144) ((128 + c / 4096 % 64) ∷ (128 + c / 64 % 64) ∷ (128 + c % 64) ∷ [])
    (first (240 + c / 262144) (omega arith)) second)))

pub same_outside : (c : ℕ) → c ≢ 34 → IsSame outside outside (encode_utf8 c)
same_outside c quote = character outside outside c high_outside high_outside (goes_outside c quote)

pub same_inside : (c : ℕ) → c ≢ 34 → c ≢ 92 → IsSame inside inside (encode_utf8 c)
same_inside c quote backslash = character inside inside c high_inside high_inside (goes_inside c quote backslash)

pub same_behind : (c : ℕ) → IsSame behind inside (encode_utf8 c)
same_behind c = character behind inside c (λ byte high. goes_behind byte) high_inside (goes_behind c)

pub same_backslash : IsSame inside behind (encode_utf8 92)
unfolding encode_utf8
same_backslash = more inside behind behind 92 [] (record { html = refl; to = refl }) (λ rest. refl)

pub written : (old new bytes : List ℕ) (place next : Place) → IsSame place next bytes → new ≡ old ++ escaped bytes
    → GoesOn old place bytes new next
written old new bytes place next same is rest =
    ap (λ (t : List ℕ). t ++ command_html next rest) is
    ∙ append_assoc old (escaped bytes) (command_html next rest)
    ∙ ap (λ (t : List ℕ). old ++ t) (sym (same rest))

pub opened : (old new : List ℕ) → new ≡ old ++ codes "&quot;<bdi>" → GoesOn old outside (encode_utf8 34) new inside
unfolding encode_utf8
opened old new is rest =
    ap (λ (t : List ℕ). t ++ command_html inside rest) is ∙ append_assoc old (codes "&quot;<bdi>") (command_html inside rest)

pub closed : (old new : List ℕ) → new ≡ old ++ codes "</bdi>&quot;" → GoesOn old inside (encode_utf8 34) new outside
unfolding encode_utf8
closed old new is rest =
    ap (λ (t : List ℕ). t ++ command_html outside rest) is ∙ append_assoc old (codes "</bdi>&quot;") (command_html outside rest)

-- a character that stands for itself
pub stays : {E : Type 0} (result : Result PlaceOf E) (old new bytes : List ℕ) (place : Place) (next : PlaceOf) → IsSame place (place_of next) bytes
    → IfOk result (λ now. (now ≡ next) × (new ≡ old ++ escaped bytes)) → IfOk result (λ now. GoesOn old place bytes new (place_of now))
stays result old new bytes place next same was =
    IfOk-weaker result (λ now. (now ≡ next) × (new ≡ old ++ escaped bytes)) (λ now. GoesOn old place bytes new (place_of now))
    (λ now is. subst (λ other. GoesOn old place bytes new (place_of other)) (sym is.0) (written old new bytes place (place_of next) same is.1)) was

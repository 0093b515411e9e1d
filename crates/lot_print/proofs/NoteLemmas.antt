-- Notes and labels in quotes: each quote and each backslash has a backslash before it.
use Rattle.std.proofs.Common.{◌≡◌, ℕ, ◌+◌, ◌*◌, ◌≤◌, Bool, true, false, cond, ◌||◌, List, [], ◌∷◌, ◌++◌, length, refl, ap, ◌∙◌, sym, subst, arith, eqb}
use Rattle.std.specs.Prelude.{IsUtf8}
use Rattle.std.specs.List.{list_all}
use Rattle.std.specs.Char.{encode_utf8}
use Rattle.std.specs.Str.{encode_utf8_all, all_scalars}
use Rattle.std.proofs.lemmas.Bool.{and_parts, and_from, eqb-true, eqb-false, leb-true}
use Rattle.std.proofs.lemmas.Bool.Decides.{nat_tests}
use Rattle.std.proofs.lemmas.Grind.{flat_map-append}
use Rattle.std.proofs.lemmas.List.{append-nil}
use Rattle.std.proofs.lemmas.Str.{IsUtf8-append, IsUtf8-nil}
use Rattle.lot_base.specs.Name.{is_label, is_label_byte, is_note, is_note_byte, longest_label, longest_note}
use Rattle.lot_cost.specs.Method.{word_of}
use Rattle.lot_cost.specs.declared.method.Method.{Method}
use Rattle.lot_cost.specs.declared.method.Method.TheVariants.{Strict, Fifo, Lifo, Hifo, Unmatched}
use Rattle.lot_command.specs.Canonical.{escaped, escaped_byte, in_quotes, quoted}
use Rattle.lot_command.proofs.CanonicalLemmas.{escaped_plain}
use Rattle.lot_syntax.specs.Token.{Stands, text}
use Rattle.lot_print.proofs.ListLemmas.{all_pass}
use Rattle.lot_print.proofs.PieceLemmas.{IsPiece, both_pieces, printed}

-- ---- Texts that need no backslash.

label_byte_is : (b : ℕ) → is_label_byte b ≡ true → escaped_byte b ≡ b ∷ []
label_byte_is b e = grind (arith, nat_tests)

as_written : (bytes : List ℕ) → list_all is_label_byte bytes ≡ true → bytes ≡ escaped bytes
as_written [] all = refl
as_written (b ∷ bytes) all =
    let parts = and_parts (is_label_byte b) (list_all is_label_byte bytes) all in
    ap (λ xs. b ∷ xs) (as_written bytes parts.1) ∙ ap (λ xs. xs ++ escaped bytes) (sym (label_byte_is b parts.0))

label_byte_note : (b : ℕ) → is_label_byte b ≡ true → is_note_byte b ≡ true
label_byte_note b e = grind (arith, nat_tests)

label_bytes : (label : List ℕ) → is_label label ≡ true → list_all is_label_byte label ≡ true
unfolding is_label
label_bytes label h = (and_parts _ _ h).1

label_length : (label : List ℕ) → is_label label ≡ true → length label ≤ longest_label
unfolding is_label
label_length label h = leb-true (length label) longest_label (and_parts _ _ (and_parts _ _ h).0).1

note_bytes : (note : List ℕ) → is_note note ≡ true → list_all is_note_byte note ≡ true
unfolding is_note
note_bytes note h = (and_parts _ _ h).1

note_length : (note : List ℕ) → is_note note ≡ true → length note ≤ longest_note
unfolding is_note
note_length note h = leb-true (length note) longest_note (and_parts _ _ h).0

method_bytes : (method : Method) → list_all is_label_byte (word_of method) ≡ true
method_bytes Strict = refl
method_bytes Fifo = refl
method_bytes Lifo = refl
method_bytes Hifo = refl
method_bytes Unmatched = refl

-- ---- Texts stand.

plain_stands : (bytes rest : List ℕ) → list_all is_label_byte bytes ≡ true → Stands (text bytes) rest
plain_stands bytes rest all = (bytes, all_pass is_label_byte is_note_byte label_byte_note bytes all, as_written bytes all)

pub note_stands : (note rest : List ℕ) → is_note note ≡ true → Stands (text (escaped note)) rest
note_stands note rest h = (note, note_bytes note h, refl)

pub label_escaped : (label : List ℕ) → is_label label ≡ true → label ≡ escaped label
label_escaped label h = as_written label (label_bytes label h)

pub label_stands : (label rest : List ℕ) → is_label label ≡ true → Stands (text label) rest
label_stands label rest h = plain_stands label rest (label_bytes label h)

pub method_stands : (method : Method) (rest : List ℕ) → Stands (text (word_of method)) rest
method_stands method rest = plain_stands (word_of method) rest (method_bytes method)

-- ---- Pieces.

escaped_length : (note : List ℕ) → length (escaped note) ≤ 2 * length note
escaped_length [] = omega arith
escaped_length (b ∷ note) = by (eqb b 34 || eqb b 92) (escaped_length note)
  where
    by : (escapes : Bool) → length (escaped note) ≤ 2 * length note
        → length (cond escapes (92 ∷ b ∷ []) (b ∷ []) ++ escaped note) ≤ 2 * length (b ∷ note)
    by true le = omega arith
    by false le = omega arith

escaped_byte_note : (b : ℕ) (rest : List ℕ) → is_note_byte b ≡ true → list_all is_note_byte rest ≡ true
    → list_all is_note_byte (escaped_byte b ++ rest) ≡ true
escaped_byte_note b rest e more = by (eqb b 34 || eqb b 92)
  where
    by : (escapes : Bool) → list_all is_note_byte (cond escapes (92 ∷ b ∷ []) (b ∷ []) ++ rest) ≡ true
    by true = and_from _ _ refl (and_from _ _ e more)
    by false = and_from _ _ e more

escaped_note : (note : List ℕ) → list_all is_note_byte note ≡ true → list_all is_note_byte (escaped note) ≡ true
escaped_note [] all = refl
escaped_note (b ∷ note) all =
    let parts = and_parts (is_note_byte b) (list_all is_note_byte note) all in
    escaped_byte_note b (escaped note) parts.0 (escaped_note note parts.1)

quote_utf8 : IsUtf8 (escaped (encode_utf8 34))
unfolding encode_utf8
quote_utf8 = (92 ∷ 34 ∷ [], (refl, refl))

backslash_utf8 : IsUtf8 (escaped (encode_utf8 92))
unfolding encode_utf8
backslash_utf8 = (92 ∷ 92 ∷ [], (refl, refl))

-- a character of a note is UTF-8 with its backslash, too
char_utf8 : (c : ℕ) → all_scalars (c ∷ []) ≡ true → IsUtf8 (escaped (encode_utf8 c))
char_utf8 c good = quote (eqb c 34) refl
  where
    whole : escaped (encode_utf8 c) ≡ encode_utf8 c → IsUtf8 (escaped (encode_utf8 c))
    whole e = subst IsUtf8 (sym e) (c ∷ [], (good, append-nil (encode_utf8 c)))

    backslash : (is : Bool) → eqb c 92 ≡ is → (c ≡ 34 → ⊥) → IsUtf8 (escaped (encode_utf8 c))
    backslash true e other = subst (λ (x : ℕ). IsUtf8 (escaped (encode_utf8 x))) (sym (eqb-true c 92 e)) backslash_utf8
    backslash false e other = whole (escaped_plain c other (eqb-false c 92 e))

    quote : (is : Bool) → eqb c 34 ≡ is → IsUtf8 (escaped (encode_utf8 c))
    quote true e = subst (λ (x : ℕ). IsUtf8 (escaped (encode_utf8 x))) (sym (eqb-true c 34 e)) quote_utf8
    quote false e = backslash (eqb c 92) refl (eqb-false c 34 e)

chars_utf8 : (cs : List ℕ) → all_scalars cs ≡ true → IsUtf8 (escaped (encode_utf8_all cs))
chars_utf8 [] good = IsUtf8-nil
chars_utf8 (c ∷ cs) good =
    let parts = and_parts _ (all_scalars cs) good in
    subst IsUtf8 (sym (flat_map-append escaped_byte (encode_utf8 c) (encode_utf8_all cs)))
    (IsUtf8-append (escaped (encode_utf8 c)) (escaped (encode_utf8_all cs)) (char_utf8 c (and_from _ _ parts.0 refl))
    (chars_utf8 cs parts.1))

escaped_utf8 : (note : List ℕ) → IsUtf8 note → IsUtf8 (escaped note)
escaped_utf8 note (cs, (good, whole)) = subst (λ (xs : List ℕ). IsUtf8 (escaped xs)) whole (chars_utf8 cs good)

escaped_piece : (note : List ℕ) → is_note note ≡ true → IsUtf8 note → IsPiece (2 * longest_note) (escaped note)
escaped_piece note h u = record {
  plain = escaped_note note (note_bytes note h);
  utf8 = escaped_utf8 note u;
  short = omega (arith, escaped_length note, note_length note h);
}

quote_piece : IsPiece 1 (34 ∷ [])
quote_piece = printed 1 (34 ∷ []) refl (omega arith)

between_quotes : (most : ℕ) (within : List ℕ) → IsPiece most within → IsPiece (1 + (most + 1)) (in_quotes within)
between_quotes most within piece =
    both_pieces quote_piece (both_pieces piece quote_piece)

pub note_piece : (note : List ℕ) → is_note note ≡ true → IsUtf8 note → IsPiece (2 * longest_note + 2) (quoted note)
note_piece note h u = between_quotes (2 * longest_note) (escaped note) (escaped_piece note h u)

label_within : (label : List ℕ) → is_label label ≡ true → IsUtf8 label → IsPiece longest_label label
label_within label h u = record {
  plain = all_pass is_label_byte is_note_byte label_byte_note label (label_bytes label h);
  utf8 = u;
  short = label_length label h;
}

pub label_piece : (label : List ℕ) → is_label label ≡ true → IsUtf8 label → IsPiece (longest_label + 2) (in_quotes label)
label_piece label h u = between_quotes longest_label label (label_within label h u)

pub method_piece : (method : Method) → IsPiece 8 (in_quotes (word_of method))
method_piece Strict = printed 8 (in_quotes (word_of Strict)) refl (omega arith)
method_piece Fifo = printed 8 (in_quotes (word_of Fifo)) refl (omega arith)
method_piece Lifo = printed 8 (in_quotes (word_of Lifo)) refl (omega arith)
method_piece Hifo = printed 8 (in_quotes (word_of Hifo)) refl (omega arith)
method_piece Unmatched = printed 8 (in_quotes (word_of Unmatched)) refl (omega arith)

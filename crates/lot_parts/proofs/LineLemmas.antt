-- The first line of a text, and the lines of a dump that aren't ledger text.
use Rattle.std.proofs.Common.{◌≡◌, ℕ, ◌<◌, ◌/◌, ◌%◌, ◌^◌, true, List, [], ◌∷◌, ◌++◌, suc, Some, refl, ap, ◌∙◌, sym, subst, arith, append_assoc}
use Rattle.std.specs.Prelude.{codes, decimal, slice_index}
use Rattle.std.specs.List.{list_all}
use Rattle.std.specs.Str.Parse.{AllDigits}
use Rattle.std.proofs.lemmas.Bool.{and_from, and_parts, eqb-true, false_from_ne_true, not_from_false}
use Rattle.std.proofs.lemmas.Bool.Decides.{nat_tests}
use Rattle.std.proofs.lemmas.Fmt.{decimal_is_IsNumeral}
use Rattle.std.proofs.lemmas.Option.{none-some, same_Some}
use Rattle.std.proofs.lemmas.Str.Parse.{digit_from_value}
use Rattle.hex.specs.Hex.{IsBytes, encode_with, hex_digit_value, lower_digits}
use Rattle.hex.proofs.HexLemmas.{IsDigits-lower_digits}
use Rattle.lot_base.specs.Name.{IsName, is_label, is_label_byte}
use Rattle.lot_syntax.specs.Line.{IsLine, is_within_line}
use Rattle.lot_report.specs.Printed.{line}
use Rattle.lot_dump.specs.Form.{IsAnyHead, IsEnd, IsHead, IsHeading, any_head_text, end_front, end_text, head_front, head_text, heading_front, heading_text, of_this_format}
use Rattle.lot_dump.specs.Cutting.{cut_of}
use Rattle.lot_dump.specs.declared.end.End.{End}
use Rattle.lot_dump.specs.declared.head.Head.{Head}
use Rattle.lot_dump.specs.declared.heading.Heading.{Heading}
use Rattle.lot_dump.proofs.CutLemmas.{cut_found}
use Rattle.lot_dump.proofs.LineLemmas.{lines_join}

-- ---- The first line of a text.

-- a line, its line end and the rest are cut where the line end is
first_cut : (a x : List ℕ) → IsLine a → cut_of 10 (line a ++ x) ≡ Some (a, x)
first_cut a x is = ap (cut_of 10) (append_assoc a (10 ∷ []) x) ∙ cut_found 10 a x is

pub same_first : (a b x y : List ℕ) → IsLine a → IsLine b → line a ++ x ≡ line b ++ y → (a ≡ b) × (x ≡ y)
same_first a b x y one two whole =
    let same : (a, x) ≡ (b, y) = same_Some (a, x) (b, y) (sym (first_cut a x one) ∙ ap (cut_of 10) whole ∙ first_cut b y two) in
    (ap (λ (p : List ℕ × List ℕ). p.0) same, ap (λ (p : List ℕ × List ℕ). p.1) same)

-- what has no line end doesn't begin with a line that has one
has_end : (a x : List ℕ) → IsLine (a ++ 10 ∷ x) → ⊥
has_end [] x is = cc
has_end (b ∷ a) x is = has_end a x (and_parts _ _ is).1

pub no_first : (text a x : List ℕ) → IsLine text → text ≡ line a ++ x → ⊥
no_first text a x is whole = has_end a x (subst (λ (t : List ℕ). IsLine t) (whole ∙ append_assoc a (10 ∷ []) x) is)

-- ---- Lines.

digits_line : (ds : List ℕ) → AllDigits 10 ds → IsLine ds
digits_line [] all = refl
digits_line (c ∷ cs) (one, more) =
    let digit = digit_from_value c one in
    and_from _ _ (not_from_false _ (grind (arith, nat_tests, digit.0))) (digits_line cs more)

number_line : (n : ℕ) → n < 2 ^ 32 → IsLine (decimal n)
number_line n small = digits_line (decimal n) (decimal_is_IsNumeral n (omega (arith, small))).0.1

label_byte : (b : ℕ) → is_label_byte b ≡ true → is_within_line b ≡ true
label_byte b is = grind (arith, nat_tests)

label_bytes : (text : List ℕ) → list_all is_label_byte text ≡ true → IsLine text
label_bytes [] is = refl
label_bytes (b ∷ text) is = let parts = and_parts _ _ is in and_from _ _ (label_byte b parts.0) (label_bytes text parts.1)

label_all : (text : List ℕ) → is_label text ≡ true → list_all is_label_byte text ≡ true
unfolding is_label
label_all text is = (and_parts _ _ is).1

label_line : (text : List ℕ) → IsName is_label text → IsLine text
label_line text (utf8, is) = label_bytes text (label_all text is)

hex_digit : (d : ℕ) → d < 16 → is_within_line (slice_index lower_digits d) ≡ true
hex_digit d inside =
    not_from_false _ (false_from_ne_true _ (λ is.
    none-some d (ap hex_digit_value (sym (eqb-true (slice_index lower_digits d) 10 is)) ∙ IsDigits-lower_digits d inside)))

hex_line : (bytes : List ℕ) → IsBytes bytes → IsLine (encode_with lower_digits bytes)
unfolding encode_with
hex_line [] are = refl
hex_line (b ∷ rest) are =
    let fits : b < 256 = are 0 in
    and_from _ _ (hex_digit (b / 16) (omega (arith, fits))) (and_from _ _ (hex_digit (b % 16) (omega (arith, fits))) (hex_line rest (λ k. are (suc k))))

pub any_head_line : (head : _) → IsAnyHead head → IsLine (any_head_text head)
any_head_line head (format, edition, place, entries) =
    let last = codes " entries " ++ decimal head.entries in
    let more = codes " migrated " ++ (decimal head.place ++ last) in
    lines_join head_front (decimal head.format ++ (codes " edition " ++ (decimal head.edition ++ more))) refl
    (lines_join (decimal head.format) (codes " edition " ++ (decimal head.edition ++ more)) (number_line head.format format)
    (lines_join (codes " edition ") (decimal head.edition ++ more) refl
    (lines_join (decimal head.edition) more (number_line head.edition edition)
    (lines_join (codes " migrated ") (decimal head.place ++ last) refl
    (lines_join (decimal head.place) last (number_line head.place place)
    (lines_join (codes " entries ") (decimal head.entries) refl (number_line head.entries entries)))))))

pub head_line : (head : Head) → IsHead head → IsLine (head_text head)
head_line head (place, entries) = any_head_line (of_this_format head) (omega arith, omega arith, place, entries)

pub heading_line : (heading : Heading) → IsHeading heading → IsLine (heading_text heading)
heading_line heading is =
    let key = heading.key.source ++ 32 ∷ heading.key.name in
    lines_join heading_front (decimal heading.number ++ (codes " key " ++ key)) refl
    (lines_join (decimal heading.number) (codes " key " ++ key) (number_line heading.number is.number)
    (lines_join (codes " key ") key refl
    (lines_join heading.key.source (32 ∷ heading.key.name) (label_line heading.key.source is.source)
    (lines_join (codes " ") heading.key.name refl (label_line heading.key.name is.name)))))

pub end_line : (end : End) → IsEnd end → IsLine (end_text end)
end_line end (entries, whole, bytes) =
    let digest = encode_with lower_digits end.digest in
    lines_join end_front (decimal end.entries ++ (codes " sha256 " ++ digest)) refl
    (lines_join (decimal end.entries) (codes " sha256 " ++ digest) (number_line end.entries entries)
    (lines_join (codes " sha256 ") digest refl (hex_line end.digest bytes)))

-- A heading is read as what it says, and what is read is said by it.
use Rattle.std.proofs.Common.{◌≡◌, ℕ, List, ◌++◌, Option, Some, None, Bor, ap, ◌∙◌, sym, subst}
use Rattle.std.specs.Prelude.{codes, decimal, option_map, unwrap_or}
use Rattle.std.proofs.lemmas.Bool.{and_from, and_parts, false_from_ne_true}
use Rattle.std.proofs.lemmas.Str.{IsUtf8-from_is_utf8, is_utf8-from_IsUtf8}
use Rattle.lot_base.specs.Name.{IsName, is_label}
use Rattle.lot_dump.specs.Cutting.{behind, cut_of, heading_of, keyed, label_of, number_before}
use Rattle.lot_dump.specs.Form.{IsHeading, heading_front, heading_text}
use Rattle.lot_dump.specs.declared.heading.Heading.{Heading}
use Rattle.lot_dump.proofs.CutLemmas.{Stood, before_found, before_stood, behind_found, behind_stood, by_bytes, cut_found, cut_stood, if_false as none_by, if_true, last_found, last_stood, then_found, then_stood}

-- ---- A label.

pub label_found : (text : List ℕ) → IsName is_label text → label_of text ≡ Some text
unfolding label_of
label_found text (utf8, label) = if_true _ text (and_from _ _ (is_utf8-from_IsUtf8 text utf8) label)

label_stood : (text label : List ℕ) → label_of text ≡ Some label → IsName is_label text × (text ≡ label)
unfolding label_of
label_stood text label is =
    let both = by_bytes _ text label is in
    let parts = and_parts _ _ both.0 in
    ((IsUtf8-from_is_utf8 text parts.0, parts.1), both.1)

-- what isn't UTF-8 is no label, and neither is what isn't of its grammar
pub label_none : (text : List ℕ) → (IsName is_label text → ⊥) → label_of text ≡ None
unfolding label_of
label_none text none =
    none_by _ text (false_from_ne_true _ (λ both.
    let parts = and_parts _ _ both in
    none (IsUtf8-from_is_utf8 text parts.0, parts.1)))

-- ---- A heading.

pub heading_found : (heading : Heading) → IsHeading heading → heading_of (heading_text heading) ≡ Some heading
unfolding heading_of
heading_found heading is =
    then_found _ _ _ _ (behind_found heading_front _)
    (then_found _ _ _ _ (before_found (codes "key ") heading.number _ is.number)
    (then_found _ _ _ _ (cut_found 32 heading.key.source heading.key.name is.no_blank)
    (then_found _ _ _ _ (label_found heading.key.source is.source) (last_found _ _ _ (label_found heading.key.name is.name)))))

abbrev pub of_parts : ℕ → List ℕ → List ℕ → Heading
of_parts number source name = record { number = number; key = record { source = source; name = name } }

pub heading_stood : (line : List ℕ) (heading : Heading) → heading_of line ≡ Some heading → IsHeading heading × (line ≡ heading_text heading)
unfolding heading_of
heading_stood line heading is =
    let (first, at, more) = then_stood _ (behind heading_front line) heading is in
    let (number, at1, more1) = then_stood _ (number_before (codes "key ") first) heading more in
    let (cut, at2, more2) = then_stood _ (cut_of 32 number.1) heading more1 in
    let (source, at3, more3) = then_stood _ (label_of cut.0) heading more2 in
    let (name, at4, same) = last_stood _ (label_of cut.1) heading more3 in
    let one = before_stood (codes "key ") first number at1 in
    let two = subst (Stood 32 number.1) at2 (cut_stood 32 number.1) in
    let three = label_stood cut.0 source at3 in
    let four = label_stood cut.1 name at4 in
    let whole : line ≡ heading_text (of_parts number.0 cut.0 cut.1) =
    behind_stood heading_front line first at
    ∙ ap (λ t. heading_front ++ t) (one.0 ∙ ap (λ t. decimal number.0 ++ (codes " key " ++ t)) two.0) in
    let is_one : IsHeading (of_parts number.0 cut.0 cut.1) =
    record { number = one.1; source = three.0; no_blank = two.1; name = four.0 } in
    let is_this : of_parts number.0 cut.0 cut.1 ≡ heading =
    ap (λ s. of_parts number.0 s cut.1) three.1 ∙ ap (λ n. of_parts number.0 source n) four.1 ∙ same in
    subst (λ (h : Heading). IsHeading h × (line ≡ heading_text h)) is_this (is_one, whole)

pub heading_one : (a b : Heading) → IsHeading a → IsHeading b → heading_text a ≡ heading_text b → a ≡ b
heading_one a b one two whole =
    ap (λ (o : Option Heading). unwrap_or o a) (sym (heading_found a one) ∙ ap heading_of whole ∙ heading_found b two)

-- ---- What is known of borrowed parts.

module _ (line : List ℕ) (cut : Option (ℕ × Bor (List ℕ) × Bor (List ℕ))) (is : heading_of line ≡ option_map keyed cut) where
  pub heading_says : (parts : ℕ × Bor (List ℕ) × Bor (List ℕ)) → cut ≡ Some parts → (heading : Heading) → keyed parts ≡ heading
      → IsHeading heading × (line ≡ heading_text heading)
  heading_says parts at heading same = heading_stood line heading (is ∙ ap (option_map keyed) at ∙ ap Some same)

  pub heading_read : (heading : Heading) → IsHeading heading → line ≡ heading_text heading → option_map keyed cut ≡ Some heading
  heading_read heading parts whole = sym is ∙ ap heading_of whole ∙ heading_found heading parts

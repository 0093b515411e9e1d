-- A head is read as what it says, and what is read is said by it.
use Rattle.std.proofs.Common.{◌≡◌, inl, inr, ℕ, Bool, true, false, cond, List, [], ◌∷◌, ◌++◌, Option, Some, None, Result, Ok, Err, refl, ap, ◌∙◌, sym, subst, arith}
use Rattle.std.specs.Prelude.{◌↔◌, codes, decimal, unwrap_or, IfOk, IsErrOf}
use Rattle.std.proofs.lemmas.Bool.{and_parts, eqb-true, ltb-true, lt-ltb, or_cases, or_left, or_right}
use Rattle.lot_dump.specs.Cutting.{any_head_of, behind, head_by, number_before, number_of}
use Rattle.lot_dump.specs.Form.{IsAnyHead, IsHead, IsNewer, any_head_text, head_front, head_text, of_this_format, this_edition, this_format}
use Rattle.lot_dump.specs.declared.head.AnyHead.{AnyHead}
use Rattle.lot_dump.specs.declared.head.Head.{Head}
use Rattle.lot_dump.specs.declared.head.HeadFault.{HeadFault}
use Rattle.lot_dump.specs.declared.head.HeadFault.TheVariants.{NotADump, NewerFormat}
use Rattle.lot_dump.proofs.CutLemmas.{before_found, before_stood, behind_found, behind_stood, last_found, last_stood, number_found, number_stood, then_found, then_stood}

-- ---- Of any format.

pub any_head_found : (head : AnyHead) → IsAnyHead head → any_head_of (any_head_text head) ≡ Some head
unfolding any_head_of
any_head_found head (format, edition, place, entries) =
    then_found _ _ _ _ (behind_found head_front _)
    (then_found _ _ _ _ (before_found (codes "edition ") head.format _ format)
    (then_found _ _ _ _ (before_found (codes "migrated ") head.edition _ edition)
    (then_found _ _ _ _ (before_found (codes "entries ") head.place _ place)
    (last_found _ _ _ (number_found head.entries entries)))))

pub any_head_stood : (line : List ℕ) (head : AnyHead) → any_head_of line ≡ Some head → IsAnyHead head × (line ≡ any_head_text head)
unfolding any_head_of
any_head_stood line head is =
    let (first, at, more) = then_stood _ (behind head_front line) head is in
    let (format, at1, more1) = then_stood _ (number_before (codes "edition ") first) head more in
    let (edition, at2, more2) = then_stood _ (number_before (codes "migrated ") format.1) head more1 in
    let (place, at3, more3) = then_stood _ (number_before (codes "entries ") edition.1) head more2 in
    let (entries, at4, same) = last_stood _ (number_of place.1) head more3 in
    let one = before_stood (codes "edition ") first format at1 in
    let two = before_stood (codes "migrated ") format.1 edition at2 in
    let three = before_stood (codes "entries ") edition.1 place at3 in
    let four = number_stood place.1 entries at4 in
    subst (λ (h : AnyHead). IsAnyHead h × (line ≡ any_head_text h)) same (
      (one.1, two.1, three.1, four.1),
      behind_stood head_front line first at
          ∙ ap (λ t. head_front ++ t) (one.0 ∙ ap (λ t. decimal format.0 ++ (codes " edition " ++ t)) (two.0
          ∙ ap (λ t. decimal edition.0 ++ (codes " migrated " ++ t)) (three.0 ∙ ap (λ t. decimal place.0 ++ (codes " entries " ++ t)) four.0))),
    )

-- ---- Of this one.

read_by : (newer this : Bool) (head : Head) (P : Head → Type 0) → (this ≡ true → P head)
    → IfOk (cond newer (Err NewerFormat) (cond this (Ok head) (Err NotADump))) P
read_by true this head P p = tt
read_by false true head P p = p refl
read_by false false head P p = tt

newer_by : (newer this : Bool) (head : Head) → IsErrOf (cond newer (Err NewerFormat) (cond this (Ok head) (Err NotADump))) NewerFormat → newer ≡ true
newer_by true this head is = refl
newer_by false true head is = cc
newer_by false false head is = cc

newer_since : (newer this : Bool) (head : Head) → newer ≡ true → IsErrOf (cond newer (Err NewerFormat) (cond this (Ok head) (Err NotADump))) NewerFormat
newer_since true this head is = refl
newer_since false this head is = cc

module _ (line : List ℕ) where
  -- what it says, where it is one
  abbrev Says : Result Head HeadFault → Type 0
  Says result = IfOk result (λ head. IsHead head × (line ≡ head_text head))

  says : (cut : Option AnyHead) → any_head_of line ≡ cut → Says (head_by cut)
  says None is = tt
  says (Some head) is =
      let stood = any_head_stood line head is in
      read_by _ _ _ (λ h. IsHead h × (line ≡ head_text h)) (λ this.
      let parts = and_parts _ _ this in
      let format : head.format ≡ this_format = eqb-true _ _ parts.0 in
      let edition : head.edition ≡ this_edition = eqb-true _ _ parts.1 in (
        (stood.0.2, stood.0.3),
        stood.1 ∙ ap (λ f. any_head_text (record { format = f; edition = head.edition; place = head.place; entries = head.entries })) format
            ∙ ap (λ e. any_head_text (record { format = this_format; edition = e; place = head.place; entries = head.entries })) edition,
      ))

  pub head_says : (result : Result Head HeadFault) → result ≡ head_by (any_head_of line) → Says result
  head_says result is = subst Says (sym is) (says (any_head_of line) refl)

  pub head_read : (result : Result Head HeadFault) → result ≡ head_by (any_head_of line)
      → (head : Head) → IsHead head → line ≡ head_text head → result ≡ Ok head
  head_read result is head (place, entries) whole =
      is ∙ ap (λ t. head_by (any_head_of t)) whole
      ∙ ap head_by (any_head_found (of_this_format head) (omega arith, omega arith, place, entries))

  newer_at : (cut : Option AnyHead) → any_head_of line ≡ cut → IsErrOf (head_by cut) NewerFormat → IsNewer line
  newer_at None is newer = cc
  newer_at (Some head) is newer =
      let stood = any_head_stood line head is in
      let later = or_cases _ _ (newer_by _ _ _ newer) in
      (head, stood.0, stood.1, elim later [ inl format ↦ inl (ltb-true _ _ format) | inr edition ↦ inr (ltb-true _ _ edition) ])

  newer_from : IsNewer line → IsErrOf (head_by (any_head_of line)) NewerFormat
  newer_from (head, numbers, whole, inl format) =
      subst (λ o. IsErrOf (head_by o) NewerFormat) (sym (ap any_head_of whole ∙ any_head_found head numbers))
      (newer_since _ _ _ (or_left _ _ (lt-ltb _ _ format)))
  newer_from (head, numbers, whole, inr edition) =
      subst (λ o. IsErrOf (head_by o) NewerFormat) (sym (ap any_head_of whole ∙ any_head_found head numbers))
      (newer_since _ _ _ (or_right _ _ (lt-ltb _ _ edition)))

  pub head_newer : (result : Result Head HeadFault) → result ≡ head_by (any_head_of line) → IsErrOf result NewerFormat ↔ IsNewer line
  head_newer result is = (
    λ newer. newer_at (any_head_of line) refl (subst (λ r. IsErrOf r NewerFormat) is newer),
    λ newer. subst (λ r. IsErrOf r NewerFormat) (sym is) (newer_from newer),
  )

-- ---- Of one head alone.

abbrev numbers_of : AnyHead → Head
numbers_of head = record { place = head.place; entries = head.entries }

pub head_one : (a b : Head) → IsHead a → IsHead b → head_text a ≡ head_text b → a ≡ b
head_one a b one two whole =
    let first = any_head_found (of_this_format a) (omega arith, omega arith, one.0, one.1) in
    let second = any_head_found (of_this_format b) (omega arith, omega arith, two.0, two.1) in
    ap (λ (o : Option AnyHead). numbers_of (unwrap_or o (of_this_format a))) (sym first ∙ ap any_head_of whole ∙ second)

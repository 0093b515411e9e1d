-- A text writes at most one form of days, and its parts are found from the first on.
use Rattle.std.proofs.Common.{◌≡◌, ℕ, zero, suc, ◌≤◌, Bool, true, false, List, [], ◌∷◌, ◌++◌, length, Option, Some, None, refl, ap, subst, sym, ◌∙◌, arith}
use Rattle.std.specs.Prelude.{◌⊎◌, ◌==◌, ◌&&◌, IsTrue, count_by, flat_map, option_and_then, option_map}
use Rattle.std.specs.List.{list_all}
use Rattle.std.specs.Option.{option_or}
use Rattle.std.proofs.Common.{inl, inr}
use Rattle.std.proofs.lemmas.Bool.{and_parts, and_from, eqb-true}
use Rattle.lot_field.proofs.DayLemmas.{behind-is}
use Rattle.lot_field.specs.Days.{AreDayParts, AreSpelled, HaveEachOnce, is_day, is_good_part, is_month, is_sign, is_year, part_text}
use Rattle.lot_field.specs.Field.{behind}
use Rattle.lot_field.specs.declared.days.DayForm.{DayForm}
use Rattle.lot_field.specs.declared.days.DayPart.{DayPart}
use Rattle.lot_field.specs.declared.days.DayPart.TheVariants.{Year, Month, MonthName, Day, Sign}
use Rattle.lot_profile_text.specs.Days.{day_form_in, first_day_part, first_if, first_sign, has_each_once, if_each_once}
use Rattle.lot_profile_text.specs.Spelling.{parts_of, parts_within}

pub or-cases : {X : Type 0} (a b : Option X) (x : X) → option_or a b ≡ Some x → (a ≡ Some x) ⊎ (b ≡ Some x)
or-cases None b x e = inr e
or-cases (Some y) b x e = inl e

same-read : (one other : DayPart × List ℕ) → Some one ≡ Some other → one ≡ other
same-read one other e = cc e

if-is : (part p : DayPart) (text rest : List ℕ) → IsTrue (is_good_part part) → first_if part text ≡ Some (p, rest)
    → (text ≡ part_text p ++ rest) × IsTrue (is_good_part p)
if-is part p text rest good e = go (behind (part_text part) text) refl e
  where
    go : (r : Option (List ℕ)) → behind (part_text part) text ≡ r → option_map {U = DayPart × List ℕ} (λ (left : List ℕ). (part, left)) r ≡ Some (p, rest)
        → (text ≡ part_text p ++ rest) × IsTrue (is_good_part p)
    go None is e = cc e
    go (Some found) is e =
        let read = same-read (part, found) (p, rest) e in
        let same : part ≡ p = ap (λ (q : DayPart × List ℕ). q.0) read in
        let left : found ≡ rest = ap (λ (q : DayPart × List ℕ). q.1) read in
        let begins : text ≡ part_text part ++ found = behind-is (part_text part) text found is in
        (begins ∙ ap (λ (q : DayPart). part_text q ++ found) same ∙ ap (λ (t : List ℕ). part_text p ++ t) left, subst (λ (q : DayPart). IsTrue (is_good_part q)) same good)

sign-is : (p : DayPart) (text rest : List ℕ) → first_sign text ≡ Some (p, rest) → (text ≡ part_text p ++ rest) × IsTrue (is_good_part p)
sign-is p [] rest e = cc
sign-is p (b ∷ text) rest e = go (is_sign b) refl
  where
    go : (good : Bool) → is_sign b ≡ good → (b ∷ text ≡ part_text p ++ rest) × IsTrue (is_good_part p)
    go true good =
        let found : Some (Sign b, text) ≡ Some (p, rest) = rw good at e in
        let read = same-read (Sign b, text) (p, rest) found in
        let same : Sign b ≡ p = ap (λ (q : DayPart × List ℕ). q.0) read in
        let left : text ≡ rest = ap (λ (q : DayPart × List ℕ). q.1) read in
        (ap (λ (t : List ℕ). b ∷ t) left ∙ ap (λ (q : DayPart). part_text q ++ rest) same, subst (λ (q : DayPart). IsTrue (is_good_part q)) same good)
    go false good = let none : ◌≡◌ {A = Option (DayPart × List ℕ)} None (Some (p, rest)) = rw good at e in cc none

first-is : (p : DayPart) (text rest : List ℕ) → first_day_part text ≡ Some (p, rest) → (text ≡ part_text p ++ rest) × IsTrue (is_good_part p)
first-is p text rest e =
    elim (or-cases (first_if Year text) _ (p, rest) e) [
      | inl a ↦ if-is Year p text rest refl a
      | inr a ↦
          elim (or-cases (first_if Month text) _ (p, rest) a) [
            | inl b ↦ if-is Month p text rest refl b
            | inr b ↦
                elim (or-cases (first_if MonthName text) _ (p, rest) b) [
                  | inl d ↦ if-is MonthName p text rest refl d
                  | inr d ↦
                      elim (or-cases (first_if Day text) _ (p, rest) d) [
                        | inl f ↦ if-is Day p text rest refl f
                        | inr f ↦ sign-is p text rest f
                      ]
                ]
          ]
    ]

abbrev AllSpelled : ℕ → Type 0
AllSpelled n = (rest : List ℕ) (ps : List DayPart) → parts_within first_day_part n rest ≡ Some ps → AreSpelled rest ps

spelled : (n : ℕ) (text : List ℕ) (parts : List DayPart) → parts_within first_day_part n text ≡ Some parts → AreSpelled text parts
spelled zero [] parts e = let none : [] ≡ parts = cc e in subst (AreSpelled []) none (record { spelled = refl; good = refl })
spelled zero (b ∷ text) parts e = cc e
spelled (suc n) [] parts e = let none : [] ≡ parts = cc e in subst (AreSpelled []) none (record { spelled = refl; good = refl })
spelled (suc n) (b ∷ text) parts e = go (spelled n) (first_day_part (b ∷ text)) refl e
  where
    then : AllSpelled n → (p : DayPart) (rest : List ℕ) → first_day_part (b ∷ text) ≡ Some (p, rest) → (r : Option (List DayPart))
        → parts_within first_day_part n rest ≡ r
        → option_map (λ (ps : List DayPart). p ∷ ps) r ≡ Some parts → AreSpelled (b ∷ text) parts
    then all p rest found None more e = cc e
    then all p rest found (Some ps) more e =
        let same : p ∷ ps ≡ parts = cc e in
        let first = first-is p (b ∷ text) rest found in
        let others = all rest ps more in
        subst (AreSpelled (b ∷ text)) same
        (record { spelled = first.0 ∙ ap (λ (t : List ℕ). part_text p ++ t) others.spelled; good = and_from _ _ first.1 others.good })

    go : AllSpelled n → (r : Option (DayPart × List ℕ)) → first_day_part (b ∷ text) ≡ r
        → option_and_then (λ (read : DayPart × List ℕ). option_map (λ (ps : List DayPart). read.0 ∷ ps) (parts_within first_day_part n read.1)) r ≡ Some parts
        → AreSpelled (b ∷ text) parts
    go all None found e = cc e
    go all (Some (p, rest)) found e = then all p rest found (parts_within first_day_part n rest) refl e

not-letter : (s letter : ℕ) → IsTrue (is_sign s) → is_sign letter ≡ false → (letter == s) ≡ false
not-letter s letter good none = go (letter == s) refl
  where
    go : (same : Bool) → (letter == s) ≡ same → same ≡ false
    go true e = let equal : s ≡ letter = sym (eqb-true letter s e) in let never = rw (equal, none) at good in cc never
    go false e = refl

first-sign : (s : ℕ) (rest : List ℕ) → IsTrue (is_sign s) → first_day_part (s ∷ rest) ≡ Some (Sign s, rest)
first-sign s rest good =
    let y = not-letter s 89 good refl in
    let m = not-letter s 77 good refl in
    let d = not-letter s 68 good refl in
    rw (y, m, d, good) refl

found : (parts : List DayPart) (n : ℕ) → IsTrue (list_all is_good_part parts) → length (flat_map part_text parts) ≤ n
    → parts_within first_day_part n (flat_map part_text parts) ≡ Some parts
found [] zero good fits = refl
found [] (suc n) good fits = refl
found (Year ∷ ps) zero good fits = absurd (omega arith)
found (Month ∷ ps) zero good fits = absurd (omega arith)
found (MonthName ∷ ps) zero good fits = absurd (omega arith)
found (Day ∷ ps) zero good fits = absurd (omega arith)
found (Sign s ∷ ps) zero good fits = absurd (omega arith)
found (Year ∷ ps) (suc n) good fits = let more = found ps n good (omega arith) in rw more refl
found (Month ∷ ps) (suc n) good fits = let more = found ps n good (omega arith) in rw more refl
found (MonthName ∷ ps) (suc n) good fits = let more = found ps n good (omega arith) in rw more refl
found (Day ∷ ps) (suc n) good fits = let more = found ps n good (omega arith) in rw more refl
found (Sign s ∷ ps) (suc n) good fits =
    let both = and_parts (is_sign s) (list_all is_good_part ps) good in
    let first = first-sign s (flat_map part_text ps) both.0 in
    let more = found ps n both.1 (omega arith) in
    rw (first, more) refl

each-once : (parts : List DayPart) → HaveEachOnce parts → has_each_once parts ≡ true
each-once parts h = rw (h.year, h.month, h.day) refl

once-each : (parts : List DayPart) → has_each_once parts ≡ true → HaveEachOnce parts
once-each parts e =
    let first = and_parts ((count_by is_year parts == 1) && (count_by is_month parts == 1)) (count_by is_day parts == 1) e in
    let second = and_parts (count_by is_year parts == 1) (count_by is_month parts == 1) first.0 in
    record { year = eqb-true _ _ second.0; month = eqb-true _ _ second.1; day = eqb-true _ _ first.1 }

-- the form with the parts of a text is that which it writes
pub form-some : (text : List ℕ) (form : DayForm) → AreDayParts text form.parts → day_form_in text ≡ Some form
unfolding day_form_in
form-some text form h =
    let here : parts_of first_day_part text ≡ Some form.parts =
    rw h.written.spelled (found form.parts (length (flat_map part_text form.parts)) h.written.good (omega arith)) in
    let once = each-once form.parts h.once in
    rw (here, once) refl

-- where no parts are those of a form with that text, it writes none
pub form-none : (text : List ℕ) → ((parts : List DayPart) → AreDayParts text parts → ⊥) → day_form_in text ≡ None
unfolding day_form_in
form-none text none = go (parts_of first_day_part text) refl
  where
    try : (parts : List DayPart) → AreSpelled text parts → (once : Bool) → has_each_once parts ≡ once → if_each_once parts ≡ None
    try parts written true once = absurd (none parts (record { written = written; once = once-each parts once }))
    try parts written false once = rw once refl

    go : (r : Option (List DayPart)) → parts_of first_day_part text ≡ r → option_and_then if_each_once r ≡ None
    go None e = refl
    go (Some parts) e = try parts (spelled (length text) text parts e) (has_each_once parts) refl

-- a form that a text writes has the parts of the text
pub form-parts : (text : List ℕ) (form : DayForm) → day_form_in text ≡ Some form → AreDayParts text form.parts
unfolding day_form_in
form-parts text form e = go (parts_of first_day_part text) refl e
  where
    some-form : (one other : DayForm) → Some one ≡ Some other → one ≡ other
    some-form one other e = cc e

    with : (parts : List DayPart) → AreSpelled text parts → (once : Bool) → has_each_once parts ≡ once → if_each_once parts ≡ Some form
        → AreDayParts text form.parts
    with parts written true once e =
        let found : Some (record { parts = parts }) ≡ Some form = rw once at e in
        let same = some-form (record { parts = parts }) form found in
        subst (λ (f : DayForm). AreDayParts text f.parts) same (record { written = written; once = once-each parts once })
    with parts written false once e = let never : ◌≡◌ {A = Option DayForm} None (Some form) = rw once at e in cc never

    go : (r : Option (List DayPart)) → parts_of first_day_part text ≡ r → option_and_then if_each_once r ≡ Some form → AreDayParts text form.parts
    go None found e = cc e
    go (Some parts) found e = with parts (spelled (length text) text parts found) (has_each_once parts) refl e

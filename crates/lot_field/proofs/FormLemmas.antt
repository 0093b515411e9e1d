-- A text is spelled by one list of parts.
use Rattle.std.proofs.Common.{◌≡◌, ℕ, ◌<◌, false, List, [], ◌∷◌, ◌++◌, length, get_or, refl, ap, ◌∙◌, subst, sym, arith, rules, append_assoc}
use Rattle.std.specs.Prelude.{flat_map, IsTrue}
use Rattle.std.specs.List.{list_all}
use Rattle.std.proofs.lemmas.Bool.{and_parts, and_from}
use Rattle.lot_field.specs.Days.{AreDayParts, AreSpelled, HaveEachOnce, is_good_part, is_sign, part_text}
use Rattle.lot_field.specs.declared.days.DayPart.{DayPart}
use Rattle.lot_field.specs.declared.days.DayPart.TheVariants.{Year, Month, MonthName, Day, Sign}

-- the byte of a text at a place
at : (i : ℕ) (a b : List ℕ) → a ≡ b → get_or a i 0 ≡ get_or b i 0
at i a b e = ap (λ (t : List ℕ). get_or t i 0) e

no-sign : (s letter : ℕ) → s ≡ letter → is_sign letter ≡ false → IsTrue (is_sign s) → ⊥
no-sign s letter same none good = let never = rw (same, none) at good in cc never

pub one-part : (p q : DayPart) (x y : List ℕ) → IsTrue (is_good_part p) → IsTrue (is_good_part q) → part_text p ++ x ≡ part_text q ++ y
    → (p ≡ q) × (x ≡ y)
one-part Year Year x y a b e = (refl, cc)
one-part Year Month x y a b e = absurd (omega (arith, at 0 _ _ e))
one-part Year MonthName x y a b e = absurd (omega (arith, at 0 _ _ e))
one-part Year Day x y a b e = absurd (omega (arith, at 0 _ _ e))
one-part Year (Sign t) x y a b e = absurd (no-sign t 89 (sym (at 0 _ _ e)) refl b)
one-part Month Year x y a b e = absurd (omega (arith, at 0 _ _ e))
one-part Month Month x y a b e = (refl, cc)
one-part Month MonthName x y a b e = absurd (omega (arith, at 1 _ _ e))
one-part Month Day x y a b e = absurd (omega (arith, at 0 _ _ e))
one-part Month (Sign t) x y a b e = absurd (no-sign t 77 (sym (at 0 _ _ e)) refl b)
one-part MonthName Year x y a b e = absurd (omega (arith, at 0 _ _ e))
one-part MonthName Month x y a b e = absurd (omega (arith, at 1 _ _ e))
one-part MonthName MonthName x y a b e = (refl, cc)
one-part MonthName Day x y a b e = absurd (omega (arith, at 0 _ _ e))
one-part MonthName (Sign t) x y a b e = absurd (no-sign t 77 (sym (at 0 _ _ e)) refl b)
one-part Day Year x y a b e = absurd (omega (arith, at 0 _ _ e))
one-part Day Month x y a b e = absurd (omega (arith, at 0 _ _ e))
one-part Day MonthName x y a b e = absurd (omega (arith, at 0 _ _ e))
one-part Day Day x y a b e = (refl, cc)
one-part Day (Sign t) x y a b e = absurd (no-sign t 68 (sym (at 0 _ _ e)) refl b)
one-part (Sign s) Year x y a b e = absurd (no-sign s 89 (at 0 _ _ e) refl a)
one-part (Sign s) Month x y a b e = absurd (no-sign s 77 (at 0 _ _ e) refl a)
one-part (Sign s) MonthName x y a b e = absurd (no-sign s 77 (at 0 _ _ e) refl a)
one-part (Sign s) Day x y a b e = absurd (no-sign s 68 (at 0 _ _ e) refl a)
one-part (Sign s) (Sign t) x y a b e = (ap Sign (at 0 _ _ e), cc)

some-text : (p : DayPart) (x : List ℕ) → part_text p ++ x ≡ [] → ⊥
some-text Year x e = cc
some-text Month x e = cc
some-text MonthName x e = cc
some-text Day x e = cc
some-text (Sign s) x e = cc

-- parts with the text of some parts and a rest begin with those, and the others are the rest's
pub begin-so : (read parts : List DayPart) (rest : List ℕ) → IsTrue (list_all is_good_part read) → IsTrue (list_all is_good_part parts)
    → flat_map part_text read ++ rest ≡ flat_map part_text parts
    → (more : List DayPart) × (parts ≡ read ++ more) × (rest ≡ flat_map part_text more) × IsTrue (list_all is_good_part more)
begin-so [] parts rest a b e = (parts, refl, e, b)
begin-so (p ∷ read) [] rest a b e = absurd (some-text p (flat_map part_text read ++ rest) (sym (append_assoc (part_text p) (flat_map part_text read) rest) ∙ e))
begin-so (p ∷ read) (q ∷ parts) rest a b e =
    let first = and_parts (is_good_part p) (list_all is_good_part read) a in
    let second = and_parts (is_good_part q) (list_all is_good_part parts) b in
    let same = one-part p q (flat_map part_text read ++ rest) (flat_map part_text parts) first.0 second.0
    (sym (append_assoc (part_text p) (flat_map part_text read) rest) ∙ e) in
    let (more, is, left, good) = begin-so read parts rest first.1 second.1 same.1 in
    (more, ap (λ (x : DayPart). x ∷ parts) (sym same.0) ∙ ap (λ (xs : List DayPart). p ∷ xs) is, left, good)

one_more : (read : List DayPart) (part : DayPart) → flat_map part_text (read ++ part ∷ []) ≡ flat_map part_text read ++ part_text part
one_more [] part = search rules
one_more (p ∷ read) part =
    ap (λ (t : List ℕ). part_text p ++ t) (one_more read part) ∙ sym (append_assoc (part_text p) (flat_map part_text read) (part_text part))

one_good : (read : List DayPart) (part : DayPart) → IsTrue (list_all is_good_part read) → IsTrue (is_good_part part)
    → IsTrue (list_all is_good_part (read ++ part ∷ []))
one_good [] part a b = and_from _ _ b refl
one_good (p ∷ read) part a b =
    let first = and_parts (is_good_part p) (list_all is_good_part read) a in
    and_from _ _ first.0 (one_good read part first.1 b)

pub spelled-more : (text rest more : List ℕ) (read : List DayPart) (part : DayPart) → text ≡ flat_map part_text read ++ rest
    → rest ≡ part_text part ++ more → text ≡ flat_map part_text (read ++ part ∷ []) ++ more
spelled-more text rest more read part so_far next =
    so_far ∙ ap (λ (t : List ℕ). flat_map part_text read ++ t) next
    ∙ sym (append_assoc (flat_map part_text read) (part_text part) more)
    ∙ ap (λ (t : List ℕ). t ++ more) (sym (one_more read part))

pub good-more : (read : List DayPart) (part : DayPart) → IsTrue (list_all is_good_part read) → IsTrue (is_good_part part)
    → IsTrue (list_all is_good_part (read ++ part ∷ []))
good-more = one_good

-- where no part begins the rest, no parts spell the text
pub none-spelled : (text rest : List ℕ) (read parts : List DayPart) → text ≡ flat_map part_text read ++ rest → IsTrue (list_all is_good_part read)
    → 0 < length rest → ((part : DayPart) (more : List ℕ) → IsTrue (is_good_part part) → rest ≡ part_text part ++ more → ⊥)
    → AreSpelled text parts → ⊥
none-spelled text rest read parts so_far good some none spelled =
    let (more, is, left, more_good) = begin-so read parts rest good spelled.good (sym so_far ∙ spelled.spelled) in
    go more left more_good
  where
    go : (more : List DayPart) → rest ≡ flat_map part_text more → IsTrue (list_all is_good_part more) → ⊥
    go [] left h = absurd (omega (arith, some, ap (λ (t : List ℕ). length t) left))
    go (p ∷ more) left h = none p (flat_map part_text more) (and_parts (is_good_part p) (list_all is_good_part more) h).0 left

-- a text is spelled by one list of parts
pub one-spelling : (text : List ℕ) (read parts : List DayPart) → AreSpelled text read → AreSpelled text parts → parts ≡ read
one-spelling text read parts a b =
    let whole : flat_map part_text read ++ [] ≡ flat_map part_text read = search rules in
    let (more, is, left, good) = begin-so read parts [] a.good b.good (whole ∙ sym a.spelled ∙ b.spelled) in
    is ∙ go more left
  where
    go : (more : List DayPart) → [] ≡ flat_map part_text more → read ++ more ≡ read
    go [] left = search rules
    go (p ∷ more) left = absurd (some-text p (flat_map part_text more) (sym left))

-- where the parts of a text aren't there once each, it is of no form
pub not-once : (text : List ℕ) (read parts : List DayPart) → AreSpelled text read → (HaveEachOnce read → ⊥) → AreDayParts text parts → ⊥
not-once text read parts spelled not_each form =
    not_each (subst HaveEachOnce (one-spelling text read parts spelled form.written) form.once)

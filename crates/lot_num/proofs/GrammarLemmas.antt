-- The tests of number text, against its grammar.
use Rattle.std.proofs.Common.{◌≡◌, inl, inr, ℕ, suc, ◌+◌, ◌<◌, ◌≤◌, get_or, Bool, true, false, cond, not, ltb, Some, None, ◌&&◌, ◌||◌, List, [], ◌∷◌, ◌++◌, length, refl, ap, ◌∙◌, sym, subst, arith, eqb}
use Rattle.std.specs.Prelude.{⊤, IsUtf8, unwrap_or}
use Rattle.std.specs.Char.{is_ascii_digit}
use Rattle.std.specs.Str.{IsCharBoundary}
use Rattle.std.proofs.lemmas.Str.{IsCharBoundary-after_ascii, IsCharBoundary-before_ascii}
use Rattle.std.specs.List.{before_first, after_first, slice_split, onto_first, list_all, position, position_or_len}
use Rattle.std.proofs.lemmas.Bool.Decides.{nat_tests}
use Rattle.std.proofs.lemmas.List.Sums.{prefix_len-le-length}
use Rattle.std.proofs.lemmas.Bool.{and_from, and_parts, eqb-true}
use Rattle.lot_num.specs.declared.number_text.Sign.{Sign}
use Rattle.lot_num.specs.declared.number_text.Sign.TheVariants.{Plus, Minus}
use Rattle.lot_num.specs.NumberText.{sign_of, unsigned, is_point, whole_part, decimals, is_digits, is_group, is_grouped, is_number}
use Rattle.lot_num.specs.NumberGrammar.{IsDigit, AreDigits, IsWhole, IsSign, IsFraction, IsNumberText}

pub digit_from_test : (b : ℕ) → is_ascii_digit b ≡ true → IsDigit b
digit_from_test b h = (grind (arith, nat_tests), grind (arith, nat_tests))

pub test_from_digit : (b : ℕ) → IsDigit b → is_ascii_digit b ≡ true
test_from_digit b (low, high) = grind (arith, nat_tests)

and_assoc : (a b c : Bool) → ((a && b) && c) ≡ (a && (b && c))
and_assoc true b c = refl
and_assoc false b c = refl

-- ---- Digits

digits_from_test : (ds : List ℕ) → is_digits ds ≡ true → AreDigits ds
digits_from_test [] h = tt
digits_from_test (d ∷ ds) h = (digit_from_test d ((and_parts _ _ h).0), digits_from_test ds ((and_parts _ _ h).1))

test_from_digits : (ds : List ℕ) → AreDigits ds → is_digits ds ≡ true
test_from_digits [] h = refl
test_from_digits (d ∷ ds) (first, others) = and_from _ _ (test_from_digit d first) (test_from_digits ds others)

-- ---- Whole parts

no_comma : (d : ℕ) → IsDigit d → eqb d 44 ≡ false
no_comma d (low, high) = grind (arith, nat_tests)

group-cons : (b : ℕ) (rest : List ℕ) → is_group (b ∷ rest) ≡ is_digits (b ∷ rest)
group-cons b rest =
    let some : eqb (suc (length rest)) 0 ≡ false = grind (arith, nat_tests) in
    rw some refl

-- the groups of a text that goes on with another byte than a comma
grouped-onto : (d c : ℕ) (parts : List (List ℕ)) → list_all is_group (onto_first d (onto_first c parts)) ≡ (is_ascii_digit d && list_all is_group (onto_first c parts))
grouped-onto d c [] =
    ap (λ t. t && true) (group-cons d (c ∷ []))
    ∙ and_assoc (is_ascii_digit d) (is_digits (c ∷ [])) true
    ∙ ap (λ t. is_ascii_digit d && (t && true)) (sym (group-cons c []))
grouped-onto d c (part ∷ parts) =
    ap (λ t. t && list_all is_group parts) (group-cons d (c ∷ part))
    ∙ and_assoc (is_ascii_digit d) (is_digits (c ∷ part)) (list_all is_group parts)
    ∙ ap (λ t. is_ascii_digit d && (t && list_all is_group parts)) (sym (group-cons c part))

grouped-digit : (d c : ℕ) (rest : List ℕ) → eqb d 44 ≡ false → eqb c 44 ≡ false → is_grouped (d ∷ c ∷ rest) ≡ (is_ascii_digit d && is_grouped (c ∷ rest))
grouped-digit d c rest other another = rw (other, another) (grouped-onto d c (slice_split (λ b. eqb b 44) rest))

grouped-comma : (d : ℕ) (rest : List ℕ) → eqb d 44 ≡ false → is_grouped (d ∷ 44 ∷ rest) ≡ ((is_ascii_digit d && true) && is_grouped rest)
grouped-comma d rest other = rw other (ap (λ t. t && is_grouped rest) (group-cons d []))

grouped-last : (d : ℕ) → eqb d 44 ≡ false → is_grouped (d ∷ []) ≡ ((is_ascii_digit d && true) && true)
grouped-last d other = rw other (ap (λ t. t && true) (group-cons d []))

-- digits alone are one group
digits_grouped : (d : ℕ) (rest : List ℕ) → is_digits (d ∷ rest) ≡ true → is_grouped (d ∷ rest) ≡ true
digits_grouped d [] h =
    let first = (and_parts _ _ h).0 in
    grouped-last d (no_comma d (digit_from_test d first)) ∙ and_from _ _ (and_from _ _ first refl) refl
digits_grouped d (c ∷ rest) h =
    let (first, others) = and_parts (is_ascii_digit d) (is_digits (c ∷ rest)) h in
    let second = (and_parts (is_ascii_digit c) (is_digits rest) others).0 in
    grouped-digit d c rest (no_comma d (digit_from_test d first)) (no_comma c (digit_from_test c second))
    ∙ and_from _ _ first (digits_grouped c rest others)

pub group_is_grouped : (whole : List ℕ) → is_group whole ≡ true → is_grouped whole ≡ true
group_is_grouped [] h = cc
group_is_grouped (d ∷ rest) h = digits_grouped d rest (and_parts _ _ h).1

starts_no_comma : (c : ℕ) (rest : List ℕ) → IsWhole (c ∷ rest) → eqb c 44 ≡ false
starts_no_comma c [] h = no_comma c h
starts_no_comma c (x ∷ rest) h = no_comma c h.0

test_from_whole : (whole : List ℕ) → IsWhole whole → is_grouped whole ≡ true
test_from_whole [] h = absurd h
test_from_whole (d ∷ []) h = grouped-last d (no_comma d h) ∙ and_from _ _ (and_from _ _ (test_from_digit d h) refl) refl
test_from_whole (d ∷ c ∷ rest) (first, inl more) =
    let later : is_grouped (c ∷ rest) ≡ true = test_from_whole (c ∷ rest) more in
    grouped-digit d c rest (no_comma d first) (starts_no_comma c rest more) ∙ and_from _ _ (test_from_digit d first) later
test_from_whole (d ∷ c ∷ rest) (first, inr (comma, more)) =
    ap (λ b. is_grouped (d ∷ b ∷ rest)) comma
    ∙ grouped-comma d rest (no_comma d first)
    ∙ and_from _ _ (and_from _ _ (test_from_digit d first) refl) (test_from_whole rest more)

whole_last : (d : ℕ) (comma : Bool) → eqb d 44 ≡ comma → is_grouped (d ∷ []) ≡ true → IsDigit d
whole_last d true e h = cc (rw e at h)
whole_last d false e h = digit_from_test d ((and_parts _ _ ((and_parts _ _ (sym (grouped-last d e) ∙ h)).0)).0)

whole_more : (d c : ℕ) (rest : List ℕ) → (is_grouped rest ≡ true → IsWhole rest) → (is_grouped (c ∷ rest) ≡ true → IsWhole (c ∷ rest)) → (first : Bool) → eqb d 44 ≡ first → (second : Bool) → eqb c 44 ≡ second → is_grouped (d ∷ c ∷ rest) ≡ true → IsWhole (d ∷ c ∷ rest)
whole_more d c rest behind more true e second f h = cc (rw e at h)
whole_more d c rest behind more false e true f h =
    let comma : c ≡ 44 = eqb-true c 44 f in
    let parts : ((is_ascii_digit d && true) && is_grouped rest) ≡ true = sym (grouped-comma d rest e) ∙ sym (ap (λ b. is_grouped (d ∷ b ∷ rest)) comma) ∙ h in
    (digit_from_test d ((and_parts _ _ (and_parts _ _ parts).0).0), inr (comma, behind ((and_parts _ _ parts).1)))
whole_more d c rest behind more false e false f h =
    let parts : (is_ascii_digit d && is_grouped (c ∷ rest)) ≡ true = sym (grouped-digit d c rest e f) ∙ h in
    (digit_from_test d (and_parts _ _ parts).0, inl (more ((and_parts _ _ parts).1)))

-- a comma in prefix leaves an empty group
whole_from_test : (whole : List ℕ) → is_grouped whole ≡ true → IsWhole whole
whole_from_test [] h = cc
whole_from_test (d ∷ []) h = whole_last d (eqb d 44) refl h
whole_from_test (d ∷ c ∷ rest) h = whole_more d c rest (whole_from_test rest) (whole_from_test (c ∷ rest)) (eqb d 44) refl (eqb c 44) refl h

-- ---- Signs

signs_by : (b : ℕ) (rest : List ℕ) (minus plus : Bool) → eqb b 45 ≡ minus → eqb b 43 ≡ plus → (prefix : List ℕ) × IsSign (cond minus Minus Plus) prefix × (b ∷ rest ≡ prefix ++ cond (minus || plus) rest (b ∷ rest))
signs_by b rest true plus e f = (45 ∷ [], refl, ap (λ x. x ∷ rest) (eqb-true b 45 e))
signs_by b rest false true e f = (43 ∷ [], inr refl, ap (λ x. x ∷ rest) (eqb-true b 43 f))
signs_by b rest false false e f = ([], inl refl, refl)

sign_from_text : (text : List ℕ) → (prefix : List ℕ) × IsSign (sign_of text) prefix × (text ≡ prefix ++ unsigned text)
sign_from_text [] = ([], inl refl, refl)
sign_from_text (b ∷ rest) = signs_by b rest (eqb b 45) (eqb b 43) refl refl

abbrev StartsWithDigit : List ℕ → Type 0
StartsWithDigit [] = ⊥
StartsWithDigit (d ∷ ds) = IsDigit d

whole_starts : (whole back : List ℕ) → IsWhole whole → StartsWithDigit (whole ++ back)
whole_starts [] back h = absurd h
whole_starts (d ∷ []) back h = h
whole_starts (d ∷ c ∷ rest) back h = h.0

no_sign : (body : List ℕ) → StartsWithDigit body → (sign_of body ≡ Plus) × (unsigned body ≡ body)
no_sign [] h = absurd h
no_sign (d ∷ ds) (low, high) = (grind (arith, nat_tests), grind (arith, nat_tests))

text_from_sign : (sign : Sign) (prefix body : List ℕ) → IsSign sign prefix → StartsWithDigit body → (sign_of (prefix ++ body) ≡ sign) × (unsigned (prefix ++ body) ≡ body)
text_from_sign Plus prefix body (inl none) digit = rw none (no_sign body digit)
text_from_sign Plus prefix body (inr plus) digit = rw plus (refl, refl)
text_from_sign Minus prefix body minus digit = rw minus (refl, refl)

-- ---- Points

before-cons : (b : ℕ) (rest : List ℕ) → eqb b 46 ≡ false → before_first is_point (b ∷ rest) ≡ b ∷ before_first is_point rest
before-cons b rest other =
    let one_more : 1 + position_or_len is_point rest ≡ suc (position_or_len is_point rest) = omega arith in
    rw (other, one_more)

after-cons : (b : ℕ) (rest : List ℕ) → eqb b 46 ≡ false → after_first is_point (b ∷ rest) ≡ after_first is_point rest
after-cons b rest other =
    let one_more : 1 + position_or_len is_point rest + 1 ≡ suc (position_or_len is_point rest + 1) = omega arith in
    rw (other, one_more)

before-point : (b : ℕ) (rest : List ℕ) → eqb b 46 ≡ true → (before_first is_point (b ∷ rest) ≡ []) × (after_first is_point (b ∷ rest) ≡ rest)
before-point b rest point = (rw point refl, rw point refl)

or_end_by : (text : List ℕ) (place : ℕ) (found : Bool) → ltb place (length text) ≡ found → place ≤ length text
    → unwrap_or (cond found (Some place) None) (length text) ≡ place
or_end_by text place true e within = refl
or_end_by text place false e within = grind (arith, nat_tests)

pub point_or_end : (text : List ℕ) → unwrap_or (position is_point text) (length text) ≡ position_or_len is_point text
point_or_end text =
    or_end_by text (position_or_len is_point text) (ltb (position_or_len is_point text) (length text)) refl
    (prefix_len-le-length (λ b. not (is_point b)) text)

point_by : (b : ℕ) (rest : List ℕ) (point : Bool) → eqb b 46 ≡ point → position_or_len is_point (b ∷ rest) < length (b ∷ rest)
    → (position_or_len is_point rest < length rest → get_or rest (position_or_len is_point rest) 0 < 128)
    → get_or (b ∷ rest) (position_or_len is_point (b ∷ rest)) 0 < 128
point_by b rest true e less later =
    let ascii : b < 128 = omega (arith, eqb-true b 46 e) in
    rw e ascii
point_by b rest false e less later =
    let one_more : 1 + position_or_len is_point rest ≡ suc (position_or_len is_point rest) = omega arith in
    let before : position_or_len is_point rest < length rest = omega (arith, rw e at less) in
    rw (e, one_more) (later before)

-- what stands at the first point is ASCII
pub point_ascii : (text : List ℕ) → position_or_len is_point text < length text → get_or text (position_or_len is_point text) 0 < 128
point_ascii [] less = absurd (omega (arith, less))
point_ascii (b ∷ rest) less = point_by b rest (eqb b 46) refl less (point_ascii rest)

-- so a text may be cut before it and behind it
pub before_point : (text : List ℕ) (at : ℕ) → at ≡ position_or_len is_point text → at < length text → IsCharBoundary text at
before_point text at place less =
    subst (IsCharBoundary text) (sym place)
    (IsCharBoundary-before_ascii text (position_or_len is_point text) (omega (arith, place, less)) (point_ascii text (omega (arith, place, less))))

pub behind_point : (text : List ℕ) (at : ℕ) → IsUtf8 text → at ≡ position_or_len is_point text → at < length text → IsCharBoundary text (at + 1)
behind_point text at utf8 place less =
    subst (λ n. IsCharBoundary text (n + 1)) (sym place)
    (IsCharBoundary-after_ascii text (position_or_len is_point text) utf8 (omega (arith, place, less)) (point_ascii text (omega (arith, place, less))))

abbrev HasFraction : List ℕ → Type 0
HasFraction body = (back : List ℕ) × IsFraction (after_first is_point body) back × (body ≡ before_first is_point body ++ back)

fraction_by : (b : ℕ) (rest : List ℕ) (point : Bool) → eqb b 46 ≡ point → HasFraction rest → HasFraction (b ∷ rest)
fraction_by b rest true e h =
    let cut = before-point b rest e in
    (46 ∷ rest, inl (ap (λ ds. 46 ∷ ds) (sym cut.1)), ap (λ x. x ∷ rest) (eqb-true b 46 e) ∙ ap (λ ds. ds ++ (46 ∷ rest)) (sym cut.0))
fraction_by b rest false e (back, fraction, spelled) =
    (back, subst (λ (ds : List ℕ). IsFraction ds back) (sym (after-cons b rest e)) fraction, ap (λ ds. b ∷ ds) spelled ∙ ap (λ ds. ds ++ back) (sym (before-cons b rest e)))

fraction_from_text : (body : List ℕ) → HasFraction body
fraction_from_text [] = ([], inr (refl, refl), refl)
fraction_from_text (b ∷ rest) = fraction_by b rest (eqb b 46) refl (fraction_from_text rest)

abbrev HasNoPoint : List ℕ → Type 0
HasNoPoint [] = ⊤
HasNoPoint (b ∷ rest) = (eqb b 46 ≡ false) × HasNoPoint rest

digit_no_point : (d : ℕ) → IsDigit d → eqb d 46 ≡ false
digit_no_point d (low, high) = grind (arith, nat_tests)

whole_no_point : (whole : List ℕ) → IsWhole whole → HasNoPoint whole
whole_no_point [] h = absurd h
whole_no_point (d ∷ []) h = (digit_no_point d h, tt)
whole_no_point (d ∷ c ∷ rest) (first, inl more) = (digit_no_point d first, whole_no_point (c ∷ rest) more)
whole_no_point (d ∷ c ∷ rest) (first, inr (comma, more)) =
    let other : eqb c 46 ≡ false = rw comma refl in
    (digit_no_point d first, (other, whole_no_point rest more))

text_from_fraction : (whole decimals back : List ℕ) → HasNoPoint whole → IsFraction decimals back → (before_first is_point (whole ++ back) ≡ whole) × (after_first is_point (whole ++ back) ≡ decimals)
text_from_fraction [] decimals back none (inl point) = rw point (refl, refl)
text_from_fraction [] decimals back none (inr (left_out, empty)) = rw (left_out, empty) (refl, refl)
text_from_fraction (b ∷ whole) decimals back (other, none) fraction =
    let rest = text_from_fraction whole decimals back none fraction in
    (before-cons b (whole ++ back) other ∙ ap (λ ds. b ∷ ds) rest.0, after-cons b (whole ++ back) other ∙ rest.1)

-- ---- Whole texts

pub text_is_spelled : (text : List ℕ) → is_number text ≡ true → IsNumberText text (sign_of text) (whole_part text) (decimals text)
text_is_spelled text good =
    let sign = sign_from_text text in
    let fraction = fraction_from_text (unsigned text) in
    record {
      prefix = sign.0;
      back = fraction.0;
      is_sign = sign.1;
      is_whole = whole_from_test (whole_part text) ((and_parts _ _ good).0);
      is_fraction = fraction.1;
      are_digits = digits_from_test (decimals text) ((and_parts _ _ good).1);
      spelled = sign.2 ∙ ap (λ body. sign.0 ++ body) fraction.2;
    }

pub spelling_is_cut : (text : List ℕ) (sign : Sign) (whole fraction : List ℕ) → IsNumberText text sign whole fraction → (is_number text ≡ true) × (sign_of text ≡ sign) × (whole_part text ≡ whole) × (decimals text ≡ fraction)
spelling_is_cut text sign whole fraction spelling =
    let signed = text_from_sign sign spelling.prefix (whole ++ spelling.back) spelling.is_sign (whole_starts whole spelling.back spelling.is_whole) in
    let cut = text_from_fraction whole fraction spelling.back (whole_no_point whole spelling.is_whole) spelling.is_fraction in
    let body : unsigned text ≡ whole ++ spelling.back = ap unsigned spelling.spelled ∙ signed.1 in
    let before : whole_part text ≡ whole = ap (before_first is_point) body ∙ cut.0 in
    let behind : decimals text ≡ fraction = ap (after_first is_point) body ∙ cut.1 in
    (and_from _ _ (ap is_grouped before ∙ test_from_whole whole spelling.is_whole) (ap is_digits behind ∙ test_from_digits fraction spelling.are_digits), ap sign_of spelling.spelled ∙ signed.0, before, behind)

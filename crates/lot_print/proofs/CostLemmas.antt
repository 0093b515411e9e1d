-- The parts of a cost are cut into their tokens, one behind another.
use Rattle.std.proofs.Common.{◌≡◌, inl, inr, ℕ, true, false, List, [], ◌∷◌, ◌++◌, refl, ap, sym, subst, arith, eqb, ℤ, append_assoc}
use Rattle.std.specs.Prelude.{option_map, Option, Some, None, IfSome}
use Rattle.std.specs.List.{AllZip, flat_map}
use Rattle.std.specs.Char.{is_ascii_digit}
use Rattle.std.proofs.lemmas.Bool.Decides.{nat_tests}
use Rattle.std.proofs.lemmas.List.{append-nil}
use Rattle.lot_num.specs.Amount.{IsRate, IsUnits}
use Rattle.lot_base.specs.Day.{day_text}
use Rattle.lot_base.specs.Name.{IsName, is_commodity, is_label, longest_commodity}
use Rattle.lot_cost.specs.declared.cost_spec.CostSpec.{CostSpec}
use Rattle.lot_command.specs.Canonical.{cost_parts, given, in_quotes, joined, money, parts_text, rate_text, units_text}
use Rattle.lot_syntax.specs.Token.{Lexeme, Stands, begins, begins_with, is_sign, is_word_byte, is_word_start, date, number, word}
use Rattle.lot_syntax.specs.Cutting.{BeginsNumber}
use Rattle.lot_syntax.proofs.NumberLemmas.{begins_number}
use Rattle.lot_syntax.specs.Form.{CostPart, amount, currency, day, label, money as money_of, part_tokens, parts_tokens}
use Rattle.lot_command.specs.Sayable.{IsSpec}
use Rattle.lot_print.proofs.ListLemmas.{both_zip, zip_weaker}
use Rattle.lot_print.proofs.NameLemmas.{commodity_word}
use Rattle.lot_print.proofs.DayLemmas.{day_stands, day_starts}
use Rattle.lot_print.proofs.NumberLemmas.{IsApart, at_end, before_brace, before_comma, before_space, rate_stands, units_stand}
use Rattle.lot_print.proofs.NoteLemmas.{label_stands}
use Rattle.lot_print.proofs.CutLemmas.{IsCut, PartStands, comma_space, joined_parts, no_token, regrouped, space_first, text_first, token_first, word_first}
use Rattle.lot_print.proofs.CostParts.{written_day, written_label, written_money, written_parts}

-- ---- The parts of a cost stand.

-- it stands, and a brace before it isn't two
pub record IsPart (bytes : List ℕ) (cost_part : CostPart) : Type 0 where
  pub stands : PartStands IsApart bytes (part_tokens cost_part)
  pub no_brace : (rest : List ℕ) → begins_with 123 (bytes ++ rest) ≡ false

-- the text of a number
pub record IsNumeral (bytes : List ℕ) : Type 0 where
  pub stands : (rest : List ℕ) → IsApart rest → Stands (number bytes) rest

pub units_numeral : (units : ℤ) → IsUnits units → IsNumeral (units_text units)
units_numeral units h = record { stands = λ rest apart. units_stand units rest h apart }

pub rate_numeral : (rate : ℕ) → IsRate rate → IsNumeral (rate_text rate)
rate_numeral rate h = record { stands = λ rest apart. rate_stands rate rest h apart }

digit_no_brace : (b : ℕ) → is_ascii_digit b ≡ true → eqb b 123 ≡ false
digit_no_brace b e = grind (arith, nat_tests)

sign_no_brace : (b : ℕ) → is_sign b ≡ true → eqb b 123 ≡ false
sign_no_brace b e = grind (arith, nat_tests)

start_no_brace : (b : ℕ) → is_word_start b ≡ true → eqb b 123 ≡ false
start_no_brace b e = grind (arith, nat_tests)

begun_no_brace : (bytes : List ℕ) → BeginsNumber bytes → begins_with 123 bytes ≡ false
begun_no_brace [] h = absurd h
begun_no_brace (b ∷ rest) (inl digit) = digit_no_brace b digit
begun_no_brace (b ∷ rest) (inr (sign, digit)) = sign_no_brace b sign

-- what begins a number doesn't depend on what stands behind it
numeral_begins : (bytes rest : List ℕ) → begins_with 123 (bytes ++ []) ≡ false → BeginsNumber (bytes ++ [])
    → begins_with 123 (bytes ++ rest) ≡ false
numeral_begins [] rest e h = absurd h
numeral_begins (b ∷ bytes) rest e h = e

numeral_no_brace : (bytes rest : List ℕ) → IsNumeral bytes → begins_with 123 (bytes ++ rest) ≡ false
numeral_no_brace bytes rest n =
    let begun = begins_number bytes [] (n.stands [] at_end).0 in
    numeral_begins bytes rest (begun_no_brace (bytes ++ []) begun) begun

word_no_brace : (bytes rest : List ℕ) → begins is_word_start bytes ≡ true → begins_with 123 (bytes ++ rest) ≡ false
word_no_brace [] rest e = cc
word_no_brace (b ∷ bytes) rest e = start_no_brace b e

currency_part : (c : List ℕ) → IsName is_commodity c → IsPart c (currency c)
currency_part c h =
    let w = commodity_word c h.1 in
    record {
      stands = λ rest tokens apart cuts. word_first longest_commodity c rest tokens w apart.word cuts;
      no_brace = λ rest. word_no_brace c rest w.starts;
    }

amount_part : (n : List ℕ) → IsNumeral n → IsPart n (amount n)
amount_part n h = record {
  stands = λ rest tokens apart cuts. token_first (number n) (h.stands rest apart) cuts;
  no_brace = λ rest. numeral_no_brace n rest h;
}

-- a number, a space and a currency
money_cut : (n c rest : List ℕ) (tokens : List Lexeme) → IsNumeral n → IsName is_commodity c → begins is_word_byte rest ≡ false
    → IsCut tokens rest → IsCut (number n ∷ word c ∷ tokens) (n ++ 32 ∷ (c ++ rest))
money_cut n c rest tokens h k ends cuts =
    token_first (number n) (h.stands (32 ∷ (c ++ rest)) (before_space (c ++ rest)))
    (space_first (word_first longest_commodity c rest tokens (commodity_word c k.1) ends cuts))

money_part : (n c : List ℕ) → IsNumeral n → IsName is_commodity c → IsPart (n ++ 32 ∷ c) (money_of n c)
money_part n c h k = record {
  stands = λ rest tokens apart cuts.
      regrouped refl (sym (append_assoc n (32 ∷ c) rest)) (money_cut n c rest tokens h k apart.word cuts);
  no_brace = λ rest.
      subst (λ (line : List ℕ). begins_with 123 line ≡ false) (sym (append_assoc n (32 ∷ c) rest))
      (numeral_no_brace n (32 ∷ (c ++ rest)) h);
}

day_part : (d : ℤ) → IsPart (day_text d) (day (day_text d))
day_part d = record {
  stands = λ rest tokens apart cuts. token_first (date (day_text d)) (day_stands d rest) cuts;
  no_brace = λ rest.
      let s = day_starts d in
      subst (λ (bytes : List ℕ). begins_with 123 (bytes ++ rest) ≡ false) (sym s.whole) (digit_no_brace s.first s.is_digit);
}

label_part : (l : List ℕ) → IsName is_label l → IsPart (in_quotes l) (label l)
label_part l h = record {
  stands = λ rest tokens apart cuts. text_first l rest tokens (label_stands l rest h.1) cuts;
  no_brace = λ rest. refl;
}

-- ---- All parts of a cost.

abbrev pub ArePart : List (List ℕ) → List CostPart → Type 0
ArePart texts parts = AllZip IsPart texts parts

moneys_are : (n c : Option (List ℕ)) → IfSome n IsNumeral → IfSome c (IsName is_commodity)
    → ArePart (given (money n c)) (written_money n c)
moneys_are None None h k = tt
moneys_are None (Some c) h k = (currency_part c k, tt)
moneys_are (Some n) None h k = (amount_part n h, tt)
moneys_are (Some n) (Some c) h k = (money_part n c h k, tt)

days_are : (d : Option ℤ) → ArePart (given (option_map day_text d)) (written_day (option_map day_text d))
days_are None = tt
days_are (Some d) = (day_part d, tt)

labels_are : (l : Option (List ℕ)) → IfSome l (IsName is_label) → ArePart (given (option_map in_quotes l)) (written_label l)
labels_are None h = tt
labels_are (Some l) h = (label_part l h, tt)

pub parts_are : (n : Option (List ℕ)) (spec : CostSpec) → IfSome n IsNumeral → IsSpec spec
    → ArePart (cost_parts n spec) (written_parts n spec)
parts_are n spec h s =
    both_zip IsPart (given (money n spec.currency)) _ _ _ (moneys_are n spec.currency h s.in_currency)
    (both_zip IsPart (given (option_map day_text spec.day)) _ _ _ (days_are spec.day) (labels_are spec.label s.of_label))

pub row_no_brace : (texts : List (List ℕ)) (parts : List CostPart) (rest : List ℕ) → ArePart texts parts
    → begins_with 123 ((joined (44 ∷ 32 ∷ []) texts ++ 125 ∷ []) ++ rest) ≡ false
row_no_brace [] [] rest all = refl
row_no_brace [] (p ∷ parts) rest all = absurd all
row_no_brace (x ∷ texts) [] rest all = absurd all
row_no_brace (x ∷ texts) (p ∷ parts) rest (first, all) =
    let row : List ℕ = flat_map (λ text. 44 ∷ 32 ∷ text) texts in
    let whole : x ++ (row ++ 125 ∷ rest) ≡ ((x ++ row) ++ 125 ∷ []) ++ rest = simp append_assoc in
    subst (λ (line : List ℕ). begins_with 123 line ≡ false) whole (first.no_brace (row ++ 125 ∷ rest))

pub row_cut : (n : Option (List ℕ)) (spec : CostSpec) (rest : List ℕ) (tokens : List Lexeme) → IfSome n IsNumeral → IsSpec spec
    → IsCut tokens (125 ∷ rest)
    → IsCut (parts_tokens (written_parts n spec) ++ tokens) (parts_text n spec ++ 125 ∷ rest)
row_cut n spec rest tokens h s cut =
    let parts = parts_are n spec h s in
    let stand = zip_weaker IsPart (λ bytes p. PartStands IsApart bytes (part_tokens p)) (λ bytes p is. is.stands) _ _ parts in
    joined_parts IsApart (44 ∷ 32 ∷ []) part_tokens (comma_space IsApart before_comma) (cost_parts n spec) (written_parts n spec)
    stand (125 ∷ rest) tokens (before_brace rest) cut

-- a number, a space and a currency at the end of a line
pub money_last : (n c : List ℕ) → IsNumeral n → IsName is_commodity c → IsCut (number n ∷ word c ∷ []) (n ++ 32 ∷ c)
money_last n c h k =
    regrouped refl (ap (λ bytes. n ++ 32 ∷ bytes) (append-nil c)) (money_cut n c [] [] h k refl no_token)

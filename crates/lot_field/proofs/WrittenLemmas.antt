-- What is read of a date that is written by a form of days.
use Rattle.std.proofs.Common.{◌≡◌, ℕ, ◌<◌, ◌==◌, Bool, true, false, List, [], ◌∷◌, ◌++◌, length, take, drop, Option, Some, refl, ap, ◌∙◌, sym, arith, append_assoc}
use Rattle.std.specs.Prelude.{count_by, flat_map}
use Rattle.std.specs.Str.Parse.{digits_value}
use Rattle.std.proofs.lemmas.Bool.Decides.{nat_tests}
use Rattle.std.proofs.Math.Seq.{drop-append_seam, take-append_seam}
use Rattle.lot_field.specs.Days.{HaveEachOnce, in_digits, in_letters, in_width, is_day, is_month, is_number, is_year, no_date, read_part, read_parts, width_between}
use Rattle.lot_field.specs.Numbers.{are_digits}
use Rattle.lot_field.specs.Written.{AreWritten, Written, date_of, written_part}
use Rattle.lot_field.specs.declared.days.Date.{Date}
use Rattle.lot_field.specs.declared.days.DayPart.{DayPart}
use Rattle.lot_field.specs.declared.days.DayPart.TheVariants.{Year, Month, MonthName, Day, Sign}
use Rattle.lot_field.specs.declared.days.Width.{Width}
use Rattle.lot_field.specs.declared.days.Width.TheVariants.{OneOrTwo, Two}
use Rattle.lot_field.proofs.DayLemmas.{digits-found}

front : (count : ℕ) (first rest : List ℕ) → length first ≡ count → first ≡ take count (first ++ rest)
front count first rest long = sym (ap (λ (n : ℕ). take n (first ++ rest)) (sym long) ∙ take-append_seam first rest)

back : (count : ℕ) (first rest : List ℕ) → length first ≡ count → rest ≡ drop count (first ++ rest)
back count first rest long = sym (ap (λ (n : ℕ). drop n (first ++ rest)) (sym long) ∙ drop-append_seam first rest)

digits-read : (count : ℕ) (digits rest : List ℕ) → are_digits digits ≡ true → length digits ≡ count
    → in_digits count (digits ++ rest) ≡ Some (digits_value 10 digits, rest)
digits-read count digits rest all long =
    digits-found (digits ++ rest) digits rest count (digits_value 10 digits) (front count digits rest long) (back count digits rest long) long all refl

two-read : (width : Width) (digits rest : List ℕ) → are_digits digits ≡ true → length digits ≡ 2
    → in_width width (digits ++ rest) ≡ Some (digits_value 10 digits, rest)
two-read Two digits rest all long = digits-read 2 digits rest all long
two-read OneOrTwo digits rest all long = let two = digits-read 2 digits rest all long in rw two refl

module _ (w : Written) (are : AreWritten w) where
  -- a date with what a part says
  abbrev with_part : DayPart → Date → Date
  with_part Year date = record date { year = digits_value 10 w.year }
  with_part Month date = record date { month = digits_value 10 w.month }
  with_part MonthName date = record date { month = digits_value 10 w.month }
  with_part Day date = record date { day = digits_value 10 w.day }
  with_part (Sign sign) date = date

  abbrev with_parts : List DayPart → Date → Date
  with_parts [] date = date
  with_parts (part ∷ parts) date = with_parts parts (with_part part date)

  letters-read : (rest : List ℕ) → in_letters (w.name ++ rest) ≡ Some (digits_value 10 w.month, rest)
  letters-read rest =
      let name = sym (front 3 w.name rest are.three) in
      let behind = sym (back 3 w.name rest are.three) in
      let named = are.named in
      rw (name, behind, named) refl

  sign-read : (sign : ℕ) (date : Date) (rest : List ℕ) (width : Width) → read_part width (Sign sign) date (sign ∷ rest) ≡ Some (date, rest)
  sign-read sign date rest width = let same : (sign == sign) ≡ true = grind (arith, nat_tests) in rw same refl

  part-read : (part : DayPart) (width : Width) (date : Date) (rest : List ℕ)
      → read_part width part date (written_part w part ++ rest) ≡ Some (with_part part date, rest)
  part-read Year width date rest = let read = digits-read 4 w.year rest are.year are.four in rw read refl
  part-read Month width date rest = let read = two-read width w.month rest are.month are.two in rw read refl
  part-read MonthName width date rest = let read = letters-read rest in rw read refl
  part-read Day width date rest = let read = two-read width w.day rest are.day are.two_of_day in rw read refl
  part-read (Sign sign) width date rest = sign-read sign date rest width

  parts-read : (parts : List DayPart) (behind_number : Bool) (date : Date) (rest : List ℕ)
      → read_parts behind_number parts date (flat_map (written_part w) parts ++ rest) ≡ Some (with_parts parts date, rest)
  parts-read [] behind_number date rest = refl
  parts-read (part ∷ parts) behind_number date rest =
      let split = append_assoc (written_part w part) (flat_map (written_part w) parts) rest in
      let read = part-read part (width_between behind_number parts) date (flat_map (written_part w) parts ++ rest) in
      rw (split, read) (parts-read parts (is_number part) (with_part part date) rest)

  -- ---- What has been read stays, and each is read once.

  year-kept : (parts : List DayPart) (date : Date) → date.year ≡ digits_value 10 w.year → (with_parts parts date).year ≡ digits_value 10 w.year
  year-kept [] date is = is
  year-kept (Year ∷ parts) date is = year-kept parts (with_part Year date) refl
  year-kept (Month ∷ parts) date is = year-kept parts (with_part Month date) is
  year-kept (MonthName ∷ parts) date is = year-kept parts (with_part MonthName date) is
  year-kept (Day ∷ parts) date is = year-kept parts (with_part Day date) is
  year-kept (Sign sign ∷ parts) date is = year-kept parts date is

  year-read : (parts : List DayPart) (date : Date) → 0 < count_by is_year parts → (with_parts parts date).year ≡ digits_value 10 w.year
  year-read [] date some = absurd (omega (arith, some))
  year-read (Year ∷ parts) date some = year-kept parts (with_part Year date) refl
  year-read (Month ∷ parts) date some = year-read parts (with_part Month date) some
  year-read (MonthName ∷ parts) date some = year-read parts (with_part MonthName date) some
  year-read (Day ∷ parts) date some = year-read parts (with_part Day date) some
  year-read (Sign sign ∷ parts) date some = year-read parts date some

  month-kept : (parts : List DayPart) (date : Date) → date.month ≡ digits_value 10 w.month → (with_parts parts date).month ≡ digits_value 10 w.month
  month-kept [] date is = is
  month-kept (Year ∷ parts) date is = month-kept parts (with_part Year date) is
  month-kept (Month ∷ parts) date is = month-kept parts (with_part Month date) refl
  month-kept (MonthName ∷ parts) date is = month-kept parts (with_part MonthName date) refl
  month-kept (Day ∷ parts) date is = month-kept parts (with_part Day date) is
  month-kept (Sign sign ∷ parts) date is = month-kept parts date is

  month-read : (parts : List DayPart) (date : Date) → 0 < count_by is_month parts → (with_parts parts date).month ≡ digits_value 10 w.month
  month-read [] date some = absurd (omega (arith, some))
  month-read (Year ∷ parts) date some = month-read parts (with_part Year date) some
  month-read (Month ∷ parts) date some = month-kept parts (with_part Month date) refl
  month-read (MonthName ∷ parts) date some = month-kept parts (with_part MonthName date) refl
  month-read (Day ∷ parts) date some = month-read parts (with_part Day date) some
  month-read (Sign sign ∷ parts) date some = month-read parts date some

  day-kept : (parts : List DayPart) (date : Date) → date.day ≡ digits_value 10 w.day → (with_parts parts date).day ≡ digits_value 10 w.day
  day-kept [] date is = is
  day-kept (Year ∷ parts) date is = day-kept parts (with_part Year date) is
  day-kept (Month ∷ parts) date is = day-kept parts (with_part Month date) is
  day-kept (MonthName ∷ parts) date is = day-kept parts (with_part MonthName date) is
  day-kept (Day ∷ parts) date is = day-kept parts (with_part Day date) refl
  day-kept (Sign sign ∷ parts) date is = day-kept parts date is

  day-read : (parts : List DayPart) (date : Date) → 0 < count_by is_day parts → (with_parts parts date).day ≡ digits_value 10 w.day
  day-read [] date some = absurd (omega (arith, some))
  day-read (Year ∷ parts) date some = day-read parts (with_part Year date) some
  day-read (Month ∷ parts) date some = day-read parts (with_part Month date) some
  day-read (MonthName ∷ parts) date some = day-read parts (with_part MonthName date) some
  day-read (Day ∷ parts) date some = day-kept parts (with_part Day date) refl
  day-read (Sign sign ∷ parts) date some = day-read parts date some

  one-date : (a b : Date) → a.year ≡ b.year → a.month ≡ b.month → a.day ≡ b.day → a ≡ b
  one-date a b e f g =
      let made : ℕ → ℕ → ℕ → Date = λ year month day. record { year = year; month = month; day = day } in
      ap (λ (n : ℕ). made n a.month a.day) e ∙ ap (λ (n : ℕ). made b.year n a.day) f ∙ ap (λ (n : ℕ). made b.year b.month n) g

  pub date-read : (parts : List DayPart) (rest : List ℕ) → HaveEachOnce parts
      → read_parts false parts no_date (flat_map (written_part w) parts ++ rest) ≡ Some (date_of w, rest)
  date-read parts rest once =
      let all = with_parts parts no_date in
      let same : all ≡ date_of w =
      one-date all (date_of w) (year-read parts no_date (omega (arith, once.year))) (month-read parts no_date (omega (arith, once.month)))
      (day-read parts no_date (omega (arith, once.day))) in
      parts-read parts false no_date rest ∙ ap (λ (date : Date). let read : Option (Date × List ℕ) = Some (date, rest) in read) same

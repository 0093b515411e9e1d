-- Blank records are text, and no lines.
use Rattle.std.proofs.Common.{◌≡◌, ℕ, zero, suc, ◌<◌, lit<, ◌&&◌, Bool, true, false, List, [], ◌∷◌, ◌∙◌, Result, Ok, Err, IsErrAnd, IfErr, filter, refl, sym, ap, subst, arith}
use Rattle.std.proofs.lemmas.Bool.Decides.{nat_tests}
use Rattle.std.proofs.lemmas.Str.{IsUtf8-from_ascii}
use Rattle.std.specs.Str.{IsAscii}
use Rattle.std.specs.List.{list_all}
use Rattle.csv.specs.Records.{AllText}
use Rattle.lot_field.specs.Field.{is_blank}
use Rattle.lot_sheet.specs.Column.{is_blank_field}
use Rattle.lot_sheet.specs.Reading.{HasNoText}
use Rattle.lot_sheet.specs.Sheet.{is_line}

both : (a b : Bool) → (a && b) ≡ true → (a ≡ true) × (b ≡ true)
both true b e = (refl, e)
both false b e = cc

-- a record that isn't blank is the first line
pub line_first : (records others : List (List (List ℕ))) (line : List (List ℕ)) → records ≡ line ∷ others → list_all is_blank_field line ≡ false
    → filter is_line records ≡ line ∷ filter is_line others
line_first records others line e blank = ap (filter is_line) e ∙ rw (blank) refl

-- a blank one is none
pub line_later : (records others : List (List (List ℕ))) (line : List (List ℕ)) → records ≡ line ∷ others → list_all is_blank_field line ≡ true
    → filter is_line records ≡ filter is_line others
line_later records others line e blank = ap (filter is_line) e ∙ rw (blank) refl

-- blanks are text
blank_code : (byte : ℕ) → is_blank byte ≡ true → byte < 128
blank_code byte e = grind (arith, nat_tests)

blank_ascii : (field : List ℕ) → is_blank_field field ≡ true → IsAscii field
blank_ascii [] e i = lit< tt
blank_ascii (byte ∷ field) e zero = blank_code byte (both (is_blank byte) (is_blank_field field) e).0
blank_ascii (byte ∷ field) e (suc i) = blank_ascii field (both (is_blank byte) (is_blank_field field) e).1 i

blank_is_text : (line : List (List ℕ)) → list_all is_blank_field line ≡ true → AllText line
unfolding AllText
blank_is_text [] e = tt
blank_is_text (field ∷ line) e =
    let h = both (is_blank_field field) (list_all is_blank_field line) e in
    (IsUtf8-from_ascii field (blank_ascii field h.0), blank_is_text line h.1)

-- a first record that isn't text is a line
pub no_text_line : (records : List (List (List ℕ))) → HasNoText records → HasNoText (filter is_line records)
no_text_line records h = by (list_all is_blank_field h.first) refl
  where
    by : (b : Bool) → list_all is_blank_field h.first ≡ b → HasNoText (filter is_line records)
    by true e = absurd (h.why (blank_is_text h.first e))
    by false e = record { first = h.first; others = filter is_line h.others; all = line_first records h.others h.first h.all e; why = h.why }

-- a fault that is handed on
pub handed : {T E : Type 0} (r : Result T E) (fault : E) (P : E → Type 0) → IsErrAnd r (λ e. e ≡ fault) → P fault → IfErr r P
handed (Ok value) fault P is h = absurd is
handed (Err e) fault P is h = subst P (sym is) h

-- Records as the writer of `csv` writes them, whose reader reads them back.
use Rattle.std.specs.Prelude.{◌≡◌, ◌==◌, ◌||◌, ℕ, Bool, true, false, cond, List, [], ◌∷◌, ◌++◌, Some}
use Rattle.std.specs.List.{list_any}
use Rattle.std.proofs.Common.{refl, sym, ap, ◌∙◌, append_assoc, inl, inr}
use Rattle.std.proofs.lemmas.Bool.{cases_Bool, eqb-true}
use Rattle.csv.specs.Machine.{next_record}
use Rattle.csv.specs.Reading.{default_config}
use Rattle.csv.specs.Writing.{default_writer, escaped, field_text as written_field, fields_text, is_blank, needs_byte, row_text}
use Rattle.csv.specs.declared.parser.State.TheVariants as st
use Rattle.csv.proofs.RoundTrip.{read-write-many}
use Rattle.lot_csv.specs.Record.{doubled, field_text, is_mark, needs_quotes, others_text, record_text}

by_bytes : (comma quote return feed : Bool) → ((((comma || quote) || (return || feed)) || false) || false) ≡ (comma || (quote || (return || feed)))
by_bytes true quote return feed = refl
by_bytes false true return feed = refl
by_bytes false false true feed = refl
by_bytes false false false true = refl
by_bytes false false false false = refl

same_mark : (byte : ℕ) → needs_byte default_writer byte ≡ is_mark byte
same_mark byte = by_bytes (byte == 44) (byte == 34) (byte == 13) (byte == 10)

same_need : (field : List ℕ) → list_any (needs_byte default_writer) field ≡ needs_quotes field
same_need [] = refl
same_need (byte ∷ field) = λ i. same_mark byte i || same_need field i

same_doubled : (field : List ℕ) → escaped default_writer field ≡ doubled field
unfolding escaped
same_doubled [] = refl
same_doubled (byte ∷ field) = elim (cases_Bool (byte == 34)) [
  | inl quote ↦
      rw (quote) (ap (λ (b : ℕ). 34 ∷ b ∷ escaped default_writer field) (eqb-true byte 34 quote) ∙ ap (λ (more : List ℕ). 34 ∷ 34 ∷ more) (same_doubled field))
  | inr other ↦ rw (other) (ap (λ (more : List ℕ). byte ∷ more) (same_doubled field))
]

same_field : (field : List ℕ) → written_field default_writer field ≡ field_text field
unfolding field_text
same_field field = λ i. cond (same_need field i) (34 ∷ (same_doubled field i ++ 34 ∷ [])) field

same_others : (fields : List (List ℕ)) → fields_text default_writer fields ≡ others_text fields
unfolding fields_text
same_others [] = refl
same_others (field ∷ fields) = λ i. 44 ∷ (same_field field i ++ same_others fields i)

same_record : (first second : List ℕ) (others : List (List ℕ)) → row_text default_writer (first ∷ second ∷ others) ≡ record_text (first ∷ second ∷ others)
unfolding is_blank
same_record first second others =
    append_assoc (written_field default_writer first) (fields_text default_writer (second ∷ others)) (10 ∷ [])
    ∙ (λ i. same_field first i ++ (same_others (second ∷ others) i ++ 10 ∷ []))

pub reads_back : (first second : List ℕ) (others : List (List ℕ)) (behind : List ℕ)
    → next_record default_config st.StartRecord [] [] (record_text (first ∷ second ∷ others) ++ behind)
    ≡ Some (first ∷ second ∷ others, st.StartRecord, behind)
reads_back first second others behind =
    ap (λ (text : List ℕ). next_record default_config st.StartRecord [] [] (text ++ behind)) (sym (same_record first second others))
    ∙ read-write-many first second others behind

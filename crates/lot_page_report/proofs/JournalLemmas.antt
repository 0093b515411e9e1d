-- Entries that are listed one by one.
use Rattle.std.specs.Prelude.{◌||◌, Bool, cond, false, true}
use Rattle.std.specs.BTreeSet.{BTreeSet, contains}
use Rattle.std.specs.Ordering.{is_eq, nat_cmp}
use Rattle.std.proofs.Common.{◌≡◌, ℕ, ℤ, List, [], ◌∷◌, ◌++◌, Some, ap, refl, sym, ◌∙◌}
use Rattle.lot_legs.specs.Days.{day_in}
use Rattle.lot_page_report.proofs.CountLemmas.{day_is, within_more}
use Rattle.lot_page_report.specs.Listed.{HasListedEntries, month_number}
use Rattle.lot_page_report.specs.Parts.{day_of_row, rows_within}
use Rattle.lot_page_report.specs.Sections.{entry_piece, entry_row_html, fold_front, fold_with, has_month, last_month, month_in}
use Rattle.lot_page_report.specs.declared.journal.JournalList.{JournalList}
use Rattle.lot_rows.specs.declared.entry.EntryRow.{EntryRow}
use Rattle.lot_walk.specs.Gains.{Range, is_within}

last_of : (rows : List EntryRow) (row : EntryRow) → last_month (rows ++ row ∷ []) ≡ Some (month_in row)
last_of [] row = refl
last_of (first ∷ []) row = refl
last_of (first ∷ next ∷ rows) row = last_of (next ∷ rows) row

or_none : (a : Bool) → (a || false) ≡ a
or_none true = refl
or_none false = refl

or_cond : (a b : Bool) → (cond a true b) ≡ (b || a)
or_cond true true = refl
or_cond true false = refl
or_cond false true = refl
or_cond false false = refl

or_assoc : (a b c : Bool) → (a || (b || c)) ≡ ((a || b) || c)
or_assoc true b c = refl
or_assoc false b c = refl

month_more : (month : ℕ) (rows : List EntryRow) (row : EntryRow)
    → has_month month (rows ++ row ∷ []) ≡ (has_month month rows || is_eq (nat_cmp (month_in row) month))
month_more month [] row = or_none (is_eq (nat_cmp (month_in row) month))
month_more month (first ∷ rows) row =
    ap (λ (b : Bool). is_eq (nat_cmp (month_in first) month) || b) (month_more month rows row)
    ∙ or_assoc (is_eq (nat_cmp (month_in first) month)) (has_month month rows) (is_eq (nat_cmp (month_in row) month))

module _ (range : Range) (rows : List EntryRow) (row : EntryRow) (old new : JournalList) (had : HasListedEntries range rows old) where
  -- an entry of the range
  pub listed_more : is_within range (day_of_row row) ≡ true → new.first ≡ old.first → new.last ≡ old.last
      → month_number new.month ≡ Some (month_in row)
      → ((month : ℕ) → contains nat_cmp new.months month ≡ cond (is_eq (nat_cmp (month_in row) month)) true (contains nat_cmp old.months month))
      → HasListedEntries range (rows ++ row ∷ []) new
  listed_more is first last month months =
      let within : rows_within range (rows ++ row ∷ []) ≡ rows_within range rows ++ row ∷ [] = rw (is) at (within_more range rows row) in
      record {
        first = first ∙ had.first;
        last = last ∙ had.last;
        month = month ∙ sym (ap last_month within ∙ last_of (rows_within range rows) row);
        months = λ at.
            months at
            ∙ or_cond (is_eq (nat_cmp (month_in row) at)) (contains nat_cmp old.months at)
            ∙ ap (λ (b : Bool). b || is_eq (nat_cmp (month_in row) at)) (had.months at)
            ∙ sym (ap (has_month at) within ∙ month_more at (rows_within range rows) row);
      }

  -- one that isn't
  pub listed_still : is_within range (day_of_row row) ≡ false → new.first ≡ old.first → new.last ≡ old.last → new.month ≡ old.month
      → new.months ≡ old.months → HasListedEntries range (rows ++ row ∷ []) new
  listed_still isnt first last month months =
      let within : rows_within range (rows ++ row ∷ []) ≡ rows_within range rows = rw (isnt) at (within_more range rows row) in
      record {
        first = first ∙ had.first;
        last = last ∙ had.last;
        month = ap month_number month ∙ had.month ∙ sym (ap last_month within);
        months = λ at. ap (λ (set : BTreeSet ℕ). contains nat_cmp set at) months ∙ had.months at ∙ sym (ap (has_month at) within);
      }

-- what is written of an entry of the range
pub piece_is : (range : Range) (rows : List EntryRow) (row : EntryRow) (old : JournalList) → HasListedEntries range rows old
    → is_within range (day_of_row row) ≡ true
    → fold_with (month_number old.month) (contains nat_cmp old.months (month_in row)) (month_in row) ++ entry_row_html row ≡ entry_piece range rows row
piece_is range rows row old had is =
    let written : fold_with (month_number old.month) (contains nat_cmp old.months (month_in row)) (month_in row)
    ≡ fold_front (rows_within range rows) (month_in row) =
    λ i. fold_with (had.month i) (had.months (month_in row) i) (month_in row) in
    rw (is) (ap (λ (t : List ℕ). t ++ entry_row_html row) written)

pub no_piece : (range : Range) (rows : List EntryRow) (row : EntryRow) → is_within range (day_of_row row) ≡ false → entry_piece range rows row ≡ []
no_piece range rows row isnt = rw (isnt) refl

-- an entry with that day at its front is of the range or not
pub within_is : (range : Range) (rows : List EntryRow) (row : EntryRow) (old : JournalList) → HasListedEntries range rows old → (day : ℤ) (b : Bool)
    → day_in row.body ≡ Some day → b ≡ is_within (old.first, old.last) day → is_within range (day_of_row row) ≡ b
within_is range rows row old had day b is same =
    sym (same ∙ (λ i. is_within (had.first i, had.last i) (sym (day_is row day is) i)))

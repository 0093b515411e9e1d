-- Entries that are counted one by one.
use Rattle.std.specs.Prelude.{Bool, cond, false, true}
use Rattle.std.specs.Option.{unwrap_or}
use Rattle.std.proofs.Common.{◌≡◌, ℕ, ℤ, pos, ◌+◌, List, [], ◌∷◌, ◌++◌, length, Option, Some, ap, refl, sym, ◌∙◌, append-nil, length-append, inl, inr}
use Rattle.std.proofs.lemmas.Bool.{cases_Bool}
use Rattle.std.proofs.lemmas.List.Elements.{filter-append}
use Rattle.lot_legs.specs.Days.{day_in}
use Rattle.lot_page_report.specs.Counted.{HasCounted, days_in, days_with}
use Rattle.lot_page_report.specs.Parts.{all_days, day_of_row, earliest, later, latest, rows_within, sooner}
use Rattle.lot_page_report.specs.declared.counted.Counted.{Counted}
use Rattle.lot_rows.specs.declared.entry.EntryRow.{EntryRow}
use Rattle.lot_walk.specs.Gains.{Range, is_within}

earliest_more : (day : ℤ) (rows : List EntryRow) (row : EntryRow) → earliest day (rows ++ row ∷ []) ≡ sooner (earliest day rows) (day_of_row row)
earliest_more day [] row = refl
earliest_more day (first ∷ rows) row = earliest_more (sooner day (day_of_row first)) rows row

latest_more : (day : ℤ) (rows : List EntryRow) (row : EntryRow) → latest day (rows ++ row ∷ []) ≡ later (latest day rows) (day_of_row row)
latest_more day [] row = refl
latest_more day (first ∷ rows) row = latest_more (later day (day_of_row first)) rows row

days_more : (rows : List EntryRow) (row : EntryRow) → all_days (rows ++ row ∷ []) ≡ days_with (all_days rows) (day_of_row row)
days_more [] row = refl
days_more (first ∷ rows) row = λ i. Some (earliest_more (day_of_row first) rows row i, latest_more (day_of_row first) rows row i)

one_more : {X : Type 0} (xs : List X) (x : X) → length (xs ++ x ∷ []) ≡ length xs + 1
one_more xs x = length-append xs (x ∷ [])

pub within_more : (range : Range) (rows : List EntryRow) (row : EntryRow)
    → rows_within range (rows ++ row ∷ []) ≡ cond (is_within range (day_of_row row)) (rows_within range rows ++ row ∷ []) (rows_within range rows)
within_more range rows row =
    let split = filter-append (λ (r : EntryRow). is_within range (day_of_row r)) rows (row ∷ []) in
    elim (cases_Bool (is_within range (day_of_row row))) [
      | inl is ↦ rw (is) (rw (is) at split)
      | inr isnt ↦ rw (isnt) ((rw (isnt) at split) ∙ append-nil (rows_within range rows))
    ]

counted_within : (b : Bool) (rows : List EntryRow) (row : EntryRow) → length (cond b (rows ++ row ∷ []) rows) ≡ cond b (length rows + 1) (length rows)
counted_within true rows row = one_more rows row
counted_within false rows row = refl

-- one more entry is counted
pub counted_more : (range : Range) (rows : List EntryRow) (row : EntryRow) (old new : Counted) (day : ℤ) → HasCounted range rows old
    → day_of_row row ≡ day → new.first ≡ old.first → new.last ≡ old.last → new.count ≡ old.count + 1
    → new.within ≡ cond (is_within (old.first, old.last) day) (old.within + 1) old.within → days_in new.days ≡ days_with (days_in old.days) day
    → HasCounted range (rows ++ row ∷ []) new
counted_more range rows row old new day had is first last count within days =
    let days_are : (old.first, old.last) ≡ range = λ i. (had.first i, had.last i) in
    record {
      first = first ∙ had.first;
      last = last ∙ had.last;
      count = count ∙ ap (λ (n : ℕ). n + 1) had.count ∙ sym (one_more rows row);
      within = within
          ∙ (λ i. cond (is_within (days_are i) (sym is i)) (had.within i + 1) (had.within i))
          ∙ sym (counted_within (is_within range (day_of_row row)) (rows_within range rows) row)
          ∙ ap (λ (rs : List EntryRow). length rs) (sym (within_more range rows row));
      days = days ∙ (λ i. days_with (had.days i) (sym is i)) ∙ sym (days_more rows row);
    }

-- the day with which the text of an entry begins
pub day_is : (row : EntryRow) (day : ℤ) → day_in row.body ≡ Some day → day_of_row row ≡ day
day_is row day is = ap (λ (found : Option ℤ). unwrap_or found (pos 0)) is

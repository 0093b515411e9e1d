-- Steps of a walk over the days of the entries of a book, from one place to the next.
use Rattle.std.specs.Prelude.{◌≡◌, ◌≢◌, ℕ, ℤ, suc, List, [], ◌∷◌, ◌++◌, map, Option, None, Some, Ok, Err, Result}
use Rattle.std.specs.List.{AllByRecursion}
use Rattle.std.proofs.Common.{inl, refl, sym, ap, subst, ◌∙◌}
use Rattle.std.proofs.lemmas.List.{map-append}
use Rattle.std.proofs.lemmas.List.Elements.{recursion_from_All}
use Rattle.sqlite.specs.State.{State}
use Rattle.sqlite_rules.proofs.ListLemmas.{all_has, has_left, has_right}
use Rattle.sqlite_rules.specs.Lists.{Has as HasRow}
use Rattle.lot_command.specs.Canonical.{canonical}
use Rattle.lot_command.specs.Sayable.{IsSayable}
use Rattle.lot_command.specs.declared.command.Command.{Command}
use Rattle.lot_book.specs.Facts.{Entry}
use Rattle.lot_legs.proofs.BookLemmas.{canonical_rows}
use Rattle.lot_legs.proofs.TextLemmas.{canonical_day}
use Rattle.lot_legs.specs.Days.{day_in}
use Rattle.lot_legs.specs.Legs.{day_of}
use Rattle.lot_noted.specs.Book.{days_of}
use Rattle.lot_page.specs.Cursor.{IsBehind, Steps as CursorSteps}
use Rattle.lot_page.proofs.BehindLemmas.{all_rows, behind_rows}
use Rattle.lot_print.specs.Canonical.{IsCanonical}
use Rattle.lot_rows.specs.Entry.{IsEntryRow, entry_cells}
use Rattle.lot_rows.specs.Tables.{Tables}
use Rattle.lot_rows.specs.declared.entry.EntryRow.{EntryRow}
use Rattle.lot_rows.proofs.EntryLemmas.{same_row}
use Rattle.lot_stored.specs.Rows.{entry_rows}
use Rattle.lot_stored.specs.StandFor.{StandFor}
use Rattle.lot_table.specs.declared.fault.Fault.{Fault}
use Rattle.lot_table.specs.declared.fault.Fault.TheVariants.{Damaged, Device}
use Rattle.lot_walk.specs.Step.{IsPrefix, Steps, StepsOverRows}
use Rattle.lot_recall.specs.Days.{AreDays, AreDaysOfRows, BeginWith, IsAnyDay, IsBehindDayRows, IsBehindDays, day_at, shown_day}
use Rattle.lot_recall.specs.declared.days.DaysPlace.{DaysPlace}

-- ---- days of rows

-- the texts of the rows of a book begin with the days of its entries
row_days : (number : ℕ) (entries : List Entry) → AllByRecursion (λ (entry : Entry). IsSayable entry.command) entries
    → BeginWith (entry_rows number entries) (days_of entries)
row_days number [] said = refl
row_days number (entry ∷ entries) said =
    ap (λ (day : Option ℤ). day ∷ map day_at (entry_rows (suc number) entries)) (canonical_day entry.command said.0)
    ∙ ap (λ (days : List (Option ℤ)). Some (day_of entry.command) ∷ days) (row_days (suc number) entries said.1)

same_days : (a b : List ℤ) → map Some a ≡ map Some b → a ≡ b
same_days [] [] same = refl
same_days [] (day ∷ b) same = cc
same_days (day ∷ a) [] same = cc
same_days (day ∷ a) (other ∷ b) same =
    let first : day ≡ other = cc in
    let rest : map Some a ≡ map Some b = cc in
    λ i. first i ∷ same_days a b rest i

-- the days that are left of those of which the first ones are these
rest_days : (all given : List ℤ) (rest : List (Option ℤ)) → map Some given ++ rest ≡ map Some all → (left : List ℤ) × (given ++ left ≡ all)
rest_days all [] rest is = (all, refl)
rest_days [] (day ∷ given) rest is = cc
rest_days (other ∷ all) (day ∷ given) rest is =
    let first : day ≡ other = cc in
    let tail : map Some given ++ rest ≡ map Some all = cc in
    let more = rest_days all given rest tail in
    (more.0, λ i. first i ∷ more.1 i)

module _ (tables : Tables) (entries : List Entry) (stand : StandFor tables entries) where
  all_said : AllByRecursion (λ (entry : Entry). IsSayable entry.command) entries
  all_said = recursion_from_All (λ (entry : Entry). IsSayable entry.command) entries stand.said

  table_days : BeginWith tables.entry (days_of entries)
  table_days = subst (λ (rows : List EntryRow). BeginWith rows (days_of entries)) (sym stand.entry) (row_days 1 entries all_said)

  pub are_days : (given : List ℤ) → BeginWith tables.entry given → given ≡ days_of entries
  are_days given begin = same_days given (days_of entries) (sym begin ∙ table_days)

  begins_days : (passed rest : List EntryRow) (given : List ℤ) → passed ++ rest ≡ tables.entry → BeginWith passed given → IsPrefix AreDays tt entries given
  begins_days passed rest given whole begin =
      let days : map Some given ++ map day_at rest ≡ map Some (days_of entries) =
      ap (λ (ds : List (Option ℤ)). ds ++ map day_at rest) (sym begin) ∙ sym (map-append day_at passed rest) ∙ ap (map day_at) whole ∙ table_days in
      rest_days (days_of entries) given (map day_at rest) days

  -- a text that is that of no command is in the table of no book
  never_blank : (passed rest : List EntryRow) (row : EntryRow) → (passed ++ row ∷ []) ++ rest ≡ tables.entry
      → ((command : Command) → IsSayable command → row.body ≢ canonical command) → ⊥
  never_blank passed rest row whole blank =
      let there : HasRow ((passed ++ row ∷ []) ++ rest) row = has_left (passed ++ row ∷ []) rest row (has_right passed (row ∷ []) row (inl refl)) in
      let among : HasRow (entry_rows 1 entries) row = subst (λ (rows : List EntryRow). HasRow rows row) (whole ∙ stand.entry) there in
      let text = all_has (λ (r : EntryRow). IsCanonical r.body) (entry_rows 1 entries) row (canonical_rows 1 entries all_said) among in
      blank text.0 text.1 text.2

-- ---- before the first entry

pub no_day_rows : (place : DaysPlace) (tables : Tables) → IsBehind entry_cells [] tables.entry place.cursor → IsBehindDayRows place tables tt []
no_day_rows place tables read = record { passed = []; read = read; days = refl }

-- ---- steps

abbrev unread : Fault → Result (Option EntryRow) Fault
unread fault = Err fault

module _ (before after : DaysPlace) (old new : State) where
  abbrev pub ReadsRow : Result (Option EntryRow) Fault → Type 0
  ReadsRow = CursorSteps entry_cells IsEntryRow (λ (b : Tables). b.entry) before.cursor after.cursor old new

  abbrev pub GivesDay : Result (Option ℤ) Fault → Type 0
  GivesDay = Steps shown_day IsAnyDay AreDays IsBehindDays Damaged Device before after old new

  abbrev pub GivesOfRow : Result (Option ℤ) Fault → Type 0
  GivesOfRow = StepsOverRows shown_day AreDaysOfRows IsBehindDayRows before after old new

  pub rows_end : ReadsRow (Ok None) → GivesOfRow (Ok None)
  rows_end read = λ clean tables has asked given b.
      subst (λ (rows : List EntryRow). BeginWith rows given) (all_rows entry_cells same_row b.passed tables.entry (read.gives clean tables has b.passed b.read)) b.days

  pub day_end : ReadsRow (Ok None) → GivesDay (Ok None)
  day_end read = record {
    gives = λ clean tables entries has book stand asked given b. are_days tables entries stand given (rows_end read clean tables has asked given b);
    good = tt;
    same = read.same;
    damaged = λ clean is. cc;
    failed = λ clean is. cc;
    crash = read.crash;
  }

  pub day_unread : (fault : Fault) → ReadsRow (Err fault) → GivesDay (Err fault)
  day_unread fault read = record {
    gives = λ clean. tt;
    good = tt;
    same = λ clean. tt;
    damaged = λ clean is limit tables entries has book stand asked given b.
        let of : unread fault ≡ Err Damaged = cc in read.damaged clean of limit tables has b.passed b.read stand.good.entry;
    failed = λ clean is. let of : unread fault ≡ Err Device = cc in read.device clean of;
    crash = read.crash;
  }

  module _ (row : EntryRow) (read : ReadsRow (Ok (Some row))) where
    abbrev pub rows_next : (day : ℤ) → day_in row.body ≡ Some day → GivesOfRow (Ok (Some day))
    rows_next day text = λ clean tables has asked given b. record {
      passed = b.passed ++ row ∷ [];
      read = read.gives clean tables has b.passed b.read;
      days =
          map-append day_at b.passed (row ∷ [])
          ∙ ap (λ (days : List (Option ℤ)). days ++ day_at row ∷ []) b.days
          ∙ ap (λ (d : Option ℤ). map Some given ++ d ∷ []) text
          ∙ sym (map-append Some given (day ∷ []));
    }

    pub day_next : (day : ℤ) → day_in row.body ≡ Some day → GivesDay (Ok (Some day))
    day_next day text = record {
      gives = λ clean tables entries has book stand asked given b.
          let behind = rows_next day text clean tables has asked given b in
          let rest = behind_rows entry_cells same_row (b.passed ++ row ∷ []) tables.entry after.cursor (read.gives clean tables has b.passed b.read) in
          (behind, begins_days tables entries stand (b.passed ++ row ∷ []) rest.0 (given ++ day ∷ []) rest.1 behind.days);
      good = tt;
      same = read.same;
      damaged = λ clean is. cc;
      failed = λ clean is. cc;
      crash = read.crash;
    }

    pub day_blank : ((command : Command) → IsSayable command → row.body ≢ canonical command) → GivesDay (Err Damaged)
    day_blank blank = record {
      gives = λ clean. tt;
      good = tt;
      same = λ clean. tt;
      damaged = λ clean is limit tables entries has book stand asked given b.
          let rest = behind_rows entry_cells same_row (b.passed ++ row ∷ []) tables.entry after.cursor (read.gives clean tables has b.passed b.read) in
          never_blank tables entries stand b.passed rest.0 row rest.1 blank;
      failed = λ clean is. cc;
      crash = read.crash;
    }

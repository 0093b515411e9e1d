-- Looking up the day of an entry: rows of other numbers are passed over, up to the one of the entry.
use Rattle.std.proofs.Common.{◌≡◌, ◌≢◌, ◌∙◌, ◌⊎◌, inl, inr, ℕ, ℤ, List, [], ◌∷◌, ◌++◌, Option, None, Some, Result, Ok, Err, IfErr, IfOk, refl, sym, ap, subst}
use Rattle.std.specs.Prelude.{MatchOption}
use Rattle.std.specs.List.{AllByRecursion}
use Rattle.std.proofs.lemmas.List.{append-nil, append_assoc}
use Rattle.sqlite.specs.State.{State}
use Rattle.sqlite_keyed.proofs.ListLemmas.{all-append}
use Rattle.sqlite_rules.proofs.ListLemmas.{all_has, has_left, has_right}
use Rattle.sqlite_rules.specs.Lists.{Has as HasRow}
use Rattle.lot_command.specs.Canonical.{canonical}
use Rattle.lot_command.specs.Sayable.{IsSayable}
use Rattle.lot_command.specs.declared.command.Command.{Command}
use Rattle.lot_page.specs.Cursor.{IsBehind, Steps as CursorSteps}
use Rattle.lot_page.proofs.BehindLemmas.{all_rows, behind_rows}
use Rattle.lot_print.specs.Canonical.{IsCanonical}
use Rattle.lot_rows.specs.Entry.{IsEntryRow, entry_cells}
use Rattle.lot_rows.specs.Tables.{Tables}
use Rattle.lot_rows.specs.declared.entry.EntryRow.{EntryRow}
use Rattle.lot_rows.proofs.EntryLemmas.{same_row}
use Rattle.lot_rows.proofs.StateLemmas.{early, survives_both, survives_same}
use Rattle.lot_table.specs.declared.fault.Fault.{Fault}
use Rattle.lot_table.specs.declared.fault.Fault.TheVariants.{Damaged, Device, Memory}
use Rattle.lot_walk.proofs.PlaceLemmas.{failed_after, has_still, stays_itself, stays_then}
use Rattle.lot_walk.proofs.StepLemmas.{left_then, stays_left, undone_left}
use Rattle.lot_legs.specs.Days.{AreBehind, FindsDay, HasDay, HasText, IsAt, IsKnown, IsLast, IsLeft, LooksUp, Passes, day_in, known_day, last_text}
use Rattle.lot_legs.specs.declared.days.EntryDay.{EntryDay}
use Rattle.lot_legs.specs.declared.days.EntryDays.{EntryDays}

pub cancelled : {X : Type 0} (xs ys zs : List X) → xs ++ ys ≡ xs ++ zs → ys ≡ zs
cancelled [] ys zs e = e
cancelled (x ∷ xs) ys zs e = let more : xs ++ ys ≡ xs ++ zs = cc in cancelled xs ys zs more

-- ---- rows of other entries

abbrev pub ReadsEntry : EntryDays → EntryDays → State → State → Result (Option EntryRow) Fault → Type 0
ReadsEntry before after = CursorSteps entry_cells IsEntryRow (λ (b : Tables). b.entry) before.cursor after.cursor

abbrev unread : Fault → Result (Option EntryRow) Fault
unread fault = Err fault

abbrev IsOther : ℕ → EntryRow → Type 0
IsOther entry row = row.number ≢ entry

pub passes_none : (entry : ℕ) (days : EntryDays) (s : State) → Passes entry days days s s
passes_none entry days s = record {
  passes = λ clean tables has passed behind. ([], subst (λ (l : List EntryRow). IsBehind entry_cells l tables.entry days.cursor) (sym (append-nil passed)) behind, tt);
  same = λ clean. stays_itself s;
  survives = survives_same s _;
}

module _ (entry : ℕ) (before mid after : EntryDays) (old now new : State) (went : Passes entry before mid old now) where
  pub passes_on : (row : EntryRow) → row.number ≢ entry → ReadsEntry mid after now new (Ok (Some row)) → Passes entry before after old new
  passes_on row other reads = record {
    passes = λ clean tables has passed behind.
        let was = early now new reads.crash clean in
        let m = went.passes was tables has passed behind in
        let next = reads.gives clean tables (has_still old now tables (went.same was) has) (passed ++ m.0) m.1 in (
          m.0 ++ row ∷ [],
          subst (λ (l : List EntryRow). IsBehind entry_cells l tables.entry after.cursor) (append_assoc passed m.0 (row ∷ [])) next,
          all-append (IsOther entry) m.0 (row ∷ []) m.2 (other, tt),
        );
    same = λ clean. stays_then old now new (went.same (early now new reads.crash clean)) (reads.same clean);
    survives = survives_both old now new went.survives reads.crash;
  }

  -- ---- what comes of one row more

  pub looks_unread : (fault : Fault) → ReadsEntry mid after now new (Err fault) → LooksUp entry before after old new (Err fault)
  looks_unread fault reads = record {
    found = λ clean. tt;
    same = λ clean. tt;
    damaged = λ clean is limit tables has good passed left behind all there.
        let was = early now new reads.crash clean in
        let of : unread fault ≡ Err Damaged = cc in
        let m = went.passes was tables has passed behind in
        reads.damaged clean of (went.survives.limit ∙ limit) tables (has_still old now tables (went.same was) has) (passed ++ m.0) m.1 good;
    failed = λ clean is.
        let was = early now new reads.crash clean in
        let of : unread fault ≡ Err Device = cc in
        failed_after old now new (went.same was) went.survives (reads.device clean of);
    left = λ clean. left_then old now new (went.same (early now new reads.crash clean)) (undone_left now new (reads.undone clean));
    crash = survives_both old now new went.survives reads.crash;
  }

  -- all rows were passed over
  pub looks_past : ReadsEntry mid after now new (Ok None) → LooksUp entry before after old new (Err Damaged)
  looks_past reads = record {
    found = λ clean. tt;
    same = λ clean. tt;
    damaged = λ clean is limit tables has good passed left behind all there.
        let was = early now new reads.crash clean in
        let m = went.passes was tables has passed behind in
        let ended = reads.gives clean tables (has_still old now tables (went.same was) has) (passed ++ m.0) m.1 in
        let rows : passed ++ m.0 ≡ tables.entry = all_rows entry_cells same_row (passed ++ m.0) tables.entry ended in
        let rest : m.0 ≡ left = cancelled passed m.0 left (rows ∙ sym all) in
        all_has (IsOther entry) left there.row (subst (AllByRecursion (IsOther entry)) rest m.2) there.among there.number;
    failed = λ clean is. cc;
    left = λ clean. stays_left old new (stays_then old now new (went.same (early now new reads.crash clean)) (reads.same clean));
    crash = survives_both old now new went.survives reads.crash;
  }

  module _ (row : EntryRow) (reads : ReadsEntry mid after now new (Ok (Some row))) (number : row.number ≡ entry) where
    pub looks_found : (day : ℤ) → day_in row.body ≡ Some day → after.last ≡ Some (known_day entry day row.body) → LooksUp entry before after old new (Ok day)
    looks_found day text last = record {
      found = λ clean tables has passed behind.
          let was = early now new reads.crash clean in
          let m = went.passes was tables has passed behind in
          let next = reads.gives clean tables (has_still old now tables (went.same was) has) (passed ++ m.0) m.1 in
          let whole : (passed ++ m.0) ++ row ∷ [] ≡ passed ++ (m.0 ++ row ∷ []) = append_assoc passed m.0 (row ∷ []) in
          record {
            more = m.0 ++ row ∷ [];
            behind = record {
              read = subst (λ (l : List EntryRow). IsBehind entry_cells l tables.entry after.cursor) whole next;
              last = subst (IsLast (passed ++ (m.0 ++ row ∷ []))) (sym last) (passed ++ m.0, row, sym whole, number, text, refl);
            };
            last = (row.body, last);
          };
      same = λ clean. stays_then old now new (went.same (early now new reads.crash clean)) (reads.same clean);
      damaged = λ clean is. cc;
      failed = λ clean is. cc;
      left = λ clean. tt;
      crash = survives_both old now new went.survives reads.crash;
    }

    -- the text of the row is no canonical text
    pub looks_blank : ((command : Command) → IsSayable command → row.body ≢ canonical command) → LooksUp entry before after old new (Err Damaged)
    looks_blank blank = record {
      found = λ clean. tt;
      same = λ clean. tt;
      damaged = λ clean is limit tables has good passed left behind all there.
          let was = early now new reads.crash clean in
          let m = went.passes was tables has passed behind in
          let next = reads.gives clean tables (has_still old now tables (went.same was) has) (passed ++ m.0) m.1 in
          let more = behind_rows entry_cells same_row ((passed ++ m.0) ++ row ∷ []) tables.entry after.cursor next in
          let whole : passed ++ (m.0 ++ (row ∷ more.0)) ≡ tables.entry =
          sym (append_assoc passed m.0 (row ∷ more.0)) ∙ sym (append_assoc (passed ++ m.0) (row ∷ []) more.0) ∙ more.1 in
          let rest : m.0 ++ (row ∷ more.0) ≡ left = cancelled passed (m.0 ++ (row ∷ more.0)) left (whole ∙ sym all) in
          let among : HasRow left row = subst (λ (l : List EntryRow). HasRow l row) rest (has_right m.0 (row ∷ more.0) row (inl refl)) in
          let is_one = all_has (λ (r : EntryRow). IsCanonical r.body) left row there.canonical among in
          blank is_one.0 is_one.1 is_one.2;
      failed = λ clean is. cc;
      left = λ clean. stays_left old new (stays_then old now new (went.same (early now new reads.crash clean)) (reads.same clean));
      crash = survives_both old now new went.survives reads.crash;
    }

    pub looks_stopped : (result : Result ℤ Fault) → IfOk result (λ day. day_in row.body ≡ Some day) → IfOk result (λ day. after.last ≡ Some (known_day entry day row.body))
        → IfErr result (λ fault. (fault ≡ Damaged) × ((command : Command) → IsSayable command → row.body ≢ canonical command))
        → LooksUp entry before after old new result
    looks_stopped (Ok day) text last bad = looks_found day text last
    looks_stopped (Err fault) text last bad = subst (λ (f : Fault). LooksUp entry before after old new (Err f)) (sym bad.0) (looks_blank bad.1)

-- more rows than can be counted
pub looks_full : (entry : ℕ) (before after : EntryDays) (old new : State) → Passes entry before after old new → LooksUp entry before after old new (Err Memory)
looks_full entry before after old new went = record {
  found = λ clean. tt;
  same = λ clean. tt;
  damaged = λ clean is. cc;
  failed = λ clean is. cc;
  left = λ clean. stays_left old new (went.same clean);
  crash = went.survives;
}

-- ---- the entry that was looked up last, or another

pub none_is_known : (last : Option EntryDay) (entry : ℕ) → last ≡ None → ¬ IsAt last entry
none_is_known None entry none at = at
none_is_known (Some day) entry none at = cc

pub other_is_known : (last : Option EntryDay) (entry : ℕ) (known : EntryDay) → last ≡ Some known → known.entry ≢ entry → ¬ IsAt last entry
other_is_known None entry known is other at = at
other_is_known (Some day) entry known is other at =
    let same : day ≡ known = cc in
    other (sym (ap (λ (d : EntryDay). d.entry) same) ∙ at)

pub is_known : (last : Option EntryDay) (entry : ℕ) (known : EntryDay) → last ≡ Some known → known.entry ≡ entry → IsKnown last entry known.day
is_known last entry known is same = (known.text, is ∙ (λ i. Some (known_day (same i) known.day known.text)))

pub finds_known : (entry : ℕ) (day : ℤ) (days : EntryDays) (s : State) → IsKnown days.last entry day → FindsDay entry days days s s (Ok day)
finds_known entry day days s last = record {
  found = λ clean tables has passed behind. record {
    more = [];
    behind = subst (AreBehind days tables.entry) (sym (append-nil passed)) behind;
    last = last;
  };
  same = λ clean. stays_itself s;
  damaged = λ clean is. cc;
  failed = λ clean is. cc;
  left = λ clean. tt;
  crash = survives_same s _;
}

module _ (entry : ℕ) (before after : EntryDays) (old new : State) (other : ¬ IsAt before.last entry) where
  apart : (left : List EntryRow) → ¬ IsLeft entry left → ¬ (IsAt before.last entry ⊎ IsLeft entry left)
  apart left not (inl at) = other at
  apart left not (inr there) = not there

  pub finds_looked : (result : Result ℤ Fault) → LooksUp entry before after old new result → FindsDay entry before after old new result
  finds_looked (Ok day) looks = record {
    found = λ clean tables has passed behind. looks.found clean tables has passed behind.read;
    same = looks.same;
    damaged = λ clean is. cc;
    failed = looks.failed;
    left = looks.left;
    crash = looks.crash;
  }
  finds_looked (Err fault) looks = record {
    found = λ clean. tt;
    same = looks.same;
    damaged = λ clean is limit tables has good passed left behind all. apart left (looks.damaged clean is limit tables has good passed left behind.read all);
    failed = looks.failed;
    left = looks.left;
    crash = looks.crash;
  }

-- ---- the row of the entry that was looked up last

-- it is in the table
passed_has : (days : EntryDays) (rows passed : List EntryRow) → AreBehind days rows passed → (row : EntryRow) → HasRow passed row → HasRow rows row
passed_has days rows passed behind row has =
    let more = behind_rows entry_cells same_row passed rows days.cursor behind.read in
    subst (λ (l : List EntryRow). HasRow l row) more.1 (has_left passed more.0 row has)

last_has : (passed before : List EntryRow) (row : EntryRow) → passed ≡ before ++ row ∷ [] → HasRow passed row
last_has passed before row is = subst (λ (l : List EntryRow). HasRow l row) (sym is) (has_right before (row ∷ []) row (inl refl))

pub last_day : (days : EntryDays) (rows passed : List EntryRow) (entry : ℕ) (day : ℤ) → AreBehind days rows passed → IsKnown days.last entry day
    → HasDay rows entry day
last_day days rows passed entry day behind is =
    let last = subst (IsLast passed) is.1 behind.last in
    record {
      row = last.1;
      among = passed_has days rows passed behind last.1 (last_has passed last.0 last.1 last.2);
      number = last.3;
      text = last.4;
    }

-- its text is the one that is kept
text_of : (last : Option EntryDay) (rows passed : List EntryRow) (entry : ℕ) → IsLast passed last → IsAt last entry
    → ((row : EntryRow) → HasRow passed row → HasRow rows row) → MatchOption (last_text last) ⊥ (HasText rows entry)
text_of None rows passed entry is at within = at
text_of (Some last) rows passed entry is at within = record {
  row = is.1;
  among = within is.1 (last_has passed is.0 is.1 is.2);
  number = is.3 ∙ at;
  body = is.5;
}

pub text_is : (days : EntryDays) (rows passed : List EntryRow) (entry : ℕ) → AreBehind days rows passed → IsAt days.last entry
    → MatchOption (last_text days.last) ⊥ (HasText rows entry)
text_is days rows passed entry behind at =
    text_of days.last rows passed entry behind.last at (passed_has days rows passed behind)

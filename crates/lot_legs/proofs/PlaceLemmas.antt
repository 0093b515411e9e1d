-- Steps of a walk over legs, from one place to the next.
use Rattle.std.proofs.Common.{◌≡◌, ◌∙◌, ◌⊎◌, inl, inr, ◌≤◌, ◌<◌, ℕ, ℤ, List, [], ◌∷◌, ◌++◌, map, Option, None, Some, Result, Ok, Err, refl, sym, ap, subst, arith}
use Rattle.std.specs.Prelude.{MatchOption}
use Rattle.std.specs.List.{AllByRecursion}
use Rattle.std.proofs.lemmas.Bool.{cases_order}
use Rattle.std.proofs.lemmas.List.{append-nil, append_assoc, map-append}
use Rattle.std.proofs.lemmas.List.Elements.{recursion_from_All}
use Rattle.sqlite.specs.State.{HasCleanDisk, State}
use Rattle.sqlite.specs.Tree.{IsAscending}
use Rattle.sqlite_keyed.proofs.ListLemmas.{all-append, all_weaker, ascending_from_map}
use Rattle.sqlite_rules.proofs.ListLemmas.{all_has, has_right}
use Rattle.sqlite_rules.specs.Lists.{Has as HasRow}
use Rattle.lot_command.specs.Sayable.{IsSayable}
use Rattle.lot_book.specs.Edition.{After}
use Rattle.lot_book.specs.Facts.{Entry}
use Rattle.lot_page.specs.Cursor.{IsBehind, Place, Steps as CursorSteps}
use Rattle.lot_page.proofs.BehindLemmas.{behind_rows}
use Rattle.lot_print.specs.Canonical.{IsCanonical}
use Rattle.lot_rows.specs.Entry.{entry_cells}
use Rattle.lot_rows.specs.Leg.{IsLegRow, leg_cells}
use Rattle.lot_rows.specs.Tables.{Has, Tables}
use Rattle.lot_rows.specs.declared.entry.EntryRow.{EntryRow}
use Rattle.lot_rows.specs.declared.leg.LegRow.{LegRow}
use Rattle.lot_rows.proofs.EntryLemmas.{same_row}
use Rattle.lot_rows.proofs.StateLemmas.{early, survives_both}
use Rattle.lot_stored.specs.Rows.{entry_rows}
use Rattle.lot_stored.specs.StandFor.{StandFor}
use Rattle.lot_table.specs.declared.fault.Fault.{Fault}
use Rattle.lot_table.specs.declared.fault.Fault.TheVariants.{Damaged, Device}
use Rattle.lot_walk.proofs.CursorLemmas.{next_left, none_left, suffix_up}
use Rattle.lot_walk.proofs.PlaceLemmas.{failed_after, has_still, stays_then}
use Rattle.lot_walk.proofs.StepLemmas.{left_then, undone_left}
use Rattle.lot_walk.specs.Step.{IsPrefix, StaysOrGoesBack, Steps, StepsOverRows}
use Rattle.lot_legs.specs.Days.{FindsDay, Found, HasDay, HasText, IsAt, IsLast, IsLeft, day_in, known_day, last_text}
use Rattle.lot_legs.specs.Legs.{AreAllLegRows, AreDatedLegs, dated_legs, dated_row, leg_in, row_in}
use Rattle.lot_legs.specs.Place.{IsAnyLeg, IsBehindLegRows, IsBehindLegs, IsFrom, IsLastText, IsOfLast, shown_leg}
use Rattle.lot_legs.specs.declared.days.EntryDay.{EntryDay}
use Rattle.lot_legs.specs.declared.leg.DatedLeg.{DatedLeg}
use Rattle.lot_legs.specs.declared.place.LegsPlace.{LegsPlace}
use Rattle.lot_legs.proofs.BookLemmas.{HasItsDay, IsRowBelow, book_numbers, canonical_rows, left_behind, leg_rows, legs_have_days, one_entry_row, upto_by_entry}
use Rattle.lot_legs.proofs.LookLemmas.{last_day, text_is}
use Rattle.lot_legs.proofs.RowLemmas.{one_leg_row}

-- ---- the last leg

none_pushed : {X : Type 0} (xs : List X) (x : X) → [] ≡ xs ++ x ∷ [] → ⊥
none_pushed [] x e = absurd cc
none_pushed (y ∷ xs) x e = absurd cc

last_one : {X : Type 0} (xs ys : List X) (x y : X) → xs ++ x ∷ [] ≡ ys ++ y ∷ [] → x ≡ y
last_one [] [] x y e = cc
last_one [] (b ∷ ys) x y e = let more : [] ≡ ys ++ y ∷ [] = cc in absurd (none_pushed ys y more)
last_one (a ∷ xs) [] x y e = let more : xs ++ x ∷ [] ≡ [] = cc in absurd (none_pushed xs x (sym more))
last_one (a ∷ xs) (b ∷ ys) x y e = let more : xs ++ x ∷ [] ≡ ys ++ y ∷ [] = cc in last_one xs ys x y more

of_none : (last : Option EntryDay) → IsOfLast last []
of_none last = λ front leg e. absurd (none_pushed front leg e)

of_pushed : (last : Option EntryDay) (given : List DatedLeg) (leg : DatedLeg) → IsAt last leg.entry → IsOfLast last (given ++ leg ∷ [])
of_pushed last given leg at = λ front other e.
    subst (IsAt last) (ap (λ (l : DatedLeg). l.entry) (last_one given front leg other e)) at

known_at : (last : Option EntryDay) (entry : ℕ) (day : ℤ) (text : List ℕ) → last ≡ Some (known_day entry day text) → IsAt last entry
known_at last entry day text is = subst (λ (o : Option EntryDay). IsAt o entry) (sym is) refl

-- its entry has the text that is kept
pub is_last_text : (place : LegsPlace) (text : Option (List ℕ)) → text ≡ last_text place.days.last → IsLastText place text
is_last_text place text is = λ tables asked given leg b.
    subst (λ (o : Option (List ℕ)). MatchOption o ⊥ (HasText tables.entry leg.entry)) (sym is)
    (text_is place.days tables.entry b.passed leg.entry b.read (b.last given leg refl))

-- ---- before the first leg

pub from_none : (last : Option EntryDay) (legs : List DatedLeg) → last ≡ None → AllByRecursion (IsFrom last) legs
from_none last [] none = tt
from_none last (leg ∷ legs) none = (subst (λ o. IsFrom o leg) (sym none) tt, from_none last legs none)

pub no_leg_rows : (place : LegsPlace) (tables : Tables) → place.days.last ≡ None → IsBehind leg_cells [] tables.leg place.legs
    → IsBehind entry_cells [] tables.entry place.days.cursor → IsBehindLegRows place tables tt []
no_leg_rows place tables none legs entries = record {
  legs = legs;
  passed = [];
  read = record { read = entries; last = subst (IsLast []) (sym none) refl };
  days = tt;
  last = of_none place.days.last;
}

pub no_legs : (place : LegsPlace) (tables : Tables) (entries : List Entry) → place.days.last ≡ None → IsBehindLegRows place tables tt []
    → IsPrefix AreDatedLegs tt entries [] × IsBehindLegs place tables tt entries []
no_legs place tables entries none rows = (
  (dated_legs entries, refl),
  record { rows = rows; left = dated_legs entries; all = refl; from = from_none place.days.last (dated_legs entries) none },
)

-- ---- the rows of the table, whatever it stands for

abbrev pub ReadsLeg : LegsPlace → LegsPlace → State → State → Result (Option LegRow) Fault → Type 0
ReadsLeg before after = CursorSteps leg_cells IsLegRow (λ (b : Tables). b.leg) before.legs after.legs

abbrev pub GivesRows : LegsPlace → LegsPlace → State → State → Result (Option DatedLeg) Fault → Type 0
GivesRows = StepsOverRows shown_leg AreAllLegRows IsBehindLegRows

abbrev pub StepsOver : LegsPlace → LegsPlace → State → State → Result (Option DatedLeg) Fault → Type 0
StepsOver = Steps shown_leg IsAnyLeg AreDatedLegs IsBehindLegs Damaged Device

abbrev unread : Fault → Result (Option LegRow) Fault
unread fault = Err fault

abbrev undated : Fault → Result ℤ Fault
undated fault = Err fault

pub leg_rows_end : (before after : LegsPlace) (old new : State) → ReadsLeg before after old new (Ok None) → GivesRows before after old new (Ok None)
leg_rows_end before after old new reads = λ clean tables has asked given b.
    record { rows = reads.gives clean tables has (map row_in given) b.legs; days = b.days }

module _ (before after : LegsPlace) (old now new : State) (row : LegRow) (reads : ReadsLeg before after old now (Ok (Some row)))
    (day : ℤ) (finds : FindsDay row.entry before.days after.days now new (Ok day)) where
  abbrev given_leg : DatedLeg
  given_leg = dated_row day row

  found : HasCleanDisk new → (tables : Tables) → Has old tables → (asked : Unit {0}) (given : List DatedLeg) → (b : IsBehindLegRows before tables asked given)
      → Found row.entry day after.days tables.entry b.passed
  found clean tables has asked given b =
      let was = early now new finds.crash clean in
      finds.found clean tables (has_still old now tables (reads.same was) has) b.passed b.read

  row_behind : HasCleanDisk new → (tables : Tables) → Has old tables → (asked : Unit {0}) (given : List DatedLeg) → IsBehindLegRows before tables asked given
      → IsBehindLegRows after tables asked (given ++ given_leg ∷ [])
  row_behind clean tables has asked given b =
      let f = found clean tables has asked given b in
      record {
        legs = subst (λ (l : List LegRow). IsBehind leg_cells l tables.leg after.legs) (sym (map-append row_in given (given_leg ∷ [])))
            (reads.gives (early now new finds.crash clean) tables has (map row_in given) b.legs);
        passed = b.passed ++ f.more;
        read = f.behind;
        days = all-append (HasItsDay tables.entry) given (given_leg ∷ []) b.days
            (last_day after.days tables.entry (b.passed ++ f.more) row.entry day f.behind f.last, tt);
        last = of_pushed after.days.last given given_leg (known_at after.days.last row.entry day f.last.0 f.last.1);
      }

  pub leg_row_given : GivesRows before after old new (Ok (Some given_leg))
  leg_row_given = row_behind

-- ---- the legs of a book

-- the next of those that are left
record NextLeg (tables : Tables) (left : List DatedLeg) (row : LegRow) : Type 0 where
  leg : DatedLeg
  more : List DatedLeg
  is : left ≡ leg ∷ more
  row_is : row ≡ row_in leg

first_left : (left : List DatedLeg) (x : LegRow) (rest : List LegRow) → map row_in left ≡ x ∷ rest
    → (leg : DatedLeg) × (more : List DatedLeg) × (left ≡ leg ∷ more) × (x ≡ row_in leg)
first_left [] x rest e = absurd cc
first_left (leg ∷ more) x rest e = let same : x ≡ row_in leg = cc in (leg, more, refl, same)

none_first : (left : List DatedLeg) → map row_in left ≡ [] → left ≡ []
none_first [] e = refl
none_first (leg ∷ more) e = absurd cc

-- where a day stands twice it is one
one_day : (entries : List Entry) (entry : ℕ) (a b : ℤ) → HasDay (entry_rows 1 entries) entry a → HasDay (entry_rows 1 entries) entry b → a ≡ b
one_day entries entry a b has other =
    let row : has.row ≡ other.row = one_entry_row 1 entries has.row other.row has.among other.among (has.number ∙ sym other.number) in
    let both : Some a ≡ Some b = sym has.text ∙ ap (λ (r : EntryRow). day_in r.body) row ∙ other.text in
    cc

suffix_all : {X : Type 0} (P : X → Type 0) (xs ys : List X) → AllByRecursion P (xs ++ ys) → AllByRecursion P ys
suffix_all P [] ys all = all
suffix_all P (x ∷ xs) ys all = suffix_all P xs ys all.1

-- the day of a leg that isn't of an earlier entry can be found
can_find : (entries : List Entry) (last : Option EntryDay) (passed left : List EntryRow) (leg : DatedLeg) → passed ++ left ≡ entry_rows 1 entries
    → AllByRecursion (λ (row : EntryRow). IsCanonical row.body) (entry_rows 1 entries) → IsLast passed last → IsFrom last leg
    → HasItsDay (entry_rows 1 entries) leg → IsAt last leg.entry ⊎ IsLeft leg.entry left
can_find entries None passed left leg whole canonical none from has =
    let rest : left ≡ entry_rows 1 entries = ap (λ (l : List EntryRow). l ++ left) (sym none) ∙ whole in
    inr (record {
      row = has.row;
      among = subst (λ (l : List EntryRow). HasRow l has.row) (sym rest) has.among;
      number = has.number;
      canonical = subst (AllByRecursion (λ (row : EntryRow). IsCanonical row.body)) (sym rest) canonical;
    })
can_find entries (Some last) passed left leg whole canonical at from has =
    elim (cases_order last.entry leg.entry) [
      | inl same ↦ inl same
      | inr (inl less) ↦
          let split : (at.0 ++ at.1 ∷ []) ++ left ≡ entry_rows 1 entries = ap (λ (l : List EntryRow). l ++ left) (sym at.2) ∙ whole in
          let below : at.1.number < has.row.number = omega (arith, at.3, less, has.number) in
          inr (record {
            row = has.row;
            among = left_behind 1 entries at.0 at.1 left has.row split has.among below;
            number = has.number;
            canonical = suffix_all (λ (row : EntryRow). IsCanonical row.body) passed left
                (subst (AllByRecursion (λ (row : EntryRow). IsCanonical row.body)) (sym whole) canonical);
          })
      | inr (inr more) ↦ absurd (omega (arith, from, more))
    ]

module _ (tables : Tables) (entries : List Entry) (stand : StandFor tables entries) where
  all_said : AllByRecursion (λ (entry : Entry). IsSayable entry.command) entries
  all_said = recursion_from_All (λ (entry : Entry). IsSayable entry.command) entries stand.said

  have_days : AllByRecursion (HasItsDay (entry_rows 1 entries)) (dated_legs entries)
  have_days = legs_have_days 1 entries (book_numbers (After stand.place) entries stand.judged) all_said

  module _ (before : LegsPlace) (asked : Unit {0}) (given : List DatedLeg) (b : IsBehindLegs before tables asked entries given) where
    whole_rows : map row_in given ++ map row_in b.left ≡ tables.leg
    whole_rows = sym (map-append row_in given b.left) ∙ ap (map row_in) b.all ∙ sym (leg_rows tables entries stand)

    -- the row that is read is that of the next leg
    next_leg : (row : LegRow) (cursor : Place) → IsLegRow row → IsBehind leg_cells (map row_in given ++ row ∷ []) tables.leg cursor → NextLeg tables b.left row
    next_leg row cursor good behind =
        let n = next_left leg_cells (map row_in given) (map row_in b.left) tables.leg row cursor whole_rows behind in
        let f = first_left b.left n.0 n.1 n.2 in
        let among : HasRow tables.leg n.0 =
        subst (λ (l : List LegRow). HasRow l n.0) whole_rows
        (has_right (map row_in given) (map row_in b.left) n.0 (subst (λ (l : List LegRow). HasRow l n.0) (sym n.2) (inl refl))) in
        let other : IsLegRow n.0 = all_has IsLegRow tables.leg n.0 (recursion_from_All IsLegRow tables.leg stand.good.leg) among in
        record { leg = f.0; more = f.1; is = f.2; row_is = one_leg_row row n.0 good other n.3 ∙ f.3 }

    module _ (row : LegRow) (n : NextLeg tables b.left row) where
      all_left : given ++ n.leg ∷ n.more ≡ dated_legs entries
      all_left = ap (λ (l : List DatedLeg). given ++ l) (sym n.is) ∙ b.all

      its_day : HasItsDay (entry_rows 1 entries) n.leg
      its_day =
          all_has (HasItsDay (entry_rows 1 entries)) (dated_legs entries) n.leg have_days
          (subst (λ (l : List DatedLeg). HasRow l n.leg) all_left (has_right given (n.leg ∷ n.more) n.leg (inl refl)))

      its_entry : row.entry ≡ n.leg.entry
      its_entry = ap (λ (r : LegRow). r.entry) n.row_is

      -- those behind it are of its entry or of later ones
      more_from : AllByRecursion (λ (leg : DatedLeg). n.leg.entry ≤ leg.entry) n.more
      more_from =
          let IsUp : DatedLeg → DatedLeg → Type 0 = λ a b. IsRowBelow (row_in a) (row_in b) in
          let up : IsAscending IsUp (dated_legs entries) =
          ascending_from_map IsRowBelow row_in (dated_legs entries)
          (subst (IsAscending IsRowBelow) (leg_rows tables entries stand) stand.ordered.leg) in
          let rest = suffix_up IsUp given (n.leg ∷ n.more) (dated_legs entries) all_left up in
          all_weaker (IsUp n.leg) (λ (leg : DatedLeg). n.leg.entry ≤ leg.entry) (λ leg below. upto_by_entry (leg_in n.leg) (leg_in leg) below) n.more rest.0

      -- with its day it is the next leg
      is_next : (day : ℤ) → HasDay tables.entry row.entry day → dated_row day row ≡ n.leg
      is_next day has =
          let here : HasDay (entry_rows 1 entries) n.leg.entry day =
          subst (λ e. HasDay (entry_rows 1 entries) e day) its_entry (subst (λ (l : List EntryRow). HasDay l row.entry day) stand.entry has) in
          let same : day ≡ n.leg.day = one_day entries n.leg.entry day n.leg.day here its_day in
          λ i. dated_row (same i) (n.row_is i)

      -- its day can be found
      is_found : (left : List EntryRow) → b.rows.passed ++ left ≡ tables.entry → IsAt before.days.last row.entry ⊎ IsLeft row.entry left
      is_found left whole =
          let from = subst (AllByRecursion (IsFrom before.days.last)) n.is b.from in
          subst (λ e. IsAt before.days.last e ⊎ IsLeft e left) (sym its_entry)
          (can_find entries before.days.last b.rows.passed left n.leg (whole ∙ stand.entry) (canonical_rows 1 entries all_said) b.rows.read.last from.0 its_day)

-- ---- steps

pub steps_end : (before after : LegsPlace) (old new : State) → ReadsLeg before after old new (Ok None) → StepsOver before after old new (Ok None)
steps_end before after old new reads = record {
  gives = λ clean tables entries has book stand asked given b.
      let all = reads.gives clean tables has (map row_in given) b.rows.legs in
      let none : b.left ≡ [] =
      none_first b.left (none_left leg_cells (map row_in given) (map row_in b.left) tables.leg (whole_rows tables entries stand before asked given b) all) in
      sym (append-nil given) ∙ ap (λ (l : List DatedLeg). given ++ l) (sym none) ∙ b.all;
  good = tt;
  same = reads.same;
  damaged = λ clean is. cc;
  failed = λ clean is. cc;
  crash = reads.crash;
}

pub steps_unread : (before after : LegsPlace) (old new : State) (fault : Fault) → ReadsLeg before after old new (Err fault) → StepsOver before after old new (Err fault)
steps_unread before after old new fault reads = record {
  gives = λ clean. tt;
  good = tt;
  same = λ clean. tt;
  damaged = λ clean is limit tables entries has book stand asked given b.
      let of : unread fault ≡ Err Damaged = cc in
      reads.damaged clean of limit tables has (map row_in given) b.rows.legs stand.good.leg;
  failed = λ clean is. let of : unread fault ≡ Err Device = cc in reads.device clean of;
  crash = reads.crash;
}

pub unread_left : (before after : LegsPlace) (old new : State) (fault : Fault) → ReadsLeg before after old new (Err fault) → HasCleanDisk new → StaysOrGoesBack old new
unread_left before after old new fault reads clean = undone_left old new (reads.undone clean)

module _ (before after : LegsPlace) (old now new : State) (row : LegRow) (reads : ReadsLeg before after old now (Ok (Some row))) where
  next_of : HasCleanDisk now → (tables : Tables) (entries : List Entry) → Has old tables → (stand : StandFor tables entries) (asked : Unit {0}) (given : List DatedLeg)
      → (b : IsBehindLegs before tables asked entries given) → NextLeg tables b.left row
  next_of clean tables entries has stand asked given b =
      next_leg tables entries stand before asked given b row after.legs reads.good (reads.gives clean tables has (map row_in given) b.rows.legs)

  pub steps_given : (day : ℤ) → FindsDay row.entry before.days after.days now new (Ok day) → StepsOver before after old new (Ok (Some (dated_row day row)))
  steps_given day finds = record {
    gives = λ clean tables entries has book stand asked given b.
        let was = early now new finds.crash clean in
        let n = next_of was tables entries has stand asked given b in
        let leg = dated_row day row in
        let f = found before after old now new row reads day finds clean tables has asked given b.rows in
        let behind = row_behind before after old now new row reads day finds clean tables has asked given b.rows in
        let its = last_day after.days tables.entry (b.rows.passed ++ f.more) row.entry day f.behind f.last in
        let same : leg ≡ n.leg = is_next tables entries stand before asked given b row n day its in
        let all : (given ++ leg ∷ []) ++ n.more ≡ dated_legs entries =
        append_assoc given (leg ∷ []) n.more ∙ ap (λ l. given ++ l ∷ n.more) same ∙ all_left tables entries stand before asked given b row n in
        let from : AllByRecursion (IsFrom (Some (known_day row.entry day f.last.0))) n.more =
        subst (λ (e : ℕ). AllByRecursion (λ (leg : DatedLeg). e ≤ leg.entry) n.more) (sym (its_entry tables entries stand before asked given b row n))
        (more_from tables entries stand before asked given b row n) in (
          record {
            rows = behind;
            left = n.more;
            all = all;
            from = subst (λ (o : Option EntryDay). AllByRecursion (IsFrom o) n.more) (sym f.last.1) from;
          },
          (n.more, all),
        );
    good = tt;
    same = λ clean. stays_then old now new (reads.same (early now new finds.crash clean)) (finds.same clean);
    damaged = λ clean is. cc;
    failed = λ clean is. cc;
    crash = survives_both old now new reads.crash finds.crash;
  }

  pub steps_lost : (fault : Fault) → FindsDay row.entry before.days after.days now new (Err fault) → StepsOver before after old new (Err fault)
  steps_lost fault finds = record {
    gives = λ clean. tt;
    good = tt;
    same = λ clean. tt;
    damaged = λ clean is limit tables entries has book stand asked given b.
        let was = early now new finds.crash clean in
        let of : undated fault ≡ Err Damaged = cc in
        let n = next_of was tables entries has stand asked given b in
        let rest = behind_rows entry_cells same_row b.rows.passed tables.entry before.days.cursor b.rows.read.read in
        finds.damaged clean of (reads.crash.limit ∙ limit) tables (has_still old now tables (reads.same was) has) stand.good.entry b.rows.passed rest.0 b.rows.read rest.1
        (is_found tables entries stand before asked given b row n rest.0 rest.1);
    failed = λ clean is.
        let of : undated fault ≡ Err Device = cc in
        failed_after old now new (reads.same (early now new finds.crash clean)) reads.crash (finds.failed clean of);
    crash = survives_both old now new reads.crash finds.crash;
  }

  pub lost_left : (fault : Fault) → FindsDay row.entry before.days after.days now new (Err fault) → HasCleanDisk new → StaysOrGoesBack old new
  lost_left fault finds clean = left_then old now new (reads.same (early now new finds.crash clean)) (finds.left clean)

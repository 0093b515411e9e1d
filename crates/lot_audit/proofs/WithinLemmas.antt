-- The rows of the table `leg`, one after another, are of so many entries.
use Rattle.std.specs.Prelude.{◌≡◌, ◌≤◌, ℕ, Bool, true, false, List, [], ◌∷◌, ◌++◌, map, Option, None, Some, Ok, Err, Result}
use Rattle.std.specs.List.{AllByRecursion}
use Rattle.std.specs.Result.{IsErrAnd}
use Rattle.std.proofs.Common.{refl, sym, ap, subst, ◌∙◌, append_assoc}
use Rattle.std.proofs.lemmas.Bool.{true≢false}
use Rattle.std.proofs.lemmas.List.Elements.{All-from_recursion, recursion_from_All}
use Rattle.std.proofs.lemmas.List.{map-append}
use Rattle.sqlite.specs.State.{State}
use Rattle.sqlite_keyed.proofs.ListLemmas.{all-append}
use Rattle.lot_page.specs.Cursor.{IsBehind, Place, Steps}
use Rattle.lot_page.proofs.BehindLemmas.{behind_splits}
use Rattle.lot_rows.specs.Leg.{IsLegRow, leg_cells}
use Rattle.lot_rows.specs.Tables.{Tables}
use Rattle.lot_rows.specs.declared.leg.LegRow.{LegRow}
use Rattle.lot_table.specs.declared.fault.Fault.{Fault}
use Rattle.lot_audit.specs.Checks.{Checks, always}
use Rattle.lot_audit.specs.Told.{IsOfEntries, LegsWithin}
use Rattle.lot_audit.proofs.GoodLemmas.{one_leg}
use Rattle.lot_audit.proofs.SeenLemmas.{Seen, Tells, passed_on, seen_as, seen_done, seen_none, step_fails, step_gives}

abbrev legs_in : Tables → List LegRow
legs_in tables = tables.leg

-- the rows that a cursor has given
pub record AreWithin (entries : ℕ) (cursor : Place) (tables : Tables) : Type 0 where
  pub given : List LegRow
  pub behind : IsBehind leg_cells given tables.leg cursor
  pub good : AllByRecursion IsLegRow given
  pub within : AllByRecursion (IsOfEntries entries) given

module _ (entries : ℕ) (old : State) where
  pub within_none : (cursor : Place) → ((rows : List LegRow) → IsBehind leg_cells [] rows cursor) → Seen always (AreWithin entries cursor) old old
  within_none cursor start =
      seen_as always always (AreWithin entries cursor) old old (seen_none always old)
      (λ tables has here. record { given = []; behind = start tables.leg; good = tt; within = tt })

  module _ (now after : Place) (mid new : State) (seen : Seen always (AreWithin entries now) old mid) where
    abbrev Reads : Result (Option LegRow) Fault → Type 0
    Reads = Steps leg_cells IsLegRow legs_in now after mid new

    pub within_next : (row : LegRow) → row.entry ≤ entries → Reads (Ok (Some row)) → Seen always (AreWithin entries after) old new
    within_next row up_to reads =
        step_gives always leg_cells IsLegRow legs_in now after old mid new (AreWithin entries now) seen (AreWithin entries after)
        (Some row) reads
        (λ tables has was gives good. record {
          given = was.given ++ row ∷ [];
          behind = gives was.given was.behind;
          good = all-append IsLegRow was.given (row ∷ []) was.good (good, tt);
          within = all-append (IsOfEntries entries) was.given (row ∷ []) was.within (up_to, tt);
        })

    pub within_all : Reads (Ok None) → Checks (Tells (LegsWithin entries)) old new (Ok true)
    within_all reads =
        seen_done always (Tells (LegsWithin entries)) old new true
        (step_gives always leg_cells IsLegRow legs_in now after old mid new (AreWithin entries now) seen
        (Tells (LegsWithin entries) true) None reads
        (λ tables has was gives good. (
          (λ _. record {
            good_rows = was.given;
            same = gives was.given was.behind;
            good = All-from_recursion IsLegRow was.given was.good;
            told = All-from_recursion (IsOfEntries entries) was.given was.within;
          }),
          (λ _. refl),
        )))

    -- of good rows with the same columns as those, one isn't within
    beyond : (given rest : List LegRow) (row : LegRow) (rows : List LegRow) → AllByRecursion IsLegRow given → IsLegRow row
        → map leg_cells given ++ (leg_cells row ∷ map leg_cells rest) ≡ map leg_cells rows → AllByRecursion IsLegRow rows
        → AllByRecursion (IsOfEntries entries) rows → row.entry ≤ entries
    beyond [] rest row [] good own same all within = absurd cc
    beyond [] rest row (x ∷ rows) good own same all within =
        let head : leg_cells row ≡ leg_cells x = cc in
        subst (IsOfEntries entries) (sym (one_leg row x own all.0 head)) within.0
    beyond (g ∷ given) rest row [] good own same all within = absurd cc
    beyond (g ∷ given) rest row (x ∷ rows) good own same all within =
        let tail : map leg_cells given ++ (leg_cells row ∷ map leg_cells rest) ≡ map leg_cells rows = cc in
        beyond given rest row rows good.1 own tail all.1 within.1

    pub within_not : (row : LegRow) → (row.entry ≤ entries → ⊥) → Reads (Ok (Some row)) → Checks (Tells (LegsWithin entries)) old new (Ok false)
    within_not row past reads =
        seen_done always (Tells (LegsWithin entries)) old new false
        (step_gives always leg_cells IsLegRow legs_in now after old mid new (AreWithin entries now) seen
        (Tells (LegsWithin entries) false) (Some row) reads
        (λ tables has was gives good. (
          (λ so_it_is. absurd (true≢false (sym so_it_is))),
          (λ are.
              let it = behind_splits leg_cells (was.given ++ row ∷ []) tables.leg after (gives was.given was.behind) in
              let same : map leg_cells was.given ++ (leg_cells row ∷ map leg_cells it.1) ≡ map leg_cells are.good_rows =
              sym (append_assoc (map leg_cells was.given) (leg_cells row ∷ []) (map leg_cells it.1))
              ∙ ap (λ (l : List _). l ++ map leg_cells it.1) (sym (map-append leg_cells was.given (row ∷ [])) ∙ sym it.3)
              ∙ sym (map-append leg_cells it.0 it.1)
              ∙ ap (map leg_cells) it.2
              ∙ sym are.same in
              absurd (past (beyond was.given it.1 row are.good_rows was.good good same
              (recursion_from_All IsLegRow are.good_rows are.good) (recursion_from_All (IsOfEntries entries) are.good_rows are.told)))),
        )))

    pub within_unread : (fault : Fault) (result : Result Bool Fault) → IsErrAnd result (λ e. e ≡ fault) → Reads (Err fault)
        → Checks (Tells (LegsWithin entries)) old new result
    within_unread fault result is reads =
        passed_on always (Tells (LegsWithin entries)) old new fault result is
        (step_fails always leg_cells IsLegRow legs_in now after old mid new (AreWithin entries now) seen (Tells (LegsWithin entries)) fault reads
        (λ tables has was. (was.given, was.behind))
        (λ tables of. of.2.good.leg))

-- Days that are taken one after another never fall, or do.
use Rattle.std.specs.Prelude.{◌≡◌, ◌&&◌, ℤ, true, IsTrue, List, [], ◌∷◌, ◌++◌, map, Option, None, Some, Err}
use Rattle.std.specs.List.{AllByRecursion}
use Rattle.std.proofs.Common.{arith, refl, sym, subst, ◌∙◌}
use Rattle.std.proofs.lemmas.Bool.{and_parts, true≢false}
use Rattle.std.proofs.lemmas.Int.{ints}
use Rattle.std.proofs.lemmas.List.{map-id}
use Rattle.sqlite.specs.Held.{state}
use Rattle.sqlite.specs.Store.{Ghosts}
use Rattle.sqlite_keyed.proofs.ListLemmas.{all-append, all_weaker, ascending-append}
use Rattle.lot_book.specs.Facts.{Entry}
use Rattle.lot_book_report.specs.declared.fault.ShowFault.{ShowFault}
use Rattle.lot_book_report.specs.declared.fault.ShowFault.TheVariants.{Row as AtRow, Walk as AtWalk}
use Rattle.lot_legs.specs.Legs.{is_by}
use Rattle.lot_noted.specs.Book.{NeverFall, days_of}
use Rattle.lot_recall.specs.Days.{AreDays, IsBehindDays}
use Rattle.lot_recall.specs.declared.days.DaysPlace.{DaysPlace}
use Rattle.lot_register_report.specs.Show.{AreUpTo, HasTakenDays, IsOfKeys}
use Rattle.lot_register_report.specs.declared.days.DayTally.{DayTally}
use Rattle.lot_report.specs.declared.fault.ReportFault.TheVariants.{Memory, Range, Write}
use Rattle.lot_report.specs.declared.fault.RowFault.TheVariants.{Report, Spent}
use Rattle.lot_stored.specs.StandFor.{Stands}
use Rattle.lot_store.specs.Walk.{HasGiven}
use Rattle.lot_store.specs.declared.walk.Stage.TheVariants.{Going}
use Rattle.lot_store.specs.declared.walk.Walk.{Walk}
use Rattle.lot_sums.specs.Gather.{Gathers}
use Rattle.lot_walk.specs.Gains.{is_from}
use Rattle.lot_walk.specs.Step.{HasGivenNone}

-- ---- one day more

by_later : (day last later : ℤ) → IsTrue (is_by last day) → IsTrue (is_by later last) → IsTrue (is_by later day)
by_later day last later first second = grind (arith, ints, first, second)

by_itself : (day : ℤ) → IsTrue (is_by day day)
by_itself day = grind (arith, ints)

-- each day is no later than the one that is taken
all_by : (last : Option ℤ) (days : List ℤ) (day : ℤ) → AreUpTo last days → IsTrue (is_from last day) → AllByRecursion (λ (earlier : ℤ). IsTrue (is_by day earlier)) days
all_by None days day none from = subst (AllByRecursion (λ (earlier : ℤ). IsTrue (is_by day earlier))) (sym none) tt
all_by (Some last) days day upto from =
    all_weaker (λ (earlier : ℤ). IsTrue (is_by last earlier)) (λ (earlier : ℤ). IsTrue (is_by day earlier)) (λ earlier by. by_later earlier last day by from) days upto

pub day_taken : (days : List ℤ) (day : ℤ) (before after : DayTally) → HasTakenDays tt days before
    → after.never_fall ≡ (before.never_fall && is_from before.last day) → after.last ≡ Some day → HasTakenDays tt (days ++ day ∷ []) after
day_taken days day before after taken answer last = λ never.
    let both = and_parts before.never_fall (is_from before.last day) (subst IsTrue answer never) in
    let was = taken both.0 in
    let upto = all_by before.last days day was.1 both.1 in (
      ascending-append (λ (a b : ℤ). IsTrue (is_by b a)) days (day ∷ []) was.0 (tt, tt)
          (all_weaker (λ (earlier : ℤ). IsTrue (is_by day earlier)) (λ (earlier : ℤ). AllByRecursion (λ (b : ℤ). IsTrue (is_by b earlier)) (day ∷ []))
          (λ earlier by. (by, tt)) days upto),
      subst (λ (o : Option ℤ). AreUpTo o (days ++ day ∷ [])) (sym last)
          (all-append (λ (earlier : ℤ). IsTrue (is_by day earlier)) days (day ∷ []) upto (by_itself day, tt)),
    )

-- ---- the walk over them

pub no_days : (tally : DayTally) → tally.last ≡ None → HasTakenDays tt [] tally
no_days tally none = λ never. (tt, subst (λ (o : Option ℤ). AreUpTo o []) (sym none) refl)

module _ {S : Type 0} (g : Ghosts S) (walk : Walk S DaysPlace g) (place : DaysPlace) (going : walk.stage ≡ Going) (is : walk.place ≡ place) where
  pub days_begin : (entries : List Entry) → Stands (state g walk.book.now.conn) entries → HasGivenNone AreDays IsBehindDays place tt
      → HasGiven g AreDays IsBehindDays walk tt entries []
  days_begin entries stands begun =
      let both = begun stands.tables entries stands.stand in
      record {
        stands = stands;
        prefix = both.0;
        goes_on = going;
        behind = subst (λ (p : DaysPlace). IsBehindDays p stands.tables tt entries []) (sym is) both.1;
      }

-- all were taken
pub of_days : (entries : List Entry) (all : List ℤ) (tally : DayTally) → AreDays tt entries all → HasTakenDays tt (map (λ (day : ℤ). day) all) tally
    → IsTrue tally.never_fall → NeverFall (days_of entries)
of_days entries all tally are taken never = subst NeverFall (map-id all ∙ are) (taken never).0

-- days that aren't all taken
pub of_day_keys : (days : List ℤ) (tally : DayTally) (fault : ShowFault)
    → Gathers (λ (before : List ℤ) (day : ℤ). true) (HasTakenDays tt) days tally (Err fault) → IsOfKeys fault
of_day_keys days tally (AtWalk fault) gathers = tt
of_day_keys days tally (AtRow (Report Range)) (given, day, rest, is, fit, unfit) = absurd (true≢false (sym unfit))
of_day_keys days tally (AtRow (Report Memory)) gathers = tt
of_day_keys days tally (AtRow (Report Write)) gathers = absurd gathers
of_day_keys days tally (AtRow Spent) gathers = gathers

-- A database that is taken over, once its transaction is committed.
use Rattle.std.proofs.Common.{◌≡◌, ◌∙◌, inl, inr, true, All, Err, Ok, OnOk, Result, List, ℕ, length, ap, map, false, sym, subst, arith}
use Rattle.sqlite.specs.Effect.{Database}
use Rattle.sqlite.specs.State.{Shows, State, Survives}
use Rattle.sqlite.specs.Held.{Held, state}
use Rattle.sqlite.specs.Store.{Ghosts}
use Rattle.sqlite.specs.declared.error.Error.{Error}
use Rattle.lot_book.specs.Book.{IsBook}
use Rattle.lot_book.specs.Facts.{Entry}
use Rattle.lot_migrate.specs.LotOpenings.{ListsOpenings}
use Rattle.lot_stored.specs.StandFor.{StandFor}
use Rattle.lot_table.specs.Book.{Holds}
use Rattle.lot_rows.specs.Entry.{IsEntryRow}
use Rattle.lot_rows.specs.Leg.{IsLegRow}
use Rattle.lot_rows.specs.Tables.{Has, Tables, layout}
use Rattle.lot_rows.specs.declared.leg.LegRow.{LegRow}
use Rattle.lot_migrate.specs.Fault.{migrate_outcome}
use Rattle.lot_migrate.specs.First.{StandForFirst, StandsFirst, first_edition}
use Rattle.lot_migrate.specs.Migrate.{HasMigrated, IsCommitted, LeavesTakenOver, LeftFrom, MigratesMarked, NotTakenOver, StandsFrom}
use Rattle.lot_migrate.specs.Read.{AreLegs, CanMigrate, entries_in}
use Rattle.lot_migrate.specs.Rows.{leg_of, migrated, row_of_opening}
use Rattle.lot_migrate.specs.declared.fault.MigrateFault.{MigrateFault}
use Rattle.lot_migrate.specs.declared.fault.MigrateFault.TheVariants as migrate
use Rattle.lot_migrate.proofs.RowLemmas.{same_legs}
use Rattle.lot_migrate.proofs.StandLemmas.{StandsAt, first_entries_counted, first_legs_are_numbered, first_lots_stay_in_range, lists_of_table, stands_migrated}

-- ---- tables that stand for a book of edition 1

module _ (tables : Tables) (entries : List Entry) (first : StandForFirst tables entries) where
  table_legs : AreLegs tables.leg
  table_legs = record {
    good = subst (All IsLegRow) (sym (ap (λ (t : Tables). t.leg) first.same)) first.stands.good.leg;
    numbered = first_legs_are_numbered tables entries first;
  }

  -- can be migrated
  pub can_migrate : CanMigrate tables
  can_migrate = record {
    fold = record { legs = table_legs; in_range = first_lots_stay_in_range tables entries first };
    entries = subst (All IsEntryRow) (sym (ap (λ (t : Tables). t.entry) first.same)) first.stands.good.entry;
  }

  book_of : (t : Tables) → StandFor t entries → IsBook entries
  book_of t stand = record { place = stand.place; placed = stand.placed; is = stand.judged }

  module _ (s : State) (m : HasMigrated tables s) where
    abbrev whole : Tables
    whole = migrated tables (map row_of_opening m.openings) (length entries)

    stand : StandsAt (length entries) whole entries
    stand =
        let rows : m.lists.rows ≡ tables.leg = same_legs m.lists.rows tables.leg m.lists.are.legs table_legs m.lists.are.same in
        stands_migrated tables entries first m.openings
        (lists_of_table tables entries first m.openings
        (subst (λ (legs : List LegRow). ListsOpenings (map leg_of legs) m.openings) rows m.lists.lists))

    has : Has s whole
    has = subst (λ (place : ℕ). Has s (migrated tables (map row_of_opening m.openings) place)) (first_entries_counted tables entries first) m.has

    pub stands_from : StandsFrom (length entries) s entries
    stands_from = record {
      stands = record { book = book_of whole stand.0; tables = whole; has = has; stand = stand.0 };
      placed = stand.1;
    }

    pub left_from : LeftFrom (length entries) s.now.trees entries
    left_from = record {
      left = record { book = book_of whole stand.0; tables = whole; holds = has.1; stand = stand.0 };
      placed = stand.1;
    }

-- ---- the transaction

has_along : (last end : State) (tables : Tables) → end.now ≡ last.now → HasMigrated tables last → HasMigrated tables end
has_along last end tables is m = record {
  openings = m.openings;
  lists = m.lists;
  has =
      subst (λ (db : Database). (db.schema ≡ layout.schema) × Holds layout db.trees (migrated tables (map row_of_opening m.openings) (entries_in tables)))
      (sym is) m.has;
}

pub taken_over : (old last end : State) → MigratesMarked old last → Shows last end last.now last.now false
    → MigratesMarked old end × IsCommitted end
taken_over old last end makes shows = (
  (λ tables edition has book. has_along last end tables shows.now_is (makes tables edition has book)),
  (shows.is_open, shows.committed_is ∙ sym shows.now_is),
)

pub stands_migrated_from : (old new : State) → MigratesMarked old new → (entries : List Entry) → StandsFirst old entries
    → StandsFrom (length entries) new entries
stands_migrated_from old new makes entries first =
    stands_from first.tables entries first.stand new (makes first.tables first_edition first.has first.stand.book)

pub leaves_migrated : (old last : State) → MigratesMarked old last → LeavesTakenOver old last.now.trees
leaves_migrated old last makes entries first =
    left_from first.tables entries first.stand last (makes first.tables first_edition first.has first.stand.book)

-- what refused it refused it for a caller who has it rolled back
pub refused_later : (old last end : State) (fault : MigrateFault) → Survives last end (λ _. ⊥) → NotTakenOver old last fault
    → NotTakenOver old end fault
refused_later old last end migrate.NotABook undone refused = refused
refused_later old last end migrate.NewerEdition undone refused = refused
refused_later old last end migrate.Device undone refused =
    λ tables has. elim (refused tables has) [
      | inl disk ↦ elim disk [
        | inl more ↦ inl (inl (omega (arith, more, undone.counts)))
        | inr shut ↦ inl (inr shut)
      ]
      | inr none ↦ inr none
    ]
refused_later old last end migrate.InDoubt undone refused = omega (arith, refused, undone.counts)
refused_later old last end migrate.Damaged undone refused = refused
refused_later old last end migrate.Memory undone refused = tt

-- the transaction began before it
pub makes_begun : {S : Type 0} (g : Ghosts S) (old begun : Held S) (last : State) → begun ≡ record old { in_transaction = true }
    → MigratesMarked (state g begun) last → MigratesMarked (state g old) last
makes_begun g old begun last is makes tables edition has book =
    subst (λ (h : Held _). MigratesMarked (state g h) last) is makes tables edition has book

pub on_migrated : {A : Type 0} (r : Result A Error) (P : Type 0) → OnOk r P → OnOk (migrate_outcome r) P
on_migrated (Ok done) P h = h
on_migrated (Err error) P h = h

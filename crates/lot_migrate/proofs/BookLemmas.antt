-- All that is read of a book, in its transaction.
use Rattle.std.proofs.Common.{◌≡◌, All, Err, List, Ok, Vec, map, ℕ}
use Rattle.std.specs.declared.alloc.Global.{Global}
use Rattle.sqlite.specs.State.{State}
use Rattle.lot_book.specs.declared.leg.Leg.{Leg}
use Rattle.lot_migrate.specs.LotOpenings.{Keeps, ListsOpenings}
use Rattle.lot_migrate.specs.declared.opening_numbers.LotOpening.{LotOpening}
use Rattle.lot_migrate.specs.declared.opening_numbers.OpenLots.{OpenLots}
use Rattle.lot_table.specs.declared.fault.Fault.{Fault}
use Rattle.lot_table.specs.declared.fault.Fault.TheVariants.{Memory}
use Rattle.lot_rows.proofs.StateLemmas.{early, survives_both, survives_same}
use Rattle.lot_rows.specs.Entry.{IsEntryRow}
use Rattle.lot_rows.specs.Tables.{Tables}
use Rattle.lot_migrate.specs.Read.{CanFold, CanMigrate, IsReading, KeepsTable, Reads, entries_in}
use Rattle.lot_migrate.specs.Rows.{leg_of}
use Rattle.lot_migrate.proofs.CountLemmas.{CountsEntries}
use Rattle.lot_migrate.proofs.ReadLemmas.{has_on, kept_on, reads_fails, reads_stops, stays_none, stays_then}

abbrev Counted : ℕ → Tables → Type 0
Counted count tables = count ≡ entries_in tables

pub count_stops : (old new : State) (fault : Fault) → CountsEntries old new (Err fault) → Reads IsReading CanMigrate old new (Err fault)
count_stops old new fault =
    reads_fails IsReading Counted CanMigrate (λ (tables : Tables). All IsEntryRow tables.entry) old old (survives_same old (λ _. ⊥))
    (λ _. stays_none old) new fault (λ tables can. can.entries)

module _ (old mid new : State) (count : ℕ) where
  pub fold_stops : (fault : Fault) → CountsEntries old mid (Ok count) → Reads KeepsTable CanFold mid new (Err fault)
      → Reads IsReading CanMigrate old new (Err fault)
  fold_stops fault first =
      reads_fails IsReading KeepsTable CanMigrate CanFold old mid first.crash first.same new fault (λ tables can. can.fold)

  module _ (lots : OpenLots) (first : CountsEntries old mid (Ok count)) (second : Reads KeepsTable CanFold mid new (Ok lots)) where
    -- there is no memory for the openings
    pub no_memory : Reads IsReading CanMigrate old new (Err Memory)
    no_memory =
        reads_stops IsReading CanMigrate old new Memory (survives_both old mid new first.crash second.crash)
        (λ clean. stays_then old mid new (first.same (early mid new second.crash clean)) (second.same clean)) (λ clean is. absurd cc)
        (λ is. absurd cc)

    pub reads_book : (openings : Vec LotOpening Global)
        → ((legs : List Leg) → Keeps legs lots → ListsOpenings legs openings.items)
        → Reads IsReading CanMigrate old new (Ok (record { entries = count; openings = openings }))
    reads_book openings lists = record {
      says = λ clean tables has.
          let was = early mid new second.crash clean in
          let kept = second.says clean tables (has_on old mid tables (first.same was) has) in
          (first.says was tables has, record { rows = kept.0; are = kept.1; lists = lists (map leg_of kept.0) kept.2 });
      same = λ clean. stays_then old mid new (first.same (early mid new second.crash clean)) (second.same clean);
      damaged = λ clean is. absurd cc;
      device = λ clean is. absurd cc;
      kept = λ clean. kept_on old new (stays_then old mid new (first.same (early mid new second.crash clean)) (second.same clean));
      crash = survives_both old mid new first.crash second.crash;
    }

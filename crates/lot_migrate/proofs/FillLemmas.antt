-- What is read and put in the transaction makes tables of edition 2 of those of edition 1.
use Rattle.std.proofs.Common.{◌≡◌, ◌≢◌, ◌∙◌, inl, inr, ℕ, ◌+◌, List, None, Err, Result, ap, length, map, refl, subst, sym}
use Rattle.sqlite.specs.Effect.{Database}
use Rattle.sqlite.specs.State.{HasCleanDisk, State, Survives}
use Rattle.sqlite_catalog.specs.Change.{KeepsRows}
use Rattle.lot_table.specs.Book.{Turns, always}
use Rattle.lot_table.specs.Shape.{schema_of}
use Rattle.lot_table.specs.Statement.{DiskFailed}
use Rattle.lot_table.specs.declared.fault.Fault.{Fault}
use Rattle.lot_table.specs.declared.fault.Fault.TheVariants.{Damaged, Device, Memory}
use Rattle.lot_table.specs.declared.make.MakeFault.{MakeFault}
use Rattle.lot_table.specs.declared.make.MakeFault.TheVariants.{Failed, Taken}
use Rattle.lot_rows.proofs.StateLemmas.{early, survives_both}
use Rattle.lot_rows.specs.Tables.{Has, HasFirst, Tables, first_shapes, layout}
use Rattle.lot_page.specs.Cursor.{Stays}
use Rattle.lot_migrate.specs.Fault.{add_fault_of, migrate_fault_of}
use Rattle.lot_migrate.specs.Migrate.{MigratesMarked, NotTakenOver}
use Rattle.lot_migrate.specs.Put.{HasNoRoom, IsFullForAll, PutsRows, with_all}
use Rattle.lot_migrate.specs.Read.{CanMigrate, IsReading, ListsTable, Reads}
use Rattle.lot_migrate.specs.Rows.{bare, migrated, row_of_opening}
use Rattle.lot_migrate.specs.declared.opening_numbers.LotOpening.{LotOpening}
use Rattle.lot_migrate.specs.declared.fill.Reading.{Reading}
use Rattle.lot_migrate.proofs.NumberLemmas.{openings_rise}
use Rattle.lot_migrate.proofs.PutLemmas.{all_put, failed_later}
use Rattle.lot_migrate.proofs.ReadLemmas.{has_on}

can_bare : (tables : Tables) → CanMigrate tables → CanMigrate (bare tables)
can_bare tables can = record { fold = record { legs = can.fold.legs; in_range = can.fold.in_range }; entries = can.entries }

-- the opening numbers of tables don't rest on the two that are added
lists_bare : (tables : Tables) (openings : List LotOpening) → ListsTable openings (bare tables) → ListsTable openings tables
lists_bare tables openings lists = record {
  rows = lists.rows;
  are = record { legs = lists.are.legs; same = lists.are.same };
  lists = lists.lists;
}

-- the two tables are added
abbrev pub Adds : State → State → Type 0
Adds old begun = (tables : Tables) → HasFirst old tables → Has begun (bare tables)

-- the eleven have the stored rows that they had
abbrev pub KeepsFirst : State → State → Type 0
KeepsFirst old begun = (tables : Tables) → HasFirst old tables → KeepsRows (schema_of first_shapes).tables old.now.trees begun.now.trees

-- ---- all is made

pub is_filled : (old begun read new : State) (reading : Reading) → Adds old begun
    → ((tables : Tables) → Has begun tables → IsReading reading tables) → Stays begun read
    → Turns layout always (with_all reading.openings.items reading.entries) read new
    → MigratesMarked old new
is_filled old begun read new reading adds says same turns tables edition has book =
    let openings = reading.openings.items in
    let first = adds tables has in
    let it = says (bare tables) first in
    let then = has_on begun read (bare tables) same first in
    let up = openings_rise it.1.rows it.1.are.legs openings it.1.lists in
    let whole = all_put openings reading.entries tables edition book up ∙ ap (migrated tables (map row_of_opening openings)) it.0 in
    record {
      openings = openings;
      lists = lists_bare tables openings it.1;
      has = subst (Has new) whole (turns.book then.0, turns.lists then.0 (bare tables) then.1 tt);
    }

-- ---- why it isn't

pub add_refused : (old new : State) (fault : MakeFault) → (fault ≡ Taken → old.now.schema ≢ schema_of first_shapes)
    → (fault ≡ Failed Damaged → old.now.schema ≢ schema_of first_shapes)
    → (fault ≡ Failed Device → old.now.schema ≡ schema_of first_shapes → DiskFailed old new)
    → NotTakenOver old new (add_fault_of fault)
add_refused old new Taken taken damaged device = λ tables has. taken refl has.0
add_refused old new (Failed Damaged) taken damaged device = λ tables has can. damaged refl has.0
add_refused old new (Failed Device) taken damaged device = λ tables has. inl (device refl has.0)
add_refused old new (Failed Memory) taken damaged device = tt

pub read_refused : (old begun new : State) (fault : Fault) → Survives old begun (λ _. ⊥) → (HasCleanDisk begun → Adds old begun)
    → old.step_limit ≡ None → HasCleanDisk new → Reads IsReading CanMigrate begun new (Err fault)
    → NotTakenOver old new (migrate_fault_of fault)
read_refused old begun new Damaged first adds unlimited clean r =
    λ tables has can.
    r.damaged clean refl (first.limit ∙ unlimited) (bare tables) (adds (early begun new r.crash clean) tables has) (can_bare tables can)
read_refused old begun new Device first adds unlimited clean r =
    λ tables has. inl (failed_later old begun new first (early begun new r.crash clean) r.crash.counts (r.device clean refl))
read_refused old begun new Memory first adds unlimited clean r = tt

-- there is no room for a row that migration makes of the tables
none_of : (reading : Reading) (tables : Tables) (old read : State) → IsReading reading (bare tables) → Has read (bare tables)
    → KeepsRows (schema_of first_shapes).tables old.now.trees read.now.trees
    → IsFullForAll reading.openings.items reading.entries (bare tables) read.now.trees → HasNoRoom tables old.now.trees
none_of reading tables old read it has kept lacks = record {
  openings = reading.openings.items;
  lists = lists_bare tables reading.openings.items it.1;
  begun = read.now.trees;
  kept = kept;
  holds = has.1;
  lacks = subst (λ (place : ℕ). IsFullForAll reading.openings.items place (bare tables) read.now.trees) it.0 lacks;
}

abbrev pub PutsAll : Reading → State → State → Result (Unit {0}) Fault → Type 0
PutsAll reading =
    PutsRows (with_all reading.openings.items reading.entries) (2 + length reading.openings.items)
    (IsFullForAll reading.openings.items reading.entries)

pub put_refused : (old begun read new : State) (reading : Reading) (fault : Fault) → Survives old begun (λ _. ⊥)
    → (HasCleanDisk begun → Adds old begun) → (HasCleanDisk begun → KeepsFirst old begun) → Survives begun read (λ _. ⊥)
    → (HasCleanDisk read → Stays begun read) → (HasCleanDisk read → (tables : Tables) → Has begun tables → IsReading reading tables)
    → old.step_limit ≡ None → HasCleanDisk new → PutsAll reading read new (Err fault)
    → NotTakenOver old new (migrate_fault_of fault)
put_refused old begun read new reading Memory first adds stored second same says unlimited clean p = tt
put_refused old begun read new reading Damaged first adds stored second same says unlimited clean p =
    λ tables has can.
    let was = early read new p.crash clean in
    p.damaged clean refl (second.limit ∙ first.limit ∙ unlimited) (bare tables)
    (has_on begun read (bare tables) (same was) (adds (early begun read second was) tables has))
put_refused old begun read new reading Device first adds stored second same says unlimited clean p =
    λ tables has.
    let was = early read new p.crash clean in
    let earlier = early begun read second was in
    let added = adds earlier tables has in
    let there = has_on begun read (bare tables) (same was) added in
    let kept = subst (λ (d : Database). KeepsRows (schema_of first_shapes).tables old.now.trees d.trees) (sym (same was).now) (stored earlier tables has) in
    elim (p.device clean refl (bare tables) there) [
      | inl disk ↦ inl (failed_later old read new (survives_both old begun read first second) was p.crash.counts disk)
      | inr lacks ↦ inr (none_of reading tables old read (says was (bare tables) added) there kept lacks)
    ]

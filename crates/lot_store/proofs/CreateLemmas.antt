-- The tables of a book without entries.
use Rattle.std.proofs.Common.{◌≡◌, true, All, Err, IfErr, IsTrue, [], ◌∷◌, Ok, OnOk, Result, arith, refl, rules, subst}
use Rattle.sqlite.proofs.StateLemmas.{survives_weaker}
use Rattle.sqlite.specs.Held.{Held, state}
use Rattle.sqlite.specs.State.{IsLive, KeepsCommit, State, Survives}
use Rattle.sqlite.specs.Store.{Ghosts}
use Rattle.sqlite.specs.Tree.{Trees}
use Rattle.sqlite.specs.declared.error.Error.{Error}
use Rattle.sqlite_catalog.specs.Listing.{IsSound}
use Rattle.lot_book.specs.Book.{IsBook}
use Rattle.lot_stored.specs.Rows.{migration_row, this_edition}
use Rattle.lot_stored.specs.StandFor.{Left, StandFor, Stands}
use Rattle.lot_rows.specs.Tables.{Has, Tables, book_table, layout, migration_table, no_rows_yet}
use Rattle.lot_rows.specs.declared.book.BookRow.{BookRow}
use Rattle.lot_table.specs.Book.{Holds, Turns, always}
use Rattle.lot_table.specs.Rows.{put_in}
use Rattle.lot_table.specs.Shape.{schema_of}
use Rattle.lot_store.specs.Create.{MayBeMade, StandsForNone, create_commit_fault, create_outcome, no_entries_yet}

none : {X : Type 0} (P : X → Type 0) → All P []
none P k d low = absurd (omega (arith, low))

empty_stand : StandFor no_entries_yet []
empty_stand = record {
  good = record {
    account = none _;
    allowed = none _;
    commodity = none _;
    price = none _;
    entry = none _;
    leg = none _;
    sale = none _;
    lot = none _;
    plain = none _;
    head = none _;
    opening = none _;
  };
  ordered = record {
    account = tt;
    allowed = tt;
    commodity = tt;
    price = tt;
    entry = tt;
    leg = tt;
    sale = tt;
    lot = tt;
    plain = tt;
    head = tt;
    opening = tt;
  };
  said = none _;
  book = refl;
  place = 0;
  placed = omega arith;
  judged = tt;
  migration = refl;
  account = λ name. refl;
  allowed = λ account. refl;
  commodity = λ name. refl;
  price = λ base quote day. refl;
  entry = refl;
  leg = λ entry posting. refl;
  sales = [];
  sold = refl;
  sale = refl;
  lot = λ account commodity lot good. refl;
  plain = λ account commodity. refl;
  opening = λ account commodity lot good. refl;
  head = λ account commodity. refl;
}

empty_book : IsBook []
empty_book = record { place = 0; placed = omega arith; is = tt }

pub none_stands : (s : State) → StandsForNone s → Stands s []
none_stands s has = record { book = empty_book; tables = no_entries_yet; has = has; stand = empty_stand }

pub none_left : (trees : Trees) → Holds layout trees no_entries_yet → Left trees []
none_left trees holds = record { book = empty_book; tables = no_entries_yet; holds = holds; stand = empty_stand }

-- the tables with the row of the edition alone
abbrev pub only_marked : Tables
only_marked = record no_rows_yet { book = this_edition ∷ [] }

-- the row of the edition is put first
pub marked : (a b : State) (row : BookRow) → row ≡ this_edition → Has a no_rows_yet
    → Turns layout always (λ (tables : Tables). book_table.with_rows (put_in book_table.encode book_table.width row (book_table.rows tables)) tables) a b → Has b only_marked
marked a b row is has turns =
    let made : Has b (record no_rows_yet { book = row ∷ [] }) = (turns.book has.0, turns.lists has.0 no_rows_yet has.1 tt) in
    subst (λ (r : BookRow). Has b (record no_rows_yet { book = r ∷ [] })) is made

-- then that of the place of migration
pub placed : (a b : State) → Has a only_marked
    → Turns layout always (λ (tables : Tables). migration_table.with_rows (put_in migration_table.encode migration_table.width (migration_row 0) (migration_table.rows tables)) tables) a b → StandsForNone b
placed a b has turns = (turns.book has.0, turns.lists has.0 only_marked has.1 tt)

-- the tables are made in a database that was open and had none
pub made_in : {S : Type 0} (g : Ghosts S) (old begun last : Held S) → begun ≡ record old { in_transaction = true } → IsLive (state g old) → KeepsCommit (state g begun) (state g last)
    → ((state g begun).now.schema ≡ schema_of [] → IsSound (schema_of []) (state g begun).now.trees → StandsForNone (state g last))
    → IsTrue (state g last).is_open → (state g old).now.schema ≡ schema_of [] → StandsForNone (state g last)
made_in g old begun last is live kept made opened empty =
    let was_open : IsTrue (state g old).is_open = subst (λ (h : Held _). IsTrue (state g h).is_open) is (kept.was_open opened) in
    let sound : IsSound (schema_of []) (state g old).now.trees = subst (λ s. IsSound s (state g old).now.trees) empty (live was_open).0 in
    subst (λ (h : Held _). (state g h).now.schema ≡ schema_of [] → IsSound (schema_of []) (state g h).now.trees → StandsForNone (state g last)) is made empty sound

-- of each error, where there is one
pub of_each_error : {A E : Type 0} (r : Result A E) (P : E → Type 0) → ((error : E) → P error) → IfErr r P
of_each_error (Ok done) P each = tt
of_each_error (Err error) P each = each error

-- a commit that fails is in doubt, or memory refused it
doubtful : (error : Error) → MayBeMade (create_commit_fault error)
doubtful error = search rules

-- so what a crash may leave once a commit failed is left where a book may stand
pub on_failed : {A : Type 0} (r : Result A Error) (old new : State) (P : Trees → Type 0) → Survives old new P
    → IfErr (create_outcome r) (λ fault. Survives old new (λ trees. MayBeMade fault × P trees))
on_failed (Ok done) old new P survives = tt
on_failed (Err error) old new P survives = survives_weaker old new P _ (λ _ trees may. (doubtful error, may)) survives

pub on_created : {A : Type 0} (r : Result A Error) (P : Type 0) → OnOk r P → OnOk (create_outcome r) P
on_created (Ok done) P h = h
on_created (Err error) P h = h

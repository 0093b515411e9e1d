-- A walk over the sales of entries behind a number, before its first row.
use Rattle.std.proofs.Common.{◌≡◌, ℕ, [], List, subst, sym}
use Rattle.sqlite.specs.Held.{state}
use Rattle.sqlite.specs.Store.{Ghosts}
use Rattle.lot_added.specs.Added.{AreAddedSales, IsBehindAdded, IsBehindAddedRows}
use Rattle.lot_added.specs.declared.place.AddedPlace.{AddedPlace}
use Rattle.lot_book.specs.Facts.{Entry}
use Rattle.lot_rows.specs.Tables.{Has, Tables}
use Rattle.lot_store.specs.Walk.{HasGiven, HasGivenRows}
use Rattle.lot_store.specs.declared.book.Book.{Book}
use Rattle.lot_store.specs.declared.walk.Stage.TheVariants.{Going}
use Rattle.lot_store.specs.declared.walk.Walk.{Walk}
use Rattle.lot_stored.specs.StandFor.{Stands}
use Rattle.lot_walk.specs.Step.{HasGivenNoRows, HasGivenNone}

module _ {S : Type 0} (g : Ghosts S) (book : Book S g) (walk : Walk S AddedPlace g) (place : AddedPlace) (behind : ℕ)
    (going : walk.stage ≡ Going) (is : walk.place ≡ place) (same : walk.book.now ≡ book) where
  pub walk_begins : HasGivenNone AreAddedSales IsBehindAdded place behind → (entries : List Entry) → Stands (state g book.conn) entries
      → HasGiven g AreAddedSales IsBehindAdded walk behind entries []
  walk_begins begun entries there =
      let stands = subst (λ (b : Book S g). Stands (state g b.conn) entries) (sym same) there in
      let both = begun stands.tables entries stands.stand in
      record {
        stands = stands;
        prefix = both.0;
        goes_on = going;
        behind = subst (λ (p : AddedPlace). IsBehindAdded p stands.tables behind entries []) (sym is) both.1;
      }

  pub rows_begin : HasGivenNoRows IsBehindAddedRows place behind → (tables : Tables) → Has (state g book.conn) tables
      → HasGivenRows g IsBehindAddedRows walk behind tables []
  rows_begin begun tables there = record {
    has = subst (λ (b : Book S g). Has (state g b.conn) tables) (sym same) there;
    goes_on = going;
    behind = subst (λ (p : AddedPlace). IsBehindAddedRows p tables behind []) (sym is) (begun tables);
  }

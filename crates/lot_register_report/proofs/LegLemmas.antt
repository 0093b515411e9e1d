-- The legs that are read again at keys are those of a register.
use Rattle.std.specs.Prelude.{◌≡◌, ◌≢◌, ℕ, List, [], ◌∷◌, map, OnOk, Option, Result, Ok, Err}
use Rattle.std.specs.List.{AllByRecursion}
use Rattle.std.proofs.Common.{refl, sym, subst, ◌∙◌, inl}
use Rattle.std.proofs.KnownBytes.{Appends-nil}
use Rattle.std.proofs.lemmas.Bool.{true≢false}
use Rattle.sqlite.specs.Held.{state}
use Rattle.sqlite.specs.Store.{Ghosts}
use Rattle.sqlite_rules.specs.Lists.{Has as HasRow}
use Rattle.lot_book.specs.Book.{IsBook}
use Rattle.lot_book.specs.Facts.{Entry}
use Rattle.lot_book_report.specs.Fault.{HasCause}
use Rattle.lot_book_report.specs.declared.fault.ShowFault.{ShowFault}
use Rattle.lot_book_report.specs.declared.fault.ShowFault.TheVariants.{Row as AtRow, Walk as AtWalk}
use Rattle.lot_io.specs.Writes.{NoneFailed, WritesMade}
use Rattle.lot_legs.proofs.OrderLemmas.{legs_up}
use Rattle.lot_noted.specs.Book.{Asked, noted_legs, register_legs}
use Rattle.lot_noted.specs.Keys.{key_of}
use Rattle.lot_noted.specs.declared.key.LegKey.{LegKey}
use Rattle.lot_noted.proofs.BareLemmas.{keys_are, those_asked}
use Rattle.lot_recall.specs.Place.{AreAt, HaveLegs}
use Rattle.lot_recall.specs.Wanted.{AreWanted, AreWantedRows, IsBehindWanted, IsBehindWantedRows}
use Rattle.lot_recall.specs.declared.register.RegisterPlace.{RegisterPlace}
use Rattle.lot_recall.proofs.OneLemmas.{all_within, same_legs}
use Rattle.lot_register.specs.Register.{Terms}
use Rattle.lot_register.specs.declared.leg.NotedLeg.{NotedLeg}
use Rattle.lot_register_report.specs.Show.{AreKeysOf, BeginsLegs, BeginsRows, IsOfKeys, ShowsAllLegs, ShowsRegister}
use Rattle.lot_report.specs.declared.fault.ReportFault.TheVariants.{Memory, Range, Write}
use Rattle.lot_report.specs.declared.fault.RowFault.TheVariants.{Report, Spent}
use Rattle.lot_rows.specs.Tables.{Has, Tables}
use Rattle.lot_stored.specs.StandFor.{Stands}
use Rattle.lot_store.specs.Walk.{HasGiven, HasGivenRows}
use Rattle.lot_store.specs.declared.walk.Stage.TheVariants.{Going}
use Rattle.lot_store.specs.declared.walk.Walk.{Walk}
use Rattle.lot_store.specs.declared.walk.WalkFault.TheVariants.{Ended, Failed}
use Rattle.lot_table.proofs.KeyLemmas.{mapped_has}

-- ---- the legs of a book

all_mapped : {X Y : Type 0} (f : X → Y) (P : Y → Type 0) (xs : List X) → AllByRecursion (λ x. P (f x)) xs → AllByRecursion P (map f xs)
all_mapped f P [] all = tt
all_mapped f P (x ∷ xs) all = (all.0, all_mapped f P xs all.1)

module _ (asked : Asked) (entries : List Entry) where
  those_noted : AllByRecursion (HasRow (noted_legs entries)) (register_legs asked entries)
  those_noted =
      all_within (register_legs asked entries) (HasRow (noted_legs entries)) (λ leg has. ((those_asked asked entries leg).0 has).0)

  module _ (book : IsBook entries) where
    module _ (keys : List LegKey) (are : AreKeysOf asked entries keys) where
      keys_listed : keys ≡ map key_of (register_legs asked entries)
      keys_listed = keys_are asked entries (legs_up entries book) keys are

      -- the book has a leg at each key
      pub have_legs : HaveLegs entries keys
      have_legs =
          subst (HaveLegs entries) (sym keys_listed)
          (all_mapped key_of (HasRow (map key_of (noted_legs entries))) (register_legs asked entries)
          (all_within (register_legs asked entries) (λ leg. HasRow (map key_of (noted_legs entries)) (key_of leg))
          (λ leg has. mapped_has key_of (noted_legs entries) leg ((those_asked asked entries leg).0 has).0)))

      -- those at the keys are those that are asked for
      pub legs_are : (legs : List NotedLeg) → AreAt keys entries legs → legs ≡ register_legs asked entries
      legs_are legs at = same_legs entries book legs (register_legs asked entries) (at.keyed ∙ keys_listed) at.among those_noted

-- ---- the walk over them

module _ {S : Type 0} (g : Ghosts S) (walk : Walk S RegisterPlace g) (place : RegisterPlace) (going : walk.stage ≡ Going) (is : walk.place ≡ place) where
  pub walk_begins : (asked : Asked) (entries : List Entry) → Stands (state g walk.book.now.conn) entries → (begins : BeginsLegs asked entries place)
      → HasGiven g AreWanted IsBehindWanted walk begins.wanted entries []
  walk_begins asked entries stands begins =
      let both = begins.begins stands.tables stands.stand in
      record {
        stands = stands;
        prefix = both.0;
        goes_on = going;
        behind = subst (λ (p : RegisterPlace). IsBehindWanted p stands.tables begins.wanted entries []) (sym is) both.1;
      }

  pub rows_begin : (asked : Asked) (tables : Tables) → Has (state g walk.book.now.conn) tables → (begins : BeginsRows asked tables place)
      → HasGivenRows g IsBehindWantedRows walk begins.wanted tables []
  rows_begin asked tables has begins = record {
    has = has;
    goes_on = going;
    behind = subst (λ (p : RegisterPlace). IsBehindWantedRows p tables begins.wanted []) (sym is) begins.begins;
  }

-- ---- what is shown

pub of_book : (terms : Terms) (asked : Asked) (entries : List Entry) (place : RegisterPlace) (begins : BeginsLegs asked entries place)
    (start now : Option (List ℕ)) (result : Result (Unit {0}) ShowFault)
    → (legs : List NotedLeg) × AreWanted begins.wanted entries legs × ShowsRegister terms legs start now result
    → ShowsRegister terms (register_legs asked entries) start now result
of_book terms asked entries place begins start now result (legs, at, shows) =
    subst (λ (ls : List NotedLeg). ShowsRegister terms ls start now result) (begins.are legs at) shows

pub of_tables : (terms : Terms) (asked : Asked) (tables : Tables) (place : RegisterPlace) (begins : BeginsRows asked tables place)
    (start now : Option (List ℕ)) (result : Result (Unit {0}) ShowFault)
    → OnOk result ((legs : List NotedLeg) × AreWantedRows begins.wanted tables legs × ShowsRegister terms legs start now result)
    → ShowsAllLegs terms asked tables start now result
of_tables terms asked tables place begins start now (Ok done) (legs, rows, shows) =
    let (keys, are, at) = begins.are legs rows in
    (keys, are, legs, at, shows)
of_tables terms asked tables place begins start now (Err fault) shows = tt

-- ---- the keys aren't read

pub unread : (terms : Terms) (legs : List NotedLeg) (start : Option (List ℕ)) (fault : ShowFault) → IsOfKeys fault → fault ≢ AtWalk Ended
    → ShowsRegister terms legs start start (Err fault)
unread terms legs start (AtWalk (Failed fault)) of_keys going = (inl (Appends-nil start), λ other. inl (Appends-nil start))
unread terms legs start (AtWalk Ended) of_keys going = absurd (going refl)
unread terms legs start (AtRow (Report Memory)) of_keys going = inl (Appends-nil start)
unread terms legs start (AtRow (Report Range)) of_keys going = absurd of_keys
unread terms legs start (AtRow (Report Write)) of_keys going = absurd of_keys
unread terms legs start (AtRow Spent) of_keys going = absurd of_keys

-- no call of the writer was made then
pub unread_cause : (fault : ShowFault) (calls : WritesMade) → IsOfKeys fault → NoneFailed calls.before calls.after → HasCause (Err fault) calls
unread_cause (AtWalk fault) calls of_keys none = none
unread_cause (AtRow (Report Memory)) calls of_keys none = λ writer. absurd (true≢false (sym writer))
unread_cause (AtRow (Report Range)) calls of_keys none = absurd of_keys
unread_cause (AtRow (Report Write)) calls of_keys none = absurd of_keys
unread_cause (AtRow Spent) calls of_keys none = absurd of_keys

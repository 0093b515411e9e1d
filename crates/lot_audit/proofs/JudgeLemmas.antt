-- The entry of a row that is read is judged: what follows, and why tables in which it isn't as it should be stand for no book.
use Rattle.std.specs.Prelude.{◌≡◌, ◌≤◌, ◌+◌, ℕ, ℤ, suc, pos, true, All, List, [], ◌∷◌, ◌++◌, length, map, option_map, slice_get, None}
use Rattle.std.specs.List.{AllByRecursion}
use Rattle.std.specs.Option.{option_or}
use Rattle.std.proofs.Common.{refl, sym, ap, subst, ◌∙◌, arith, append_assoc}
use Rattle.std.proofs.lemmas.List.{map-append}
use Rattle.sqlite.specs.declared.types.Value.TheVariants.{Int}
use Rattle.sqlite_keyed.proofs.ListLemmas.{all-append}
use Rattle.lot_book.specs.Book.{entry_of}
use Rattle.lot_book.specs.Edition.{After, edition_on}
use Rattle.lot_book.specs.Facts.{Entry, Facts, legs_of, text_under}
use Rattle.lot_book.specs.OpeningNumber.{IsNumbered}
use Rattle.lot_book.specs.Step.{Accept, StepIn}
use Rattle.lot_book.specs.declared.change.Change.{Change}
use Rattle.lot_book.specs.declared.leg.Leg.{Leg}
use Rattle.lot_command.specs.Sayable.{IsSayable}
use Rattle.lot_command.specs.declared.command.Command.{Command}
use Rattle.lot_command.specs.declared.key.Key.{Key}
use Rattle.lot_laws.proofs.CollectLemmas.{collected_next}
use Rattle.lot_laws.proofs.OpeningPostings.{all_numbered}
use Rattle.lot_laws.proofs.RecordedBook.{legs_of-append}
use Rattle.lot_page.specs.Cursor.{IsBehind, Place}
use Rattle.lot_page.proofs.BehindLemmas.{behind_rows}
use Rattle.lot_print.proofs.ReadLemmas.{same_command}
use Rattle.lot_rows.specs.Entry.{IsEntryRow, entry_cells, is_named, named}
use Rattle.lot_rows.specs.Leg.{IsLegRow, leg_cells}
use Rattle.lot_rows.specs.Sale.{IsSaleRow, sale_cells}
use Rattle.lot_rows.specs.Tables.{Tables}
use Rattle.lot_rows.specs.declared.entry.EntryRow.{EntryRow}
use Rattle.lot_rows.specs.declared.leg.LegRow.{LegRow}
use Rattle.lot_rows.specs.declared.sale.SaleRow.{SaleRow}
use Rattle.lot_rows.proofs.EntryLemmas.{same_row}
use Rattle.lot_table.specs.Rows.{with_key}
use Rattle.lot_stored.specs.Kept.{AreSalesOfEntry, SalesOf, numbered, rate_by}
use Rattle.lot_stored.specs.Rows.{entry_row, entry_rows, migration_row, sale_row}
use Rattle.lot_stored.specs.StandFor.{AreOfBook}
use Rattle.lot_stored.proofs.KeptLemmas.{entry_rows-append, rate_on-append}
use Rattle.lot_view.specs.View.{known as facts_known}
use Rattle.lot_audit.specs.Entries.{AllHave, HasRows, IsEntryOf, IsFirstUnder}
use Rattle.lot_audit.specs.Legs.{AreAlike}
use Rattle.lot_audit.specs.Pass.{GoesOnBy, HasJudged, HasLegs, HasOthersNext, HasRead, HaveLegs, IsAmongSales}
use Rattle.lot_audit.specs.Rates.{rate_in}
use Rattle.lot_audit.specs.Replay.{Follows, Replays}
use Rattle.lot_audit.specs.declared.pass.Pass.{Pass}
use Rattle.lot_audit.specs.declared.rates.Rates.{Rates}
use Rattle.lot_audit.specs.declared.replay.Replay.{Replay}
use Rattle.lot_audit.proofs.KeyLemmas.{first_where_new, names_itself, new_where_first}
use Rattle.lot_audit.proofs.NextLemmas.{IsNext, all_rest, is_known, key_is, key_new, legs_are, next_entry, row_of, rows_there, sales_there}

-- ---- one entry more

abbrev AreSayable : List Entry → Type 0
AreSayable = AllByRecursion (λ (entry : Entry). IsSayable entry.command)

legs_and_one : (number : ℕ) (tables : Tables) (entries : List Entry) (entry : Entry) → HaveLegs number entries tables
    → HasLegs (number + length entries) entry.legs tables → HaveLegs number (entries ++ entry ∷ []) tables
legs_and_one number tables [] entry have own = (subst (λ (n : ℕ). HasLegs n entry.legs tables) (omega arith) own, tt)
legs_and_one number tables (first ∷ entries) entry have own = (
  have.0,
  legs_and_one (suc number) tables entries entry have.1 (subst (λ (n : ℕ). HasLegs n entry.legs tables) (omega arith) own),
)

have_and_one : (tables : Tables) (entries : List Entry) (entry : Entry) → AllHave tables entries → HasRows entry.command tables
    → AllHave tables (entries ++ entry ∷ [])
have_and_one tables entries entry have own =
    all-append (λ (e : Entry). HasRows e.command tables) entries (entry ∷ []) have (own, tt)

module _ (pass : Pass) (row : EntryRow) where
  abbrev place : ℕ
  place = pass.known.replay.place

  abbrev Read : Tables → Type 0
  Read tables = HasRead pass row tables

  -- how many entries are judged
  counted : (tables : Tables) (read : Read tables) → (facts_known pass.known.replay.view).entries ≡ length read.0
  counted tables read = ap (λ (f : Facts). f.entries) read.2.replays.facts

  -- the rows of the table
  rows_of : (tables : Tables) (read : Read tables) → (rest : List EntryRow) × (entry_rows 1 read.0 ++ row ∷ rest ≡ tables.entry)
  rows_of tables read =
      let it = behind_rows entry_cells same_row (entry_rows 1 read.0 ++ row ∷ []) tables.entry pass.entries read.3 in
      (it.0, sym (append_assoc (entry_rows 1 read.0) (row ∷ []) it.0) ∙ it.1)

  next : (tables : Tables) (read : Read tables) → AreOfBook tables
      → (entry : Entry) × IsNext place tables read.0 row entry
  next tables read of =
      let rows = rows_of tables read in
      next_entry place tables read.0 row rows.0 read.2.migration read.2.replays.book read.2.said rows.1 of

  module _ (before : ℕ) (count : before ≡ (facts_known pass.known.replay.view).entries) where
    -- no entry has such a row
    pub none_said : ((key : Key) (command : Command) → ¬ IsEntryOf before row key command)
        → (tables : Tables) → Read tables → ¬ AreOfBook tables
    none_said none tables read of =
        let it = next tables read of in
        let rows = rows_of tables read in
        none it.0.key it.0.command
        (subst (λ (n : ℕ). IsEntryOf n row it.0.key it.0.command) (sym (count ∙ counted tables read))
        (row_of place tables read.0 row rows.0 read.2.migration read.2.replays.book read.2.said rows.1 it.0 it.1))

    module _ (key : Key) (command : Command) (said : IsEntryOf before row key command) where
      said_at : (tables : Tables) (read : Read tables) → IsEntryOf (length read.0) row key command
      said_at tables read = subst (λ (n : ℕ). IsEntryOf n row key command) (count ∙ counted tables read) said

      -- the row has its own key
      own_key : is_named key.source key.name (entry_cells row) ≡ true
      own_key =
          ap (λ (r : EntryRow). is_named key.source key.name (entry_cells r)) said.1
          ∙ names_itself key (suc before) (entry_of key command []) refl

      abbrev First : Tables → Type 0
      First tables = IsFirstUnder key row.number tables

      -- another row is the first under the key
      pub not_first : (tables : Tables) → Read tables → (¬ First tables) → ¬ AreOfBook tables
      not_first tables read other of =
          let it = next tables read of in
          let rows = rows_of tables read in
          let same : key ≡ it.0.key =
          key_is place tables read.0 row rows.0 read.2.migration read.2.replays.book read.2.said rows.1 key command it.0
          (said_at tables read) it.1 in
          let new : text_under read.0 key ≡ None =
          ap (text_under read.0) same
          ∙ key_new place tables read.0 row rows.0 read.2.migration read.2.replays.book read.2.said rows.1 it.0 it.1 in
          other
          (ap (λ (all : List EntryRow). option_map (λ (r : EntryRow). r.number) (slice_get (named key.source key.name all) 0))
          (sym rows.1)
          ∙ ap (option_map (λ (r : EntryRow). r.number)) (first_where_new key row own_key rows.0 1 read.0 new))

      -- the key is new
      is_new : (tables : Tables) (read : Read tables) → First tables → text_under read.0 key ≡ None
      is_new tables read first =
          let rows = rows_of tables read in
          new_where_first key row own_key rows.0 1 read.0 row.number
          (ap (λ (all : List EntryRow). option_map (λ (r : EntryRow). r.number) (slice_get (named key.source key.name all) 0))
          rows.1 ∙ first)
          (subst (λ (n : ℕ). 1 + length read.0 ≤ n) (sym (ap (λ (r : EntryRow). r.number) (said_at tables read).1)) (omega arith))

      -- no step accepts it
      pub not_accepted : ((entries : List Entry) (other : Key) (legs : List Leg) → Replays pass.known.replay entries
          → ¬ StepIn (edition_on (After place) entries) entries other command (Accept legs))
          → (tables : Tables) → Read tables → ¬ AreOfBook tables
      not_accepted never tables read of =
          let it = next tables read of in
          let same : it.0.command ≡ command =
          same_command it.0.command command it.1.said said.0
          (ap (λ (r : EntryRow). r.body) (sym it.1.row_is ∙ (said_at tables read).1)) in
          never read.0 it.0.key it.0.legs read.2.replays
          (subst (λ (c : Command). StepIn (edition_on (After place) read.0) read.0 it.0.key c (Accept it.0.legs)) same it.1.step)

      -- ---- it is accepted

      module _ (replay : Replay) (change : Change)
          (follow : (entries : List Entry) (other : Key) → Replays pass.known.replay entries → text_under entries other ≡ None
          → Follows pass.known.replay replay entries other command change) where
        abbrev entry : Entry
        entry = entry_of key command change.legs

        follows : (tables : Tables) (read : Read tables) → First tables → Follows pass.known.replay replay read.0 key command change
        follows tables read first = follow read.0 key read.2.replays (is_new tables read first)

        -- it is the entry of the row
        this_next : (tables : Tables) (read : Read tables) → First tables → AreOfBook tables → IsNext place tables read.0 row entry
        this_next tables read first of =
            let it = next tables read of in
            let rows = rows_of tables read in
            subst (IsNext place tables read.0 row)
            (sym (is_known place tables read.0 row rows.0 read.2.migration read.2.replays.book read.2.said rows.1 key command
            change.legs it.0 (said_at tables read) (follows tables read first).accepts it.1))
            it.1

        -- its legs are numbered
        pub are_numbered : (tables : Tables) → Read tables → First tables → AllByRecursion IsNumbered change.legs
        are_numbered tables read first =
            all_rest IsNumbered (legs_of read.0) change.legs
            (subst (AllByRecursion IsNumbered) (legs_of-append read.0 entry)
            (all_numbered (After replay.place) [] (read.0 ++ entry ∷ []) (follows tables read first).known.book))

        abbrev pub HasFound : List LegRow → Tables → Type 0
        HasFound found tables =
            All IsLegRow found
            × (map leg_cells found ≡ map leg_cells (with_key leg_cells 1 (Int (pos row.number) ∷ []) tables.leg))

        number_is : (tables : Tables) (read : Read tables) → row.number ≡ suc (length read.0)
        number_is tables read = ap (λ (r : EntryRow). r.number) (said_at tables read).1

        found_at : (found : List LegRow) (tables : Tables) (read : Read tables) → HasFound found tables
            → map leg_cells found ≡ map leg_cells (with_key leg_cells 1 (Int (pos (suc (length read.0))) ∷ []) tables.leg)
        found_at found tables read is =
            is.1 ∙ ap (λ (n : ℕ). map leg_cells (with_key leg_cells 1 (Int (pos n) ∷ []) tables.leg)) (number_is tables read)

        -- other legs are there
        pub not_alike : (found : List LegRow) (tables : Tables) → Read tables → First tables → HasFound found tables
            → (¬ ((posting : ℕ) → AreAlike posting found change.legs)) → ¬ AreOfBook tables
        not_alike found tables read first is other of =
            other (legs_are place tables read.0 row entry (this_next tables read first of) found is.0 (found_at found tables read is))

        -- rows of the command aren't there
        pub not_there : (tables : Tables) → Read tables → First tables → (¬ HasRows command tables) → ¬ AreOfBook tables
        not_there tables read first none of =
            none (rows_there place tables read.0 row entry (this_next tables read first of))

        abbrev pub own_rows : List SaleRow
        own_rows = map sale_row (numbered row.number change.sales)

        -- the cursor is among the sales
        pub among : (tables : Tables) → Read tables → IsAmongSales pass.sales tables
        among tables read = (map sale_row read.1, read.4)

        -- other sales are there
        pub not_sold : (tables : Tables) → Read tables → First tables → HasOthersNext pass.sales own_rows tables → ¬ AreOfBook tables
        not_sold tables read first others of =
            let there =
            sales_there place tables read.0 row entry (this_next tables read first of) read.1 change.sales read.2.sold
            (follows tables read first).sales in
            others (map sale_row read.1) there.0 read.4
            (subst (λ (n : ℕ). tables.sale ≡ map sale_row read.1 ++ (map sale_row (numbered n change.sales) ++ there.0))
            (sym (number_is tables read)) there.1)

        -- ---- all is as it should be

        module _ (rates : Rates) (sales : Place)
            (quoted : (base quote : List ℕ) (day : ℤ) → rate_in rates base quote day
            ≡ option_or (rate_by base quote day command) (rate_in pass.known.rates base quote day)) where
          abbrev after : Pass
          after = record { known = record { replay = replay; rates = rates }; entries = pass.entries; sales = sales }

          pub judged : (found : List LegRow) (tables : Tables) → Read tables → First tables → HasFound found tables
              → ((posting : ℕ) → AreAlike posting found change.legs) → HasRows command tables
              → GoesOnBy pass.sales sales own_rows tables → HasJudged after tables
          judged found tables read first is alike have goes_on =
              let follow_on = follows tables read first in
              let entries = read.0 in
              let before_sales = read.1 in
              let was = read.2 in
              let number = number_is tables read in
              let own = numbered row.number change.sales in
              let these = entries ++ entry ∷ [] in
              let row_is : row ≡ entry_row (1 + length entries) entry = (said_at tables read).1 ∙ ap (λ (n : ℕ). entry_row n entry) (omega arith) in
              let rows_are : entry_rows 1 entries ++ row ∷ [] ≡ entry_rows 1 these =
              ap (λ (r : EntryRow). entry_rows 1 entries ++ r ∷ []) row_is ∙ sym (entry_rows-append 1 entries entry) in
              let sales_are : map sale_row before_sales ++ own_rows ≡ map sale_row (before_sales ++ own) =
              sym (map-append sale_row before_sales own) in (
                these,
                before_sales ++ own,
                record {
                  migration = subst (λ (p : ℕ). tables.migration ≡ migration_row p ∷ []) (sym follow_on.place) was.migration;
                  replays = follow_on.known;
                  rates = λ base quote day.
                      quoted base quote day
                      ∙ ap (option_or (rate_by base quote day command)) (was.rates base quote day)
                      ∙ sym (rate_on-append entries entry base quote day);
                  said = all-append (λ (e : Entry). IsSayable e.command) entries (entry ∷ []) was.said (said.0, tt);
                  good = subst (AllByRecursion IsEntryRow) rows_are
                      (all-append IsEntryRow (entry_rows 1 entries) (row ∷ []) was.good (read.5, tt));
                  legs = legs_and_one 1 tables entries entry was.legs
                      (subst (λ (n : ℕ). HasLegs n change.legs tables) (number ∙ omega arith)
                      (record { rows = found; good = is.0; same = is.1; alike = alike }));
                  have = have_and_one tables entries entry was.have have;
                  sold = subst (λ (p : ℕ). SalesOf (After p) these (before_sales ++ own)) (sym follow_on.place)
                      (collected_next (AreSalesOfEntry (After place)) [] entries entry before_sales own was.sold
                      (change.sales, follow_on.sales, ap (λ (n : ℕ). numbered n change.sales) number));
                  sold_good = subst (AllByRecursion IsSaleRow) sales_are
                      (all-append IsSaleRow (map sale_row before_sales) own_rows was.sold_good goes_on.0);
                },
                subst (λ (rows : List EntryRow). IsBehind entry_cells rows tables.entry pass.entries) rows_are read.3,
                subst (λ (rows : List SaleRow). IsBehind sale_cells rows tables.sale sales) sales_are
                    (goes_on.1 (map sale_row before_sales) read.4),
              )

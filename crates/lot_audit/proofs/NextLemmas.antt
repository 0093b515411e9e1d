-- In tables that stand for a book the row behind those of judged entries is that of the next entry.
use Rattle.std.specs.Prelude.{◌≡◌, ℕ, suc, pos, All, List, [], ◌∷◌, ◌++◌, length, map, None}
use Rattle.std.specs.List.{AllByRecursion}
use Rattle.std.proofs.Common.{refl, sym, ap, subst, ◌∙◌, arith, append_assoc}
use Rattle.std.proofs.lemmas.List.Elements.{recursion_from_All}
use Rattle.std.proofs.lemmas.List.{append-nil, map-append}
use Rattle.sqlite.specs.declared.types.Value.TheVariants.{Int}
use Rattle.lot_book.specs.Book.{IsBookIn, entry_of}
use Rattle.lot_book.specs.Edition.{After, edition_on, ties_in}
use Rattle.lot_book.specs.Facts.{Entry, facts_of, legs_of, text_under}
use Rattle.lot_book.specs.OpeningNumber.{IsNumbered}
use Rattle.lot_book.specs.Sale.{AreSalesUnder, SaleParts}
use Rattle.lot_book.specs.Step.{Accept, StepIn}
use Rattle.lot_book.specs.declared.leg.Leg.{Leg}
use Rattle.lot_command.specs.Sayable.{IsSayable}
use Rattle.lot_command.specs.declared.command.Command.{Command}
use Rattle.lot_command.specs.declared.key.Key.{Key}
use Rattle.lot_laws.specs.Collects.{Collects}
use Rattle.lot_laws.proofs.CollectLemmas.{collected_next}
use Rattle.lot_laws.proofs.LawBooks.{accepted, begun, continued}
use Rattle.lot_laws.proofs.OpeningPostings.{all_numbered}
use Rattle.lot_rows.specs.Leg.{IsLegRow, leg_cells}
use Rattle.lot_rows.specs.Tables.{Tables}
use Rattle.lot_rows.specs.declared.entry.EntryRow.{EntryRow}
use Rattle.lot_rows.specs.declared.leg.LegRow.{LegRow}
use Rattle.lot_rows.specs.declared.migration.MigrationRow.{MigrationRow}
use Rattle.lot_rows.specs.declared.sale.SaleRow.{SaleRow}
use Rattle.lot_table.specs.Rows.{has_key, with_key}
use Rattle.lot_stored.specs.Kept.{AreSalesOfEntry, SalesOf, numbered}
use Rattle.lot_stored.specs.Rows.{entry_row, entry_rows, leg_row, migration_row, sale_row}
use Rattle.lot_stored.specs.StandFor.{AreOfBook, StandFor}
use Rattle.lot_walk.proofs.OneSalesLemmas.{one_sales_of_book}
use Rattle.lot_audit.specs.Entries.{AllHave, HasRows, IsEntryOf}
use Rattle.lot_audit.specs.Legs.{AreAlike, rows_of}
use Rattle.lot_audit.specs.Pass.{SaysPlace}
use Rattle.lot_audit.proofs.BookLemmas.{all_have}
use Rattle.lot_audit.proofs.GoodLemmas.{one_leg}
use Rattle.lot_audit.proofs.PostingLemmas.{of_posting, own_postings}
use Rattle.lot_audit.proofs.PrefixLemmas.{begins, one_entry}
use Rattle.lot_audit.proofs.SeenLemmas.{good_filtered}
use Rattle.lot_audit.proofs.TellLemmas.{one_rows}

abbrev AreSayable : List Entry → Type 0
AreSayable = AllByRecursion (λ (entry : Entry). IsSayable entry.command)

all_first : (P : Leg → Type 0) (xs ys : List Leg) → AllByRecursion P (xs ++ ys) → AllByRecursion P xs
all_first P [] ys all = tt
all_first P (x ∷ xs) ys all = (all.0, all_first P xs ys all.1)

pub all_rest : (P : Leg → Type 0) (xs ys : List Leg) → AllByRecursion P (xs ++ ys) → AllByRecursion P ys
all_rest P [] ys all = all
all_rest P (x ∷ xs) ys all = all_rest P xs ys all.1

-- ---- the entries of the book

pub same_place : (a b : ℕ) → migration_row a ∷ [] ≡ migration_row b ∷ [] → a ≡ b
same_place a b e = let row : migration_row a ≡ migration_row b = cc in ap (λ (r : MigrationRow). r.entries) row

-- the book of tables whose table `entry` begins with the rows of judged entries begins with these
pub record Continues (place : ℕ) (tables : Tables) (entries : List Entry) (rest : List EntryRow) : Type 0 where
  pub more : List Entry
  pub stand : StandFor tables (entries ++ more)
  pub place_is : stand.place ≡ place
  pub rows : rest ≡ entry_rows (suc (length entries)) more

pub continues : (place : ℕ) (tables : Tables) (entries : List Entry) (rest : List EntryRow) → SaysPlace place tables
    → IsBookIn (After place) entries → AreSayable entries → entry_rows 1 entries ++ rest ≡ tables.entry → AreOfBook tables
    → Continues place tables entries rest
continues place tables entries rest says book said rows (all, is, stand) =
    let place_is : stand.place ≡ place = same_place stand.place place (sym stand.migration ∙ says) in
    let judged : IsBookIn (After place) all = subst (λ (p : ℕ). IsBookIn (After p) all) place_is stand.judged in
    let it =
    begins (After place) [] 1 entries all rest book judged said
    (recursion_from_All (λ (entry : Entry). IsSayable entry.command) all stand.said) (rows ∙ stand.entry) in
    moved all stand place_is it.more it.split (it.rows ∙ ap (λ (n : ℕ). entry_rows n it.more) (omega arith))
  where
    moved : (all : List Entry) (stand : StandFor tables all) → stand.place ≡ place → (more : List Entry) → all ≡ entries ++ more
        → rest ≡ entry_rows (suc (length entries)) more → Continues place tables entries rest
    moved all stand place_is more split rows =
        let both : (s : StandFor tables (entries ++ more)) × (s.place ≡ place) =
        subst (λ (l : List Entry). (s : StandFor tables l) × (s.place ≡ place)) split (stand, place_is) in
        record { more = more; stand = both.0; place_is = both.1; rows = rows }

own_part : (P : Leg → Type 0) (before : List Entry) (entry : Entry) (more : List Entry)
    → AllByRecursion P (legs_of (before ++ entry ∷ more)) → AllByRecursion P entry.legs
own_part P [] entry more all = all_first P entry.legs (legs_of more) all
own_part P (first ∷ before) entry more all = own_part P before entry more (all_rest P first.legs (legs_of (before ++ entry ∷ more)) all)

-- what is collected of entries is what is collected of the first of them, and of those behind them
split_collected : {X : Type 0} (Gives : List Entry → Entry → List X → Type 0) (before entries more : List Entry) (all : List X)
    → Collects Gives before (entries ++ more) all
    → (a b : List X) × Collects Gives before entries a × (all ≡ a ++ b)
split_collected Gives before [] more all h = ([], all, refl, refl)
split_collected Gives before (entry ∷ entries) more all h =
    let rest = split_collected Gives (before ++ entry ∷ []) entries more h.1 h.3 in (
      h.0 ++ rest.0,
      rest.1,
      (h.0, rest.0, h.2, rest.2, refl),
      h.4 ∙ ap (λ (l : List _). h.0 ++ l) rest.3 ∙ sym (append_assoc h.0 rest.0 rest.1),
    )

-- the entry of the row that comes next
pub record IsNext (place : ℕ) (tables : Tables) (entries : List Entry) (row : EntryRow) (entry : Entry) : Type 0 where
  pub more : List Entry
  pub stand : StandFor tables (entries ++ entry ∷ more)
  pub place_is : stand.place ≡ place
  pub row_is : row ≡ entry_row (suc (length entries)) entry
  pub said : IsSayable entry.command
  pub step : StepIn (edition_on (After place) entries) entries entry.key entry.command (Accept entry.legs)

last_said : (entries more : List Entry) (entry : Entry) → AreSayable (entries ++ entry ∷ more) → IsSayable entry.command
last_said [] more entry all = all.0
last_said (first ∷ entries) more entry all = last_said entries more entry all.1

module _ (place : ℕ) (tables : Tables) (entries : List Entry) (row : EntryRow) (rest : List EntryRow)
    (says : SaysPlace place tables) (book : IsBookIn (After place) entries) (said : AreSayable entries)
    (rows : entry_rows 1 entries ++ row ∷ rest ≡ tables.entry) where
  pub next_entry : AreOfBook tables → (entry : Entry) × IsNext place tables entries row entry
  next_entry of =
      let it = continues place tables entries (row ∷ rest) says book said rows of in
      by it.more it.stand it.place_is it.rows
    where
      by : (more : List Entry) (stand : StandFor tables (entries ++ more)) → stand.place ≡ place
          → row ∷ rest ≡ entry_rows (suc (length entries)) more → (entry : Entry) × IsNext place tables entries row entry
      by [] stand place_is is = absurd cc
      by (entry ∷ more) stand place_is is =
          let first : row ≡ entry_row (suc (length entries)) entry = cc in
          let judged : IsBookIn (After place) (entries ++ entry ∷ more) =
          subst (λ (p : ℕ). IsBookIn (After p) (entries ++ entry ∷ more)) place_is stand.judged in (
            entry,
            record {
              more = more;
              stand = stand;
              place_is = place_is;
              row_is = first;
              said = last_said entries more entry
                  (recursion_from_All (λ (e : Entry). IsSayable e.command) (entries ++ entry ∷ more) stand.said);
              step = (continued (After place) [] entries (entry ∷ more) judged).0;
            },
          )

  -- the row says what its entry is
  pub row_of : (entry : Entry) → IsNext place tables entries row entry → IsEntryOf (length entries) row entry.key entry.command
  row_of entry next = (next.said, next.row_is)

  -- a command under a key that the row says, once it is accepted, is the entry
  pub is_known : (key : Key) (command : Command) (legs : List Leg) (entry : Entry) → IsEntryOf (length entries) row key command
      → StepIn (edition_on (After place) entries) entries key command (Accept legs) → IsNext place tables entries row entry
      → entry_of key command legs ≡ entry
  is_known key command legs entry is step next =
      one_entry (edition_on (After place) entries) entries (suc (length entries)) (entry_of key command legs) entry step next.step
      is.0 next.said (sym is.1 ∙ next.row_is)

  -- so its key is the entry's
  pub key_is : (key : Key) (command : Command) (entry : Entry) → IsEntryOf (length entries) row key command
      → IsNext place tables entries row entry → key ≡ entry.key
  key_is key command entry is next =
      let sources = ap (λ (r : EntryRow). r.source) (sym is.1 ∙ next.row_is) in
      let names = ap (λ (r : EntryRow). r.name) (sym is.1 ∙ next.row_is) in λ i. record { source = sources i; name = names i }

  -- its key is new
  pub key_new : (entry : Entry) → IsNext place tables entries row entry → text_under entries entry.key ≡ None
  key_new entry next =
      (accepted (edition_on (After place) entries) entries entry.key entry.command entry.legs next.step).0

module _ (place : ℕ) (tables : Tables) (entries : List Entry) (row : EntryRow) (entry : Entry)
    (next : IsNext place tables entries row entry) where
  judged_all : IsBookIn (After place) (entries ++ entry ∷ next.more)
  judged_all = subst (λ (p : ℕ). IsBookIn (After p) (entries ++ entry ∷ next.more)) next.place_is next.stand.judged

  -- rows with the columns of those of its number are those of its legs
  pub legs_are : (rows : List LegRow) → All IsLegRow rows
      → map leg_cells rows ≡ map leg_cells (with_key leg_cells 1 (Int (pos (suc (length entries))) ∷ []) tables.leg)
      → (posting : ℕ) → AreAlike posting rows entry.legs
  legs_are rows good same posting =
      let number = suc (length entries) in
      let own = with_key leg_cells 1 (Int (pos number) ∷ []) tables.leg in
      let good_own : All IsLegRow own =
      good_filtered IsLegRow (λ (r : LegRow). has_key 1 (Int (pos number) ∷ []) (leg_cells r)) tables.leg next.stand.good.leg in
      let one : rows ≡ own = one_rows leg_cells IsLegRow one_leg rows own good good_own same in
      ap (rows_of posting) one
      ∙ sym (of_posting number posting tables.leg)
      ∙ next.stand.leg number posting
      ∙ ap (map leg_row) (own_postings (After place) entries next.more entry posting judged_all)

  pub legs_numbered : AllByRecursion IsNumbered entry.legs
  legs_numbered =
      own_part IsNumbered entries entry next.more (all_numbered (After place) [] (entries ++ entry ∷ next.more) judged_all)

  -- it has the rows of its command
  pub rows_there : HasRows entry.command tables
  rows_there = have_own entries next.more (all_have tables (entries ++ entry ∷ next.more) next.stand)
    where
      have_own : (before more : List Entry) → AllHave tables (before ++ entry ∷ more) → HasRows entry.command tables
      have_own [] more all = all.0
      have_own (first ∷ before) more all = have_own before more all.1

  -- the rows of the table `sale` are those of the entries before it, its own, and others
  pub sales_there : (sales : List (ℕ × (ℕ × SaleParts))) (own : List (ℕ × SaleParts)) → SalesOf (After place) entries sales
      → AreSalesUnder (ties_in (edition_on (After place) entries) entries) (facts_of entries entry.key) entry.command own
      → (rest : List SaleRow)
      × (tables.sale ≡ map sale_row sales ++ (map sale_row (numbered (suc (length entries)) own) ++ rest))
  sales_there sales own sold own_sold =
      let number = suc (length entries) in
      let migration = After place in
      let these = entries ++ entry ∷ [] in
      let gives = AreSalesOfEntry migration in
      let both : SalesOf migration these (sales ++ numbered number own) =
      collected_next gives [] entries entry sales (numbered number own) sold (own, own_sold, refl) in
      let all : SalesOf migration (these ++ next.more) next.stand.sales =
      subst (λ (p : ℕ). SalesOf (After p) (these ++ next.more) next.stand.sales) next.place_is
      (subst (λ (l : List Entry). SalesOf (After next.stand.place) l next.stand.sales)
      (sym (append_assoc entries (entry ∷ []) next.more)) next.stand.sold) in
      let parts = split_collected gives [] these next.more next.stand.sales all in
      let whole : IsBookIn migration (these ++ next.more) =
      subst (IsBookIn migration) (sym (append_assoc entries (entry ∷ []) next.more)) judged_all in
      let book : IsBookIn migration these = begun migration [] these next.more whole in
      let same : parts.0 ≡ sales ++ numbered number own =
      one_sales_of_book migration migration these parts.0 (sales ++ numbered number own) book book parts.2 both in (
        map sale_row parts.1,
        next.stand.sale
            ∙ ap (map sale_row) (parts.3 ∙ ap (λ (l : List (ℕ × (ℕ × SaleParts))). l ++ parts.1) same)
            ∙ map-append sale_row (sales ++ numbered number own) parts.1
            ∙ ap (λ (l : List SaleRow). l ++ map sale_row parts.1) (map-append sale_row sales (numbered number own))
            ∙ append_assoc (map sale_row sales) (map sale_row (numbered number own)) (map sale_row parts.1),
      )

-- ---- all entries are judged

-- then the book has no other
pub is_whole : (place : ℕ) (tables : Tables) (entries : List Entry) → SaysPlace place tables → IsBookIn (After place) entries
    → AreSayable entries → tables.entry ≡ entry_rows 1 entries → AreOfBook tables
    → (stand : StandFor tables entries) × (stand.place ≡ place)
is_whole place tables entries says book said rows of =
    let it = continues place tables entries [] says book said (append-nil (entry_rows 1 entries) ∙ sym rows) of in
    by it.more it.stand it.place_is it.rows
  where
    by : (more : List Entry) (stand : StandFor tables (entries ++ more)) → stand.place ≡ place
        → [] ≡ entry_rows (suc (length entries)) more → (s : StandFor tables entries) × (s.place ≡ place)
    by [] stand place_is is =
        subst (λ (l : List Entry). (s : StandFor tables l) × (s.place ≡ place)) (append-nil entries) (stand, place_is)
    by (entry ∷ more) stand place_is is = absurd cc

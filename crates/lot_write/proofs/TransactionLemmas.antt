-- The tables leg, sale, lot, plain, opening and head after what an accepted command writes.
use Rattle.std.specs.Prelude.{◌≡◌, ℕ, suc, Bool, true, false, cond, is_some, List, [], ◌∷◌, ◌++◌, length, map, Option, None, Some, All, ℤ, ◌+ℤ◌}
use Rattle.std.specs.BTreeMap.{get}
use Rattle.std.specs.FinMap as finite
use Rattle.std.specs.List.{AllByRecursion, list_any}
use Rattle.std.specs.Option.{option_map, option_or}
use Rattle.std.proofs.Common.{refl, sym, ap, subst, ◌∙◌, inl, inr}
use Rattle.std.proofs.Math.IntN.{+ℤ_idr}
use Rattle.std.proofs.lemmas.Bool.{cases_Bool}
use Rattle.std.proofs.lemmas.List.{append-nil}
use Rattle.std.proofs.lemmas.List.Elements.{recursion_from_All}
use Rattle.sqlite.specs.Tree.{IsAscending}
use Rattle.sqlite_rules.specs.Lists.{Has}
use Rattle.sqlite_rules.proofs.ListLemmas.{all_from}
use Rattle.sqlite_keyed.proofs.ListLemmas.{all-map, all_both, all_of, all_unmap, all_weaker}
use Rattle.lot_command.specs.declared.command.Closing.{Closing as ClosingOf}
use Rattle.lot_command.specs.declared.command.Command.{Command}
use Rattle.lot_command.specs.declared.command.Command.TheVariants.{Opening, Closing, Declaring, Quoting, Transaction}
use Rattle.lot_command.specs.declared.key.Key.{Key}
use Rattle.lot_command.specs.declared.transaction.Transaction.{Transaction as TransactionOf}
use Rattle.lot_inv.specs.Inventory.{non_zero}
use Rattle.lot_cost.specs.declared.lot_key.LotKey.{LotKey}
use Rattle.lot_book.specs.Book.{entry_of}
use Rattle.lot_book.specs.Booking.{All as AllBooked}
use Rattle.lot_book.specs.Change.{day_listed}
use Rattle.lot_book.specs.Edition.{After, Edition, edition_on, ties_in}
use Rattle.lot_book.specs.Facts.{Entry, Facts, day_at_cost, facts_of, latest_at_cost, legs_of, posts_at_cost}
use Rattle.lot_book.specs.Leg.{inventory_of, position_cmp, same_position, sum_at}
use Rattle.lot_book.specs.OpeningNumber.{opening_number}
use Rattle.lot_book.specs.Sale.{SaleParts, AreSalesUnder}
use Rattle.lot_book.specs.Step.{Accept, JudgesUnder, first_conditions, first_of}
use Rattle.lot_book.specs.declared.change.Change.{Change}
use Rattle.lot_book.specs.declared.change.Pair.{Pair}
use Rattle.lot_book.specs.declared.leg.Leg.{Leg}
use Rattle.lot_book.specs.declared.leg.Position.{Position}
use Rattle.lot_book.specs.declared.standing.Standing.{Standing}
use Rattle.lot_book.proofs.OrderLemmas.{one_position}
use Rattle.lot_book.proofs.SumLemmas.{sum_where-append, sum_where-none}
use Rattle.lot_laws.proofs.RecordedBook.{key_was_new, legs_of-append}
use Rattle.lot_laws.proofs.RecordedDays.{latest-recorded}
use Rattle.lot_laws.proofs.StepAgree.{Alike, alike_all, same_books}
use Rattle.lot_rows.specs.Leg.{IsLegRow, leg_cells}
use Rattle.lot_rows.specs.LotKey.{IsLotKey, IsLotOrPlain}
use Rattle.lot_rows.specs.Sale.{sale_cells}
use Rattle.lot_rows.specs.Tables.{Tables, head_table, lot_table, opening_table, plain_table}
use Rattle.lot_rows.specs.declared.account.AccountRow.{AccountRow}
use Rattle.lot_rows.specs.declared.allowed.AllowedRow.{AllowedRow}
use Rattle.lot_rows.specs.declared.commodity.CommodityRow.{CommodityRow}
use Rattle.lot_rows.specs.declared.head.HeadRow.{HeadRow}
use Rattle.lot_rows.specs.declared.leg.LegRow.{LegRow}
use Rattle.lot_rows.specs.declared.lot.LotRow.{LotRow}
use Rattle.lot_rows.specs.declared.opening.OpeningRow.{OpeningRow}
use Rattle.lot_rows.specs.declared.plain.PlainRow.{PlainRow}
use Rattle.lot_rows.specs.declared.price.PriceRow.{PriceRow}
use Rattle.lot_table.specs.Rows.{with_key}
use Rattle.lot_stored.specs.Kept.{SalesOf, legs_of_posting, numbered}
use Rattle.lot_stored.specs.Rows.{allowed_rows, entry_row, head_row, leg_row, lot_key, lot_row, opening_row, pair_key, plain_row, posting_key, row_at, sale_row}
use Rattle.lot_stored.specs.StandFor.{StandFor, sum_in}
use Rattle.lot_stored.proofs.KeyLemmas.{at_lot}
use Rattle.lot_write.proofs.AsPutLemmas.{written, written_all}
use Rattle.lot_write.specs.Write.{IsGood}
use Rattle.lot_write.specs.Writes.{ListsInOrder, closing_written, heads_written, legs_written, listed_write, own_writes, positions_written, sales_written, units_listed, writes_of}
use Rattle.lot_write.specs.declared.write.Write.TheVariants as write
use Rattle.lot_stored.proofs.BookedLemmas.{IsBookedAs, booked_as, walks}
use Rattle.lot_write.proofs.HeadLemmas.{SaysDay, has_listed, heads_row, same_day}
use Rattle.lot_write.proofs.KeepLemmas.{Keeps, heads_keep, legs_keep, listed_keeps, positions_keep, sales_keep}
use Rattle.lot_stored.proofs.KnownLemmas.{IsSameAt, listed_sum, same_at_legs}
use Rattle.lot_write.proofs.LegLemmas.{put_all}
use Rattle.lot_write.proofs.NamedLemmas.{IsAccepted, judged}
use Rattle.lot_stored.proofs.NumberLemmas.{legs_for, numbered_legs, own_legs, precede_next}
use Rattle.lot_write.proofs.OpeningLemmas.{number_apart, or_mapped, row_settled}
use Rattle.lot_write.proofs.PositionLemmas.{Settles, lot_step, numbered_row, opening_step, plain_at, plain_step, positions_stand}
use Rattle.lot_write.proofs.PutLemmas.{legs_put, put_each, sales_put}
use Rattle.lot_write.proofs.SaleLemmas.{IsEarlier, sales_last, sales_rise, sales_with}
use Rattle.lot_write.proofs.WrittenLemmas.{left-written_all, written_all-append}

-- ---- other commands

-- a command that isn't a transaction
abbrev pub IsOther : Command → Type 0
IsOther (Opening o) = Unit {0}
IsOther (Closing c) = Unit {0}
IsOther (Declaring d) = Unit {0}
IsOther (Quoting q) = Unit {0}
IsOther (Transaction t) = ⊥

module _ {A : Type 0} (rows : Tables → A) (account : (row : AccountRow) → Keeps rows (write.Account row))
    (allowed : (row : AllowedRow) → Keeps rows (write.Allowed row)) (commodity : (row : CommodityRow) → Keeps rows (write.Commodity row))
    (price : (row : PriceRow) → Keeps rows (write.Price row)) where
  closing_keeps : (closing : ClosingOf) (standing : Option Standing) → AllByRecursion (Keeps rows) (closing_written closing standing)
  closing_keeps closing None = tt
  closing_keeps closing (Some standing) = (account _, tt)

  -- what such a command writes leaves the tables of a transaction
  other_keeps : (facts : Facts) (command : Command) (change : Change) → IsOther command
      → AllByRecursion (Keeps rows) (own_writes facts command change)
  other_keeps facts (Opening o) change other =
      (account _, all-map (Keeps rows) write.Allowed allowed (allowed_rows o.account 0 o.currencies))
  other_keeps facts (Closing c) change other = closing_keeps c (facts.standing c.account)
  other_keeps facts (Declaring d) change other = (commodity _, tt)
  other_keeps facts (Quoting q) change other = (price _, tt)
  other_keeps facts (Transaction t) change other = absurd other

-- ---- the parts of a transaction

module _ (tables : Tables) (known : Facts) (key : Key) (t : TransactionOf) (change : Change) where
  abbrev pub start : Tables
  start = written (write.Entry (entry_row (suc known.entries) (entry_of key (Transaction t) change.legs))) tables

  abbrev pub with_legs : Tables
  with_legs = written_all (legs_written change.legs) start

  abbrev pub with_sales : Tables
  with_sales = written_all (sales_written (suc known.entries) change.sales) with_legs

  abbrev pub with_positions : Tables
  with_positions = written_all (positions_written known change change.legs) with_sales

  abbrev with_heads : Tables
  with_heads = written_all (heads_written known change.heads.entries) with_positions

  in_parts : written_all (writes_of known key (Transaction t) change) tables ≡ with_heads
  in_parts =
      let sales = sales_written (suc known.entries) change.sales in
      let positions = positions_written known change change.legs in
      let heads = heads_written known change.heads.entries in
      written_all-append (legs_written change.legs) (sales ++ (positions ++ heads)) start
      ∙ written_all-append sales (positions ++ heads) with_legs
      ∙ written_all-append positions heads with_sales

  changed_legs : (written_all (writes_of known key (Transaction t) change) tables).leg
      ≡ put_each leg_cells 3 (map leg_row change.legs) tables.leg
  changed_legs =
      let rows : Tables → List LegRow = λ (s : Tables). s.leg in
      ap rows in_parts
      ∙ left-written_all rows (heads_written known change.heads.entries) with_positions (heads_keep rows (λ a c d s. refl) known change.heads.entries)
      ∙ positions_keep rows known change (listed_keeps rows known change (λ a c u s. refl) (λ a c s. refl) (λ a c l u s. refl)
      (λ a c l s. refl) (λ a c l n s. refl) (λ a c l s. refl)) change.legs with_sales
      ∙ left-written_all rows (sales_written (suc known.entries) change.sales) with_legs
      (sales_keep rows (λ sold s. refl) (suc known.entries) change.sales)
      ∙ legs_put change.legs start

  changed_sales : (written_all (writes_of known key (Transaction t) change) tables).sale
      ≡ put_each sale_cells 2 (map (λ (sale : ℕ × SaleParts). sale_row (suc known.entries, sale)) change.sales) tables.sale
  changed_sales =
      let rows = λ (s : Tables). s.sale in
      let number = suc known.entries in
      ap rows in_parts
      ∙ left-written_all rows (heads_written known change.heads.entries) with_positions (heads_keep rows (λ a c d s. refl) known change.heads.entries)
      ∙ positions_keep rows known change (listed_keeps rows known change (λ a c u s. refl) (λ a c s. refl) (λ a c l u s. refl)
      (λ a c l s. refl) (λ a c l n s. refl) (λ a c l s. refl)) change.legs with_sales
      ∙ sales_put number change.sales with_legs
      ∙ ap (put_each sale_cells 2 (map (λ (sale : ℕ × SaleParts). sale_row (number, sale)) change.sales))
      (left-written_all rows (legs_written change.legs) start (legs_keep rows (λ leg s. refl) change.legs))

-- ---- what is known of an accepted transaction

pub accepted_known : (entries : List Entry) (known : Facts) (key : Key) (command : Command) (change : Change)
    → (is : IsAccepted entries known key command change) → JudgesUnder is.ties known command (Accept change.legs)
accepted_known entries known key command change is = (key_was_new is.ties known command change.legs known.text is.comes.0).1

module _ (entries : List Entry) (known : Facts) (key : Key) (t : TransactionOf) (change : Change)
    (is : IsAccepted entries known key (Transaction t) change) where
  pub alike : AllByRecursion (Alike known (facts_of entries key)) t.postings
  alike =
      alike_all known (facts_of entries key) t.postings is.agrees.standing is.agrees.latest_at_cost is.agrees.held
      is.agrees.plain_units

  booked : IsBookedAs is.ties known t change.legs
  booked =
      booked_as is.ties known t (first_of (first_conditions known t)) change.legs
      (accepted_known entries known key (Transaction t) change is)

  pub same_legs : AllByRecursion (IsSameAt known (facts_of entries key)) change.legs
  same_legs = same_at_legs is.ties known (facts_of entries key) t change.legs alike booked

  -- the sales of the transaction are its sales on the book
  same_sales : AreSalesUnder (ties_in is.edition entries) (facts_of entries key) (Transaction t) change.sales
  same_sales =
      let sales = is.comes.1.sales in (
        sales.0,
        same_books is.ties (ties_in is.edition entries) known (facts_of entries key) is.agrees.entries t.day [] 1 t.postings
            (AllBooked sales.0) alike is.alike sales.1,
        sales.2,
      )

  pub own_rise : IsAscending IsEarlier change.sales
  own_rise =
      let sales = is.comes.1.sales in
      subst (IsAscending IsEarlier) (sym sales.2)
      (sales_rise (suc known.entries) t.day 1 t.postings sales.0 (walks is.ties known t.day 1 t.postings [] sales.0 sales.1)).1

  -- what the position of a leg holds is the sum of the book with the entry
  listed_there : (q : Position) → AllByRecursion
      (λ (leg : Leg). same_position q leg.position ≡ true
      → units_listed known change leg.position ≡ sum_in (entries ++ entry_of key (Transaction t) change.legs ∷ []) q) change.legs
  listed_there q =
      let book = entries ++ entry_of key (Transaction t) change.legs ∷ [] in
      all_weaker (IsSameAt known (facts_of entries key))
      (λ (leg : Leg). same_position q leg.position ≡ true → units_listed known change leg.position ≡ sum_in book q)
      (λ leg same here.
      is.comes.1.positions leg.position
      ∙ listed_sum known entries key (Transaction t) change.legs change.positions.entries leg is.comes.1.positions same
      ∙ ap (sum_in book) (sym (one_position q leg.position here)))
      change.legs same_legs

  -- the row of a lot's opening number, once it is written at a leg there, is that of the book with the entry, and stays it
  numbers_settle : (account commodity : List ℕ) (lot : LotKey)
      → let q = at_lot account commodity lot in
      let row = option_map (opening_row account commodity lot) in
      let now = row (opening_number (legs_of (entries ++ entry_of key (Transaction t) change.legs ∷ [])) q) in
      let put : Position → Option OpeningRow → Option OpeningRow =
      λ p had. numbered_row account commodity lot (units_listed known change p) (get position_cmp change.openings p) had in
      AllByRecursion (λ (leg : Leg). same_position q leg.position ≡ true
      → (put leg.position (row (opening_number (legs_of entries) q)) ≡ now) × (put leg.position now ≡ now)) change.legs
  numbers_settle account commodity lot =
      let q = at_lot account commodity lot in
      let row = option_map (opening_row account commodity lot) in
      let book = entries ++ entry_of key (Transaction t) change.legs ∷ [] in
      let before = row (opening_number (legs_of entries) q) in
      let put : ℤ → Option ℕ → Option OpeningRow → Option OpeningRow = numbered_row account commodity lot in
      let HaveSameAt : Position → Type 0 =
      λ p. finite.get (known.held p.account) (p.commodity, p.lot)
      ≡ finite.get (inventory_of (legs_of entries) p.account) (p.commodity, p.lot) in
      all_both (IsSameAt known (facts_of entries key))
      (λ (leg : Leg). same_position q leg.position ≡ true → units_listed known change leg.position ≡ sum_in book q)
      (λ (leg : Leg). same_position q leg.position ≡ true
      → (put (units_listed known change leg.position) (get position_cmp change.openings leg.position) before
      ≡ row (opening_number (legs_of book) q))
      × (put (units_listed known change leg.position) (get position_cmp change.openings leg.position) (row (opening_number (legs_of book) q))
      ≡ row (opening_number (legs_of book) q)))
      (λ leg same units here.
      let one = one_position q leg.position here in
      let as_there : (had : Option OpeningRow)
      → put (units_listed known change leg.position) (get position_cmp change.openings leg.position) had
      ≡ put (sum_in book q) (get position_cmp change.openings q) had =
      λ had. λ i. put (units here i) (get position_cmp change.openings (sym one i)) had in
      let settled = subst (λ (all : List Leg).
      (put (sum_at all q) (get position_cmp change.openings q) before ≡ row (opening_number all q))
      × (put (sum_at all q) (get position_cmp change.openings q) (row (opening_number all q)) ≡ row (opening_number all q)))
      (sym (legs_of-append entries (entry_of key (Transaction t) change.legs)))
      (row_settled known entries key change account commodity lot is.comes.1.openings (subst HaveSameAt (sym one) same)) in
      (as_there before ∙ settled.0, as_there (row (opening_number (legs_of book) q)) ∙ settled.1))
      change.legs same_legs (listed_there q)

-- a position where no leg is keeps its sum
sum_kept : (entries : List Entry) (entry : Entry) (q : Position)
    → list_any (λ (leg : Leg). same_position q leg.position) entry.legs ≡ false
    → sum_in (entries ++ entry ∷ []) q ≡ sum_in entries q
sum_kept entries entry q none =
    let here : Leg → Bool = λ leg. same_position q leg.position in
    let units : Leg → ℤ = λ leg. leg.units in
    ap (λ (legs : List Leg). sum_at legs q) (legs_of-append entries entry)
    ∙ sum_where-append here units (legs_of entries) entry.legs
    ∙ ap (λ n. sum_at (legs_of entries) q +ℤ n) (sum_where-none here units entry.legs none)
    ∙ +ℤ_idr (sum_at (legs_of entries) q)

-- ---- positions

module _ {X : Type 0} (at : Tables → Option X) (q : Position) (IsFine : Position → Type 0) (settled : Position → Option X → Option X)
    (entries : List Entry) (known : Facts) (key : Key) (t : TransactionOf) (change : Change)
    (step : (p : Position) (tables : Tables) → IsFine p
    → at (written_all (listed_write known change p) tables) ≡ cond (same_position q p) (settled p (at tables)) (at tables)) where
  -- what stands for the book stands for the book with the entry, if what is written at each leg does so and no other leg is there
  position_stands : (tables : Tables) (before after : Option X) → AllByRecursion (λ (leg : Leg). IsFine leg.position) change.legs
      → AllByRecursion (Settles at q known change IsFine settled step before after) change.legs
      → (list_any (λ (leg : Leg). same_position q leg.position) change.legs ≡ false → before ≡ after)
      → at tables ≡ before
      → at (written_all (positions_written known change change.legs) tables) ≡ after
  position_stands tables before after fine settle kept had =
      positions_stand at q known change IsFine settled step change.legs tables before after fine settle
      (elim (cases_Bool (list_any (λ (leg : Leg). same_position q leg.position) change.legs)) [
        | inl some ↦ inr (had, some)
        | inr none ↦ inl (had ∙ kept none)
      ])

-- the row of the units of a position, in the book and with the entry
module _ {X : Type 0} (at : Tables → Option X) (row : ℤ → X) (q : Position) (IsFine : Position → Type 0)
    (entries : List Entry) (known : Facts) (key : Key) (t : TransactionOf) (change : Change)
    (step : (p : Position) (tables : Tables) → IsFine p
    → at (written_all (listed_write known change p) tables)
    ≡ cond (same_position q p) (option_map row (non_zero (units_listed known change p))) (at tables)) where
  units_stand : (tables : Tables) → IsAccepted entries known key (Transaction t) change
      → AllByRecursion (λ (leg : Leg). IsFine leg.position) change.legs
      → at tables ≡ option_map row (non_zero (sum_in entries q))
      → at (written_all (positions_written known change change.legs) tables)
      ≡ option_map row (non_zero (sum_in (entries ++ entry_of key (Transaction t) change.legs ∷ []) q))
  units_stand tables is fine had =
      let entry = entry_of key (Transaction t) change.legs in
      let of : ℤ → Option X = λ units. option_map row (non_zero units) in
      let settled : Position → Option X → Option X = λ p had. of (units_listed known change p) in
      let before = of (sum_in entries q) in
      let after = of (sum_in (entries ++ entry ∷ []) q) in
      position_stands at q IsFine settled entries known key t change step tables before after fine
      (all_weaker
      (λ (leg : Leg). same_position q leg.position ≡ true → units_listed known change leg.position ≡ sum_in (entries ++ entry ∷ []) q)
      (Settles at q known change IsFine settled step before after)
      (λ leg is here. (ap of (is here), ap of (is here))) change.legs (listed_there entries known key t change is q))
      (λ none. ap of (sym (sum_kept entries entry q none))) had

-- the lots of legs whose rows a book can have
all_front : {X : Type 0} (P : X → Type 0) (xs ys : List X) → AllByRecursion P (xs ++ ys) → AllByRecursion P xs
all_front P [] ys all = tt
all_front P (x ∷ xs) ys all = (all.0, all_front P xs ys all.1)

pub fine_lots : (known : Facts) (key : Key) (t : TransactionOf) (change : Change) → All IsGood (writes_of known key (Transaction t) change)
    → AllByRecursion (λ (leg : Leg). IsLotOrPlain leg.position.lot) change.legs
fine_lots known key t change good =
    let writes = writes_of known key (Transaction t) change in
    let others = sales_written (suc known.entries) change.sales ++ (positions_written known change change.legs
    ++ heads_written known change.heads.entries) in
    all_weaker (λ (leg : Leg). IsLegRow (leg_row leg)) (λ (leg : Leg). IsLotOrPlain leg.position.lot) (λ leg fine. fine.lot) change.legs
    (all_unmap IsGood (λ (leg : Leg). write.Leg (leg_row leg)) change.legs
    (all_front IsGood (legs_written change.legs) others (recursion_from_All IsGood writes good).1))

-- ---- each table

module _ (tables : Tables) (entries : List Entry) (known : Facts) (key : Key) (change : Change) (stand : StandFor tables entries) where
  abbrev after : Command → Tables
  after command = written_all (writes_of known key command change) tables

  abbrev book : Command → List Entry
  book command = entries ++ entry_of key command change.legs ∷ []

  -- no leg more, no sum but as it was
  other_legs : (command : Command) → change.legs ≡ [] → legs_of (book command) ≡ legs_of entries
  other_legs command none =
      legs_of-append entries (entry_of key command change.legs)
      ∙ ap (λ (legs : List Leg). legs_of entries ++ legs) none ∙ append-nil (legs_of entries)

  -- the tables once the entry is written
  abbrev entered : Command → Tables
  entered command = written (write.Entry (entry_row (suc known.entries) (entry_of key command change.legs))) tables

  -- ---- legs

  pub legs_stand : (command : Command) → IsAccepted entries known key command change → (entry posting : ℕ)
      → with_key leg_cells 2 (posting_key entry posting) (after command).leg
      ≡ map leg_row (legs_of_posting entry posting (legs_of (book command)))
  legs_stand (Transaction t) is entry posting =
      let judges = accepted_known entries known key (Transaction t) change is in
      let own = own_legs is.ties known (Transaction t) change.legs judges in
      let numbered_own : AllByRecursion (λ (leg : Leg). leg.entry ≡ suc (length entries)) change.legs =
      subst (λ n. AllByRecursion (λ (leg : Leg). leg.entry ≡ suc n) change.legs) is.agrees.entries own.0 in
      ap (with_key leg_cells 2 (posting_key entry posting)) (changed_legs tables known key t change)
      ∙ put_all change.legs tables.leg (legs_of entries) stand.ordered.leg stand.leg
      (precede_next entries change.legs (numbered_legs (After stand.place) entries stand.judged) numbered_own) own.1 entry posting
      ∙ ap (λ (legs : List Leg). map leg_row (legs_of_posting entry posting legs))
      (sym (legs_of-append entries (entry_of key (Transaction t) change.legs)))
  legs_stand command is entry posting =
      let rows : Tables → List LegRow = λ (s : Tables). s.leg in
      let none = legs_for is.ties known command change.legs (accepted_known entries known key command change is) in
      ap (with_key leg_cells 2 (posting_key entry posting))
      (left-written_all rows (own_writes known command change) (entered command)
      (other_keeps rows (λ row s. refl) (λ row s. refl) (λ row s. refl) (λ row s. refl) known command change tt))
      ∙ stand.leg entry posting
      ∙ ap (λ (legs : List Leg). map leg_row (legs_of_posting entry posting legs)) (sym (other_legs command none))

  -- ---- sales

  -- the sales of the book with the entry, by a place of migration
  abbrev pub Sold : ℕ → Command → Type 0
  Sold place command =
      (sales : List (ℕ × (ℕ × SaleParts))) × SalesOf (After place) (book command) sales
      × ((after command).sale ≡ map sale_row sales)

  other_sales : (command : Command) → IsOther command → (after command).sale ≡ tables.sale
  other_sales command other =
      let rows = λ (s : Tables). s.sale in
      left-written_all rows (own_writes known command change) (entered command)
      (other_keeps rows (λ row s. refl) (λ row s. refl) (λ row s. refl) (λ row s. refl) known command change other)

  -- a place by which the book has these sales, and an edition judges on it
  module _ (place : ℕ) (sold : SalesOf (After place) entries stand.sales) where
    -- behind them come those of the entry, by that edition
    sold_next : (command : Command) (edition : Edition) → edition_on (After place) entries ≡ edition → (own : List (ℕ × SaleParts))
        → AreSalesUnder (ties_in edition entries) (facts_of entries key) command own
        → SalesOf (After place) (book command) (stand.sales ++ numbered (suc (length entries)) own)
    sold_next command edition judges own are =
        sales_with (After place) entries (entry_of key command change.legs) stand.sales own sold
        (subst (λ (e : Edition). AreSalesUnder (ties_in e entries) (facts_of entries key) command own) (sym judges) are)

    other_sold : (command : Command) (edition : Edition) → edition_on (After place) entries ≡ edition
        → (after command).sale ≡ tables.sale → AreSalesUnder (ties_in edition entries) (facts_of entries key) command []
        → Sold place command
    other_sold command edition judges same are = (
      stand.sales ++ [],
      sold_next command edition judges [] are,
      same ∙ stand.sale ∙ ap (map sale_row) (sym (append-nil stand.sales)),
    )

    pub sales_stand : (command : Command) (is : IsAccepted entries known key command change)
        → edition_on (After place) entries ≡ is.edition → Sold place command
    sales_stand (Transaction t) is judges = (
      stand.sales ++ numbered (suc (length entries)) change.sales,
      sold_next (Transaction t) is.edition judges change.sales (same_sales entries known key t change is),
      changed_sales tables known key t change
          ∙ (λ i. put_each sale_cells 2
          (map (λ (sale : ℕ × SaleParts). sale_row (suc (is.agrees.entries i), sale)) change.sales) (stand.sale i))
          ∙ sales_last (After place) entries stand.sales change.sales sold (own_rise entries known key t change is),
    )
    sales_stand (Opening o) is judges = other_sold (Opening o) is.edition judges (other_sales (Opening o) tt) refl
    sales_stand (Closing c) is judges = other_sold (Closing c) is.edition judges (other_sales (Closing c) tt) refl
    sales_stand (Declaring d) is judges = other_sold (Declaring d) is.edition judges (other_sales (Declaring d) tt) refl
    sales_stand (Quoting q) is judges = other_sold (Quoting q) is.edition judges (other_sales (Quoting q) tt) refl

  -- ---- positions

  other_sum : (command : Command) → change.legs ≡ [] → (q : Position) → sum_in entries q ≡ sum_in (book command) q
  other_sum command none q = ap (λ (legs : List Leg). sum_at legs q) (sym (other_legs command none))

  pub lots_stand : (command : Command) → IsAccepted entries known key command change → All IsGood (writes_of known key command change)
      → (account commodity : List ℕ) (lot : LotKey) → IsLotKey lot
      → row_at lot_table (lot_key account commodity lot) (after command)
      ≡ option_map (lot_row account commodity lot) (non_zero (sum_in (book command) (at_lot account commodity lot)))
  lots_stand (Transaction t) is good account commodity lot fine =
      let there : Tables → Option LotRow = row_at lot_table (lot_key account commodity lot) in
      let row = lot_row account commodity lot in
      let legs = with_legs tables known key t change in
      let sales = with_sales tables known key t change in
      let had : there sales ≡ option_map row (non_zero (sum_in entries (at_lot account commodity lot))) =
      left-written_all there (sales_written (suc known.entries) change.sales) legs
      (sales_keep there (λ sold s. refl) (suc known.entries) change.sales)
      ∙ left-written_all there (legs_written change.legs) (start tables known key t change)
      (legs_keep there (λ leg s. refl) change.legs)
      ∙ stand.lot account commodity lot fine in
      ap there (in_parts tables known key t change)
      ∙ left-written_all there (heads_written known change.heads.entries) (with_positions tables known key t change)
      (heads_keep there (λ a c d s. refl) known change.heads.entries)
      ∙ units_stand there row (at_lot account commodity lot) (λ (p : Position). IsLotOrPlain p.lot)
      entries known key t change (lot_step account commodity lot fine known change) sales is (fine_lots known key t change good) had
  lots_stand command is good account commodity lot fine =
      let there : Tables → Option LotRow = row_at lot_table (lot_key account commodity lot) in
      let none = legs_for is.ties known command change.legs (accepted_known entries known key command change is) in
      left-written_all there (own_writes known command change) (entered command)
      (other_keeps there (λ row s. refl) (λ row s. refl) (λ row s. refl) (λ row s. refl) known command change tt)
      ∙ stand.lot account commodity lot fine
      ∙ ap (λ n. option_map (lot_row account commodity lot) (non_zero n)) (other_sum command none (at_lot account commodity lot))

  pub plain_stands : (command : Command) → IsAccepted entries known key command change → (account commodity : List ℕ)
      → row_at plain_table (pair_key account commodity) (after command)
      ≡ option_map (plain_row account commodity) (non_zero (sum_in (book command) (plain_at account commodity)))
  plain_stands (Transaction t) is account commodity =
      let there : Tables → Option PlainRow = row_at plain_table (pair_key account commodity) in
      let row = plain_row account commodity in
      let legs = with_legs tables known key t change in
      let sales = with_sales tables known key t change in
      let had : there sales ≡ option_map row (non_zero (sum_in entries (plain_at account commodity))) =
      left-written_all there (sales_written (suc known.entries) change.sales) legs
      (sales_keep there (λ sold s. refl) (suc known.entries) change.sales)
      ∙ left-written_all there (legs_written change.legs) (start tables known key t change)
      (legs_keep there (λ leg s. refl) change.legs)
      ∙ stand.plain account commodity in
      ap there (in_parts tables known key t change)
      ∙ left-written_all there (heads_written known change.heads.entries) (with_positions tables known key t change)
      (heads_keep there (λ a c d s. refl) known change.heads.entries)
      ∙ units_stand there row (plain_at account commodity) (λ (p : Position). Unit {0})
      entries known key t change (plain_step account commodity known change) sales is (all_of (λ (leg : Leg). Unit {0}) (λ leg. tt) change.legs) had
  plain_stands command is account commodity =
      let there : Tables → Option PlainRow = row_at plain_table (pair_key account commodity) in
      let none = legs_for is.ties known command change.legs (accepted_known entries known key command change is) in
      left-written_all there (own_writes known command change) (entered command)
      (other_keeps there (λ row s. refl) (λ row s. refl) (λ row s. refl) (λ row s. refl) known command change tt)
      ∙ stand.plain account commodity
      ∙ ap (λ n. option_map (plain_row account commodity) (non_zero n)) (other_sum command none (plain_at account commodity))

  -- ---- opening numbers

  -- the opening number of a lot in the book with the entry
  abbrev number_after : Command → Position → Option ℕ
  number_after command q = opening_number (legs_of (book command)) q

  pub openings_stand : (command : Command) → IsAccepted entries known key command change → All IsGood (writes_of known key command change)
      → (account commodity : List ℕ) (lot : LotKey) → IsLotKey lot
      → row_at opening_table (lot_key account commodity lot) (after command)
      ≡ option_map (opening_row account commodity lot) (number_after command (at_lot account commodity lot))
  openings_stand (Transaction t) is good account commodity lot fine =
      let there : Tables → Option OpeningRow = row_at opening_table (lot_key account commodity lot) in
      let row = opening_row account commodity lot in
      let q = at_lot account commodity lot in
      let entry = entry_of key (Transaction t) change.legs in
      let settled : Position → Option OpeningRow → Option OpeningRow =
      λ p had. numbered_row account commodity lot (units_listed known change p) (get position_cmp change.openings p) had in
      let before = option_map row (opening_number (legs_of entries) q) in
      let now = option_map row (number_after (Transaction t) q) in
      let legs = with_legs tables known key t change in
      let sales = with_sales tables known key t change in
      let IsFine : Position → Type 0 = λ (p : Position). IsLotOrPlain p.lot in
      let step = opening_step account commodity lot fine known change in
      let had : there sales ≡ before =
      left-written_all there (sales_written (suc known.entries) change.sales) legs
      (sales_keep there (λ sold s. refl) (suc known.entries) change.sales)
      ∙ left-written_all there (legs_written change.legs) (start tables known key t change)
      (legs_keep there (λ leg s. refl) change.legs)
      ∙ stand.opening account commodity lot fine in
      ap there (in_parts tables known key t change)
      ∙ left-written_all there (heads_written known change.heads.entries) (with_positions tables known key t change)
      (heads_keep there (λ a c d s. refl) known change.heads.entries)
      ∙ position_stands there q IsFine settled entries known key t change step sales before now
      (fine_lots known key t change good) (numbers_settle entries known key t change is account commodity lot)
      (λ none. ap (option_map row) (sym (ap (λ (all : List Leg). opening_number all q) (legs_of-append entries entry)
      ∙ number_apart (legs_of entries) change.legs q none))) had
  openings_stand command is good account commodity lot fine =
      let there : Tables → Option OpeningRow = row_at opening_table (lot_key account commodity lot) in
      let none = legs_for is.ties known command change.legs (accepted_known entries known key command change is) in
      left-written_all there (own_writes known command change) (entered command)
      (other_keeps there (λ row s. refl) (λ row s. refl) (λ row s. refl) (λ row s. refl) known command change tt)
      ∙ stand.opening account commodity lot fine
      ∙ ap (λ (all : List Leg). option_map (opening_row account commodity lot) (opening_number all (at_lot account commodity lot)))
      (sym (other_legs command none))

  -- ---- the latest days

  -- the days of the book with the entry
  latest : (command : Command) → IsAccepted entries known key command change → (account commodity : List ℕ) (listed : Option ℤ)
      → listed ≡ day_at_cost account commodity command
      → option_or listed (latest_at_cost entries account commodity) ≡ latest_at_cost (book command) account commodity
  latest command is account commodity listed same =
      latest-recorded (ties_in is.edition entries) entries key (entry_of key command change.legs) account commodity listed
      (judged entries known key change command is).1 same

  other_head : (command : Command) → IsOther command → IsAccepted entries known key command change → (account commodity : List ℕ)
      → day_at_cost account commodity command ≡ None
      → row_at head_table (pair_key account commodity) (after command)
      ≡ option_map (head_row account commodity) (latest_at_cost (book command) account commodity)
  other_head command other is account commodity none =
      let there : Tables → Option HeadRow = row_at head_table (pair_key account commodity) in
      left-written_all there (own_writes known command change) (entered command)
      (other_keeps there (λ row s. refl) (λ row s. refl) (λ row s. refl) (λ row s. refl) known command change other)
      ∙ stand.head account commodity
      ∙ ap (option_map (head_row account commodity)) (latest command is account commodity None (sym none))

  -- the row of a pair once the positions are written
  head_had : (t : TransactionOf) (account commodity : List ℕ)
      → row_at head_table (pair_key account commodity) (with_positions tables known key t change)
      ≡ option_map (head_row account commodity) (latest_at_cost entries account commodity)
  head_had t account commodity =
      let there : Tables → Option HeadRow = row_at head_table (pair_key account commodity) in
      let legs = with_legs tables known key t change in
      let sales = with_sales tables known key t change in
      positions_keep there known change (listed_keeps there known change (λ a c u s. refl) (λ a c s. refl) (λ a c l u s. refl)
      (λ a c l s. refl) (λ a c l n s. refl) (λ a c l s. refl)) change.legs sales
      ∙ left-written_all there (sales_written (suc known.entries) change.sales) legs
      (sales_keep there (λ sold s. refl) (suc known.entries) change.sales)
      ∙ left-written_all there (legs_written change.legs) (start tables known key t change)
      (legs_keep there (λ leg s. refl) change.legs)
      ∙ stand.head account commodity

  -- the day that is known of a pair that is listed is that of the book
  known_day : (t : TransactionOf) → IsAccepted entries known key (Transaction t) change → (head : Pair × ℤ)
      → Has change.heads.entries head
      → known.latest_at_cost head.0.account head.0.commodity ≡ latest_at_cost entries head.0.account head.0.commodity
  known_day t is head has =
      let account = head.0.account in
      let commodity = head.0.commodity in
      let posts = list_any (posts_at_cost account commodity) t.postings in
      let listed : is_some (day_listed change.heads account commodity) ≡ true = has_listed change.heads.entries head has in
      same_day known (facts_of entries key) account commodity t.postings
      (said posts ∙ ap is_some (sym (is.comes.1.heads account commodity)) ∙ listed) (alike entries known key t change is)
    where
      said : (b : Bool) → b ≡ is_some (cond b (Some t.day) None)
      said true = refl
      said false = refl

  -- so its row says that day
  pub heads_say : (t : TransactionOf) → IsAccepted entries known key (Transaction t) change
      → AllByRecursion (SaysDay known (with_positions tables known key t change)) change.heads.entries
  heads_say t is =
      all_from (SaysDay known (with_positions tables known key t change)) change.heads.entries
      (λ head has day before.
      head_had t head.0.account head.0.commodity
      ∙ ap (option_map (head_row head.0.account head.0.commodity)) (sym (known_day t is head has) ∙ before))

  pub heads_stand : (command : Command) → IsAccepted entries known key command change → ListsInOrder command change
      → (account commodity : List ℕ)
      → row_at head_table (pair_key account commodity) (after command)
      ≡ option_map (head_row account commodity) (latest_at_cost (book command) account commodity)
  heads_stand (Transaction t) is ordered account commodity =
      let row = head_row account commodity in
      let listed = day_listed change.heads account commodity in
      ap (row_at head_table (pair_key account commodity)) (in_parts tables known key t change)
      ∙ heads_row account commodity known change.heads.entries (with_positions tables known key t change) ordered (heads_say t is)
      ∙ ap (option_or (option_map row listed)) (head_had t account commodity)
      ∙ or_mapped row listed (latest_at_cost entries account commodity)
      ∙ ap (option_map row) (latest (Transaction t) is account commodity listed (is.comes.1.heads account commodity))
  heads_stand (Opening o) is ordered account commodity = other_head (Opening o) tt is account commodity refl
  heads_stand (Closing c) is ordered account commodity = other_head (Closing c) tt is account commodity refl
  heads_stand (Declaring d) is ordered account commodity = other_head (Declaring d) tt is account commodity refl
  heads_stand (Quoting q) is ordered account commodity = other_head (Quoting q) tt is account commodity refl

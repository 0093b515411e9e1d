-- What an accepted command writes fits tables that stand for the book: a row that is added is new, one that is set is there.
use Rattle.std.specs.Prelude.{◌≡◌, ℕ, suc, ◌+◌, ◌≤◌, ◌&&◌, ◌||◌, Bool, true, false, not, cond, All, List, [], ◌∷◌, ◌++◌, length, map, Option, None, Some, is_some, slice_get, ℤ, pos}
use Rattle.std.specs.BTreeMap.{get}
use Rattle.std.specs.List.{AllByRecursion}
use Rattle.std.specs.List.Sorted.{IsStrictlySortedBy}
use Rattle.std.specs.Map.{keys_of}
use Rattle.std.specs.Option.{option_map}
use Rattle.std.specs.Ordering.{int_eq, is_eq, ordering_then}
use Rattle.std.specs.declared.cmp.Ordering.{Ordering}
use Rattle.std.specs.declared.cmp.Ordering.TheVariants.{Less, Equal, Greater}
use Rattle.std.proofs.Common.{refl, sym, ap, subst, ◌∙◌, arith, inl, inr}
use Rattle.std.proofs.lemmas.Bool.{cases_Bool, true≢false}
use Rattle.std.proofs.lemmas.Bool.Decides.{Decides-eqb}
use Rattle.sqlite.specs.Order.{Row}
use Rattle.sqlite.specs.Tree.{IsAscending}
use Rattle.sqlite.specs.declared.types.Value.TheVariants.{Int}
use Rattle.sqlite_keyed.proofs.ListLemmas.{all-append, all-map, all_both, all_weaker, any_from_none}
use Rattle.sqlite_value.specs.Order.{value_cmp}
use Rattle.lot_command.specs.declared.command.Closing.{Closing as ClosingOf}
use Rattle.lot_command.specs.declared.command.Command.{Command}
use Rattle.lot_command.specs.declared.command.Command.TheVariants.{Opening, Closing, Declaring, Quoting, Transaction}
use Rattle.lot_command.specs.declared.key.Key.{Key}
use Rattle.lot_command.specs.declared.transaction.Transaction.{Transaction as TransactionOf}
use Rattle.lot_cost.specs.declared.lot_key.LotKey.{LotKey}
use Rattle.lot_inv.specs.Inventory.{non_zero}
use Rattle.lot_book.specs.Book.{entry_of}
use Rattle.lot_book.specs.Change.{pair_cmp, units_before}
use Rattle.lot_book.specs.Edition.{After}
use Rattle.lot_book.specs.Facts.{Entry, Facts, facts_of, legs_of}
use Rattle.lot_book.specs.Leg.{position_cmp, same_position}
use Rattle.lot_book.specs.Sale.{SaleParts}
use Rattle.lot_book.specs.declared.change.Change.{Change}
use Rattle.lot_book.specs.declared.change.Pair.{Pair}
use Rattle.lot_book.specs.declared.leg.Leg.{Leg}
use Rattle.lot_book.specs.declared.leg.Position.{Position}
use Rattle.lot_book.specs.declared.standing.Standing.{Standing}
use Rattle.lot_book.proofs.OrderLemmas.{one_position}
use Rattle.lot_rows.specs.Entry.{IsUnnamed, entry_cells}
use Rattle.lot_rows.specs.Head.{head_cells}
use Rattle.lot_rows.specs.Leg.{leg_cells}
use Rattle.lot_rows.specs.Lot.{lot_cells}
use Rattle.lot_rows.specs.LotKey.{IsLotOrPlain}
use Rattle.lot_rows.specs.Plain.{plain_cells}
use Rattle.lot_rows.specs.Sale.{sale_cells}
use Rattle.lot_rows.specs.Tables.{Tables, lot_table, plain_table}
use Rattle.lot_rows.specs.declared.entry.EntryRow.{EntryRow}
use Rattle.lot_rows.specs.declared.leg.LegRow.{LegRow}
use Rattle.lot_rows.specs.declared.lot.LotRow.{LotRow}
use Rattle.lot_rows.specs.declared.plain.PlainRow.{PlainRow}
use Rattle.lot_rows.specs.declared.sale.SaleRow.{SaleRow}
use Rattle.lot_table.specs.Rows.{has_key, is_there, with_key}
use Rattle.lot_stored.specs.Kept.{is_of_posting}
use Rattle.lot_stored.specs.Rows.{allowed_rows, entry_row, entry_rows, leg_row, lot_key, lot_row, pair_key, plain_row, posting_key, row_at, sale_row}
use Rattle.lot_stored.specs.StandFor.{StandFor, sum_in}
use Rattle.lot_stored.proofs.BookedLemmas.{Precedes}
use Rattle.lot_stored.proofs.KeptLemmas.{entry_rows-below, entry_rows-unnamed}
use Rattle.lot_stored.proofs.KeyLemmas.{at_lot}
use Rattle.lot_stored.proofs.KnownLemmas.{IsSameAt, before_sum}
use Rattle.lot_stored.proofs.LookupLemmas.{first_with_key, put_in-last}
use Rattle.lot_stored.proofs.NumberLemmas.{numbered_legs, own_legs, precede_next}
use Rattle.lot_stored.proofs.OrderLemmas.{IsRising, rises-put_in, row_order}
use Rattle.lot_write.proofs.HeadLemmas.{Says, SaysDay, days_written, others_say}
use Rattle.lot_write.proofs.KeepLemmas.{Keeps, legs_keep, sales_keep}
use Rattle.lot_write.proofs.LegLemmas.{Shows, put_next, rows_below}
use Rattle.lot_write.proofs.NamedLemmas.{IsAccepted, judged}
use Rattle.lot_write.proofs.PositionLemmas.{lot_step, plain_at, plain_step}
use Rattle.lot_write.proofs.PutLemmas.{head_of}
use Rattle.lot_write.proofs.SaleLemmas.{IsUnder, own_rows, sales_above}
use Rattle.lot_write.proofs.TransactionLemmas.{IsOther, accepted_known, fine_lots, heads_say, own_rise, same_legs, start, with_legs, with_positions, with_sales}
use Rattle.lot_write.proofs.WrittenLemmas.{are_fit, fit-append, left-written_all}
use Rattle.lot_write.proofs.AsPutLemmas.{AreFit, Fits, written, written_all}
use Rattle.lot_write.specs.Write.{IsGood}
use Rattle.lot_write.specs.Writes.{ListsInOrder, closing_written, head_written, heads_written, legs_written, listed_write, number_written, opening_written, own_writes, position_write, positions_written, sales_written, units_listed, writes_of}
use Rattle.lot_write.specs.declared.write.Write.{Write}
use Rattle.lot_write.specs.declared.write.Write.TheVariants as write

-- ---- whether a row is there

module _ {X : Type 0} (encode : X → Row) where
  there_as : (width : ℕ) (key : Row) (xs : List X) → is_there encode width key xs ≡ is_some (first_with_key encode width key xs)
  there_as width key [] = refl
  there_as width key (x ∷ xs) =
      elim (has_key width key (encode x)) as (λ b. (b || is_there encode width key xs)
      ≡ is_some (slice_get (cond b (x ∷ with_key encode width key xs) (with_key encode width key xs)) 0)) [
        | true ↦ refl
        | false ↦ there_as width key xs
      ]

  -- a row above all others is new
  lacks_above : (width : ℕ) (new : X) (xs : List X) → AllByRecursion (λ x. row_order encode width x new ≡ Less) xs
      → is_there encode width (encode new) xs ≡ false
  lacks_above width new xs below =
      any_from_none (λ x. has_key width (encode new) (encode x)) xs
      (all_weaker (λ x. row_order encode width x new ≡ Less) (λ x. has_key width (encode new) (encode x) ≡ false)
      (λ x less. ap is_eq less) xs below)

-- ---- the entry

pub entry_lacks : (entries : List Entry) (new : EntryRow) → 1 + length entries ≤ new.number
    → is_there entry_cells 1 (entry_cells new) (entry_rows 1 entries) ≡ false
entry_lacks entries new above = lacks_above entry_cells 1 new (entry_rows 1 entries) (entry_rows-below 1 entries new above)

-- ---- legs

-- what ties in three columns ties in two
shorter : (o p q : Ordering) → is_eq (ordering_then o (ordering_then p (ordering_then q Equal))) ≡ true
    → is_eq (ordering_then o (ordering_then p Equal)) ≡ true
shorter Less p q e = e
shorter Equal Less q e = e
shorter Equal Equal q e = refl
shorter Equal Greater q e = e
shorter Greater p q e = e

of_posting : (leg row : LegRow) → has_key 3 (leg_cells leg) (leg_cells row) ≡ true
    → has_key 2 (posting_key leg.entry leg.posting) (leg_cells row) ≡ true
of_posting leg row same =
    shorter (value_cmp (Int (pos row.entry)) (Int (pos leg.entry))) (value_cmp (Int (pos row.posting)) (Int (pos leg.posting)))
    (value_cmp (Int (pos row.place)) (Int (pos leg.place))) same

leg_lacks : (rows : List LegRow) (done : List Leg) (leg : Leg) → Shows rows done
    → AllByRecursion (λ (d : Leg). Precedes d leg) done
    → is_there leg_cells 3 (leg_cells (leg_row leg)) rows ≡ false
leg_lacks rows done leg shows precede =
    let own : is_of_posting leg.entry leg.posting leg ≡ true =
    (λ i. (Decides-eqb leg.entry leg.entry).1 refl i && (Decides-eqb leg.posting leg.posting).1 refl i) in
    any_from_none (λ (row : LegRow). has_key 3 (leg_cells (leg_row leg)) (leg_cells row)) rows
    (all_weaker
    (λ (row : LegRow). has_key 2 (posting_key leg.entry leg.posting) (leg_cells row) ≡ true → row_order leg_cells 3 row (leg_row leg) ≡ Less)
    (λ (row : LegRow). has_key 3 (leg_cells (leg_row leg)) (leg_cells row) ≡ false)
    (λ row below. elim (cases_Bool (has_key 3 (leg_cells (leg_row leg)) (leg_cells row))) [
      | inl same ↦ absurd (true≢false (sym same ∙ ap is_eq (below (of_posting (leg_row leg) row same))))
      | inr apart ↦ apart
    ])
    rows (rows_below leg.entry leg.posting rows done leg shows precede own))

legs_fit : (legs : List Leg) (tables : Tables) (done : List Leg) → IsRising leg_cells 3 tables.leg → Shows tables.leg done
    → AllByRecursion (λ (d : Leg). AllByRecursion (Precedes d) legs) done → IsAscending Precedes legs
    → AreFit (legs_written legs) tables
legs_fit [] tables done up shows precede rise = tt
legs_fit (leg ∷ legs) tables done up shows precede rise =
    let After : Leg → Type 0 = λ (d : Leg). AllByRecursion (Precedes d) (leg ∷ legs) in
    let before : AllByRecursion (λ (d : Leg). Precedes d leg) done =
    all_weaker After (λ (d : Leg). Precedes d leg) (λ d both. both.0) done precede in (
      leg_lacks tables.leg done leg shows before,
      legs_fit legs (written (write.Leg (leg_row leg)) tables) (done ++ leg ∷ [])
          (rises-put_in leg_cells 3 (leg_row leg) tables.leg up) (put_next tables.leg done leg up shows before)
          (all-append (λ (d : Leg). AllByRecursion (Precedes d) legs) done (leg ∷ [])
          (all_weaker After (λ (d : Leg). AllByRecursion (Precedes d) legs) (λ d both. both.1) done precede) (rise.0, tt)) rise.1,
    )

-- ---- sales

sales_fit : (number : ℕ) (sales : List (ℕ × SaleParts)) (tables : Tables)
    → AllByRecursion (IsUnder (own_rows number sales)) tables.sale → IsRising sale_cells 2 (own_rows number sales)
    → AreFit (sales_written number sales) tables
sales_fit number [] tables below up = tt
sales_fit number (sale ∷ sales) tables below up =
    let new : SaleRow = sale_row (number, sale) in
    let news = own_rows number sales in
    let first : AllByRecursion (λ (x : SaleRow). row_order sale_cells 2 x new ≡ Less) tables.sale =
    all_weaker (IsUnder (new ∷ news)) (λ (x : SaleRow). row_order sale_cells 2 x new ≡ Less) (λ x both. both.0) tables.sale below in
    let others : AllByRecursion (IsUnder news) tables.sale =
    all_weaker (IsUnder (new ∷ news)) (IsUnder news) (λ x both. both.1) tables.sale below in (
      lacks_above sale_cells 2 new tables.sale first,
      sales_fit number sales (written (write.Sale new) tables)
          (subst (AllByRecursion (IsUnder news)) (sym (put_in-last sale_cells 2 new tables.sale first))
          (all-append (IsUnder news) tables.sale (new ∷ []) others (up.0, tt))) up.1,
    )

-- ---- positions

opening_fits : (account commodity : List ℕ) (lot : Option LotKey) (units : ℤ) (listed : Option ℕ)
    → AllByRecursion (λ (one : Write). (old : Tables) → Fits one old) (opening_written account commodity lot units listed)
opening_fits account commodity None units listed = tt
opening_fits account commodity (Some lot) units listed =
    elim (int_eq units (pos 0)) as (λ b. AllByRecursion (λ (one : Write). (old : Tables) → Fits one old)
    (cond b (write.NoOpening account commodity lot ∷ []) (number_written account commodity lot listed))) [
      | true ↦ ((λ old. tt), tt)
      | false ↦ number_fits listed
    ]
  where
    number_fits : (number : Option ℕ)
        → AllByRecursion (λ (one : Write). (old : Tables) → Fits one old) (number_written account commodity lot number)
    number_fits None = tt
    number_fits (Some number) = ((λ old. tt), tt)

-- a position has a row of its units
abbrev has_units : Tables → List ℕ → List ℕ → Option LotKey → Bool
has_units tables account commodity None = is_some (row_at plain_table (pair_key account commodity) tables)
has_units tables account commodity (Some lot) = is_some (row_at lot_table (lot_key account commodity lot) tables)

-- it does where the row stands for units that aren't zero
stands_for : {X : Type 0} (row : ℤ → X) (units : ℤ) → is_some (option_map row (non_zero units)) ≡ not (int_eq units (pos 0))
stands_for row units =
    elim (int_eq units (pos 0)) as (λ zero. is_some (option_map row (cond zero None (Some units))) ≡ not zero) [
      | true ↦ refl
      | false ↦ refl
    ]

stands_there : {X : Type 0} (row : ℤ → X) (units : ℤ) (here : Bool) (had : Option X)
    → is_some (cond here (option_map row (non_zero units)) had) ≡ cond here (not (int_eq units (pos 0))) (is_some had)
stands_there row units true had = stands_for row units
stands_there row units false had = refl

module _ (facts : Facts) (change : Change) where
  -- a position that held some, and does after the change, has its row
  abbrev IsKept : Tables → Position → Type 0
  IsKept tables p =
      int_eq (units_before facts p) (pos 0) ≡ false → int_eq (units_listed facts change p) (pos 0) ≡ false
      → has_units tables p.account p.commodity p.lot ≡ true

  position_fits : (p : Position) (tables : Tables) → IsKept tables p
      → Fits (position_write p.account p.commodity p.lot (units_before facts p) (units_listed facts change p)) tables
  position_fits p tables kept = by p.lot (units_before facts p) (units_listed facts change p) kept
    where
      plain : (units : ℤ) (zero none : Bool)
          → (none ≡ false → zero ≡ false → has_units tables p.account p.commodity None ≡ true)
          → Fits (cond zero (write.NoPlain p.account p.commodity)
          (cond none (write.Plain (plain_row p.account p.commodity units)) (write.SetPlain (plain_row p.account p.commodity units)))) tables
      plain units true none there = tt
      plain units false true there = tt
      plain units false false there =
          there_as plain_cells 2 (plain_cells (plain_row p.account p.commodity units)) tables.plain ∙ there refl refl

      of_lot : (lot : LotKey) (units : ℤ) (zero none : Bool)
          → (none ≡ false → zero ≡ false → has_units tables p.account p.commodity (Some lot) ≡ true)
          → Fits (cond zero (write.NoLot p.account p.commodity lot)
          (cond none (write.Lot (lot_row p.account p.commodity lot units)) (write.SetLot (lot_row p.account p.commodity lot units)))) tables
      of_lot lot units true none there = tt
      of_lot lot units false true there = tt
      of_lot lot units false false there =
          there_as lot_cells 6 (lot_cells (lot_row p.account p.commodity lot units)) tables.lot ∙ there refl refl

      by : (lot : Option LotKey) (before units : ℤ)
          → (int_eq before (pos 0) ≡ false → int_eq units (pos 0) ≡ false → has_units tables p.account p.commodity lot ≡ true)
          → Fits (position_write p.account p.commodity lot before units) tables
      by None before units there = plain units (int_eq units (pos 0)) (int_eq before (pos 0)) there
      by (Some lot) before units there = of_lot lot units (int_eq units (pos 0)) (int_eq before (pos 0)) there

  listed_fits : (p : Position) (tables : Tables) → IsKept tables p → AreFit (listed_write facts change p) tables
  listed_fits p tables kept =
      let before = units_before facts p in
      let units = units_listed facts change p in
      let number = get position_cmp change.openings p in (
        position_fits p tables kept,
        are_fit (opening_written p.account p.commodity p.lot units number)
            (written (position_write p.account p.commodity p.lot before units) tables)
            (opening_fits p.account p.commodity p.lot units number),
      )

  -- whether there is a row of a position's units, once what is written of one is
  units_step : (p : Position) (tables : Tables) (account commodity : List ℕ) (lot : Option LotKey) → IsLotOrPlain p.lot
      → IsLotOrPlain lot
      → has_units (written_all (listed_write facts change p) tables) account commodity lot
      ≡ cond (same_position (record { account = account; commodity = commodity; lot = lot }) p)
      (not (int_eq (units_listed facts change p) (pos 0))) (has_units tables account commodity lot)
  units_step p tables account commodity None fine tt_there =
      ap is_some (plain_step account commodity facts change p tables tt)
      ∙ stands_there (plain_row account commodity) (units_listed facts change p) (same_position (plain_at account commodity) p)
      (row_at plain_table (pair_key account commodity) tables)
  units_step p tables account commodity (Some lot) fine good =
      ap is_some (lot_step account commodity lot good facts change p tables fine)
      ∙ stands_there (lot_row account commodity lot) (units_listed facts change p) (same_position (at_lot account commodity lot) p)
      (row_at lot_table (lot_key account commodity lot) tables)

  -- what is written of one position leaves the rows of all that hold some
  still_kept : (p q : Position) (tables : Tables) → IsLotOrPlain p.lot → IsLotOrPlain q.lot → IsKept tables q
      → IsKept (written_all (listed_write facts change p) tables) q
  still_kept p q tables fine_p fine_q kept before after =
      units_step p tables q.account q.commodity q.lot fine_p fine_q ∙ by (same_position q p) refl
    where
      by : (b : Bool) → same_position q p ≡ b
          → cond b (not (int_eq (units_listed facts change p) (pos 0))) (has_units tables q.account q.commodity q.lot) ≡ true
      by true here =
          ap (λ (at : Position). not (int_eq (units_listed facts change at) (pos 0))) (sym (one_position q p here)) ∙ ap not after
      by false apart = kept before after

  -- of legs whose rows a book can have
  positions_fit : (legs : List Leg) (tables : Tables) → AllByRecursion (λ (leg : Leg). IsLotOrPlain leg.position.lot) legs
      → AllByRecursion (λ (leg : Leg). IsKept tables leg.position) legs
      → AreFit (positions_written facts change legs) tables
  positions_fit [] tables fine kept = tt
  positions_fit (leg ∷ legs) tables fine kept =
      let first = listed_write facts change leg.position in
      let next = written_all first tables in
      fit-append first (positions_written facts change legs) tables (listed_fits leg.position tables kept.0)
      (positions_fit legs next fine.1
      (all_both (λ (other : Leg). IsLotOrPlain other.position.lot) (λ (other : Leg). IsKept tables other.position)
      (λ (other : Leg). IsKept next other.position)
      (λ other fine_other was. still_kept leg.position other.position tables fine.0 fine_other was) legs fine.1 kept.1))

-- ---- the latest days

head_fits : (before : Option ℤ) (head : Pair × ℤ) (tables : Tables) → Says tables head.0 before
    → AreFit (head_written before head.0.account head.0.commodity head.1) tables
head_fits None head tables says = (tt, tt)
head_fits (Some before) head tables says =
    elim (int_eq before head.1) as (λ b. AreFit (cond b [] (write.SetHead (head_of head) ∷ [])) tables) [
      | true ↦ tt
      | false ↦ (there_as head_cells 2 (head_cells (head_of head)) tables.head ∙ ap is_some (says before refl), tt)
    ]

heads_fit : (facts : Facts) (heads : List (Pair × ℤ)) (tables : Tables) → IsStrictlySortedBy pair_cmp (keys_of heads)
    → AllByRecursion (SaysDay facts tables) heads → AreFit (heads_written facts heads) tables
unfolding IsStrictlySortedBy
heads_fit facts [] tables up says = tt
heads_fit facts (head ∷ heads) tables up says =
    let first = days_written facts head in
    fit-append first (heads_written facts heads) tables
    (head_fits (facts.latest_at_cost head.0.account head.0.commodity) head tables says.0)
    (heads_fit facts heads (written_all first tables) up.1 (others_say facts head heads tables says.0 up.0 says.1))

-- ---- an accepted command

closing_fits : (closing : ClosingOf) (standing : Option Standing)
    → AllByRecursion (λ (one : Write). (old : Tables) → Fits one old) (closing_written closing standing)
closing_fits closing None = tt
closing_fits closing (Some standing) = ((λ old. tt), tt)

-- what another command than a transaction writes fits all tables
other_fits : (facts : Facts) (command : Command) (change : Change) → IsOther command
    → AllByRecursion (λ (one : Write). (old : Tables) → Fits one old) (own_writes facts command change)
other_fits facts (Opening o) change other =
    ((λ old. tt), all-map (λ (one : Write). (old : Tables) → Fits one old) write.Allowed (λ row old. tt) (allowed_rows o.account 0 o.currencies))
other_fits facts (Closing c) change other = closing_fits c (facts.standing c.account)
other_fits facts (Declaring d) change other = ((λ old. tt), tt)
other_fits facts (Quoting q) change other = ((λ old. tt), tt)
other_fits facts (Transaction t) change other = absurd other

module _ (tables : Tables) (entries : List Entry) (known : Facts) (key : Key) (change : Change) (stand : StandFor tables entries) where
  module _ (t : TransactionOf) (is : IsAccepted entries known key (Transaction t) change)
      (good : All IsGood (writes_of known key (Transaction t) change)) where
    abbrev entered : Tables
    entered = start tables known key t change

    abbrev legs_made : Tables
    legs_made = with_legs tables known key t change

    abbrev sales_made : Tables
    sales_made = with_sales tables known key t change

    abbrev positions_made : Tables
    positions_made = with_positions tables known key t change

    its_legs_fit : AreFit (legs_written change.legs) entered
    its_legs_fit =
        let own = own_legs is.ties known (Transaction t) change.legs (accepted_known entries known key (Transaction t) change is) in
        let numbered_own : AllByRecursion (λ (leg : Leg). leg.entry ≡ suc (length entries)) change.legs =
        subst (λ n. AllByRecursion (λ (leg : Leg). leg.entry ≡ suc n) change.legs) is.agrees.entries own.0 in
        legs_fit change.legs entered (legs_of entries) stand.ordered.leg stand.leg
        (precede_next entries change.legs (numbered_legs (After stand.place) entries stand.judged) numbered_own) own.1

    its_sales_fit : AreFit (sales_written (suc known.entries) change.sales) legs_made
    its_sales_fit =
        let rows : Tables → List SaleRow = λ (s : Tables). s.sale in
        let number = suc (length entries) in
        let above = sales_above (After stand.place) entries stand.sales change.sales stand.sold (own_rise entries known key t change is) in
        let same : legs_made.sale ≡ map sale_row stand.sales =
        left-written_all rows (legs_written change.legs) entered (legs_keep rows (λ leg s. refl) change.legs) ∙ stand.sale in
        subst (λ n. AreFit (sales_written n change.sales) legs_made) (sym (ap suc is.agrees.entries))
        (sales_fit number change.sales legs_made
        (subst (AllByRecursion (IsUnder (own_rows number change.sales))) (sym same) above.0) above.1)

    its_positions_fit : AreFit (positions_written known change change.legs) sales_made
    its_positions_fit =
        positions_fit known change change.legs sales_made (fine_lots known key t change good)
        (all_both (λ (leg : Leg). IsLotOrPlain leg.position.lot) (IsSameAt known (facts_of entries key))
        (λ (leg : Leg). IsKept known change sales_made leg.position) kept
        change.legs (fine_lots known key t change good) (same_legs entries known key t change is))
      where
        -- the rows of the book's positions stand as they did
        left : {X : Type 0} (there : Tables → Option X) → ((sold : ℕ × (ℕ × SaleParts)) → Keeps there (write.Sale (sale_row sold)))
            → ((leg : Leg) → Keeps there (write.Leg (leg_row leg))) → there sales_made ≡ there entered
        left there of_sale of_leg =
            left-written_all there (sales_written (suc known.entries) change.sales) legs_made
            (sales_keep there of_sale (suc known.entries) change.sales)
            ∙ left-written_all there (legs_written change.legs) entered (legs_keep there of_leg change.legs)

        had : (account commodity : List ℕ) (lot : Option LotKey) → IsLotOrPlain lot
            → has_units sales_made account commodity lot
            ≡ not (int_eq (sum_in entries (record { account = account; commodity = commodity; lot = lot })) (pos 0))
        had account commodity None tt_there =
            let there : Tables → Option PlainRow = row_at plain_table (pair_key account commodity) in
            ap is_some (left there (λ sold s. refl) (λ leg s. refl) ∙ stand.plain account commodity)
            ∙ stands_for (plain_row account commodity) (sum_in entries (plain_at account commodity))
        had account commodity (Some lot) fine =
            let there : Tables → Option LotRow = row_at lot_table (lot_key account commodity lot) in
            ap is_some (left there (λ sold s. refl) (λ leg s. refl) ∙ stand.lot account commodity lot fine)
            ∙ stands_for (lot_row account commodity lot) (sum_in entries (at_lot account commodity lot))

        kept : (leg : Leg) → IsLotOrPlain leg.position.lot → IsSameAt known (facts_of entries key) leg
            → IsKept known change sales_made leg.position
        kept leg fine same before after =
            let p = leg.position in
            had p.account p.commodity p.lot fine
            ∙ ap (λ units. not (int_eq units (pos 0))) (sym (before_sum known entries key leg same))
            ∙ ap not before

    its_heads_fit : ListsInOrder (Transaction t) change → AreFit (heads_written known change.heads.entries) positions_made
    its_heads_fit ordered =
        heads_fit known change.heads.entries positions_made ordered (heads_say tables entries known key change stand t is)

  own_fit : (command : Command) → IsAccepted entries known key command change → ListsInOrder command change
      → All IsGood (writes_of known key command change)
      → AreFit (own_writes known command change) (written (write.Entry (entry_row (suc known.entries) (entry_of key command change.legs))) tables)
  own_fit (Transaction t) is ordered good =
      let sales = sales_written (suc known.entries) change.sales in
      let positions = positions_written known change change.legs in
      let heads = heads_written known change.heads.entries in
      fit-append (legs_written change.legs) (sales ++ (positions ++ heads)) (entered t is good) (its_legs_fit t is good)
      (fit-append sales (positions ++ heads) (legs_made t is good) (its_sales_fit t is good)
      (fit-append positions heads (sales_made t is good) (its_positions_fit t is good) (its_heads_fit t is good ordered)))
  own_fit command is ordered good =
      are_fit (own_writes known command change)
      (written (write.Entry (entry_row (suc known.entries) (entry_of key command change.legs))) tables)
      (other_fits known command change tt)

  pub writes_fit : (command : Command) → IsAccepted entries known key command change → ListsInOrder command change
      → All IsGood (writes_of known key command change)
      → AreFit (writes_of known key command change) tables
  writes_fit command is ordered good =
      let new : EntryRow = entry_row (suc known.entries) (entry_of key command change.legs) in
      let next : 1 + length entries ≤ new.number = omega (arith, is.agrees.entries) in (
        (
          subst (λ (rows : List EntryRow). is_there entry_cells 1 (entry_cells new) rows ≡ false) (sym stand.entry) (entry_lacks entries new next),
          subst (IsUnnamed new) (sym stand.entry)
              (entry_rows-unnamed 1 entries key new (judged entries known key change command is).0 refl refl),
        ),
        own_fit command is ordered good,
      )

-- The table of legs, in its order: the legs of the book, of which those at lots are in the order of the book. The legs of an
-- elided posting are not: the book has them behind those of the other postings. They are plain.
use Rattle.std.specs.Prelude.{◌≡◌, ℕ, suc, ◌<◌, ◌≤◌, false, List, [], ◌∷◌, ◌++◌, length, map, take, All, None, Some, is_some, IsSome, ℤ}
use Rattle.std.specs.Cmp.{IsTotalOrder}
use Rattle.std.specs.List.{AllByRecursion}
use Rattle.std.specs.declared.cmp.Ordering.{Ordering}
use Rattle.std.proofs.Common.{refl, sym, ap, subst, ◌∙◌, arith, append_assoc}
use Rattle.std.proofs.lemmas.Cmp.{on_total}
use Rattle.std.proofs.lemmas.List.{append-nil}
use Rattle.std.proofs.lemmas.List.Elements.{All-from_recursion, filter-append}
use Rattle.sqlite.specs.Tree.{IsAscending}
use Rattle.sqlite_keyed.proofs.ListLemmas.{all-filter, all_both, all_weaker, ascending-append, ascending-filter, ascending-map, filter_none, map_back}
use Rattle.sqlite_rules.specs.Lists.{Has}
use Rattle.sqlite_rules.proofs.ListLemmas.{all_from, all_has, has_filtered, has_kept}
use Rattle.sqlite_rules.proofs.ProbeLemmas.{has_mapped, mapped_has}
use Rattle.lot_num.specs.Amount.{IsUnits}
use Rattle.lot_command.specs.declared.command.Command.{Command}
use Rattle.lot_command.specs.declared.command.Command.TheVariants.{Opening, Closing, Declaring, Quoting, Transaction}
use Rattle.lot_command.specs.declared.transaction.Posting.{Posting}
use Rattle.lot_command.specs.declared.transaction.Transaction.{Transaction as TransactionOf}
use Rattle.lot_book.specs.Balance.{elided_postings, fill_of, left_over, residuals, weights_in}
use Rattle.lot_book.specs.Book.{ContinuesIn, IsBookIn}
use Rattle.lot_book.specs.Booking.{Booked, TieRule, legs_in as legs_booked}
use Rattle.lot_book.specs.Edition.{After, Migration, edition_on, ties_in}
use Rattle.lot_book.specs.Facts.{Entry, Facts, facts_of, legs_of}
use Rattle.lot_book.specs.Leg.{sum_at}
use Rattle.lot_book.specs.OpeningNumber.{IsNumbered}
use Rattle.lot_book.specs.Step.{Accept, JudgesUnder, first_conditions, first_of}
use Rattle.lot_book.specs.declared.leg.Leg.{Leg}
use Rattle.lot_book.specs.declared.leg.Position.{Position}
use Rattle.lot_laws.proofs.LawBooks.{accepted}
use Rattle.lot_laws.proofs.LegRange.{stay_in_range}
use Rattle.lot_laws.proofs.OpeningPostings.{all_numbered}
use Rattle.lot_laws.proofs.RecordedBook.{legs_of-append}
use Rattle.lot_table.specs.Rows.{has_key, with_key}
use Rattle.lot_rows.specs.Leg.{leg_cells}
use Rattle.lot_rows.specs.Tables.{Tables}
use Rattle.lot_rows.specs.declared.leg.LegRow.{LegRow}
use Rattle.lot_stored.specs.Kept.{is_of_posting, legs_of_posting}
use Rattle.lot_stored.specs.Rows.{leg_row, posting_key}
use Rattle.lot_stored.specs.StandFor.{StandFor}
use Rattle.lot_stored.proofs.BookedLemmas.{IsBookedAs, IsFrom, IsPlainOf, Precedes, Walks, WalksOn, booked_as, fill_plain, legs_from, numbered_from, numbered_rise, walks}
use Rattle.lot_stored.proofs.HeldLemmas.{leg_there}
use Rattle.lot_stored.proofs.LegLemmas.{IsBelow, below_by_entry, below_by_place, below_by_posting}
use Rattle.lot_stored.proofs.LookupLemmas.{has_own_key}
use Rattle.lot_stored.proofs.NumberLemmas.{AreOfEntries, legs_for, numbered_next, own_legs}
use Rattle.lot_stored.proofs.OneTablesLemmas.{same_list}
use Rattle.lot_stored.proofs.OrderLemmas.{row_order, row_order-total}
use Rattle.lot_migrate.specs.Rows.{at_lots, is_at_lot, leg_of, legs_in}
use Rattle.lot_migrate.proofs.LotLegLemmas.{first_passing, sum_at_lots}

-- ---- one posting

rise_in_posting : (entry posting : ℕ) (legs : List Leg)
    → AllByRecursion (λ (leg : Leg). (leg.entry ≡ entry) × (leg.posting ≡ posting)) legs → IsAscending Precedes legs
    → IsAscending IsBelow legs
rise_in_posting entry posting [] of up = tt
rise_in_posting entry posting (leg ∷ legs) of up = (
  all_both (λ (b : Leg). (b.entry ≡ entry) × (b.posting ≡ posting)) (Precedes leg) (IsBelow leg)
      (λ b is precedes.
      let same : leg.entry ≡ b.entry = of.0.0 ∙ sym is.0 in
      let one : leg.posting ≡ b.posting = of.0.1 ∙ sym is.1 in
      below_by_place leg b same one (precedes same one)) legs of.1 up.0,
  rise_in_posting entry posting legs of.1 up.1,
)

-- ---- the postings with amounts

walk_rises : (entry place : ℕ) (postings : List Posting) (booked : List Booked) → Walks entry place postings booked
    → IsAscending IsBelow (legs_booked booked)
walk_rises entry place [] booked walk = subst (λ bs. IsAscending IsBelow (legs_booked bs)) (sym walk) tt
walk_rises entry place (posting ∷ postings) booked walk =
    elim posting.amount as (λ amount. WalksOn (Walks entry (suc place) postings) entry place posting.account amount booked
    → IsAscending IsBelow (legs_booked booked)) [
      | None ↦ λ rest. walk_rises entry (suc place) postings booked rest
      | Some amount ↦ λ all.
          let here = numbered_from entry place 0 all.0.legs all.3.numbered in
          let later = legs_from entry (suc place) postings all.1 all.4 in
          subst (λ bs. IsAscending IsBelow (legs_booked bs)) (sym all.2)
          (ascending-append IsBelow all.0.legs (legs_booked all.1)
          (rise_in_posting entry place all.0.legs here (numbered_rise entry place 0 all.0.legs all.3.numbered))
          (walk_rises entry (suc place) postings all.1 all.4)
          (all_weaker (λ (leg : Leg). (leg.entry ≡ entry) × (leg.posting ≡ place))
          (λ (a : Leg). AllByRecursion (IsBelow a) (legs_booked all.1))
          (λ a is. all_weaker (IsFrom entry (suc place)) (IsBelow a)
          (λ b from. below_by_posting a b (is.0 ∙ sym from.0) (before place a.posting b.posting is.1 from.1))
          (legs_booked all.1) later) all.0.legs here))
    ] walk
  where
    before : (n a b : ℕ) → a ≡ n → suc n ≤ b → a < b
    before n a b is from = omega arith

-- ---- one command

fill_has_no_lots : (entry : ℕ) (elided : List (ℕ × List ℕ)) (rs : List (List ℕ × ℤ)) → at_lots (fill_of entry elided rs) ≡ []
fill_has_no_lots entry [] rs = refl
fill_has_no_lots entry (elided ∷ more) rs =
    let legs = fill_of entry (elided ∷ more) rs in
    filter_none is_at_lot legs
    (all_weaker (IsPlainOf elided.1) (λ (leg : Leg). is_at_lot leg ≡ false) (λ leg plain. ap is_some plain.1) legs
    (fill_plain entry elided.0 elided.1 0 (left_over rs)))

transaction_rises : (ties : TieRule) (facts : Facts) (t : TransactionOf) (legs : List Leg) → IsBookedAs ties facts t legs
    → IsAscending IsBelow (at_lots legs)
transaction_rises ties facts t legs is =
    let entry = suc facts.entries in
    let booked = legs_booked is.booked in
    let fill = fill_of entry (elided_postings 1 t.postings) (residuals (weights_in is.booked)) in
    let same : at_lots legs ≡ at_lots booked =
    ap at_lots is.same
    ∙ filter-append is_at_lot booked fill
    ∙ ap (λ (ls : List Leg). at_lots booked ++ ls)
    (fill_has_no_lots entry (elided_postings 1 t.postings) (residuals (weights_in is.booked)))
    ∙ append-nil (at_lots booked) in
    subst (IsAscending IsBelow) (sym same)
    (ascending-filter IsBelow is_at_lot booked
    (walk_rises entry 1 t.postings is.booked (walks ties facts t.day 1 t.postings [] is.booked is.all)))

none_rises : (legs : List Leg) → legs ≡ [] → IsAscending IsBelow (at_lots legs)
none_rises legs none = subst (λ (ls : List Leg). IsAscending IsBelow (at_lots ls)) (sym none) tt

command_rises : (ties : TieRule) (facts : Facts) (command : Command) (legs : List Leg)
    → JudgesUnder ties facts command (Accept legs) → IsAscending IsBelow (at_lots legs)
command_rises ties facts (Opening o) legs judges = none_rises legs (legs_for ties facts (Opening o) legs judges)
command_rises ties facts (Closing c) legs judges = none_rises legs (legs_for ties facts (Closing c) legs judges)
command_rises ties facts (Declaring d) legs judges = none_rises legs (legs_for ties facts (Declaring d) legs judges)
command_rises ties facts (Quoting q) legs judges = none_rises legs (legs_for ties facts (Quoting q) legs judges)
command_rises ties facts (Transaction t) legs judges =
    transaction_rises ties facts t legs (booked_as ties facts t (first_of (first_conditions facts t)) legs judges)

-- ---- the book

-- the legs of a book at lots are in the order of their rows
abbrev LotsRise : List Entry → Type 0
LotsRise book = IsAscending IsBelow (at_lots (legs_of book))

next_rises : (ties : TieRule) (before : List Entry) (entry : Entry) → AreOfEntries before → LotsRise before
    → JudgesUnder ties (facts_of before entry.key) entry.command (Accept entry.legs)
    → LotsRise (before ++ entry ∷ [])
next_rises ties before entry of up judges =
    let number = length before in
    let own = own_legs ties (facts_of before entry.key) entry.command entry.legs judges in
    subst (IsAscending IsBelow) (sym (ap at_lots (legs_of-append before entry) ∙ filter-append is_at_lot (legs_of before) entry.legs))
    (ascending-append IsBelow (at_lots (legs_of before)) (at_lots entry.legs) up
    (command_rises ties (facts_of before entry.key) entry.command entry.legs judges)
    (all_weaker (λ (leg : Leg). leg.entry ≤ number) (λ (a : Leg). AllByRecursion (IsBelow a) (at_lots entry.legs))
    (λ a earlier. all_weaker (λ (leg : Leg). leg.entry ≡ suc number) (IsBelow a)
    (λ b is. below_by_entry a b (before_it number a.entry b.entry earlier is)) (at_lots entry.legs)
    (all-filter (λ (leg : Leg). leg.entry ≡ suc number) is_at_lot entry.legs own.0)) (at_lots (legs_of before))
    (all-filter (λ (leg : Leg). leg.entry ≤ number) is_at_lot (legs_of before) of)))
  where
    before_it : (n a b : ℕ) → a ≤ n → b ≡ suc n → a < b
    before_it n a b less is = omega arith

all_rise : (migration : Migration) (before entries : List Entry) → AreOfEntries before → LotsRise before
    → ContinuesIn migration before entries → LotsRise (before ++ entries)
all_rise migration before [] of up continues = subst LotsRise (sym (append-nil before)) up
all_rise migration before (entry ∷ entries) of up continues =
    let edition = edition_on migration before in
    let judges = (accepted edition before entry.key entry.command entry.legs continues.0).1 in
    subst LotsRise (append_assoc before (entry ∷ []) entries)
    (all_rise migration (before ++ entry ∷ []) entries
    (numbered_next (ties_in edition before) before entry of judges)
    (next_rises (ties_in edition before) before entry of up judges) continues.1)

pub lots_rise : (migration : Migration) (book : List Entry) → IsBookIn migration book → IsAscending IsBelow (at_lots (legs_of book))
lots_rise migration book is = all_rise migration [] book tt tt is

-- ---- the table

-- a row is that of its leg, and a leg that of its row
pub leg_back : (leg : Leg) → leg_of (leg_row leg) ≡ leg
leg_back leg = refl

pub row_back : (row : LegRow) → leg_row (leg_of row) ≡ row
row_back row = refl

module _ (tables : Tables) (entries : List Entry) (stand : StandFor tables entries) where
  pub rows_of_legs : map leg_row (legs_in tables) ≡ tables.leg
  rows_of_legs = map_back leg_of leg_row row_back tables.leg

  -- the leg of a row is one of the book
  pub row_in_book : (row : LegRow) → Has tables.leg row → Has (legs_of entries) (leg_of row)
  row_in_book row has =
      let key = posting_key row.entry row.posting in
      let legs = legs_of_posting row.entry row.posting (legs_of entries) in
      let kept : Has (with_key leg_cells 2 key tables.leg) row =
      has_kept (λ (r : LegRow). has_key 2 key (leg_cells r)) tables.leg row has (has_own_key 2 (leg_cells row)) in
      let found = has_mapped leg_row legs row (subst (λ (rows : List LegRow). Has rows row) (stand.leg row.entry row.posting) kept) in
      subst (Has (legs_of entries)) (sym (ap leg_of found.2))
      (has_filtered (is_of_posting row.entry row.posting) (legs_of entries) found.0 found.1).0

  -- so the legs of the table are those of the book
  pub read_in_book : (leg : Leg) → Has (legs_in tables) leg → Has (legs_of entries) leg
  read_in_book leg has =
      let found = has_mapped leg_of tables.leg leg has in
      subst (Has (legs_of entries)) (sym found.2) (row_in_book found.0 found.1)

  pub book_is_read : (leg : Leg) → Has (legs_of entries) leg → Has (legs_in tables) leg
  book_is_read leg has = mapped_has leg_of tables.leg (leg_row leg) (leg_there tables entries stand leg has)

  abbrev by_row : Leg → Leg → Ordering
  by_row a b = row_order leg_cells 3 (leg_row a) (leg_row b)

  by_row-total : IsTotalOrder by_row
  by_row-total = on_total leg_row (row_order-total leg_cells 3)

  -- and those at lots are in the order of the book
  pub lot_legs_in_table : at_lots (legs_in tables) ≡ at_lots (legs_of entries)
  lot_legs_in_table =
      same_list by_row by_row-total (at_lots (legs_in tables)) (at_lots (legs_of entries))
      (ascending-filter IsBelow is_at_lot (legs_in tables) (ascending-map IsBelow leg_of tables.leg stand.ordered.leg))
      (lots_rise (After stand.place) entries stand.judged)
      (λ leg has.
      let parts = has_filtered is_at_lot (legs_in tables) leg has in
      has_kept is_at_lot (legs_of entries) leg (read_in_book leg parts.0) parts.1)
      (λ leg has.
      let parts = has_filtered is_at_lot (legs_of entries) leg has in
      has_kept is_at_lot (legs_in tables) leg (book_is_read leg parts.0) parts.1)

  -- ---- what the openings ask of them

  pub legs_are_numbered : All IsNumbered (legs_in tables)
  legs_are_numbered =
      let numbered = all_numbered (After stand.place) [] entries stand.judged in
      All-from_recursion IsNumbered (legs_in tables)
      (all_from IsNumbered (legs_in tables)
      (λ leg has. all_has IsNumbered (legs_of entries) leg numbered (read_in_book leg has)))

  -- however many of them are read, what they leave in a lot is in range
  pub lots_stay_in_range : (done more : List Leg) → legs_in tables ≡ done ++ more → (lot : Position) → IsSome lot.lot
      → IsUnits (sum_at done lot)
  lots_stay_in_range done more split lot is_lot =
      let first = first_passing is_at_lot (legs_of entries) (at_lots done) (at_lots more)
      (sym lot_legs_in_table ∙ ap at_lots split ∙ filter-append is_at_lot done more) in
      let legs = take first.0 (legs_of entries) in
      subst IsUnits
      (sym (sum_at_lots lot is_lot legs)
      ∙ ap (λ (ls : List Leg). sum_at ls lot) first.1
      ∙ sum_at_lots lot is_lot done)
      (stay_in_range (After stand.place) entries stand.judged first.0 lot)

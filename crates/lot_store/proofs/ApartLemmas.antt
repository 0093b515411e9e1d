-- What an accepted command leaves as it was: the rows of lots and of opening numbers of accounts and commodities that it doesn't
-- post to.
use Rattle.std.specs.Prelude.{◌≡◌, ◌&&◌, ℕ, suc, Bool, true, false, cond, List, [], ◌∷◌, ◌++◌, drop, IfSome, Option, None, Some, ℤ, pos}
use Rattle.std.specs.BTreeMap.{get}
use Rattle.std.specs.List.{AllByRecursion}
use Rattle.std.specs.Ordering.{int_eq}
use Rattle.std.proofs.Common.{refl, sym, ap, subst, ◌∙◌, arith}
use Rattle.sqlite.specs.Order.{Row}
use Rattle.sqlite.specs.declared.types.Value.TheVariants.{Int}
use Rattle.sqlite_keyed.proofs.ListLemmas.{all-append, all-flat_map, all-map, all_weaker}
use Rattle.lot_base.specs.Text.{same_text}
use Rattle.lot_cost.specs.declared.cost.Cost.{Cost}
use Rattle.lot_cost.specs.declared.lot_key.LotKey.{LotKey}
use Rattle.lot_command.specs.declared.command.Closing.{Closing as ClosingOf}
use Rattle.lot_command.specs.declared.command.Command.{Command}
use Rattle.lot_command.specs.declared.command.Command.TheVariants.{Opening, Closing, Declaring, Quoting, Transaction}
use Rattle.lot_command.specs.declared.key.Key.{Key as KeyOf}
use Rattle.lot_command.specs.declared.transaction.Posting.{Posting}
use Rattle.lot_command.specs.declared.transaction.Transaction.{Transaction as TransactionOf}
use Rattle.lot_book.specs.Balance.{elided_postings, fill_from, fill_of, left_over, residuals, weights_in}
use Rattle.lot_book.specs.Booking.{All, Booked, BooksAllUnder, HasLegs, Line, Stopped, TieRule, legs_in, line_under}
use Rattle.lot_book.specs.Change.{units_before}
use Rattle.lot_book.specs.Facts.{Facts}
use Rattle.lot_book.specs.Leg.{legs_at_lots, position_cmp}
use Rattle.lot_book.specs.Openings.{FactsWithOpenings, IsAcceptedWith, ties_on}
use Rattle.lot_book.specs.Step.{Accept, JudgesTransactionUnder, JudgesUnder, Refuse, all_legs, fill_legs, first_conditions, first_of, last_conditions}
use Rattle.lot_book.specs.Touched.{pairs_in, pairs_of}
use Rattle.lot_book.specs.declared.change.Change.{Change}
use Rattle.lot_book.specs.declared.change.Pair.{Pair}
use Rattle.lot_book.specs.declared.leg.Leg.{Leg}
use Rattle.lot_book.specs.declared.leg.Position.{Position}
use Rattle.lot_book.specs.declared.refusal.Refusal.{Refusal}
use Rattle.lot_book.specs.declared.standing.Standing.{Standing}
use Rattle.lot_laws.proofs.LawBooks.{none_holds, over_placed}
use Rattle.lot_laws.proofs.RecordedBook.{key_was_new}
use Rattle.lot_table.specs.Rows.{has_key, is_there, put_in, with_key}
use Rattle.lot_rows.specs.Lot.{lot_cells}
use Rattle.lot_rows.specs.LotKey.{lot_columns}
use Rattle.lot_rows.specs.Opening.{opening_cells}
use Rattle.lot_rows.specs.Tables.{Tables, lot_table}
use Rattle.lot_rows.specs.declared.lot.LotRow.{LotRow}
use Rattle.lot_rows.specs.declared.opening.OpeningRow.{OpeningRow}
use Rattle.lot_stored.specs.Rows.{allowed_rows, leg_row, lot_key, lot_row, opening_row, pair_key, plain_row, head_row}
use Rattle.lot_stored.proofs.KeyLemmas.{has_pair}
use Rattle.lot_stored.proofs.LookupLemmas.{with_key-put_other, with_key-without_other}
use Rattle.lot_write.proofs.AsPutLemmas.{left-made}
use Rattle.lot_write.specs.Write.{written, written_all}
use Rattle.lot_write.specs.Writes.{closing_written, head_written, heads_written, legs_written, listed_write, lot_write, number_written, opening_written, own_writes, plain_write, position_write, positions_written, sales_written, units_listed, writes_of}
use Rattle.lot_write.specs.declared.write.Write.{Write}
use Rattle.lot_write.specs.declared.write.Write.TheVariants as write

module _ (pair : Pair) where
  abbrev key : Row
  key = pair_key pair.account pair.commodity

  -- the rows of a pair, in both tables
  abbrev pub rows_of : Tables → List LotRow × List OpeningRow
  rows_of tables = (with_key lot_cells 2 key tables.lot, with_key opening_cells 2 key tables.opening)

  -- whether an account and a commodity are those of the pair
  abbrev pub is_of : List ℕ → List ℕ → Bool
  is_of account commodity = same_text pair.account account && same_text pair.commodity commodity

  -- a write leaves its rows as they were
  abbrev Leaves : Write → Type 0
  Leaves one = (old : Tables) → rows_of (written one old) ≡ rows_of old

  -- ---- writes of a lot of another pair

  module _ (account commodity : List ℕ) (apart : is_of account commodity ≡ false) (lot : LotKey) where
    lot_apart : (rest : Row) → has_key 2 key (lot_columns account commodity lot rest) ≡ false
    lot_apart rest =
        has_pair pair.account pair.commodity account commodity (drop 2 (lot_columns account commodity lot rest)) ∙ apart

    put_leaves : (units : ℤ) → Leaves (write.Lot (lot_row account commodity lot units))
    put_leaves units old =
        ap (λ (lots : List LotRow). (lots, with_key opening_cells 2 key old.opening))
        (with_key-put_other lot_cells 2 6 key (lot_row account commodity lot units) old.lot (omega arith) (lot_apart (Int units ∷ [])))

    set_leaves : (units : ℤ) → Leaves (write.SetLot (lot_row account commodity lot units))
    set_leaves units old =
        let row = lot_row account commodity lot units in
        elim (is_there lot_cells 6 (lot_cells row) old.lot)
        as (λ b. rows_of (lot_table.with_rows (cond b (put_in lot_cells 6 row old.lot) old.lot) old) ≡ rows_of old) [
          | true ↦ put_leaves units old
          | false ↦ refl
        ]

    no_lot_leaves : Leaves (write.NoLot account commodity lot)
    no_lot_leaves old =
        ap (λ (lots : List LotRow). (lots, with_key opening_cells 2 key old.opening))
        (with_key-without_other lot_cells 2 6 key (lot_key account commodity lot) old.lot (omega arith) (lot_apart []))

    opening_leaves : (number : ℕ) → Leaves (write.Opening (opening_row account commodity lot number))
    opening_leaves number old =
        ap (λ (openings : List OpeningRow). (with_key lot_cells 2 key old.lot, openings))
        (with_key-put_other opening_cells 2 6 key (opening_row account commodity lot number) old.opening (omega arith)
        (lot_apart (Int (pos number) ∷ [])))

    no_opening_leaves : Leaves (write.NoOpening account commodity lot)
    no_opening_leaves old =
        ap (λ (openings : List OpeningRow). (with_key lot_cells 2 key old.lot, openings))
        (with_key-without_other opening_cells 2 6 key (lot_key account commodity lot) old.opening (omega arith) (lot_apart []))

    lot_leaves : (before units : ℤ) → Leaves (position_write account commodity (Some lot) before units)
    lot_leaves before units =
        elim (int_eq units (pos 0)) as (λ b. Leaves (cond b (write.NoLot account commodity lot)
        (lot_write account commodity lot before units))) [
          | true ↦ no_lot_leaves
          | false ↦
              elim (int_eq before (pos 0)) as (λ b. Leaves (cond b (write.Lot (lot_row account commodity lot units))
              (write.SetLot (lot_row account commodity lot units)))) [
                | true ↦ put_leaves units
                | false ↦ set_leaves units
              ]
        ]

    number_leaves : (listed : Option ℕ) → AllByRecursion Leaves (number_written account commodity lot listed)
    number_leaves None = tt
    number_leaves (Some number) = (opening_leaves number, tt)

    numbers_leave : (units : ℤ) (listed : Option ℕ) → AllByRecursion Leaves (opening_written account commodity (Some lot) units listed)
    numbers_leave units listed =
        elim (int_eq units (pos 0)) as (λ b. AllByRecursion Leaves (cond b (write.NoOpening account commodity lot ∷ [])
        (number_written account commodity lot listed))) [
          | true ↦ (no_opening_leaves, tt)
          | false ↦ number_leaves listed
        ]

  -- ---- other writes

  plain_leaves : (account commodity : List ℕ) (before units : ℤ) → Leaves (position_write account commodity None before units)
  plain_leaves account commodity before units =
      elim (int_eq units (pos 0)) as (λ b. Leaves (cond b (write.NoPlain account commodity)
      (plain_write account commodity before units))) [
        | true ↦ λ old. refl
        | false ↦
            elim (int_eq before (pos 0)) as (λ b. Leaves (cond b (write.Plain (plain_row account commodity units))
            (write.SetPlain (plain_row account commodity units)))) [
              | true ↦ λ old. refl
              | false ↦ λ old. refl
            ]
      ]

  head_leaves : (before : Option ℤ) (account commodity : List ℕ) (day : ℤ)
      → AllByRecursion Leaves (head_written before account commodity day)
  head_leaves None account commodity day = ((λ old. refl), tt)
  head_leaves (Some before) account commodity day =
      elim (int_eq before day) as (λ b. AllByRecursion Leaves (cond b [] (write.SetHead (head_row account commodity day) ∷ []))) [
        | true ↦ tt
        | false ↦ ((λ old. refl), tt)
      ]

  heads_leave : (facts : Facts) (heads : List (Pair × ℤ)) → AllByRecursion Leaves (heads_written facts heads)
  heads_leave facts [] = tt
  heads_leave facts (head ∷ heads) =
      all-append Leaves (head_written (facts.latest_at_cost head.0.account head.0.commodity) head.0.account head.0.commodity head.1)
      (heads_written facts heads)
      (head_leaves (facts.latest_at_cost head.0.account head.0.commodity) head.0.account head.0.commodity head.1) (heads_leave facts heads)

  -- ---- writes of a command

  -- a position is plain, or of another pair
  abbrev IsApart : Position → Type 0
  IsApart p = IfSome p.lot (λ (lot : LotKey). is_of p.account p.commodity ≡ false)

  abbrev IsLegApart : Leg → Type 0
  IsLegApart leg = IsApart leg.position

  listed_leaves : (facts : Facts) (change : Change) (p : Position) → IsApart p → AllByRecursion Leaves (listed_write facts change p)
  listed_leaves facts change p apart = by p.lot apart (units_before facts p) (units_listed facts change p) (get position_cmp change.openings p)
    where
      by : (lot : Option LotKey) → IfSome lot (λ (l : LotKey). is_of p.account p.commodity ≡ false) → (before units : ℤ) (listed : Option ℕ)
          → AllByRecursion Leaves (position_write p.account p.commodity lot before units ∷ opening_written p.account p.commodity lot units listed)
      by None plain before units listed = (plain_leaves p.account p.commodity before units, tt)
      by (Some lot) other before units listed = (
        lot_leaves p.account p.commodity other lot before units,
        numbers_leave p.account p.commodity other lot units listed,
      )

  positions_leave : (facts : Facts) (change : Change) (legs : List Leg) → AllByRecursion IsLegApart legs
      → AllByRecursion Leaves (positions_written facts change legs)
  positions_leave facts change [] apart = tt
  positions_leave facts change (leg ∷ legs) apart =
      all-append Leaves (listed_write facts change leg.position) (positions_written facts change legs)
      (listed_leaves facts change leg.position apart.0) (positions_leave facts change legs apart.1)

  closing_leaves : (closing : ClosingOf) (standing : Option Standing) → AllByRecursion Leaves (closing_written closing standing)
  closing_leaves closing None = tt
  closing_leaves closing (Some standing) = ((λ old. refl), tt)

  own_leave : (facts : Facts) (command : Command) (change : Change) → AllByRecursion IsLegApart change.legs
      → AllByRecursion Leaves (own_writes facts command change)
  own_leave facts (Opening o) change apart =
      ((λ old. refl), all-map Leaves write.Allowed (λ row old. refl) (allowed_rows o.account 0 o.currencies))
  own_leave facts (Closing c) change apart = closing_leaves c (facts.standing c.account)
  own_leave facts (Declaring d) change apart = ((λ old. refl), tt)
  own_leave facts (Quoting q) change apart = ((λ old. refl), tt)
  own_leave facts (Transaction t) change apart =
      all-append Leaves (legs_written change.legs) _ (all-map Leaves _ (λ leg old. refl) change.legs)
      (all-append Leaves (sales_written (suc facts.entries) change.sales) _ (all-map Leaves _ (λ sale old. refl) change.sales)
      (all-append Leaves (positions_written facts change change.legs) _ (positions_leave facts change change.legs apart)
      (heads_leave facts change.heads.entries)))

  -- ---- legs of a command

  -- a pair is another one
  abbrev pub IsOther : Pair → Type 0
  IsOther other = is_of other.account other.commodity ≡ false

  lots_apart : (entry posting : ℕ) (account commodity : List ℕ) (place : ℕ) (lots : List (LotKey × ℤ)) → is_of account commodity ≡ false
      → AllByRecursion IsLegApart (legs_at_lots entry posting account commodity place lots)
  lots_apart entry posting account commodity place [] other = tt
  lots_apart entry posting account commodity place (lot ∷ lots) other =
      (other, lots_apart entry posting account commodity (suc place) lots other)

  line_apart : (line : Line) (cost : Option Cost) (reduces : Bool) (legs : List Leg) → HasLegs line cost reduces legs
      → is_of line.account line.amount.commodity ≡ false → AllByRecursion IsLegApart legs
  line_apart line None reduces legs h other = subst (AllByRecursion IsLegApart) (sym h.1) (tt, tt)
  line_apart line (Some cost) reduces legs h other =
      subst (AllByRecursion IsLegApart) (sym h.2) (lots_apart line.entry line.place line.account line.amount.commodity 0 h.0 other)

  fill_from_apart : (entry posting : ℕ) (account : List ℕ) (place : ℕ) (rs : List (List ℕ × ℤ))
      → AllByRecursion IsLegApart (fill_from entry posting account place rs)
  fill_from_apart entry posting account place [] = tt
  fill_from_apart entry posting account place (r ∷ rs) = (tt, fill_from_apart entry posting account (suc place) rs)

  fill_apart : (entry : ℕ) (elided : List (ℕ × List ℕ)) (rs : List (List ℕ × ℤ)) → AllByRecursion IsLegApart (fill_of entry elided rs)
  fill_apart entry [] rs = tt
  fill_apart entry (first ∷ more) rs = fill_from_apart entry first.0 first.1 0 (left_over rs)

  postings_apart : (ties : TieRule) (facts : Facts) (day : ℤ) (postings : List Posting) (booked : List Booked)
      → BooksAllUnder ties facts day [] 1 postings (All booked) → AllByRecursion IsOther (pairs_of postings)
      → AllByRecursion IsLegApart (legs_in booked)
  postings_apart ties facts day postings booked books =
      over_placed ties facts day
      (λ place before ps bs. AllByRecursion IsOther (pairs_of ps) → AllByRecursion IsLegApart (legs_in bs))
      (λ place before others. tt)
      (λ place before account ps bs rest others. rest others)
      (λ before place account amount ps first more is rest others.
      all-append IsLegApart first.legs (legs_in more)
      (line_apart (line_under ties facts day before place account amount) amount.cost first.reduces first.legs is.legs others.0)
      (rest others.1))
      1 postings [] booked books

  not_refused : (legs : List Leg) (refusal : Refusal) → Accept legs ≡ Refuse refusal → ⊥
  not_refused legs refusal e = cc

  transaction_apart : (ties : TieRule) (facts : Facts) (t : TransactionOf) (refused : Option Refusal) (legs : List Leg)
      → JudgesTransactionUnder ties facts t refused (Accept legs) → AllByRecursion IsOther (pairs_of t.postings)
      → AllByRecursion IsLegApart legs
  transaction_apart ties facts t (Some refusal) legs judges others = absurd (not_refused legs refusal judges)
  transaction_apart ties facts t None legs (Stopped refusal, books, is) others = absurd (not_refused legs refusal is)
  transaction_apart ties facts t None legs (All booked, books, is) others =
      subst (AllByRecursion IsLegApart) (sym (none_holds (first_of (last_conditions facts t booked)) legs (all_legs facts t booked) is).1)
      (all-append IsLegApart (legs_in booked) (fill_legs facts t booked) (postings_apart ties facts t.day t.postings booked books others)
      (fill_apart (suc facts.entries) (elided_postings 1 t.postings) (residuals (weights_in booked))))

  nothing_apart : (legs : List Leg) → legs ≡ [] → AllByRecursion IsLegApart legs
  nothing_apart legs none = subst (AllByRecursion IsLegApart) (sym none) tt

  legs_apart : (ties : TieRule) (facts : Facts) (command : Command) (legs : List Leg) → JudgesUnder ties facts command (Accept legs)
      → AllByRecursion IsOther (pairs_in command) → AllByRecursion IsLegApart legs
  legs_apart ties facts (Opening o) legs judges others = nothing_apart legs (none_holds _ legs [] judges).1
  legs_apart ties facts (Closing c) legs judges others = nothing_apart legs (none_holds _ legs [] judges).1
  legs_apart ties facts (Declaring d) legs judges others = nothing_apart legs (none_holds _ legs [] judges).1
  legs_apart ties facts (Quoting q) legs judges others = nothing_apart legs (none_holds _ legs [] judges).1
  legs_apart ties facts (Transaction t) legs judges others =
      transaction_apart ties facts t (first_of (first_conditions facts t)) legs judges others

  -- ---- an accepted command

  -- the rows of a pair that it doesn't post to are as they were
  pub rows_stay : (known : FactsWithOpenings) (under : KeyOf) (command : Command) (change : Change) (tables : Tables)
      → IsAcceptedWith known command change → AllByRecursion IsOther (pairs_in command)
      → rows_of (written_all (writes_of known.facts under command change) tables) ≡ rows_of tables
  rows_stay known under command change tables accepted others =
      let judges = (key_was_new (ties_on known) known.facts command change.legs known.facts.text accepted.0).1 in
      left-made rows_of (writes_of known.facts under command change) tables
      ((λ old. refl), own_leave known.facts command change (legs_apart (ties_on known) known.facts command change.legs judges others))

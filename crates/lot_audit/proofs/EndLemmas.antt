-- Tables that agree with what is known of their entries stand for a book, by their columns; and the tables of a book agree.
use Rattle.std.specs.Prelude.{◌≡◌, ◌⊎◌, ◌≤◌, ◌<◌, ◌+◌, ℕ, suc, pos, All, List, [], ◌∷◌, ◌++◌, length, map}
use Rattle.std.specs.List.{AllByRecursion}
use Rattle.std.specs.declared.cmp.Ordering.TheVariants.{Less}
use Rattle.std.proofs.Common.{refl, sym, ap, subst, ◌∙◌, arith, inl, inr, append_assoc}
use Rattle.std.proofs.lemmas.Bool.{cases_lt}
use Rattle.std.proofs.lemmas.List.Elements.{All-from_recursion}
use Rattle.sqlite.specs.Order.{Row}
use Rattle.sqlite.specs.State.{State}
use Rattle.sqlite.specs.Tree.{IsAscending, Trees}
use Rattle.sqlite.specs.declared.types.Value.TheVariants.{Int}
use Rattle.lot_book.specs.Book.{IsBookIn}
use Rattle.lot_book.specs.Edition.{After}
use Rattle.lot_book.specs.Facts.{Entry, Facts, legs_of}
use Rattle.lot_command.specs.Sayable.{IsSayable}
use Rattle.lot_table.specs.Book.{AreHeld, BookTable, Holds, Slot}
use Rattle.lot_table.specs.Rows.{HasRows, has_key, key_order, with_key}
use Rattle.lot_rows.specs.Account.{IsAccountRow, account_cells}
use Rattle.lot_rows.specs.Allowed.{IsAllowedRow, allowed_cells}
use Rattle.lot_rows.specs.Book.{book_cells}
use Rattle.lot_rows.specs.Commodity.{IsCommodityRow, commodity_cells}
use Rattle.lot_rows.specs.Entry.{IsEntryRow, entry_cells}
use Rattle.lot_rows.specs.Head.{IsHeadRow, head_cells}
use Rattle.lot_rows.specs.Leg.{IsLegRow, leg_cells}
use Rattle.lot_rows.specs.Lot.{IsLotRow, lot_cells}
use Rattle.lot_rows.specs.Migration.{migration_cells}
use Rattle.lot_rows.specs.Opening.{IsOpeningRow, opening_cells}
use Rattle.lot_rows.specs.Plain.{IsPlainRow, plain_cells}
use Rattle.lot_rows.specs.Price.{IsPriceRow, price_cells}
use Rattle.lot_rows.specs.Sale.{IsSaleRow, sale_cells}
use Rattle.lot_rows.specs.Tables.{Has, Tables, account_table, allowed_table, book_table, commodity_table, entry_table, head_table, layout, leg_table, lot_table, migration_table, opening_table, plain_table, price_table, sale_table}
use Rattle.lot_rows.specs.declared.leg.LegRow.{LegRow}
use Rattle.lot_stored.specs.Kept.{legs_of_posting}
use Rattle.lot_stored.specs.Rows.{entry_rows, leg_row, posting_key, sale_row}
use Rattle.lot_stored.specs.StandFor.{AreOfBook, AreOrdered, StandFor}
use Rattle.lot_stored.proofs.NumberLemmas.{one_longer}
use Rattle.lot_view.specs.View.{known as facts_known}
use Rattle.lot_walk.proofs.CursorLemmas.{unmapped_up}
use Rattle.lot_audit.specs.Agree.{AllAgree, LegsAgree}
use Rattle.lot_audit.specs.Legs.{rows_of}
use Rattle.lot_audit.specs.Pass.{HasJudgedAll, HasLegs, HaveLegs}
use Rattle.lot_audit.specs.Told.{IsOfEntries, RowsTold, TellsAccount, TellsAllowed, TellsCommodity, TellsHead, TellsLot, TellsOpening, TellsPlain, TellsPrice}
use Rattle.lot_audit.specs.Judge.{Agree, AreOfThisEdition}
use Rattle.lot_audit.specs.declared.pass.Replayed.{Replayed}
use Rattle.lot_audit.proofs.GoodLemmas.{one_account, one_allowed, one_commodity, one_head, one_leg, one_lot, one_opening, one_plain, one_price}
use Rattle.lot_audit.proofs.NextLemmas.{is_whole}
use Rattle.lot_audit.proofs.PostingLemmas.{of_posting, own_postings}
use Rattle.lot_audit.proofs.SeenLemmas.{good_filtered}
use Rattle.lot_audit.proofs.StandLemmas.{agree as agree_where_stand, stands}
use Rattle.lot_audit.proofs.TellLemmas.{good_are_told, one_rows, told_of_good}
use Rattle.lot_audit.proofs.ToldLemmas.{accounts_agree, allowed_agree, commodities_agree, heads_agree, held_has_rows, lots_agree, openings_agree, openings_told, plain_agree, prices_agree, rows_told}

-- ---- the same columns

abbrev at : {X : Type 0} → BookTable Tables X → List Row → Slot
at t rows = record { tree = t.table.tree; width = t.width; rows = rows }

module _ (known : Replayed) (tables : Tables) (agree : Agree known tables) where
  -- the rows that were read, all of which a book can have
  abbrev pub read_tables : Tables
  read_tables = record tables {
    account = agree.names.account.good_rows;
    allowed = agree.names.allowed.good_rows;
    commodity = agree.names.commodity.good_rows;
    price = agree.amounts.price.good_rows;
    leg = agree.legs.good_rows;
    lot = agree.amounts.lot.good_rows;
    plain = agree.amounts.plain.good_rows;
    head = agree.names.head.good_rows;
    opening = agree.amounts.opening.good_rows;
  }

  pub same_columns : layout.slots read_tables ≡ layout.slots tables
  same_columns = λ i. at book_table (map book_cells tables.book) ∷ at account_table (agree.names.account.same i) ∷ at allowed_table (agree.names.allowed.same i) ∷ at commodity_table (agree.names.commodity.same i) ∷ at price_table (agree.amounts.price.same i) ∷ at entry_table (map entry_cells tables.entry) ∷ at leg_table (agree.legs.same i) ∷ at sale_table (map sale_cells tables.sale) ∷ at lot_table (agree.amounts.lot.same i) ∷ at plain_table (agree.amounts.plain.same i) ∷ at head_table (agree.names.head.same i) ∷ at opening_table (agree.amounts.opening.same i) ∷ at migration_table (map migration_cells tables.migration) ∷ []

  pub has_columns : (s : State) → Has s tables → Has s read_tables
  has_columns s has = (
    has.0,
    record {
      sound = has.1.sound;
      held = subst (AreHeld s.now.trees) (sym same_columns) has.1.held;
    },
  )

-- ---- the order of rows

up : {X : Type 0} (t : BookTable Tables X) (rows : List X) {stored : List Row} → HasRows t.width stored (map t.encode rows)
    → IsAscending (λ (a b : X). key_order t.width (t.encode a) (t.encode b) ≡ Less) rows
up t rows has = unmapped_up (λ (a b : Row). key_order t.width a b ≡ Less) t.encode rows has.rises

pub in_order : (trees : Trees) (tables : Tables) → Holds layout trees tables → AreOrdered tables
in_order trees tables holds = record {
  account = up account_table tables.account holds.held.1.0;
  allowed = up allowed_table tables.allowed holds.held.1.1.0;
  commodity = up commodity_table tables.commodity holds.held.1.1.1.0;
  price = up price_table tables.price holds.held.1.1.1.1.0;
  entry = up entry_table tables.entry holds.held.1.1.1.1.1.0;
  leg = up leg_table tables.leg holds.held.1.1.1.1.1.1.0;
  sale = up sale_table tables.sale holds.held.1.1.1.1.1.1.1.0;
  lot = up lot_table tables.lot holds.held.1.1.1.1.1.1.1.1.0;
  plain = up plain_table tables.plain holds.held.1.1.1.1.1.1.1.1.1.0;
  head = up head_table tables.head holds.held.1.1.1.1.1.1.1.1.1.1.0;
  opening = up opening_table tables.opening holds.held.1.1.1.1.1.1.1.1.1.1.1.0;
}

-- ---- legs

module _ (place : ℕ) (tables : Tables) (good : All IsLegRow tables.leg) where
  one_entry : (number posting : ℕ) (before more : List Entry) (entry : Entry) → number ≡ suc (length before)
      → IsBookIn (After place) (before ++ entry ∷ more) → HasLegs number entry.legs tables
      → with_key leg_cells 2 (posting_key number posting) tables.leg
      ≡ map leg_row (legs_of_posting number posting (legs_of (before ++ entry ∷ more)))
  one_entry number posting before more entry number_is book has =
      let own = with_key leg_cells 1 (Int (pos number) ∷ []) tables.leg in
      let good_own : All IsLegRow own =
      good_filtered IsLegRow (λ (r : LegRow). has_key 1 (Int (pos number) ∷ []) (leg_cells r)) tables.leg good in
      let one : has.rows ≡ own = one_rows leg_cells IsLegRow one_leg has.rows own has.good good_own has.same in
      of_posting number posting tables.leg
      ∙ ap (rows_of posting) (sym one)
      ∙ has.alike posting
      ∙ ap (map leg_row) (sym (own_postings (After place) before more entry posting book))
      ∙ ap (λ (n : ℕ). map leg_row (legs_of_posting n posting (legs_of (before ++ entry ∷ more)))) (sym number_is)

  each_entry : (number posting first : ℕ) (before rest : List Entry) → first ≡ suc (length before)
      → IsBookIn (After place) (before ++ rest) → HaveLegs first rest tables → first ≤ number → number < first + length rest
      → with_key leg_cells 2 (posting_key number posting) tables.leg
      ≡ map leg_row (legs_of_posting number posting (legs_of (before ++ rest)))
  each_entry number posting first before [] first_is book have from below = absurd (omega (arith, from, below))
  each_entry number posting first before (entry ∷ rest) first_is book have from below =
      by (cases_lt first number) (λ behind.
      each_entry number posting (suc first) (before ++ entry ∷ []) rest (ap suc (first_is ∙ sym (one_longer before entry)))
      (subst (IsBookIn (After place)) (sym (append_assoc before (entry ∷ []) rest)) book) have.1 behind (omega (arith, below)))
    where
      by : (first < number) ⊎ (number ≤ first)
          → (first < number → with_key leg_cells 2 (posting_key number posting) tables.leg
          ≡ map leg_row (legs_of_posting number posting (legs_of ((before ++ entry ∷ []) ++ rest))))
          → with_key leg_cells 2 (posting_key number posting) tables.leg
          ≡ map leg_row (legs_of_posting number posting (legs_of (before ++ entry ∷ rest)))
      by (inl behind) later =
          later behind
          ∙ ap (λ (l : List Entry). map leg_row (legs_of_posting number posting (legs_of l))) (append_assoc before (entry ∷ []) rest)
      by (inr up_to) later =
          let same : number ≡ first = omega (arith, from, up_to) in
          one_entry number posting before rest entry (same ∙ first_is) book
          (subst (λ (n : ℕ). HasLegs n entry.legs tables) (sym same) have.0)

  pub legs_agree : (entries : List Entry) → IsBookIn (After place) entries → HaveLegs 1 entries tables
      → AllByRecursion (IsOfEntries (length entries)) tables.leg → LegsAgree entries tables
  legs_agree entries book have within = record {
    each = within;
    every = λ entry posting from up_to. each_entry entry posting 1 [] entries refl book have from (omega (arith, up_to));
  }

-- ---- what is judged agrees

module _ (known : Replayed) (tables : Tables) (judged : HasJudgedAll known tables) where
  abbrev entries : List Entry
  entries = judged.0

  counted : (facts_known known.replay.view).entries ≡ length entries
  counted = ap (λ (f : Facts). f.entries) judged.2.replays.facts

  -- a book for which they stand is that of these entries
  pub stand_for : AreOfBook tables → (stand : StandFor tables entries) × (stand.place ≡ known.replay.place)
  stand_for = is_whole known.replay.place tables entries judged.2.migration judged.2.replays.book judged.2.said judged.3

  -- its place of migration isn't behind its entries
  pub placed_where_stand : AreOfBook tables → known.replay.place ≤ (facts_known known.replay.view).entries
  placed_where_stand of =
      let it = stand_for of in
      subst (λ (n : ℕ). known.replay.place ≤ n) (sym counted) (subst (λ (p : ℕ). p ≤ length entries) it.1 it.0.placed)

  -- the tables of a book agree
  pub agrees_where_stand : AreOfBook tables → Agree known tables
  agrees_where_stand of =
      let stand = (stand_for of).0 in
      let all : AllAgree stand.place tables entries = agree_where_stand tables entries stand in
      let view = known.replay.view in
      let facts = judged.2.replays.facts in
      let told : RowsTold view known.rates tables =
      rows_told view known.rates tables entries facts judged.2.rates all.account all.allowed all.commodity all.price all.lot
      all.plain all.head
      (openings_told view known.rates tables entries facts judged.2.rates judged.2.replays.openings all.opening) in
      record {
        names = record {
          account = good_are_told account_cells IsAccountRow one_account (TellsAccount view) tables.account stand.good.account told.account;
          allowed = good_are_told allowed_cells IsAllowedRow one_allowed (TellsAllowed view) tables.allowed stand.good.allowed told.allowed;
          commodity = good_are_told commodity_cells IsCommodityRow one_commodity (TellsCommodity view) tables.commodity stand.good.commodity told.commodity;
          head = good_are_told head_cells IsHeadRow one_head (TellsHead view) tables.head stand.good.head told.head;
        };
        amounts = record {
          price = good_are_told price_cells IsPriceRow one_price (TellsPrice known.rates) tables.price stand.good.price told.price;
          lot = good_are_told lot_cells IsLotRow one_lot (TellsLot view) tables.lot stand.good.lot told.lot;
          plain = good_are_told plain_cells IsPlainRow one_plain (TellsPlain view) tables.plain stand.good.plain told.plain;
          opening = good_are_told opening_cells IsOpeningRow one_opening (TellsOpening view) tables.opening stand.good.opening told.opening;
        };
        held = held_has_rows view known.rates tables entries facts judged.2.rates stand;
        legs = good_are_told leg_cells IsLegRow one_leg (IsOfEntries (facts_known view).entries) tables.leg stand.good.leg
            (subst (λ (n : ℕ). AllByRecursion (IsOfEntries n) tables.leg) (sym counted) all.leg.each);
      }

  -- tables of good rows that agree stand for the book
  pub stand_where_agree : (trees : Trees) → Holds layout trees tables → AreOfThisEdition tables
      → known.replay.place ≤ (facts_known known.replay.view).entries → Agree known tables
      → All IsAccountRow tables.account → All IsAllowedRow tables.allowed → All IsCommodityRow tables.commodity
      → All IsHeadRow tables.head → All IsPriceRow tables.price → All IsLotRow tables.lot → All IsPlainRow tables.plain
      → All IsOpeningRow tables.opening → All IsLegRow tables.leg → AreOfBook tables
  stand_where_agree trees holds edition placed agree account allowed commodity head price lot plain opening leg =
      let view = known.replay.view in
      let rates = known.rates in
      let facts = judged.2.replays.facts in
      let keeps = judged.2.rates in
      let have = judged.2.have in
      let numbers = judged.2.replays.openings in
      let up_to = subst (λ (n : ℕ). known.replay.place ≤ n) counted placed in
      let told : RowsTold view rates tables =
      record {
        account = told_of_good account_cells IsAccountRow one_account (TellsAccount view) tables.account account agree.names.account;
        allowed = told_of_good allowed_cells IsAllowedRow one_allowed (TellsAllowed view) tables.allowed allowed agree.names.allowed;
        commodity = told_of_good commodity_cells IsCommodityRow one_commodity (TellsCommodity view) tables.commodity commodity agree.names.commodity;
        price = told_of_good price_cells IsPriceRow one_price (TellsPrice rates) tables.price price agree.amounts.price;
        lot = told_of_good lot_cells IsLotRow one_lot (TellsLot view) tables.lot lot agree.amounts.lot;
        plain = told_of_good plain_cells IsPlainRow one_plain (TellsPlain view) tables.plain plain agree.amounts.plain;
        head = told_of_good head_cells IsHeadRow one_head (TellsHead view) tables.head head agree.names.head;
        opening = told_of_good opening_cells IsOpeningRow one_opening (TellsOpening view) tables.opening opening agree.amounts.opening;
      } in
      let within : AllByRecursion (IsOfEntries (length entries)) tables.leg =
      subst (λ (n : ℕ). AllByRecursion (IsOfEntries n) tables.leg) counted
      (told_of_good leg_cells IsLegRow one_leg (IsOfEntries (facts_known view).entries) tables.leg leg agree.legs) in
      let order = in_order trees tables holds in
      let all : AllAgree known.replay.place tables entries =
      record {
        good = record {
          account = account;
          allowed = allowed;
          commodity = commodity;
          price = price;
          entry = subst (All IsEntryRow) (sym judged.3) (All-from_recursion IsEntryRow (entry_rows 1 entries) judged.2.good);
          leg = leg;
          sale = subst (All IsSaleRow) (sym judged.4) (All-from_recursion IsSaleRow (map sale_row judged.1) judged.2.sold_good);
          lot = lot;
          plain = plain;
          head = head;
          opening = opening;
        };
        ordered = order;
        said = All-from_recursion (λ (entry : Entry). IsSayable entry.command) entries judged.2.said;
        book = edition;
        placed = up_to;
        judged = judged.2.replays.book;
        migration = judged.2.migration;
        entry = judged.3;
        account = accounts_agree view rates tables entries facts keeps have told;
        allowed = allowed_agree view rates tables entries facts keeps have told;
        commodity = commodities_agree view rates tables entries facts keeps have told order.commodity;
        price = prices_agree view rates tables entries facts keeps have told;
        leg = legs_agree known.replay.place tables leg entries judged.2.replays.book judged.2.legs within;
        sales = judged.1;
        sold = judged.2.sold;
        sale = judged.4;
        lot = lots_agree view rates tables entries facts keeps have told agree.held;
        plain = plain_agree view rates tables entries facts keeps have told agree.held;
        opening = openings_agree view rates tables entries facts keeps numbers told agree.held;
        head = heads_agree view rates tables entries facts keeps have told;
      } in (
        entries,
        record { place = known.replay.place; placed = up_to; is = judged.2.replays.book },
        (stands tables entries known.replay.place all).0,
      )

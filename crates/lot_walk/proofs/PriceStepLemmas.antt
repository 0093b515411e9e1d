-- Steps of a walk over prices, from one place to the next.
use Rattle.std.proofs.Common.{◌≡◌, ◌∙◌, ◌++◌, [], ◌∷◌, Bool, true, false, cond, List, Option, Some, None, IfSome, Result, Ok, Err, ℤ, filter, map, option_map, refl, sym, ap, subst}
use Rattle.std.specs.Option.{option_to_list}
use Rattle.std.specs.declared.cmp.Ordering.TheVariants.{Less}
use Rattle.std.proofs.lemmas.List.{append-nil, append_assoc}
use Rattle.sqlite.specs.State.{HasCleanDisk, State}
use Rattle.sqlite_keyed.proofs.ListLemmas.{ascending-filter}
use Rattle.lot_book.specs.Facts.{Entry}
use Rattle.lot_table.specs.Rows.{key_order}
use Rattle.lot_table.specs.declared.fault.Fault.{Fault}
use Rattle.lot_table.specs.declared.fault.Fault.TheVariants.{Damaged, Device}
use Rattle.lot_rows.specs.Price.{IsPriceRow, price_cells}
use Rattle.lot_rows.specs.Tables.{Has, Tables}
use Rattle.lot_rows.specs.declared.price.PriceRow.{PriceRow}
use Rattle.lot_rows.proofs.PriceLemmas.{same_row}
use Rattle.lot_stored.specs.StandFor.{StandFor}
use Rattle.lot_page.specs.Cursor.{IsBehind, Place, Steps as CursorSteps}
use Rattle.lot_walk.specs.Prices.{AreAllPriceRows, ArePrices, ArePricesAt, HasGiven, IsAnyPrice, IsBehindPriceRows, IsBehindPrices, IsRead, Progresses, ProgressesOverRows, StepsOver, before_row, is_by, is_of_pair, last_after, last_rows, price_of, prices_by, progress_of, shown_price, waiting}
use Rattle.lot_walk.specs.Step.{GivesOfRows, IsPrefix, StepGives}
use Rattle.lot_walk.specs.declared.price.PairPrice.{PairPrice}
use Rattle.lot_walk.specs.declared.prices.PricesPlace.{PricesPlace}
use Rattle.lot_walk.specs.declared.prices.PriceStep.{PriceStep}
use Rattle.lot_walk.specs.declared.prices.PriceStep.TheVariants.{Gives, Passed}
use Rattle.lot_walk.proofs.CursorLemmas.{next_left, none_left, suffix_up, unmapped_up}
use Rattle.lot_walk.proofs.LastLemmas.{AreUp, last_rows-next, last_rows-pair, row_cmp}
use Rattle.lot_rows.proofs.StateLemmas.{survives_same}
use Rattle.lot_walk.proofs.PlaceLemmas.{stays_itself}
use Rattle.lot_walk.proofs.PriceLemmas.{are_prices, rows_up}

-- ---- rows that wait, and one more

-- the rows of the table rise, whatever they are
held_up : (s : State) (tables : Tables) → Has s tables → AreUp tables.price
held_up s tables has =
    rows_up tables.price (unmapped_up (λ a b. key_order 3 a b ≡ Less) price_cells tables.price has.1.held.1.1.1.1.0.rises)

-- what waits behind a row, and what is given by it
abbrev Carries : List PriceRow → List PriceRow → List PriceRow → PriceStep → Type 0
Carries done before after Passed = (more : List PriceRow) × (more ++ after ≡ done ++ before) × (last_rows after ≡ last_rows before)
Carries done before after (Gives None) = ⊥
Carries done before after (Gives (Some price)) =
    (last : PriceRow) × (price ≡ price_of last) × ((done ++ last ∷ []) ++ after ≡ done ++ before) × (last_rows before ≡ last ∷ last_rows after)

carries : (done : List PriceRow) (last : Option PriceRow) (row : PriceRow) (others : List PriceRow) (b : Bool)
    → AreUp (option_to_list last ++ cond b (row ∷ others) others)
    → Carries done (option_to_list last ++ cond b (row ∷ others) others) (option_to_list (cond b (Some row) last) ++ others) (cond b (before_row last row) Passed)
carries done last row others false up = (done, refl, refl)
carries done None row others true up = (done, refl, refl)
carries done (Some last) row others true up = by (is_of_pair last row) refl
  where
    by : (c : Bool) → is_of_pair last row ≡ c
        → Carries done (last ∷ row ∷ others) (row ∷ others) (cond c Passed (Gives (Some (price_of last))))
    by true same = (done ++ last ∷ [], append_assoc done (last ∷ []) (row ∷ others), sym (last_rows-pair last row others same))
    by false apart = (last, refl, append_assoc done (last ∷ []) (row ∷ others), last_rows-next last row others up apart)

module _ (tables : Tables) (entries : List Entry) (stand : StandFor tables entries) (day : ℤ) where
  all_given : (given : List PairPrice) → given ≡ prices_by day tables.price → ArePrices entries day given
  all_given given e = subst (ArePrices entries day) (sym e) (are_prices tables entries stand day)

  prefix_given : (place : PricesPlace) (given : List PairPrice) → HasGiven place tables day given → IsPrefix ArePricesAt day entries given
  prefix_given place given has =
      let rest = map price_of (last_rows (waiting place has.left)) in (rest, all_given (given ++ rest) (has.rows ∙ ap (λ d. prices_by d tables.price) has.on))

stood_up : (tables : Tables) (entries : List Entry) → StandFor tables entries → AreUp tables.price
stood_up tables entries stand = rows_up tables.price stand.ordered.price

module _ (tables : Tables) (rising : AreUp tables.price) (day : ℤ) where
  waiting_up : (place : PricesPlace) (done left : List PriceRow) → done ++ waiting place left ≡ filter (is_by place.day) tables.price → AreUp (waiting place left)
  waiting_up place done left e =
      suffix_up (λ a b. row_cmp a b ≡ Less) done (waiting place left) (filter (is_by place.day) tables.price) e
      (ascending-filter (λ a b. row_cmp a b ≡ Less) (is_by place.day) tables.price rising)

  -- ---- a row more

  -- what a place has given once it is behind the row
  abbrev Comes : PricesPlace → List PairPrice → PriceStep → Type 0
  Comes after given Passed = HasGiven after tables day given
  Comes after given (Gives None) = ⊥
  Comes after given (Gives (Some price)) = HasGiven after tables day (given ++ price ∷ [])

  comes : (before after : PricesPlace) (given : List PairPrice) (row : PriceRow) (has : HasGiven before tables day given) (rest : List PriceRow)
      → has.left ≡ row ∷ rest → IsBehind price_cells (has.read ++ row ∷ []) tables.price after.rows → after.is_past_last ≡ false → after.day ≡ before.day
      → after.last ≡ last_after before.day before.last row → Comes after given (progress_of before.day before.last row)
  comes before after given row has rest left behind past on last =
      let b = is_by before.day row in
      let others = filter (is_by before.day) rest in
      let was : waiting before has.left ≡ option_to_list before.last ++ cond b (row ∷ others) others = ap (waiting before) left in
      let is : waiting after rest ≡ option_to_list (cond b (Some row) before.last) ++ others =
      λ i. option_to_list (last i) ++ filter (is_by (on i)) rest in
      let up = subst AreUp was (waiting_up before has.done has.left has.split) in
      by (cond b (before_row before.last row) Passed) (option_to_list before.last ++ cond b (row ∷ others) others)
      (option_to_list (cond b (Some row) before.last) ++ others) was is (carries has.done before.last row others b up)
    where
      made : (given' : List PairPrice) (done : List PriceRow) (now : List PriceRow) → waiting after rest ≡ now → done ++ now ≡ filter (is_by before.day) tables.price
          → given' ++ map price_of (last_rows now) ≡ prices_by before.day tables.price → HasGiven after tables day given'
      made given' done now is split rows = record {
        on = on ∙ has.on;
        read = has.read ++ row ∷ [];
        left = rest;
        all = append_assoc has.read (row ∷ []) rest ∙ ap (λ xs. has.read ++ xs) (sym left) ∙ has.all;
        cursor = subst (λ p. IsRead p (has.read ++ row ∷ []) rest tables.price after.rows) (sym past) behind;
        done = done;
        split = ap (λ xs. done ++ xs) is ∙ split ∙ ap (λ d. filter (is_by d) tables.price) (sym on);
        rows = ap (λ xs. given' ++ map price_of (last_rows xs)) is ∙ rows ∙ ap (λ d. prices_by d tables.price) (sym on);
      }

      by : (progress : PriceStep) (then now : List PriceRow) → waiting before has.left ≡ then → waiting after rest ≡ now → Carries has.done then now progress
          → Comes after given progress
      by Passed then now was is c =
          made given c.0 now is (c.1 ∙ ap (λ xs. has.done ++ xs) (sym was) ∙ has.split)
          (ap (λ xs. given ++ map price_of xs) (c.2 ∙ ap last_rows (sym was)) ∙ has.rows)
      by (Gives None) then now was is c = absurd c
      by (Gives (Some price)) then now was is c =
          made (given ++ price ∷ []) (has.done ++ c.0 ∷ []) now is (c.2 ∙ ap (λ xs. has.done ++ xs) (sym was) ∙ has.split)
          (append_assoc given (price ∷ []) (map price_of (last_rows now))
          ∙ ap (λ p. given ++ p ∷ map price_of (last_rows now)) c.1
          ∙ ap (λ xs. given ++ map price_of xs) (sym (ap last_rows was ∙ c.3))
          ∙ has.rows)

  -- ---- the end

  -- with no row left the last one that waits is given, and then none
  ends : (before after : PricesPlace) (given : List PairPrice) (last : Option PriceRow) (has : HasGiven before tables day given) → has.left ≡ [] → before.last ≡ last
      → after.is_past_last ≡ true → after.day ≡ before.day → after.last ≡ None
      → elim last as (λ _. Type 0) [ None ↦ AreAllPriceRows day tables given | Some row ↦ HasGiven after tables day (given ++ price_of row ∷ []) ]
  ends before after given None has left at past on gone =
      let none : waiting before has.left ≡ [] = λ i. option_to_list (at i) ++ filter (is_by before.day) (left i) in
      sym (append-nil given) ∙ ap (λ xs. given ++ map price_of (last_rows xs)) (sym none) ∙ has.rows ∙ ap (λ d. prices_by d tables.price) has.on
  ends before after given (Some row) has left at past on gone =
      let was : waiting before has.left ≡ row ∷ [] = λ i. option_to_list (at i) ++ filter (is_by before.day) (left i) in
      let is : waiting after [] ≡ [] = λ i. option_to_list (gone i) ++ [] in
      record {
        on = on ∙ has.on;
        read = tables.price;
        left = [];
        all = append-nil tables.price;
        cursor = subst (λ p. IsRead p tables.price [] tables.price after.rows) (sym past) refl;
        done = has.done ++ row ∷ [];
        split =
            ap (λ xs. (has.done ++ row ∷ []) ++ xs) is
            ∙ append-nil (has.done ++ row ∷ [])
            ∙ ap (λ xs. has.done ++ xs) (sym was)
            ∙ has.split
            ∙ ap (λ d. filter (is_by d) tables.price) (sym on);
        rows =
            ap (λ xs. (given ++ price_of row ∷ []) ++ map price_of (last_rows xs)) is
            ∙ append-nil (given ++ price_of row ∷ [])
            ∙ ap (λ xs. given ++ map price_of (last_rows xs)) (sym was)
            ∙ has.rows
            ∙ ap (λ d. prices_by d tables.price) (sym on);
      }

-- ---- steps

abbrev unread : Fault → Result (Option PriceRow) Fault
unread fault = Err fault

abbrev pub ReadsRow : PricesPlace → PricesPlace → State → State → Result (Option PriceRow) Fault → Type 0
ReadsRow before after = CursorSteps price_cells IsPriceRow (λ (b : Tables). b.price) before.rows after.rows

behind_rows : (before : PricesPlace) (tables : Tables) (day : ℤ) (given : List PairPrice) (has : HasGiven before tables day given) → before.is_past_last ≡ false
    → IsBehind price_cells has.read tables.price before.rows
behind_rows before tables day given has past = subst (λ p. IsRead p has.read has.left tables.price before.rows) past has.cursor

-- the row that is given is the next
next_row : (before : PricesPlace) (tables : Tables) (day : ℤ) (given : List PairPrice) (has : HasGiven before tables day given) (row : PriceRow) (cursor : Place)
    → IsBehind price_cells (has.read ++ row ∷ []) tables.price cursor → (rest : List PriceRow) × (has.left ≡ row ∷ rest)
next_row before tables day given has row cursor behind =
    let next = next_left price_cells has.read has.left tables.price row cursor has.all behind in
    (next.1, next.2 ∙ ap (λ x. x ∷ next.1) (sym (same_row row next.0 next.3)))

module _ (before after : PricesPlace) (old new : State) (reading : before.is_past_last ≡ false) where
  module _ (row : PriceRow) (reads : ReadsRow before after old new (Ok (Some row))) (past : after.is_past_last ≡ before.is_past_last) (on : after.day ≡ before.day)
      (last : after.last ≡ last_after before.day before.last row) where
    come : HasCleanDisk new → (tables : Tables) → Has old tables → (rising : AreUp tables.price) (day : ℤ) (given : List PairPrice)
        → HasGiven before tables day given → Comes tables rising day after given (progress_of before.day before.last row)
    come clean tables has rising day given was =
        let behind = reads.gives clean tables has was.read (behind_rows before tables day given was reading) in
        let next = next_row before tables day given was row after.rows behind in
        comes tables rising day before after given row was next.0 next.1 behind (past ∙ reading) on last

    comes_to : (progress : PriceStep) → progress ≡ progress_of before.day before.last row → HasCleanDisk new → (tables : Tables) → Has old tables
        → (rising : AreUp tables.price) (day : ℤ) (given : List PairPrice) → HasGiven before tables day given → Comes tables rising day after given progress
    comes_to progress is clean tables has rising day given was = subst (Comes tables rising day after given) (sym is) (come clean tables has rising day given was)

    pub row_read : (progress : PriceStep) → progress ≡ progress_of before.day before.last row → Progresses before after old new (Ok progress)
    row_read Passed is = record {
      keeps = λ clean tables entries has book stand day given was. comes_to Passed is clean tables has (stood_up tables entries stand) day given was;
      same = reads.same;
      survives = reads.crash;
    }
    row_read (Gives found) is = record {
      gives = λ clean tables entries has book stand day given was.
          given_row found tables entries stand day given (comes_to (Gives found) is clean tables has (stood_up tables entries stand) day given was);
      good = good_price found;
      same = reads.same;
      damaged = λ clean e. cc;
      failed = λ clean e. cc;
      crash = reads.crash;
    }
      where
        given_row : (found : Option PairPrice) (tables : Tables) (entries : List Entry) (stand : StandFor tables entries) (day : ℤ) (given : List PairPrice)
            → Comes tables (stood_up tables entries stand) day after given (Gives found)
            → StepGives shown_price IsAnyPrice ArePricesAt IsBehindPrices after tables day entries given found
        given_row None tables entries stand day given none = absurd none
        given_row (Some price) tables entries stand day given has = (has, prefix_given tables entries stand day after (given ++ price ∷ []) has)

        good_price : (found : Option PairPrice) → IfSome found IsAnyPrice
        good_price None = tt
        good_price (Some price) = tt

    pub row_read_over : (progress : PriceStep) → progress ≡ progress_of before.day before.last row → ProgressesOverRows before after old new (Ok progress)
    row_read_over Passed is = λ clean tables has day given was. comes_to Passed is clean tables has (held_up old tables has) day given was
    row_read_over (Gives None) is = λ clean tables has day given was. absurd (comes_to (Gives None) is clean tables has (held_up old tables has) day given was)
    row_read_over (Gives (Some price)) is = λ clean tables has day given was. comes_to (Gives (Some price)) is clean tables has (held_up old tables has) day given was

  pub row_unread : (fault : Fault) → ReadsRow before after old new (Err fault) → StepsOver before after old new (Err fault)
  row_unread fault reads = record {
    gives = λ clean. tt;
    good = tt;
    same = λ clean. tt;
    damaged = λ clean is limit tables entries has book stand day given was.
        let of : unread fault ≡ Err Damaged = cc in
        reads.damaged clean of limit tables has was.read (behind_rows before tables day given was reading) stand.good.price;
    failed = λ clean is. let of : unread fault ≡ Err Device = cc in reads.device clean of;
    crash = reads.crash;
  }

-- what is given once no row is left
end_over : (before after : PricesPlace) (tables : Tables) (rising : AreUp tables.price) (day : ℤ) (given : List PairPrice) (last : Option PriceRow)
    (has : HasGiven before tables day given) → has.left ≡ [] → before.last ≡ last → after.is_past_last ≡ true → after.day ≡ before.day → after.last ≡ None
    → GivesOfRows shown_price AreAllPriceRows IsBehindPriceRows after tables day given (option_map price_of last)
end_over before after tables rising day given None has left at past on gone = ends tables rising day before after given None has left at past on gone
end_over before after tables rising day given (Some row) has left at past on gone = ends tables rising day before after given (Some row) has left at past on gone

-- and that in tables which stand for a book
end_gives : (before after : PricesPlace) (tables : Tables) (entries : List Entry) (stand : StandFor tables entries) (day : ℤ) (given : List PairPrice) (last : Option PriceRow)
    (has : HasGiven before tables day given) → has.left ≡ [] → before.last ≡ last → after.is_past_last ≡ true → after.day ≡ before.day → after.last ≡ None
    → StepGives shown_price IsAnyPrice ArePricesAt IsBehindPrices after tables day entries given (option_map price_of last)
end_gives before after tables entries stand day given None has left at past on gone =
    all_given tables entries stand day given (end_over before after tables (stood_up tables entries stand) day given None has left at past on gone)
end_gives before after tables entries stand day given (Some row) has left at past on gone =
    let next = end_over before after tables (stood_up tables entries stand) day given (Some row) has left at past on gone in
    (next, prefix_given tables entries stand day after (given ++ price_of row ∷ []) next)

good_last : (last : Option PriceRow) → IfSome (option_map price_of last) IsAnyPrice
good_last None = tt
good_last (Some row) = tt

-- behind the last row, which was read before
pub end_reached : (before after : PricesPlace) (s : State) (last : Option PriceRow) → before.last ≡ last → before.is_past_last ≡ true → after.is_past_last ≡ before.is_past_last
    → after.day ≡ before.day → after.last ≡ None → StepsOver before after s s (Ok (option_map price_of last))
end_reached before after s last at past still on gone = record {
  gives = λ clean tables entries has book stand day given was.
      end_gives before after tables entries stand day given last was (subst (λ p. IsRead p was.read was.left tables.price before.rows) past was.cursor) at
      (still ∙ past) on gone;
  good = good_last last;
  same = λ clean. stays_itself s;
  damaged = λ clean is. cc;
  failed = λ clean is. cc;
  crash = survives_same s _;
}

-- or which turns out to have been the last
pub end_read : (before after : PricesPlace) (old new : State) (last : Option PriceRow) → before.is_past_last ≡ false → ReadsRow before after old new (Ok None) → before.last ≡ last
    → after.is_past_last ≡ true → after.day ≡ before.day → after.last ≡ None → StepsOver before after old new (Ok (option_map price_of last))
end_read before after old new last reading reads at past on gone = record {
  gives = λ clean tables entries has book stand day given was.
      let all = reads.gives clean tables has was.read (behind_rows before tables day given was reading) in
      end_gives before after tables entries stand day given last was (none_left price_cells was.read was.left tables.price was.all all) at past on gone;
  good = good_last last;
  same = reads.same;
  damaged = λ clean is. cc;
  failed = λ clean is. cc;
  crash = reads.crash;
}

pub end_reached_over : (before after : PricesPlace) (s : State) (last : Option PriceRow) → before.last ≡ last → before.is_past_last ≡ true
    → after.is_past_last ≡ before.is_past_last → after.day ≡ before.day → after.last ≡ None → ProgressesOverRows before after s s (Ok (Gives (option_map price_of last)))
end_reached_over before after s last at past still on gone = λ clean tables has day given was.
    end_over before after tables (held_up s tables has) day given last was (subst (λ p. IsRead p was.read was.left tables.price before.rows) past was.cursor) at
    (still ∙ past) on gone

pub end_read_over : (before after : PricesPlace) (old new : State) (last : Option PriceRow) → before.is_past_last ≡ false → ReadsRow before after old new (Ok None)
    → before.last ≡ last → after.is_past_last ≡ true → after.day ≡ before.day → after.last ≡ None
    → ProgressesOverRows before after old new (Ok (Gives (option_map price_of last)))
end_read_over before after old new last reading reads at past on gone = λ clean tables has day given was.
    let all = reads.gives clean tables has was.read (behind_rows before tables day given was reading) in
    end_over before after tables (held_up old tables has) day given last was (none_left price_cells was.read was.left tables.price was.all all) at past on gone

-- before the first row
pub has_none : (place : PricesPlace) (tables : Tables) (day : ℤ) → place.day ≡ day → place.last ≡ None → place.is_past_last ≡ false
    → IsBehind price_cells [] tables.price place.rows → HasGiven place tables day []
has_none place tables day on last past first = record {
  on = on;
  read = [];
  left = tables.price;
  all = refl;
  cursor = subst (λ p. IsRead p [] tables.price tables.price place.rows) (sym past) first;
  done = [];
  split = ap (λ o. option_to_list o ++ filter (is_by place.day) tables.price) last;
  rows = ap (λ o. map price_of (last_rows (option_to_list o ++ filter (is_by place.day) tables.price))) last;
}

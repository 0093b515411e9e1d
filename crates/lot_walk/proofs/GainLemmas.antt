-- Steps of a walk over sales, from one place to the next.
use Rattle.std.proofs.Common.{◌≡◌, ◌∙◌, ◌++◌, ◌&&◌, [], ◌∷◌, ℕ, true, false, cond, filter, List, map, Option, Some, None, Result, Ok, Err, refl, sym, ap, subst, inl}
use Rattle.std.proofs.lemmas.List.{append-nil, append_assoc, map-append}
use Rattle.std.proofs.lemmas.List.Elements.{filter-append}
use Rattle.sqlite.specs.State.{HasCleanDisk, State}
use Rattle.sqlite_rules.proofs.ListLemmas.{all_has, has_right}
use Rattle.lot_book.specs.Book.{IsBook}
use Rattle.lot_book.specs.Edition.{After}
use Rattle.lot_book.specs.Facts.{Entry}
use Rattle.lot_book.specs.Sale.{AreLegsOf, SaleParts}
use Rattle.lot_table.specs.declared.fault.Fault.{Fault}
use Rattle.lot_table.specs.declared.fault.Fault.TheVariants.{Damaged, Device}
use Rattle.lot_rows.specs.Sale.{IsSaleRow, sale_cells}
use Rattle.lot_rows.specs.Tables.{Has, Tables}
use Rattle.lot_rows.specs.declared.sale.SaleRow.{SaleRow}
use Rattle.lot_page.specs.Cursor.{IsBehind, Steps as CursorSteps}
use Rattle.lot_stored.specs.Kept.{SalesOf}
use Rattle.lot_stored.specs.Rows.{leg_row, sale_row}
use Rattle.lot_stored.specs.StandFor.{StandFor}
use Rattle.lot_walk.specs.Gains.{AreSalesWithin, HasLegs, IsBehindSales, Range, is_from, is_up_to, is_within, numbered_sale, sale_with, sold_within}
use Rattle.lot_walk.specs.Place.{Went}
use Rattle.lot_walk.specs.SaleStep.{HasRowsOf, TellsSale}
use Rattle.lot_walk.specs.Step.{IsPrefix, StaysOrGoesBack, Steps}
use Rattle.lot_walk.specs.declared.gains.GainsPlace.{GainsPlace}
use Rattle.lot_walk.specs.declared.gains.NumberedSale.{NumberedSale}
use Rattle.lot_walk.proofs.CursorLemmas.{next_left, none_left}
use Rattle.lot_rows.proofs.StateLemmas.{early, survives_both}
use Rattle.lot_walk.proofs.PlaceLemmas.{failed_after, has_still, stays_then, unchanged_stays}
use Rattle.lot_walk.proofs.SaleLegLemmas.{sale_legs}
use Rattle.lot_walk.proofs.SaleRowLemmas.{one_sale_row}
use Rattle.lot_walk.proofs.StepLemmas.{left_then}

abbrev Sold : Type 0
Sold = ℕ × (ℕ × SaleParts)

-- ---- rows of sales, in their order

first_sold : (row : SaleRow) (rest : List SaleRow) (others : List Sold) → map sale_row others ≡ row ∷ rest → (next : Sold) × (more : List Sold) × (others ≡ next ∷ more) × (row ≡ sale_row next)
first_sold row rest [] e = absurd cc
first_sold row rest (next ∷ more) e = let same : row ≡ sale_row next = cc in (next, more, refl, same)

none_sold : (others : List Sold) → map sale_row others ≡ [] → others ≡ []
none_sold [] e = refl
none_sold (next ∷ more) e = absurd cc

within_next : (range : Range) (sold : List Sold) (next : Sold) → sold_within range (sold ++ next ∷ []) ≡ sold_within range sold ++ cond (is_within range next.1.1.day) (numbered_sale next ∷ []) []
within_next range sold next =
    ap (filter (λ (s : NumberedSale). is_within range s.sale.day)) (map-append numbered_sale sold (next ∷ []))
    ∙ filter-append (λ (s : NumberedSale). is_within range s.sale.day) (map numbered_sale sold) (numbered_sale next ∷ [])

within_all : (range : Range) (sold others : List Sold) → sold_within range (sold ++ others) ≡ sold_within range sold ++ sold_within range others
within_all range sold others =
    ap (filter (λ (s : NumberedSale). is_within range s.sale.day)) (map-append numbered_sale sold others)
    ∙ filter-append (λ (s : NumberedSale). is_within range s.sale.day) (map numbered_sale sold) (map numbered_sale others)

prefix_of : (place : GainsPlace) (tables : Tables) (range : Range) (entries : List Entry) (given : List NumberedSale) → IsBehindSales place tables range entries given
    → IsPrefix AreSalesWithin range entries given
prefix_of place tables range entries given b =
    (sold_within range b.others, (b.book, b.sold ++ b.others, b.of_book, ap (λ l. l ++ sold_within range b.others) b.within ∙ sym (within_all range b.sold b.others)))

-- ---- a row more

-- a place behind a row has read the sale of that row
record HasRead (after : GainsPlace) (tables : Tables) (range : Range) (entries : List Entry) (given : List NumberedSale) (row : SaleRow) : Type 0 where
  next : Sold
  is : row ≡ sale_row next
  sold : List Sold
  others : List Sold
  book : IsBook entries
  of_book : SalesOf (After book.place) entries (sold ++ next ∷ others)
  behind : (more : List NumberedSale) → given ++ cond (is_within range next.1.1.day) (numbered_sale next ∷ []) [] ≡ more → IsBehindSales after tables range entries more

-- the rows that were read, and those that are left
rows_split : (place : GainsPlace) (tables : Tables) (range : Range) (entries : List Entry) (given : List NumberedSale) (b : IsBehindSales place tables range entries given)
    → map sale_row b.sold ++ map sale_row b.others ≡ tables.sale
rows_split place tables range entries given b = sym (map-append sale_row b.sold b.others) ∙ sym b.rows

module _ (before after : GainsPlace) (first : after.first ≡ before.first) (last : after.last ≡ before.last) where
  has_read : (tables : Tables) (range : Range) (entries : List Entry) (given : List NumberedSale) (row : SaleRow) (b : IsBehindSales before tables range entries given)
      → IsBehind sale_cells (map sale_row b.sold ++ row ∷ []) tables.sale after.cursor → HasRead after tables range entries given row
  has_read tables range entries given row b behind =
      let left = next_left sale_cells (map sale_row b.sold) (map sale_row b.others) tables.sale row after.cursor (rows_split before tables range entries given b) behind in
      let n = first_sold left.0 left.1 b.others left.2 in
      let is : row ≡ sale_row n.0 = one_sale_row row left.0 left.3 ∙ n.3 in
      let all : b.sold ++ b.others ≡ (b.sold ++ n.0 ∷ []) ++ n.1 = ap (λ l. b.sold ++ l) n.2 ∙ sym (append_assoc b.sold (n.0 ∷ []) n.1) in
      let rows : map sale_row b.sold ++ row ∷ [] ≡ map sale_row (b.sold ++ n.0 ∷ []) = ap (λ (r : SaleRow). map sale_row b.sold ++ r ∷ []) is ∙ sym (map-append sale_row b.sold (n.0 ∷ [])) in
      record {
        next = n.0;
        is = is;
        sold = b.sold;
        others = n.1;
        book = b.book;
        of_book = subst (SalesOf (After b.book.place) entries) (ap (λ l. b.sold ++ l) n.2) b.of_book;
        behind = λ more grows. record {
          first = first ∙ b.first;
          last = last ∙ b.last;
          sold = b.sold ++ n.0 ∷ [];
          others = n.1;
          book = b.book;
          of_book = subst (SalesOf (After b.book.place) entries) all b.of_book;
          rows = b.rows ∙ ap (map sale_row) all;
          read = subst (λ (l : List SaleRow). IsBehind sale_cells l tables.sale after.cursor) rows behind;
          within = sym grows ∙ ap (λ l. l ++ cond (is_within range n.0.1.1.day) (numbered_sale n.0 ∷ []) []) b.within ∙ sym (within_next range b.sold n.0);
        };
      }

-- the legs of the sale of a row are in the table `leg`
has_rows : (after : GainsPlace) (tables : Tables) (range : Range) (entries : List Entry) (given : List NumberedSale) (row : SaleRow) → StandFor tables entries
    → (n : HasRead after tables range entries given row) → AreLegsOf row.units n.next.1.1.legs × HasRowsOf row tables n.next.1.1.legs
has_rows after tables range entries given row stand n =
    let its = all_has _ (n.sold ++ n.next ∷ n.others) n.next (sale_legs (After n.book.place) entries (n.sold ++ n.next ∷ n.others) n.book.is n.of_book) (has_right n.sold (n.next ∷ n.others) n.next (inl refl)) in
    let legs : HasRowsOf (sale_row n.next) tables n.next.1.1.legs = record {
      account = n.next.1.1.account;
      commodity = n.next.1.1.commodity;
      rows = stand.leg n.next.0 n.next.1.0 ∙ ap (map leg_row) its.1;
      good = stand.good.leg;
    } in (
      subst (λ (r : SaleRow). AreLegsOf r.units n.next.1.1.legs) (sym n.is) its.0,
      subst (λ (r : SaleRow). HasRowsOf r tables n.next.1.1.legs) (sym n.is) legs,
    )

-- ---- steps

abbrev pub ReadsSale : GainsPlace → GainsPlace → State → State → Result (Option SaleRow) Fault → Type 0
ReadsSale before after = CursorSteps sale_cells IsSaleRow (λ (b : Tables). b.sale) before.cursor after.cursor

abbrev pub StepsOver : GainsPlace → GainsPlace → State → State → Result (Option NumberedSale) Fault → Type 0
StepsOver = Steps (λ (sold : NumberedSale). sold) HasLegs AreSalesWithin IsBehindSales Damaged Device

-- the sale of a row, with the posting that it is
abbrev pub sold_by : SaleRow → SaleParts → NumberedSale
sold_by row sale = record { entry = row.entry; posting = row.posting; sale = sale }

abbrev unread : Fault → Result (Option SaleRow) Fault
unread fault = Err fault

abbrev untold : Fault → Result SaleParts Fault
untold fault = Err fault

module _ (before after : GainsPlace) (old new : State) where
  pub sale_none : ReadsSale before after old new (Ok None) → StepsOver before after old new (Ok None)
  sale_none reads = record {
    gives = λ clean tables entries has book stand range given b.
        let all = reads.gives clean tables has (map sale_row b.sold) b.read in
        let none = none_sold b.others (none_left sale_cells (map sale_row b.sold) (map sale_row b.others) tables.sale (rows_split before tables range entries given b) all) in
        (b.book, b.sold ++ b.others, b.of_book, b.within ∙ ap (sold_within range) (sym (append-nil b.sold) ∙ ap (λ l. b.sold ++ l) (sym none)));
    good = tt;
    same = reads.same;
    damaged = λ clean is. cc;
    failed = λ clean is. cc;
    crash = reads.crash;
  }

  pub sale_unread : (fault : Fault) → ReadsSale before after old new (Err fault) → StepsOver before after old new (Err fault)
  sale_unread fault reads = record {
    gives = λ clean. tt;
    good = tt;
    same = λ clean. tt;
    damaged = λ clean is limit tables entries has book stand range given b.
        let of : unread fault ≡ Err Damaged = cc in
        reads.damaged clean of limit tables has (map sale_row b.sold) b.read stand.good.sale;
    failed = λ clean is. let of : unread fault ≡ Err Device = cc in reads.device clean of;
    crash = reads.crash;
  }

  module _ (first : after.first ≡ before.first) (last : after.last ≡ before.last) (row : SaleRow) (reads : ReadsSale before after old new (Ok (Some row))) where
    sale_next : HasCleanDisk new → (tables : Tables) (entries : List Entry) → Has old tables → (range : Range) (given : List NumberedSale) → IsBehindSales before tables range entries given
        → HasRead after tables range entries given row
    sale_next clean tables entries has range given b = has_read before after first last tables range entries given row b (reads.gives clean tables has (map sale_row b.sold) b.read)

    is_day : (tables : Tables) (range : Range) (entries : List Entry) (given : List NumberedSale) → IsBehindSales before tables range entries given
        → (n : HasRead after tables range entries given row) → is_within range n.next.1.1.day ≡ is_within (before.first, before.last) row.day
    is_day tables range entries given b n =
        ap (λ (r : SaleRow). is_within range r.day) (sym n.is) ∙ sym (λ i. is_from (b.first i) row.day && is_up_to (b.last i) row.day)

    -- a sale of another day is passed over
    pub sale_passed : is_within (before.first, before.last) row.day ≡ false → Went IsBehindSales before after old new
    sale_passed out = record {
      keeps = λ clean tables entries has book stand range given b.
          let n = sale_next clean tables entries has range given b in
          n.behind given (ap (λ x. given ++ cond x (numbered_sale n.next ∷ []) []) (is_day tables range entries given b n ∙ out) ∙ append-nil given);
      same = reads.same;
      survives = reads.crash;
    }

    -- the legs of another are read
    module _ (end : State) where
      pub sale_given : (sale : SaleParts) → is_within (before.first, before.last) row.day ≡ true → TellsSale row new end (Ok sale)
          → StepsOver before after old end (Ok (Some (sold_by row sale)))
      sale_given sale within tells = record {
        gives = λ clean tables entries has book stand range given b.
            let was = early new end tells.crash clean in
            let n = sale_next was tables entries has range given b in
            let its = has_rows after tables range entries given row stand n in
            let legs : sale ≡ sale_with row n.next.1.1.legs = tells.says clean tables (has_still old new tables (reads.same was) has) n.next.1.1.legs its.1 in
            let is : sold_by row sale ≡ numbered_sale n.next =
            ap (sold_by row) legs ∙ ap (λ (r : SaleRow). sold_by r (sale_with r n.next.1.1.legs)) n.is in
            let behind = n.behind (given ++ sold_by row sale ∷ [])
            (ap (λ x. given ++ cond x (numbered_sale n.next ∷ []) []) (is_day tables range entries given b n ∙ within) ∙ ap (λ s. given ++ s ∷ []) (sym is)) in
            (behind, prefix_of after tables range entries (given ++ sold_by row sale ∷ []) behind);
        good = tells.good;
        same = λ clean. stays_then old new end (reads.same (early new end tells.crash clean)) (unchanged_stays new end (tells.same clean));
        damaged = λ clean is. cc;
        failed = λ clean is. cc;
        crash = survives_both old new end reads.crash tells.crash;
      }

      pub sale_untold : (fault : Fault) → TellsSale row new end (Err fault) → StepsOver before after old end (Err fault)
      sale_untold fault tells = record {
        gives = λ clean. tt;
        good = tt;
        same = λ clean. tt;
        damaged = λ clean is limit tables entries has book stand range given b.
            let was = early new end tells.crash clean in
            let of : untold fault ≡ Err Damaged = cc in
            let n = sale_next was tables entries has range given b in
            let its = has_rows after tables range entries given row stand n in
            tells.damaged clean of (reads.crash.limit ∙ limit) tables (has_still old new tables (reads.same was) has) n.next.1.1.legs its.0 its.1;
        failed = λ clean is.
            let of : untold fault ≡ Err Device = cc in
            failed_after old new end (reads.same (early new end tells.crash clean)) reads.crash (tells.device clean of);
        crash = survives_both old new end reads.crash tells.crash;
      }

      pub untold_left : (fault : Fault) → TellsSale row new end (Err fault) → HasCleanDisk end → StaysOrGoesBack old end
      untold_left fault tells clean = left_then old new end (reads.same (early new end tells.crash clean)) (tells.left clean)

-- ---- the walk

pub went_then : (before mid after : GainsPlace) (old now new : State) → Went IsBehindSales before mid old now → Went IsBehindSales mid after now new → Went IsBehindSales before after old new
went_then before mid after old now new one two = record {
  keeps = λ clean tables entries has book stand range given b.
      let was = early now new two.survives clean in
      two.keeps clean tables entries (has_still old now tables (one.same was) has) book stand range given (one.keeps was tables entries has book stand range given b);
  same = λ clean. stays_then old now new (one.same (early now new two.survives clean)) (two.same clean);
  survives = survives_both old now new one.survives two.survives;
}

-- tables that stand for entries say their place of migration
abbrev book_of : (tables : Tables) (entries : List Entry) → StandFor tables entries → IsBook entries
book_of tables entries stand = record { place = stand.place; placed = stand.placed; is = stand.judged }

-- before the first row nothing was given
pub sold_none : (place : GainsPlace) (tables : Tables) (range : Range) (entries : List Entry) → place.first ≡ range.0 → place.last ≡ range.1 → StandFor tables entries
    → IsBehind sale_cells [] tables.sale place.cursor → IsBehindSales place tables range entries []
sold_none place tables range entries first last stand start = record {
  first = first;
  last = last;
  sold = [];
  others = stand.sales;
  book = book_of tables entries stand;
  of_book = stand.sold;
  rows = stand.sale;
  read = start;
  within = refl;
}

pub sold_prefix : (tables : Tables) (range : Range) (entries : List Entry) → StandFor tables entries → IsPrefix AreSalesWithin range entries []
sold_prefix tables range entries stand = (sold_within range stand.sales, (book_of tables entries stand, stand.sales, stand.sold, refl))

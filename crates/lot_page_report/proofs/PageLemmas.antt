-- A page that is written part by part.
use Rattle.std.specs.Prelude.{OnOk, Result, Ok, Err, codes, false}
use Rattle.std.specs.Io.KnownBytes.{Appends}
use Rattle.std.specs.List.{AllByRecursion}
use Rattle.std.proofs.Common.{◌≡◌, ◌∙◌, ℕ, List, [], ◌∷◌, ◌++◌, map, Option, None, ap, inl, inr, refl, sym, subst, append-nil, append_assoc}
use Rattle.std.proofs.KnownBytes.{Appends-nil, Appends-trans}
use Rattle.std.proofs.lemmas.Bool.{true≢false}
use Rattle.lot_book.specs.Facts.{Entry}
use Rattle.lot_book_report.proofs.PriceLemmas.{all_valued}
use Rattle.lot_book_report.specs.Fault.{HasCause, is_of_writer}
use Rattle.lot_book_report.specs.Gains.{sale_in}
use Rattle.lot_book_report.specs.declared.fault.ShowFault.{ShowFault}
use Rattle.lot_book_report.specs.declared.fault.ShowFault.TheVariants.{Row as AtRow, Walk as AtWalk}
use Rattle.lot_io.specs.Writes.{NoneFailed, WriteCalls, WritesMade}
use Rattle.lot_months.specs.Series.{shown}
use Rattle.lot_plot.specs.Plot.{all_of}
use Rattle.lot_report.specs.Written.{WritesLine}
use Rattle.lot_report.specs.declared.fault.RowFault.{RowFault}
use Rattle.lot_report.specs.declared.line.PrintFault.{PrintFault}
use Rattle.lot_report.specs.declared.line.PrintFault.TheVariants.{Memory, Write}
use Rattle.lot_rows.specs.Tables.{Tables}
use Rattle.lot_rows.specs.declared.entry.EntryRow.{EntryRow}
use Rattle.lot_stored.specs.Rows.{entry_rows}
use Rattle.lot_walk.specs.Gains.{AreAllSaleRows, AreSalesWithin, HasLegs}
use Rattle.lot_walk.specs.Prices.{prices_by}
use Rattle.lot_walk.specs.declared.gains.NumberedSale.{NumberedSale}
use Rattle.lot_page_report.proofs.BalanceLemmas.{page_balanced}
use Rattle.lot_page_report.proofs.ListLemmas.{list_split}
use Rattle.lot_page_report.specs.Counted.{HasCounted, days_in}
use Rattle.lot_page_report.specs.List.{Lists, ListsRows}
use Rattle.lot_page_report.specs.Made.{IsPageOfBook, IsPageOfTables}
use Rattle.lot_page_report.specs.Page.{AtEntry, AtSale, AtStart, IsPageText, MayStopAt, ShowsPageOfTables, ShowsText, WritesPage, WritesSomePage, doctype}
use Rattle.lot_page_report.specs.Parts.{ArePartsOf, AreRowsOf, PageOf, Parts, covered_by, days_of, price_day}
use Rattle.lot_page_report.specs.Sections.{IsTextOf, IsTop, commodities_html, entry_piece, held_html, journal_end, journal_html, no_lots_note, pieces_behind, sale_piece, sales_end, sales_html}
use Rattle.lot_page_report.specs.Shown.{ListsEntries, ListsEntriesOfTables, ListsSales, ListsSalesOfTables}
use Rattle.lot_page_report.specs.Text.{days_html, front_html, header_html, header_with, no_sales, part_end, part_front}
use Rattle.lot_page_report.specs.Top.{HasTop}
use Rattle.lot_page_report.specs.declared.parts.PageParts.{PageParts}

journal_front : List ℕ
journal_front = part_front (codes "journal") (codes "Journal")

-- what stands behind the first line of a page with that top
elements_of : PageOf → List ℕ → List NumberedSale → List EntryRow → List ℕ
elements_of page top sold listed =
    all_of
    (top ∷ sales_html sold ∷ part_front (codes "journal") (codes "Journal") ∷ journal_html (days_of page) listed ∷ [])

-- the text of a page whose top is that of its parts
page_text : (page : PageOf) (parts : Parts) (top : List ℕ) → IsTop page parts top
    → IsPageText page parts (doctype ++ elements_of page top parts.sales parts.listed)
unfolding elements_of
page_text page parts top is =
    let whole : IsTextOf page parts (elements_of page top parts.sales parts.listed) = record { top = top; is_top = is; whole = refl } in
    record {
      elements = elements_of page top parts.sales parts.listed;
      balanced = page_balanced page parts (elements_of page top parts.sales parts.listed) whole;
      begins = refl;
      whole = whole;
      styled = refl;
    }

-- ---- a page that isn't begun

nothing : Parts
nothing = record {
  entries = [];
  digest = None;
  years = [];
  commodities = [];
  currencies = [];
  held = [];
  totals = [];
  range = None;
  months = [];
  sales = [];
  listed = [];
}

at_start : (page : PageOf) (parts : Parts) (fault : ShowFault) → MayStopAt page parts [] fault
at_start page parts (AtWalk fault) = AtStart refl
at_start page parts (AtRow fault) = tt

pub unbegun : (page : PageOf) (start : Option (List ℕ)) (fault : ShowFault) → WritesSomePage page start start (Err fault)
unfolding nothing
unbegun page start fault =
    let years = all_of (part_front (codes "years") (codes "Gains by year") ∷ no_sales ∷ [] ∷ part_end ∷ []) in
    let months = all_of (part_front (codes "months") (codes "Worth by month") ∷ no_lots_note ∷ part_end ∷ []) in
    let top = all_of
    (front_html page.name ∷ codes "<body>\n" ∷ header_html page nothing ∷ codes "<main>\n" ∷ years ∷ commodities_html [] []
    ∷ held_html page [] [] ∷ months ∷ part_front (codes "sales") (codes "Sales") ∷ []) in (
      nothing,
      (
        [],
        doctype ++ elements_of page top [] [],
        page_text page nothing top (record {
          years = years;
          are_years = ([], refl, refl);
          months = months;
          are_months = (no_lots_note, refl, refl);
          whole = refl;
        }),
        at_start page nothing fault,
        Appends-nil start,
      ),
    )

-- ---- what is written of a page

-- a prefix of a line is written
pub part_of_line : (start now : Option (List ℕ)) (text : List ℕ) (fault : PrintFault) → WritesLine start now (Err fault) text
    → (part : List ℕ) × (rest : List ℕ) × (text ≡ part ++ rest) × Appends start now part
part_of_line start now text Memory writes = ([], text, refl, writes)
part_of_line start now text Write (part, (next, rest, is), writes) = (part, next ∷ rest, is, writes)

-- a piece of the text is being written
cut_in : (page : PageOf) (parts : Parts) (text before piece behind part rest : List ℕ) (start mid now : Option (List ℕ)) (fault : ShowFault)
    → IsPageText page parts text → text ≡ before ++ (piece ++ behind) → piece ≡ part ++ rest → MayStopAt page parts (before ++ part) fault
    → Appends start mid before → Appends mid now part → ShowsText page parts start now (Err fault)
cut_in page parts text before piece behind part rest start mid now fault is splits piece_is stops began wrote =
    let same : text ≡ (before ++ part) ++ (rest ++ behind) =
    splits
    ∙ ap (λ (p : List ℕ). before ++ (p ++ behind)) piece_is
    ∙ ap (λ (t : List ℕ). before ++ t) (append_assoc part rest behind)
    ∙ sym (append_assoc before part (rest ++ behind)) in (
      before ++ part,
      rest ++ behind,
      subst (IsPageText page parts) same is,
      stops,
      Appends-trans start mid now before part began wrote,
    )

-- ---- a page with parts

module _ (page : PageOf) (made : PageParts) (top : List ℕ) (has : HasTop page made top) (rows : List EntryRow)
    (counted : HasCounted (days_of page) rows made.counted) where
  abbrev pub parts_with : List NumberedSale → List EntryRow → Parts
  parts_with sold listed = record {
    entries = rows;
    digest = made.digest;
    years = has.are_gains.years;
    commodities = has.are_gains.commodities;
    currencies = has.are_gains.currencies;
    held = made.lots.held.rows.items;
    totals = made.lots.held.totals.entries;
    range = made.lots.range;
    months = map shown made.lots.months.items;
    sales = sold;
    listed = listed;
  }

  behind_gains : List ℕ
  behind_gains =
      all_of
      (held_html page made.lots.held.rows.items made.lots.held.totals.entries ∷ has.months ∷ part_front (codes "sales") (codes "Sales")
      ∷ [])

  header_is : (sold : List NumberedSale) (listed : List EntryRow)
      → header_with page.name
      (days_html (covered_by (made.counted.first, made.counted.last) (days_in made.counted.days)) made.counted.within made.counted.count)
      made.digest
      ≡ header_html page (parts_with sold listed)
  header_is sold listed =
      λ i. header_with page.name
      (days_html (covered_by (counted.first i, counted.last i) (counted.days i)) (counted.within i) (counted.count i)) made.digest

  top_is : (sold : List NumberedSale) (listed : List EntryRow) → IsTop page (parts_with sold listed) top
  unfolding behind_gains
  top_is sold listed =
      let gains = has.are_gains in
      let header = header_html page (parts_with sold listed) in
      let commodities = commodities_html gains.commodities gains.currencies in
      record {
        years = gains.part;
        are_years = gains.are_years;
        months = has.months;
        are_months = has.are_months;
        whole = has.whole
            ∙ ap (λ (h : List ℕ). front_html page.name ++ (codes "<body>\n" ++ (h ++ (codes "<main>\n" ++ (has.gains ++ behind_gains)))))
            (header_is sold listed)
            ∙ ap (λ (t : List ℕ). front_html page.name ++ (codes "<body>\n" ++ (header ++ (codes "<main>\n" ++ t))))
            (ap (λ (t : List ℕ). t ++ behind_gains) gains.whole ∙ append_assoc gains.part commodities behind_gains);
      }

  module _ (start : Option (List ℕ)) where
    -- the top is being written
    pub top_cut : (sold : List NumberedSale) (listed : List EntryRow) (now : Option (List ℕ)) (print : PrintFault) (fault : RowFault)
        → WritesLine start now (Err print) (doctype ++ top) → ShowsText page (parts_with sold listed) start now (Err (AtRow fault))
    unfolding elements_of
    top_cut sold listed now print fault writes =
        let (part, rest, is, wrote) = part_of_line start now (doctype ++ top) print writes in
        let behind = all_of (sales_html sold ∷ part_front (codes "journal") (codes "Journal") ∷ journal_html (days_of page) listed ∷ []) in
        cut_in page (parts_with sold listed) (doctype ++ elements_of page top sold listed) [] (doctype ++ top) behind part rest start start now
        (AtRow fault) (page_text page (parts_with sold listed) top (top_is sold listed)) (sym (append_assoc doctype top behind)) is tt
        (Appends-nil start) wrote

    pub cut_top : (now : Option (List ℕ)) (print : PrintFault) (fault : RowFault) → WritesLine start now (Err print) (doctype ++ top)
        → WritesSomePage page start now (Err (AtRow fault))
    cut_top now print fault writes = (parts_with [] [], top_cut [] [] now print fault writes)

    module _ (first : Option (List ℕ)) (began : Appends start first (doctype ++ top)) where
      -- the sales are
      pub sales_cut : (sold : List NumberedSale) (listed : List EntryRow) (now : Option (List ℕ)) (fault : ShowFault)
          → ListsRows sale_piece sales_end sold first now (Err fault) → ShowsText page (parts_with sold listed) start now (Err fault)
      unfolding elements_of
      sales_cut sold listed now (AtWalk fault) (given, left, is, wrote) =
          let behind = all_of (part_front (codes "journal") (codes "Journal") ∷ journal_html (days_of page) listed ∷ []) in
          let part = pieces_behind sale_piece [] given in
          cut_in page (parts_with sold listed) (doctype ++ elements_of page top sold listed) (doctype ++ top) (sales_html sold) behind part
          (pieces_behind sale_piece given left ++ sales_end sold) start first now (AtWalk fault)
          (page_text page (parts_with sold listed) top (top_is sold listed)) (sym (append_assoc doctype top (sales_html sold ++ behind)))
          (list_split sale_piece sales_end sold given left is)
          (AtSale top (top_is sold listed) given left is (append_assoc doctype top part)) began wrote
      sales_cut sold listed now (AtRow fault) (part, rest, is, wrote) =
          let behind = all_of (part_front (codes "journal") (codes "Journal") ∷ journal_html (days_of page) listed ∷ []) in
          cut_in page (parts_with sold listed) (doctype ++ elements_of page top sold listed) (doctype ++ top) (sales_html sold) behind part rest
          start first now (AtRow fault) (page_text page (parts_with sold listed) top (top_is sold listed))
          (sym (append_assoc doctype top (sales_html sold ++ behind))) is tt began wrote

      pub cut_sales : (now : Option (List ℕ)) (fault : ShowFault) → Lists sale_piece sales_end first now (Err fault)
          → WritesSomePage page start now (Err fault)
      cut_sales now fault (sold, lists) = (parts_with sold [], sales_cut sold [] now fault lists)

      module _ (sold : List NumberedSale) (second : Option (List ℕ)) (listed_sales : Appends first second (sales_html sold)) where
        written_sales : Appends start second ((doctype ++ top) ++ sales_html sold)
        written_sales = Appends-trans start first second (doctype ++ top) (sales_html sold) began listed_sales

        -- the text with its front apart
        fronted : (listed : List EntryRow)
            → doctype ++ (top ++ (sales_html sold ++ (journal_front ++ (journal_html (days_of page) listed ++ []))))
            ≡ ((doctype ++ top) ++ sales_html sold) ++ (journal_front ++ (journal_html (days_of page) listed ++ []))
        fronted listed =
            let behind = journal_front ++ (journal_html (days_of page) listed ++ []) in
            sym (append_assoc doctype top (sales_html sold ++ behind)) ∙ sym (append_assoc (doctype ++ top) (sales_html sold) behind)

        -- the head of the journal is
        pub front_cut : (listed : List EntryRow) (now : Option (List ℕ)) (print : PrintFault) (fault : RowFault)
            → WritesLine second now (Err print) (part_front (codes "journal") (codes "Journal") ++ [])
            → ShowsText page (parts_with sold listed) start now (Err (AtRow fault))
        unfolding elements_of journal_front
        front_cut listed now print fault writes =
            let (part, rest, is, wrote) = part_of_line second now (journal_front ++ []) print writes in
            cut_in page (parts_with sold listed) (doctype ++ elements_of page top sold listed) ((doctype ++ top) ++ sales_html sold) journal_front
            (journal_html (days_of page) listed ++ []) part rest start second now (AtRow fault)
            (page_text page (parts_with sold listed) top (top_is sold listed)) (fronted listed) (sym (append-nil journal_front) ∙ is) tt
            written_sales wrote

        pub cut_front : (now : Option (List ℕ)) (print : PrintFault) (fault : RowFault)
            → WritesLine second now (Err print) (part_front (codes "journal") (codes "Journal") ++ [])
            → WritesSomePage page start now (Err (AtRow fault))
        cut_front now print fault writes = (parts_with sold [], front_cut [] now print fault writes)

        module _ (third : Option (List ℕ)) (headed : Appends second third (part_front (codes "journal") (codes "Journal") ++ [])) where
          written_front : Appends start third (((doctype ++ top) ++ sales_html sold) ++ journal_front)
          unfolding journal_front
          written_front =
              Appends-trans start second third ((doctype ++ top) ++ sales_html sold) journal_front written_sales
              (subst (Appends second third) (append-nil journal_front) headed)

          parted : (listed : List EntryRow)
              → doctype ++ (top ++ (sales_html sold ++ (journal_front ++ (journal_html (days_of page) listed ++ []))))
              ≡ (((doctype ++ top) ++ sales_html sold) ++ journal_front) ++ (journal_html (days_of page) listed ++ [])
          parted listed =
              fronted listed
              ∙ sym (append_assoc ((doctype ++ top) ++ sales_html sold) journal_front (journal_html (days_of page) listed ++ []))

          -- the text up to some entry
          to_entry : (part : List ℕ)
              → (((doctype ++ top) ++ sales_html sold) ++ journal_front) ++ part ≡ doctype ++ (top ++ (sales_html sold ++ (journal_front ++ part)))
          to_entry part =
              append_assoc ((doctype ++ top) ++ sales_html sold) journal_front part
              ∙ append_assoc (doctype ++ top) (sales_html sold) (journal_front ++ part)
              ∙ append_assoc doctype top (sales_html sold ++ (journal_front ++ part))

          -- the entries are, or all of it is written
          pub with_entries : (listed : List EntryRow) (now : Option (List ℕ)) (result : Result (Unit {0}) ShowFault)
              → ListsRows (entry_piece (days_of page)) (journal_end (days_of page)) listed third now result
              → ShowsText page (parts_with sold listed) start now result
          unfolding elements_of journal_front
          with_entries listed now (Err (AtWalk fault)) (given, left, is, wrote) =
              let part = pieces_behind (entry_piece (days_of page)) [] given in
              cut_in page (parts_with sold listed) (doctype ++ elements_of page top sold listed)
              (((doctype ++ top) ++ sales_html sold) ++ journal_front) (journal_html (days_of page) listed) [] part
              (pieces_behind (entry_piece (days_of page)) given left ++ journal_end (days_of page) listed) start third now (AtWalk fault)
              (page_text page (parts_with sold listed) top (top_is sold listed)) (parted listed)
              (list_split (entry_piece (days_of page)) (journal_end (days_of page)) listed given left is)
              (AtEntry top (top_is sold listed) given left is (to_entry part)) written_front wrote
          with_entries listed now (Err (AtRow fault)) (part, rest, is, wrote) =
              cut_in page (parts_with sold listed) (doctype ++ elements_of page top sold listed)
              (((doctype ++ top) ++ sales_html sold) ++ journal_front) (journal_html (days_of page) listed) [] part rest start third now
              (AtRow fault) (page_text page (parts_with sold listed) top (top_is sold listed)) (parted listed) is tt written_front wrote
          with_entries listed now (Ok done) wrote = (
            doctype ++ elements_of page top sold listed,
            page_text page (parts_with sold listed) top (top_is sold listed),
            subst (Appends start now)
                (ap (λ (t : List ℕ). (((doctype ++ top) ++ sales_html sold) ++ journal_front) ++ t)
                (sym (append-nil (journal_html (days_of page) listed)))
                ∙ sym (parted listed))
                (Appends-trans start third now (((doctype ++ top) ++ sales_html sold) ++ journal_front) (journal_html (days_of page) listed)
                written_front wrote),
          )

          pub shows_some : (now : Option (List ℕ)) (result : Result (Unit {0}) ShowFault)
              → Lists (entry_piece (days_of page)) (journal_end (days_of page)) third now result → WritesSomePage page start now result
          shows_some now result (listed, lists) = (parts_with sold listed, with_entries listed now result lists)

-- nothing is written
pub none_of_book : (page : PageOf) (place : ℕ) (entries : List Entry) (start : Option (List ℕ)) (fault : ShowFault)
    → WritesPage page place entries start start (Err fault)
none_of_book page place entries start fault = inl (Appends-nil start)

-- no call of the writer was made
pub unwritten_cause : (fault : ShowFault) (calls : WritesMade) → is_of_writer fault ≡ false → NoneFailed calls.before calls.after
    → HasCause (Err fault) calls
unwritten_cause (AtWalk fault) calls is none = none
unwritten_cause (AtRow fault) calls is none = λ writer. absurd (true≢false (sym writer ∙ is))

-- calls before which none failed
pub cause_then : (before mid after : Option WriteCalls) (result : Result (Unit {0}) ShowFault) → NoneFailed before mid
    → HasCause result (record { before = mid; after = after }) → HasCause result (record { before = before; after = after })
cause_then before mid after (Ok done) none cause = cause ∙ none
cause_then before mid after (Err (AtWalk fault)) none cause = cause ∙ none
cause_then before mid after (Err (AtRow fault)) none cause = cause

-- ---- the page of a book

module _ (page : PageOf) (made : PageParts) (top : List ℕ) (has : HasTop page made top) where
  are_parts : (place : ℕ) (entries : List Entry) (book : IsPageOfBook page place entries made) (sold : List NumberedSale)
      → AreSalesWithin (days_of page) entries sold
      → ArePartsOf page place entries (parts_with page made top has (entry_rows 1 entries) book.counted sold (entry_rows 1 entries))
  are_parts place entries book sold are =
      let lots = book.lots in
      let rows = has.are_gains.rows (map sale_in book.sold) book.sales in
      record {
        rows = refl;
        digest = book.digest;
        summed = book.sold;
        are_summed = book.are_sold;
        years = rows.years;
        commodities = rows.commodities;
        currencies = rows.currencies;
        sales = are;
        holdings = lots.holdings;
        lists = lots.lists;
        prices = lots.keeps.0;
        are_prices = lots.keeps.1;
        held = lots.held.rows ∙ all_valued lots.prices lots.keeps.0 lots.keeps.2 lots.holdings;
        totals = lots.held.totals;
        range = lots.range;
        quotes = lots.quotes;
        are_quotes = lots.are_quotes;
        months = lots.months;
        listed = refl;
      }

  row_parts : (tables : Tables) (book : IsPageOfTables page tables made) (sold : List NumberedSale) → AreAllSaleRows (days_of page) tables sold
      → AllByRecursion HasLegs sold → AreRowsOf page tables (parts_with page made top has tables.entry book.counted sold tables.entry)
  row_parts tables book sold are legs =
      let lots = book.lots in
      let rows = has.are_gains.rows (map sale_in book.sold) book.sales in
      record {
        entries = refl;
        digest = book.digest;
        summed = book.sold;
        are_summed = book.are_sold;
        years = rows.years;
        commodities = rows.commodities;
        currencies = rows.currencies;
        sales = are;
        leg_rows = lots.legs;
        are_legs = lots.are_legs;
        holdings = lots.holdings;
        lists = lots.lists;
        held = lots.held.rows ∙ all_valued lots.prices (prices_by (price_day page) tables.price) lots.keeps lots.holdings;
        totals = lots.held.totals;
        range = lots.range;
        months = lots.months;
        legs = legs;
        listed = refl;
      }

  -- of the book a prefix of the top is written, or the top and a prefix of its sales, or these and a prefix of what follows
  module _ (place : ℕ) (entries : List Entry) (book : IsPageOfBook page place entries made) (start : Option (List ℕ)) where
    of_book : (sold : List NumberedSale) → AreSalesWithin (days_of page) entries sold → (now : Option (List ℕ)) (result : Result (Unit {0}) ShowFault)
        → ShowsText page (parts_with page made top has (entry_rows 1 entries) book.counted sold (entry_rows 1 entries)) start now result
        → WritesPage page place entries start now result
    of_book sold are now (Ok done) shows =
        (parts_with page made top has (entry_rows 1 entries) book.counted sold (entry_rows 1 entries), are_parts place entries book sold are, shows)
    of_book sold are now (Err fault) shows =
        inr (parts_with page made top has (entry_rows 1 entries) book.counted sold (entry_rows 1 entries), are_parts place entries book sold are, shows)

    pub top_of_book : (now : Option (List ℕ)) (print : PrintFault) (fault : RowFault) → WritesLine start now (Err print) (doctype ++ top)
        → WritesPage page place entries start now (Err (AtRow fault))
    top_of_book now print fault writes =
        of_book book.sold book.are_sold now (Err (AtRow fault))
        (top_cut page made top has (entry_rows 1 entries) book.counted start book.sold (entry_rows 1 entries) now print fault writes)

    module _ (first : Option (List ℕ)) (began : Appends start first (doctype ++ top)) where
      pub sales_of_book : (now : Option (List ℕ)) (fault : ShowFault) → ListsSales (days_of page) entries first now (Err fault)
          → WritesPage page place entries start now (Err fault)
      sales_of_book now fault (sold, are, lists) =
          of_book sold are now (Err fault)
          (sales_cut page made top has (entry_rows 1 entries) book.counted start first began sold (entry_rows 1 entries) now fault lists)

      module _ (second : Option (List ℕ)) (done : Unit {0}) (sales : ListsSales (days_of page) entries first second (Ok done)) where
        pub front_of_book : (now : Option (List ℕ)) (print : PrintFault) (fault : RowFault)
            → WritesLine second now (Err print) (part_front (codes "journal") (codes "Journal") ++ [])
            → WritesPage page place entries start now (Err (AtRow fault))
        front_of_book now print fault writes =
            of_book sales.0 sales.1 now (Err (AtRow fault))
            (front_cut page made top has (entry_rows 1 entries) book.counted start first began sales.0 second sales.2 (entry_rows 1 entries) now print fault writes)

        pub entries_of_book : (third now : Option (List ℕ)) → Appends second third (part_front (codes "journal") (codes "Journal") ++ [])
            → (result : Result (Unit {0}) ShowFault) → ListsEntries (days_of page) entries third now result
            → WritesPage page place entries start now result
        entries_of_book third now headed result lists =
            of_book sales.0 sales.1 now result
            (with_entries page made top has (entry_rows 1 entries) book.counted start first began sales.0 second sales.2 third headed (entry_rows 1 entries) now result lists)

  module _ (start first second third now : Option (List ℕ)) (began : Appends start first (doctype ++ top))
      (headed : Appends second third (part_front (codes "journal") (codes "Journal") ++ [])) where
    pub shows_tables : (tables : Tables) (result : Result (Unit {0}) ShowFault) → IsPageOfTables page tables made
        → ListsSalesOfTables (days_of page) tables first second → OnOk result (ListsEntriesOfTables (days_of page) tables third now)
        → ShowsPageOfTables page tables start now result
    shows_tables tables (Ok done) book (sold, are, legs, wrote) listed = (
      parts_with page made top has tables.entry book.counted sold tables.entry,
      row_parts tables book sold are legs,
      with_entries page made top has tables.entry book.counted start first began sold second wrote third headed tables.entry now (Ok done) listed,
    )
    shows_tables tables (Err fault) book sales listed = tt

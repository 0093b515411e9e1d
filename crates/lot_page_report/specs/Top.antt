-- What stands on a page before the sales, by what the page is made of.
use Rattle.std.specs.Prelude.{◌≡◌, ℕ, List, [], ◌∷◌, ◌++◌, map, codes}
use Rattle.lot_book.specs.Sale.{SaleParts}
use Rattle.lot_months.specs.Series.{shown}
use Rattle.lot_plot.specs.Plot.{all_of}
use Rattle.lot_page_report.specs.Counted.{days_in}
use Rattle.lot_page_report.specs.Parts.{PageOf, covered_by}
use Rattle.lot_page_report.specs.Read.{AreSalesRows, HasSales}
use Rattle.lot_page_report.specs.Sections.{IsMonths, IsYears, Row, commodities_html, held_html}
use Rattle.lot_page_report.specs.Text.{days_html, front_html, header_with, part_front}
use Rattle.lot_page_report.specs.declared.parts.PageParts.{PageParts}
use Rattle.lot_page_report.specs.declared.read.SalesTally.{SalesTally}

-- the parts of what the sales gained, whose rows are those of the sales that were added up
pub record IsGainsPart (tally : SalesTally) (text : List ℕ) : Type 0 where
  pub years : List Row
  pub commodities : List Row
  pub currencies : List Row
  pub rows : (sales : List SaleParts) → HasSales tt sales tally → AreSalesRows sales years commodities currencies
  pub part : List ℕ
  pub are_years : IsYears years currencies part
  pub whole : text ≡ part ++ commodities_html commodities currencies

-- all that stands there
pub record HasTop (page : PageOf) (made : PageParts) (text : List ℕ) : Type 0 where
  pub gains : List ℕ
  pub are_gains : IsGainsPart made.sales gains
  pub months : List ℕ
  pub are_months : IsMonths made.lots.range (map shown made.lots.months.items) months
  pub whole : text ≡ all_of
      (front_html page.name ∷ codes "<body>\n"
      ∷ header_with page.name (days_html (covered_by (made.counted.first, made.counted.last) (days_in made.counted.days)) made.counted.within made.counted.count) made.digest
      ∷ codes "<main>\n" ∷ gains ∷ held_html page made.lots.held.rows.items made.lots.held.totals.entries ∷ months
      ∷ part_front (codes "sales") (codes "Sales") ∷ [])

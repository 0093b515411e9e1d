-- What the lists of sales and of entries keep.
use Rattle.std.specs.Prelude.{◌≡◌, ℕ, List, Option, None, Some}
use Rattle.std.specs.BTreeSet.{contains}
use Rattle.std.specs.Ordering.{nat_cmp}
use Rattle.lot_page_report.specs.Parts.{rows_within}
use Rattle.lot_page_report.specs.Sections.{has_month, is_some_sale, last_month}
use Rattle.lot_page_report.specs.declared.journal.JournalList.{JournalList}
use Rattle.lot_page_report.specs.declared.sales.SalesList.{SalesList}
use Rattle.lot_plot.specs.declared.month.Month.{Month}
use Rattle.lot_rows.specs.declared.entry.EntryRow.{EntryRow}
use Rattle.lot_walk.specs.Gains.{Range}
use Rattle.lot_walk.specs.declared.gains.NumberedSale.{NumberedSale}

abbrev pub HasListedSales : Unit {0} → List NumberedSale → SalesList → Type 0
HasListedSales terms sales list = list.has_begun ≡ is_some_sale sales

abbrev pub month_number : Option Month → Option ℕ
month_number None = None
month_number (Some month) = Some month.0

pub record HasListedEntries (range : Range) (rows : List EntryRow) (list : JournalList) : Type 0 where
  pub first : list.first ≡ range.0
  pub last : list.last ≡ range.1
  pub month : month_number list.month ≡ last_month (rows_within range rows)
  pub months : (month : ℕ) → contains nat_cmp list.months month ≡ has_month month (rows_within range rows)

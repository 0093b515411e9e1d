use Rattle.std.proofs.Common.{◌++◌, ◌∙◌, ap}
use Rattle.lot_page_report.specs.Sections.{sale_front, sale_row}
use Rattle.lot_page_report.proofs.SalesLemmas.{is_more}
use Rattle.lot_page_report.proofs.sales.SalesListListingNumberedSale.next_text.Goals as goal

pub returns : goal.returns
returns c = λ terms sales had. (
  is_more sales c.args.sold,
  c.in_ok-push_sold.ensures
      ∙ ap (λ t. t ++ sale_row c.args.sold) (c.in_ok-push_front.ensures ∙ (λ i. c.new-text.ensures.bytes i ++ sale_front (had i))),
)

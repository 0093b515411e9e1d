use Rattle.lot_tally.proofs.LawLemmas.{total_of_rows}
use Rattle.lot_tally.proofs.laws.rows_add_up_to_the_total.Goals as goal

pub returns : goal.returns
returns c by form sales rows currency own are =
    total_of_rows c.records_add_up_to_the_sale.ensures by form sales rows currency own are

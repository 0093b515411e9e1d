use Rattle.lot_table.proofs.DeleteLemmas.{row_named}
use Rattle.lot_table.proofs.row.read_all.Goals as goal

pub returns-in_err-read-clause-damaged : goal.returns-in_err-read-clause-damaged
returns-in_err-read-clause-damaged g c fault xs good same =
    let named = row_named g.R.TableRow.IsGood g.R.TableRow.encode c.args.rows.now xs c.rows.row-index c.row-item.result c.rows-test.true c.row-item.is same good in
    let told = rw fault at c.from_residual.ensures.1 in
    c.in_err-read.ensures.damaged (cc) named.0 named.1 named.2

use Rattle.std.proofs.Common.{ℤ}
use Rattle.lot_table.proofs.CastLemmas.{bound_maybe_int}
use Rattle.sqlite.specs.Held.{state}
use Rattle.lot_rows.proofs.AccountLemmas.{puts_row}
use Rattle.lot_rows.proofs.account.put.Goals as goal

pub returns-clause-puts : goal.returns-clause-puts
returns-clause-puts g c =
    puts_row (state g.S.Store c.args.tx.now.conn.now) (state g.S.Store c.change.new.tx.conn.now) c.args.row.now c.change.result
    (rw (c.to_cell.ensures, c.to_cell-2.ensures, c.to_cell-3.ensures, c.to_cell-4.ensures, bound_maybe_int (λ (day : ℤ). day) c.args.row.now.closed) at c.change.ensures.runs)

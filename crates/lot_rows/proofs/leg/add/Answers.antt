use Rattle.std.proofs.Common.{pos}
use Rattle.lot_cost.specs.declared.lot_key.LotKey.{LotKey}
use Rattle.lot_table.proofs.CastLemmas.{bound_maybe_int, bound_maybe_text}
use Rattle.lot_table.specs.Cell.{label_text}
use Rattle.sqlite.specs.Held.{state}
use Rattle.lot_rows.proofs.LegLemmas.{adds_row}
use Rattle.lot_rows.proofs.leg.add.Goals as goal

pub returns-clause-adds : goal.returns-clause-adds
returns-clause-adds g c =
    adds_row (state g.S.Store c.args.tx.now.conn.now) (state g.S.Store c.change.new.tx.conn.now) c.args.row.now c.change.result
    (rw (c.to_cell.ensures, c.to_cell-2.ensures, c.to_cell-3.ensures, c.to_cell-4.ensures, c.to_cell-5.ensures, c.to_cell-6.ensures, c.number_cell.ensures, c.currency_cell.ensures, c.day_cell.ensures, c.label_cell.ensures, bound_maybe_int (λ (lot : LotKey). pos lot.number) c.args.row.now.lot, bound_maybe_text (λ (lot : LotKey). lot.currency) c.args.row.now.lot, bound_maybe_int (λ (lot : LotKey). lot.day) c.args.row.now.lot, bound_maybe_text (λ (lot : LotKey). label_text lot.label) c.args.row.now.lot) at c.change.ensures.runs)

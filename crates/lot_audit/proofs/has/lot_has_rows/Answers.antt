-- Both are there.
use Rattle.std.proofs.Common.{◌≢◌, None, ap, not, sym, ◌∙◌}
use Rattle.sqlite.specs.Held.{state}
use Rattle.lot_rows.specs.Lot.{IsLotRow, lot_cells}
use Rattle.lot_rows.specs.LotKey.{lot_key}
use Rattle.lot_rows.specs.Opening.{IsOpeningRow, opening_cells}
use Rattle.lot_rows.specs.Tables.{Tables, lot_table, opening_table}
use Rattle.lot_rows.specs.declared.lot.LotRow.{LotRow}
use Rattle.lot_rows.specs.declared.opening.OpeningRow.{OpeningRow}
use Rattle.lot_table.specs.Rows.{has_key, with_key}
use Rattle.lot_stored.specs.Rows.{row_at}
use Rattle.lot_audit.specs.Checks.{always}
use Rattle.lot_audit.specs.Told.{LotHasRows}
use Rattle.lot_audit.proofs.HasLemmas.{listed_there}
use Rattle.lot_audit.proofs.SeenLemmas.{Tells, answers_check, chain_last, chain_no, good_filtered, not_told, seen_none, tells_not, told_yes}
use Rattle.lot_audit.proofs.has.lot_has_rows.Goals as goal

pub returns-in_err-lots_at : goal.returns-in_err-lots_at
returns-in_err-lots_at g c =
    let key = lot_key c.args.account.now c.args.commodity.now c.args.lot.now in
    record {
      checks = tells_not _ _ _ _ (state g.S.Store c.args.conn.now) (state g.S.Store c.lots_at.new.conn) c.in_err-lots_at.field-0.0
          c.from_residual.result c.from_residual.ensures.1 c.in_err-lots_at.ensures.lists
          (λ tables of. good_filtered IsLotRow (λ (row : LotRow). has_key 6 key (lot_cells row)) tables.lot of.2.good.lot);
    }

pub returns-then-is_empty : goal.returns-then-is_empty
returns-then-is_empty g c =
    let key = lot_key c.args.account.now c.args.commodity.now c.args.lot.now in
    let old = state g.S.Store c.args.conn.now in
    let new = state g.S.Store c.lots_at.new.conn in
    record {
      checks = chain_no always (λ tables. row_at lot_table key tables ≢ None)
          (LotHasRows c.args.account.now c.args.commodity.now c.args.lot.now) old old new (seen_none always old) _
          (ap not (sym c.is_empty.ensures ∙ c.if-is_empty.true))
          (listed_there lot_cells IsLotRow (λ (tables : Tables). with_key lot_cells 6 key tables.lot) old new c.in_ok-lots_at.field-0 c.in_ok-lots_at.ensures.lists)
          (λ tables whole. whole.0);
    }

pub returns-in_err-openings : goal.returns-in_err-openings
returns-in_err-openings g c =
    let key = lot_key c.args.account.now c.args.commodity.now c.args.lot.now in
    let old = state g.S.Store c.args.conn.now in
    let mid = state g.S.Store c.lots_at.new.conn in
    let new = state g.S.Store c.openings_at.new.conn in
    let Lot = λ (tables : Tables). row_at lot_table key tables ≢ None in
    let seen = told_yes always always Lot old old mid (seen_none always old) _
    (ap not (sym c.is_empty.ensures ∙ c.if-is_empty.false))
    (listed_there lot_cells IsLotRow (λ (tables : Tables). with_key lot_cells 6 key tables.lot) old mid c.in_ok-lots_at.field-0 c.in_ok-lots_at.ensures.lists) in
    record {
      checks = not_told always _ always old mid new seen (Tells (LotHasRows c.args.account.now c.args.commodity.now c.args.lot.now))
          _ c.in_err-openings.field-0.0 c.from_residual-in_err-openings.result c.from_residual-in_err-openings.ensures.1
          (answers_check _ _ _ mid new _ c.in_err-openings.ensures.lists
          (λ tables of. good_filtered IsOpeningRow (λ (row : OpeningRow). has_key 6 key (opening_cells row)) tables.opening of.2.good.opening));
    }

pub returns : goal.returns
returns g c =
    let key = lot_key c.args.account.now c.args.commodity.now c.args.lot.now in
    let old = state g.S.Store c.args.conn.now in
    let mid = state g.S.Store c.lots_at.new.conn in
    let new = state g.S.Store c.openings_at.new.conn in
    let Lot = λ (tables : Tables). row_at lot_table key tables ≢ None in
    let seen = told_yes always always Lot old old mid (seen_none always old) _
    (ap not (sym c.is_empty.ensures ∙ c.if-is_empty.false))
    (listed_there lot_cells IsLotRow (λ (tables : Tables). with_key lot_cells 6 key tables.lot) old mid c.in_ok-lots_at.field-0 c.in_ok-lots_at.ensures.lists) in
    record {
      checks = rw (c.is_empty-2.ensures)
          (chain_last _ (λ (tables : Tables). row_at opening_table key tables ≢ None)
          (LotHasRows c.args.account.now c.args.commodity.now c.args.lot.now) old mid new seen _
          (listed_there opening_cells IsOpeningRow (λ (tables : Tables). with_key opening_cells 6 key tables.opening) mid new c.in_ok-openings.openings c.in_ok-openings.ensures.lists)
          (λ tables so there. (so.1, there)) (λ tables whole. whole.1));
    }

-- The row and the currencies say how the account stands.
use Rattle.std.specs.Prelude.{◌≡◌, Some, option_map}
use Rattle.std.proofs.Common.{sym, ◌∙◌}
use Rattle.lot_book.specs.Facts.{closing_of, opening_of, standing_of}
use Rattle.lot_stored.specs.Rows.{account_row, name_key}
use Rattle.lot_rows.specs.Account.{IsAccountRow, account_cells}
use Rattle.lot_table.specs.Rows.{has_key}
use Rattle.lot_load.proofs.ReadLemmas.{HasRead, fails_first, passes, reads_first, reads_next, tells}
use Rattle.lot_load.proofs.RowLemmas.{good_filtered, standing_is}
use Rattle.lot_load.proofs.account.find_standing.Goals as goal

pub returns-in_err-row-clause-tells : goal.returns-in_err-row-clause-tells
returns-in_err-row-clause-tells g c =
    let old = g.D.Queryable.shown c.args.conn.now in
    let new = g.D.Queryable.shown c.find.new.conn in
    let account = c.args.account.now in
    passes _ old new c.in_err-row.field-0.0 c.from_residual.result c.from_residual.ensures.1
    (fails_first _ _ _ _ old new c.in_err-row.field-0.0 c.in_err-row.ensures.finds
    (λ tables entries book stand. good_filtered IsAccountRow (λ row. has_key 1 (name_key account) (account_cells row)) tables.account stand.good.account))

pub returns-in_ok-find_currencies-in-Some-clause-tells : goal.returns-in_ok-find_currencies-in-Some-clause-tells
returns-in_ok-find_currencies-in-Some-clause-tells g c =
    let old = g.D.Queryable.shown c.args.conn.now in
    let mid = g.D.Queryable.shown c.find.new.conn in
    let new = g.D.Queryable.shown c.find_currencies.new.conn in
    let account = c.args.account.now in
    let row = c.in-Some.row in
    let currencies = c.in_ok-find_currencies-in-Some.field-0 in
    let one : HasRead (λ entries. Some row ≡ option_map (account_row account) (standing_of entries account)) old mid =
    reads_first _ _ _ (λ entries. Some row ≡ option_map (account_row account) (standing_of entries account)) old mid c.in_ok-row.field-0 c.in_ok-row.ensures.finds
    (λ tables entries book stand good is. sym c.in-Some.is ∙ is ∙ stand.account account) in
    tells _ old new _
    (reads_next _ _ _ (λ entries. Some row ≡ option_map (account_row account) (standing_of entries account)) _ old mid new currencies one
    c.in_ok-find_currencies-in-Some.ensures.tells
    (λ tables entries book stand was good is.
    standing_is account (opening_of entries account) (closing_of entries account) row currencies was (is entries book stand)))

use Rattle.std.proofs.Common.{◌≡◌, Err, None, Ok, Some, false, refl, true}
use Rattle.std.proofs.lemmas.Result.{err_from_is_err_and}
use Rattle.sqlite.specs.Held.{state}
use Rattle.lot_table.specs.declared.fault.Fault.{Fault}
use Rattle.lot_table.specs.declared.fault.Fault.TheVariants.{Damaged, Device}
use Rattle.lot_walk.specs.Gains.{AreAllSaleRows, AreSalesWithin, HasLegs, IsBehindSaleRows, IsBehindSales, is_within}
use Rattle.lot_walk.specs.declared.gains.NumberedSale.{NumberedSale}
use Rattle.lot_walk.proofs.GainLemmas.{sale_given, sale_none, sale_passed, sale_unread, sale_untold, sold_by, went_then}
use Rattle.lot_walk.proofs.GainRowLemmas.{sale_row_given, sale_row_passed, sale_rows_end}
use Rattle.lot_rows.proofs.StateLemmas.{survives_both}
use Rattle.lot_walk.proofs.PlaceLemmas.{keeps_then, rows_after, steps_after}
use Rattle.lot_walk.proofs.gains.GainsPlacePlace.next.Goals as goal

pub returns-in_err-row-clause-steps : goal.returns-in_err-row-clause-steps
returns-in_err-row-clause-steps g c =
    let old = state g.S.Store c.args.conn.now in
    let now = state g.S.Store c.rows.conn in
    let new = state g.S.Store c.next.new.conn in
    let fault = err_from_is_err_and c.from_residual.result c.from_residual.ensures.1 in
    rw (fault.1, fault.2)
    (steps_after IsBehindSales (λ (sold : NumberedSale). sold) HasLegs AreSalesWithin Damaged Device c.args.self.now c.rows.self _ old now new (Err c.in_err-row.field-0.0)
    c.rows.invariant.went
    (sale_unread c.rows.self _ now new c.in_err-row.field-0.0 c.in_err-row.ensures.steps))

pub returns-in_default-clause-steps : goal.returns-in_default-clause-steps
returns-in_default-clause-steps g c =
    let old = state g.S.Store c.args.conn.now in
    let now = state g.S.Store c.rows.conn in
    let new = state g.S.Store c.next.new.conn in
    steps_after IsBehindSales (λ (sold : NumberedSale). sold) HasLegs AreSalesWithin Damaged Device c.args.self.now c.rows.self _ old now new (Ok None) c.rows.invariant.went
    (sale_none c.rows.self _ now new (rw c.in_default.is at c.in_ok-row.ensures.steps))

pub returns-in_err-sale-clause-steps : goal.returns-in_err-sale-clause-steps
returns-in_err-sale-clause-steps g c =
    let old = state g.S.Store c.args.conn.now in
    let now = state g.S.Store c.rows.conn in
    let new = state g.S.Store c.next.new.conn in
    let end = state g.S.Store c.sale_of.new.conn in
    let fault = err_from_is_err_and c.from_residual-in_err-sale.result c.from_residual-in_err-sale.ensures.1 in
    rw (fault.1, fault.2)
    (steps_after IsBehindSales (λ (sold : NumberedSale). sold) HasLegs AreSalesWithin Damaged Device c.args.self.now c.rows.self _ old now end (Err c.in_err-sale.field-0.0)
    c.rows.invariant.went
    (sale_untold c.rows.self _ now new refl refl c.in-Some.row (rw c.in-Some.is at c.in_ok-row.ensures.steps) end c.in_err-sale.field-0.0
    c.in_err-sale.ensures.tells))

pub returns-then-is_within-clause-steps : goal.returns-then-is_within-clause-steps
returns-then-is_within-clause-steps g c =
    let old = state g.S.Store c.args.conn.now in
    let now = state g.S.Store c.rows.conn in
    let new = state g.S.Store c.next.new.conn in
    let end = state g.S.Store c.sale_of.new.conn in
    let within : is_within (c.rows.self.first, c.rows.self.last) c.in-Some.row.day ≡ true = cc (c.is_within.ensures, c.if-is_within.true) in
    rw (c.number-entry.ensures.value, c.number-posting.ensures.value)
    (steps_after IsBehindSales (λ (sold : NumberedSale). sold) HasLegs AreSalesWithin Damaged Device c.args.self.now c.rows.self _ old now end (Ok (Some (sold_by c.in-Some.row c.in_ok-sale.sale)))
    c.rows.invariant.went
    (sale_given c.rows.self _ now new refl refl c.in-Some.row (rw c.in-Some.is at c.in_ok-row.ensures.steps) end c.in_ok-sale.sale within
    c.in_ok-sale.ensures.tells))

pub rows-preserved : goal.rows-preserved
rows-preserved g c =
    let old = state g.S.Store c.args.conn.now in
    let now = state g.S.Store c.rows.conn in
    let new = state g.S.Store c.next.new.conn in
    let out : is_within (c.rows.self.first, c.rows.self.last) c.in-Some.row.day ≡ false = cc (c.is_within.ensures, c.if-is_within.false) in
    record {
      went =
          went_then c.args.self.now c.rows.self _ old now new c.rows.invariant.went
          (sale_passed c.rows.self _ now new refl refl c.in-Some.row (rw c.in-Some.is at c.in_ok-row.ensures.steps) out);
      keeps =
          keeps_then IsBehindSaleRows c.args.self.now c.rows.self _ old now new c.rows.invariant.went.same c.in_ok-row.ensures.steps.crash c.rows.invariant.keeps
          (sale_row_passed c.rows.self _ now new refl refl c.in-Some.row (rw c.in-Some.is at c.in_ok-row.ensures.steps) out);
    }

pub returns-in_default-clause-rows : goal.returns-in_default-clause-rows
returns-in_default-clause-rows g c =
    let old = state g.S.Store c.args.conn.now in
    let now = state g.S.Store c.rows.conn in
    let new = state g.S.Store c.next.new.conn in
    let after = record c.rows.self { cursor = c.next.new.self } in
    rows_after IsBehindSaleRows Fault (λ (sold : NumberedSale). sold) AreAllSaleRows c.args.self.now c.rows.self after old now new (Ok None) c.rows.invariant.went.same c.in_ok-row.ensures.steps.crash
    c.rows.invariant.keeps (sale_rows_end c.rows.self after now new (rw c.in_default.is at c.in_ok-row.ensures.steps))

pub returns-then-is_within-clause-rows : goal.returns-then-is_within-clause-rows
returns-then-is_within-clause-rows g c =
    let old = state g.S.Store c.args.conn.now in
    let now = state g.S.Store c.rows.conn in
    let new = state g.S.Store c.next.new.conn in
    let end = state g.S.Store c.sale_of.new.conn in
    let within : is_within (c.rows.self.first, c.rows.self.last) c.in-Some.row.day ≡ true = cc (c.is_within.ensures, c.if-is_within.true) in
    rw (c.number-entry.ensures.value, c.number-posting.ensures.value)
    (rows_after IsBehindSaleRows Fault (λ (sold : NumberedSale). sold) AreAllSaleRows c.args.self.now c.rows.self _ old now end (Ok (Some (sold_by c.in-Some.row c.in_ok-sale.sale))) c.rows.invariant.went.same
    (survives_both now new end c.in_ok-row.ensures.steps.crash c.in_ok-sale.ensures.tells.crash) c.rows.invariant.keeps
    (sale_row_given c.rows.self _ now new refl refl c.in-Some.row (rw c.in-Some.is at c.in_ok-row.ensures.steps) end c.in_ok-sale.sale within
    c.in_ok-sale.ensures.tells))

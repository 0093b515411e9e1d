-- Each step of the walk over all sales gives the next one, or passes it over.
use Rattle.std.proofs.Common.{◌≡◌, Err, None, Ok, Some, false, refl, true}
use Rattle.std.proofs.lemmas.Result.{err_from_is_err_and}
use Rattle.sqlite.specs.Held.{state}
use Rattle.lot_table.specs.declared.fault.Fault.{Fault}
use Rattle.lot_table.specs.declared.fault.Fault.TheVariants.{Damaged, Device}
use Rattle.lot_walk.proofs.PlaceLemmas.{keeps_then, rows_after, steps_after}
use Rattle.lot_walk.specs.Gains.{HasLegs}
use Rattle.lot_walk.specs.declared.gains.NumberedSale.{NumberedSale}
use Rattle.lot_added.specs.Added.{AreAddedSaleRows, AreAddedSales, IsBehindAdded, IsBehindAddedRows, is_added}
use Rattle.lot_added.proofs.PlaceLemmas.{added_end, added_given_now, added_over, added_row_given, added_row_over, added_rows_end, added_unread, went_then}
use Rattle.lot_added.proofs.place.AddedPlacePlace.next.Goals as goal

pub returns-in_err-sold-clause-steps : goal.returns-in_err-sold-clause-steps
returns-in_err-sold-clause-steps g c =
    let old = state g.S.Store c.args.conn.now in
    let now = state g.S.Store c.sales.conn in
    let new = state g.S.Store c.next.new.conn in
    let after = record c.sales.self { sales = c.next.new.self } in
    let fault = err_from_is_err_and c.from_residual.result c.from_residual.ensures.1 in
    rw (fault.1, fault.2)
    (steps_after IsBehindAdded (λ (sold : NumberedSale). sold) HasLegs AreAddedSales Damaged Device c.args.self.now c.sales.self after old now new
    (Err c.in_err-sold.field-0.0) c.sales.invariant.went
    (added_unread c.sales.self after now new c.in_err-sold.field-0.0 c.in_err-sold.ensures.steps))

pub returns-in_default-clause-steps : goal.returns-in_default-clause-steps
returns-in_default-clause-steps g c =
    let old = state g.S.Store c.args.conn.now in
    let now = state g.S.Store c.sales.conn in
    let new = state g.S.Store c.next.new.conn in
    let after = record c.sales.self { sales = c.next.new.self } in
    steps_after IsBehindAdded (λ (sold : NumberedSale). sold) HasLegs AreAddedSales Damaged Device c.args.self.now c.sales.self after old now new (Ok None)
    c.sales.invariant.went
    (added_end c.sales.self after now new (rw c.in_default.is at c.in_ok-sold.ensures.steps))

pub returns-in_default-clause-rows : goal.returns-in_default-clause-rows
returns-in_default-clause-rows g c =
    let old = state g.S.Store c.args.conn.now in
    let now = state g.S.Store c.sales.conn in
    let new = state g.S.Store c.next.new.conn in
    let after = record c.sales.self { sales = c.next.new.self } in
    rows_after IsBehindAddedRows Fault (λ (sold : NumberedSale). sold) AreAddedSaleRows c.args.self.now c.sales.self after old now new (Ok None)
    c.sales.invariant.went.same c.in_ok-sold.ensures.steps.crash c.sales.invariant.keeps
    (added_rows_end c.sales.self after now new (rw c.in_default.is at c.in_ok-sold.ensures.rows))

pub returns-then-is_added-clause-steps : goal.returns-then-is_added-clause-steps
returns-then-is_added-clause-steps g c =
    let old = state g.S.Store c.args.conn.now in
    let now = state g.S.Store c.sales.conn in
    let new = state g.S.Store c.next.new.conn in
    let after = record c.sales.self { sales = c.next.new.self } in
    let is : is_added c.sales.self.behind c.in-Some.sold.entry ≡ true = cc (c.is_added.ensures, c.if-is_added.true) in
    steps_after IsBehindAdded (λ (sold : NumberedSale). sold) HasLegs AreAddedSales Damaged Device c.args.self.now c.sales.self after old now new
    (Ok (Some c.in-Some.sold)) c.sales.invariant.went
    (added_given_now c.sales.self after now new refl c.in-Some.sold is (rw c.in-Some.is at c.in_ok-sold.ensures.steps))

pub returns-then-is_added-clause-rows : goal.returns-then-is_added-clause-rows
returns-then-is_added-clause-rows g c =
    let old = state g.S.Store c.args.conn.now in
    let now = state g.S.Store c.sales.conn in
    let new = state g.S.Store c.next.new.conn in
    let after = record c.sales.self { sales = c.next.new.self } in
    let is : is_added c.sales.self.behind c.in-Some.sold.entry ≡ true = cc (c.is_added.ensures, c.if-is_added.true) in
    rows_after IsBehindAddedRows Fault (λ (sold : NumberedSale). sold) AreAddedSaleRows c.args.self.now c.sales.self after old now new
    (Ok (Some c.in-Some.sold)) c.sales.invariant.went.same c.in_ok-sold.ensures.steps.crash c.sales.invariant.keeps
    (added_row_given c.sales.self after now new refl c.in-Some.sold is (rw c.in-Some.is at c.in_ok-sold.ensures.rows))

pub sales-preserved : goal.sales-preserved
sales-preserved g c =
    let old = state g.S.Store c.args.conn.now in
    let now = state g.S.Store c.sales.conn in
    let new = state g.S.Store c.next.new.conn in
    let after = record c.sales.self { sales = c.next.new.self } in
    let out : is_added c.sales.self.behind c.in-Some.sold.entry ≡ false = cc (c.is_added.ensures, c.if-is_added.false) in
    record {
      went =
          went_then c.args.self.now c.sales.self after old now new c.sales.invariant.went
          (added_over c.sales.self after now new refl c.in-Some.sold out (rw c.in-Some.is at c.in_ok-sold.ensures.steps));
      keeps =
          keeps_then IsBehindAddedRows c.args.self.now c.sales.self after old now new c.sales.invariant.went.same c.in_ok-sold.ensures.steps.crash
          c.sales.invariant.keeps
          (added_row_over c.sales.self after now new refl c.in-Some.sold out (rw c.in-Some.is at c.in_ok-sold.ensures.rows));
    }

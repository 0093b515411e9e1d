use Rattle.std.proofs.Common.{Some, None, Ok, refl, sym, subst}
use Rattle.std.proofs.lemmas.Result.{err_from_is_err_and}
use Rattle.sqlite.specs.Held.{state}
use Rattle.lot_rows.specs.Price.{IsPriceRow, price_cells}
use Rattle.lot_rows.specs.Tables.{Tables}
use Rattle.lot_page.specs.Cursor.{Place, Steps}
use Rattle.lot_walk.proofs.PriceStepLemmas.{end_reached, end_reached_over, end_read, end_read_over, row_read, row_read_over, row_unread}
use Rattle.lot_walk.proofs.StepLemmas.{undone_left}
use Rattle.lot_walk.proofs.prices.PricesPlace.step.Goals as goal

pub returns-then-self : goal.returns-then-self
returns-then-self g c =
    let last = c.give_last.ensures in
    record {
      progress = rw last.progress (end_reached c.args.self.now c.give_last.new.self _ c.args.self.now.last refl c.if-self.true last.past last.day last.last);
      rows = rw last.progress
          (end_reached_over c.args.self.now c.give_last.new.self (state g.S.Store c.args.conn.now) c.args.self.now.last refl c.if-self.true last.past last.day last.last);
    }

pub returns-in_err-row : goal.returns-in_err-row
returns-in_err-row g c =
    let old = state g.S.Store c.args.conn.now in
    let new = state g.S.Store c.next.new.conn in
    let reads = c.in_err-row.ensures.steps in
    let fault = err_from_is_err_and c.from_residual.result c.from_residual.ensures.1 in
    record {
      progress = rw (fault.1, fault.2)
          (row_unread c.args.self.now _ old new c.if-self.false c.in_err-row.field-0.0 reads, λ clean. undone_left old new (reads.undone clean));
      rows = rw fault.1 tt;
    }

pub returns-in-Some : goal.returns-in-Some
returns-in-Some g c =
    let old = state g.S.Store c.args.conn.now in
    let new = state g.S.Store c.next.new.conn in
    let passes = c.pass.ensures in
    let steps = rw c.in-Some.is at c.in_ok-row.ensures.steps in
    let reads =
    subst (λ (place : Place). Steps price_cells IsPriceRow (λ (b : Tables). b.price) c.args.self.now.rows place old new (Ok (Some c.in-Some.row))) (sym passes.rows) steps in
    record {
      progress = row_read c.args.self.now c.pass.new.self old new c.if-self.false c.in-Some.row reads passes.past passes.day passes.last c.pass.result passes.progress;
      rows = row_read_over c.args.self.now c.pass.new.self old new c.if-self.false c.in-Some.row reads passes.past passes.day passes.last c.pass.result passes.progress;
    }

pub returns-in-None : goal.returns-in-None
returns-in-None g c =
    let old = state g.S.Store c.args.conn.now in
    let new = state g.S.Store c.next.new.conn in
    let last = c.give_last-in-None.ensures in
    let steps = rw c.in-None.is at c.in_ok-row.ensures.steps in
    let reads =
    subst (λ (place : Place). Steps price_cells IsPriceRow (λ (b : Tables). b.price) c.args.self.now.rows place old new (Ok None)) (sym last.rows) steps in
    record {
      progress = rw last.progress
          (end_read c.args.self.now c.give_last-in-None.new.self old new c.args.self.now.last c.if-self.false reads refl last.past last.day last.last);
      rows = rw last.progress
          (end_read_over c.args.self.now c.give_last-in-None.new.self old new c.args.self.now.last c.if-self.false reads refl last.past last.day last.last);
    }

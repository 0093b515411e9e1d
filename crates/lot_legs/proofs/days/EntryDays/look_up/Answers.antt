use Rattle.std.proofs.Common.{◌≡◌, ◌≢◌, ◌∙◌, Ok, Some, subst, sym}
use Rattle.std.proofs.lemmas.Result.{err_from_is_err_and}
use Rattle.sqlite.specs.Held.{state}
use Rattle.lot_page.specs.Cursor.{Place, Steps}
use Rattle.lot_rows.specs.Entry.{IsEntryRow, entry_cells}
use Rattle.lot_rows.specs.Tables.{Tables}
use Rattle.lot_legs.proofs.LookLemmas.{looks_past, looks_stopped, looks_unread, passes_on}
use Rattle.lot_legs.proofs.days.EntryDays.look_up.Goals as goal

pub returns-in_err-row : goal.returns-in_err-row
returns-in_err-row g c =
    let old = state g.S.Store c.args.conn.now in
    let now = state g.S.Store c.rows.conn in
    let new = state g.S.Store c.next.new.conn in
    let fault = err_from_is_err_and c.from_residual.result c.from_residual.ensures.1 in
    record {
      looks = rw (fault.1, fault.2)
          (looks_unread c.args.entry c.args.self.now c.rows.self (record c.rows.self { cursor = c.next.new.self }) old now new c.rows.invariant.passes c.in_err-row.field-0.0 c.in_err-row.ensures.steps);
    }

pub returns-in_default : goal.returns-in_default
returns-in_default g c =
    let old = state g.S.Store c.args.conn.now in
    let now = state g.S.Store c.rows.conn in
    let new = state g.S.Store c.next.new.conn in
    record { looks = looks_past c.args.entry c.args.self.now c.rows.self (record c.rows.self { cursor = c.next.new.self }) old now new c.rows.invariant.passes (rw c.in_default.is at c.in_ok-row.ensures.steps) }

pub returns-then-number-entry : goal.returns-then-number-entry
returns-then-number-entry g c =
    let old = state g.S.Store c.args.conn.now in
    let now = state g.S.Store c.rows.conn in
    let new = state g.S.Store c.next.new.conn in
    let stops = c.stop_at.ensures in
    let number : c.in-Some.row.number ≡ c.args.entry = sym c.number-number.ensures.value ∙ c.if-number-entry.true in
    let reads =
    subst (λ (place : Place). Steps entry_cells IsEntryRow (λ (b : Tables). b.entry) c.rows.self.cursor place now new (Ok (Some c.in-Some.row))) (sym stops.cursor)
    (rw c.in-Some.is at c.in_ok-row.ensures.steps) in
    record {
      looks =
          looks_stopped c.args.entry c.args.self.now c.rows.self c.stop_at.new.self old now new c.rows.invariant.passes c.in-Some.row reads number c.stop_at.result stops.day
          stops.last stops.damaged;
    }

pub rows-preserved : goal.rows-preserved
rows-preserved g c =
    let old = state g.S.Store c.args.conn.now in
    let now = state g.S.Store c.rows.conn in
    let new = state g.S.Store c.next.new.conn in
    let other : c.in-Some.row.number ≢ c.args.entry = λ same. c.if-number-entry.false (c.number-number.ensures.value ∙ same) in
    record {
      passes =
          passes_on c.args.entry c.args.self.now c.rows.self (record c.rows.self { cursor = c.next.new.self }) old now new c.rows.invariant.passes c.in-Some.row other
          (rw c.in-Some.is at c.in_ok-row.ensures.steps);
    }

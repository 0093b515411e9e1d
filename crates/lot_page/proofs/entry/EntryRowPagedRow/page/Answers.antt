use Rattle.std.proofs.Common.{pos, refl, ◌+ℤ◌}
use Rattle.sqlite.specs.Held.{state}
use Rattle.lot_page.proofs.EntryLemmas.{all_entries, past_first}
use Rattle.lot_page.proofs.NextLemmas.{least}
use Rattle.lot_page.proofs.entry.EntryRowPagedRow.page.Goals as goal

pub returns-in-None : goal.returns-in-None
returns-in-None g c =
    let first = c.entries_from-in-None in
    record { pages = rw (c.in-None.is) (all_entries (state g.S.Store c.args.conn.now) (state g.S.Store first.new.conn) first.result (first.ensures.pages least refl)) }

pub returns-in-Some : goal.returns-in-Some
returns-in-Some g c =
    let row = c.in-Some.row in
    record { pages = rw (c.in-Some.is) (past_first row (state g.S.Store c.args.conn.now) (state g.S.Store c.entries_from.new.conn) c.entries_from.result (c.entries_from.ensures.pages (pos row.number +ℤ pos 1) c.number_behind.ensures)) }

-- Rows of other entries were read.
use Rattle.sqlite.specs.Held.{state}
use Rattle.lot_legs.specs.Days.{Passes}
use Rattle.lot_legs.proofs.days.EntryDays.look_up.Given as goal

abbrev pub invariant-rows : goal.invariant-rows
invariant-rows g l = record { passes : Passes l.entry l.initial.self l.self (state g.S.Store l.initial.conn) (state g.S.Store l.conn) }

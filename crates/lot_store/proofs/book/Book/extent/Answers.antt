use Rattle.std.proofs.Common.{rules}
use Rattle.sqlite.specs.Held.{state}
use Rattle.lot_store.proofs.ExtentLemmas.{measured}
use Rattle.lot_store.proofs.book.Book.extent.Goals as goal

pub returns-clause-measures : goal.returns-clause-measures
returns-clause-measures g c =
    measured (state g.S.Store c.args.self.now.conn) (state g.S.Store c.measure-measured.new.conn) (state g.S.Store c.match-measured.self.conn)
    c.in_ok-measured.field-0 (search rules) c.in_ok-measured.ensures.answers

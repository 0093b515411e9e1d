use Rattle.sqlite.specs.Held.{state}
use Rattle.lot_quote.proofs.QuoteLemmas.{quote_rows, quote_step}
use Rattle.lot_quote.proofs.place.QuotesPlacePlace.next.Goals as goal

pub returns-clause-steps : goal.returns-clause-steps
returns-clause-steps g c =
    quote_step c.args.self.now _ (state g.S.Store c.args.conn.now) (state g.S.Store c.next.new.conn) c.next.result c.next.ensures.steps

pub returns-clause-rows : goal.returns-clause-rows
returns-clause-rows g c =
    quote_rows c.args.self.now _ (state g.S.Store c.args.conn.now) (state g.S.Store c.next.new.conn) c.next.result c.next.ensures.steps

use Rattle.std.proofs.Common.{rules}
use Rattle.lot_store.proofs.WalkLemmas.{walks_on, walks_over_rows}
use Rattle.lot_store.proofs.walk.Walk.next.Goals as goal

pub returns-clause-walks : goal.returns-clause-walks
returns-clause-walks g c =
    let read = c.read_next-found.ensures in
    let is = c.in_ok-found.was in
    walks_on g.S.Store g.P.Place.shown g.P.Place.IsGood g.P.Place.AreAll g.P.Place.IsBehind c.args.self.now _ c.in_ok-found.field-0 (search rules) (search rules) (rw is at read.steps) (rw is at read.reopen) (rw is at read.condition)

pub returns-clause-rows : goal.returns-clause-rows
returns-clause-rows g c =
    let read = c.read_next-found.ensures in
    let is = c.in_ok-found.was in
    let steps = rw is at read.steps in
    walks_over_rows g.S.Store g.P.Place.shown g.P.Place.AreAllRows g.P.Place.IsBehindRows c.args.self.now _ c.in_ok-found.field-0 (search rules) steps.same (rw is at read.rows)

use Rattle.lot_call.proofs.LookLemmas.{looked}
use Rattle.lot_call.proofs.facts.look_for.Goals as goal

pub returns-clause-looked : goal.returns-clause-looked
returns-clause-looked g c =
    looked (g.D.Queryable.shown c.args.db.now) (g.D.Queryable.shown c.find_fact-found.new.db) c.find_fact-found.result c.find_fact-found.ensures.looks

use Rattle.std.proofs.Common.{refl, ◌∙◌}
use Rattle.lot_call.proofs.LookLemmas.{looked_then, unlooked}
use Rattle.lot_call.proofs.facts.look_up.Goals as goal

pub facts-init : goal.facts-init
facts-init g c = (refl, unlooked (g.D.Queryable.shown c.args.db.now))

pub facts-preserved : goal.facts-preserved
facts-preserved g c = (
  c.look_for.ensures.same_reference ∙ c.facts.invariant.0,
  looked_then (g.D.Queryable.shown c.args.db.now) (g.D.Queryable.shown c.facts.db) (g.D.Queryable.shown c.look_for.new.db)
      c.facts.invariant.1 c.look_for.ensures.looked,
)

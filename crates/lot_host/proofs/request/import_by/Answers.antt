use Rattle.std.proofs.Common.{inr, rules}
use Rattle.lot_host.proofs.ImportLemmas.{done_with}
use Rattle.lot_host.proofs.request.import_by.Goals as goal

pub returns-in-Ok-clause-imported : goal.returns-in-Ok-clause-imported
returns-in-Ok-clause-imported g c = inr (record {
  profile = c.in-Ok.profile;
  rounding = c.in-Ok.rounding;
  found = search rules;
  done = done_with g.H.Host c.args.import c.in-Ok.profile c.in-Ok.rounding c.args.effect c.act.result c.with.result c.with.ensures.book
      c.with.ensures.batch c.with.ensures.except c.with.ensures.keeping c.with.ensures.profile c.with.ensures.rounding c.act.ensures.done;
})

use Rattle.std.proofs.Common.{rules}
use Rattle.lot_files.proofs.OpenLemmas.{kept_why, over_noted}
use Rattle.lot_files.proofs.files.open_noted.Goals as goal

pub returns-in-Ok-clause-over : goal.returns-in-Ok-clause-over
returns-in-Ok-clause-over g c =
    over_noted c.args.files c.noted.result c.in-Ok.conn c.noted.ensures.same c.in-Ok.ensures.found

pub returns-in-Ok-clause-opens : goal.returns-in-Ok-clause-opens
returns-in-Ok-clause-opens g c = record {
  noted = c.noted.result;
  are = c.noted.ensures.same;
  opens = record { found = c.in-Ok.ensures.found; fails = search rules };
  marked = rw c.options_of.ensures.seed at c.in-Ok.ensures.marked;
}

pub returns-in-Err-clause-opens : goal.returns-in-Err-clause-opens
returns-in-Err-clause-opens g c = record {
  noted = c.noted.result;
  are = c.noted.ensures.same;
  opens = record {
    found = search rules;
    fails = (
      c.in-Err.error,
      c.in-Err._left,
      c.in-Err.ensures.fails,
      kept_why _ _ _ _ _ c.args.failure.now (λ kept is. is) _ _ _ c.why_over.ensures,
    );
  };
  marked = search rules;
}

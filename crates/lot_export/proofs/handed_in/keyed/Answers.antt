-- A row with what it asks for is handed in.
use Rattle.std.proofs.Common.{Option, ℤ, rules, subst, sym}
use Rattle.lot_export.specs.Deals.{HasAsked}
use Rattle.lot_export.proofs.handed_in.keyed.Goals as goal

pub returns-clause-ok : goal.returns-clause-ok
returns-clause-ok c = record {
  key = search rules;
  asked = record {
    dated = c.in-Some.dated.now;
    there = sym c.in-Some.ensures;
    is = subst (λ (bought : Option ℤ). HasAsked c.in-Some.dated.now bought c.in_ok-asked.asked) c.bought_on-bought.ensures c.in_ok-asked.ensures.ok;
  };
}

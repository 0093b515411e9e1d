-- The commodity is declared, and of every other what was known.
use Rattle.std.proofs.Common.{refl}
use Rattle.lot_view.proofs.ViewLemmas.{declared_set}
use Rattle.lot_view.proofs.view.View.put_declared.Goals as goal
use Rattle.lot_book.proofs.FactLemmas.{same_facts}

pub returns-clause-ok : goal.returns-clause-ok
returns-clause-ok c =
    let sets = declared_set c.args.self.now.declared c.insert.new.self c.args.commodity.now c.in_ok-copy.field-0
    c.in_ok-copy.ensures c.in_ok-insert.ensures.updates.0 in
    same_facts _ _ refl refl (λ account. refl) sets (λ account commodity. refl) (λ account. refl)

-- Where there are lots, one of them is held.
use Rattle.std.proofs.Common.{refl, ◌∙◌}
use Rattle.std.proofs.lemmas.Bool.{eqb-false}
use Rattle.lot_inv.proofs.SetLemmas.{lot_something}
use Rattle.lot_inv.proofs.inventory.Holding.is_empty.Goals as goal

pub returns-then-eq-clause-something : goal.returns-then-eq-clause-something
returns-then-eq-clause-something c =
    λ e. lot_something c.args.self.now c.args.self.now.lots refl (λ none. eqb-false c.len.result 0 e (c.len.ensures ∙ none))

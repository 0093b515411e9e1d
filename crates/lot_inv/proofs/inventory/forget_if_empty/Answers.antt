-- A holding that holds nothing isn't missed, and no other one is empty.
use Rattle.std.proofs.Common.{sym, ap, subst, ◌∙◌, option_copied}
use Rattle.std.specs.Prelude.{IfSome}
use Rattle.lot_inv.specs.Holding.{HoldsSomething}
use Rattle.lot_inv.proofs.SetLemmas.{found_forgotten, none_empty_still}
use Rattle.lot_inv.proofs.inventory.forget_if_empty.Goals as goal

pub returns-then-is_empty-clause-alike : goal.returns-then-is_empty-clause-alike
returns-then-is_empty-clause-alike c =
    let at = ap option_copied (sym c.in-Some.is) ∙ c.get.ensures.value in
    found_forgotten c.args.held.now.entries c.remove.new.self.entries c.args.commodity.now c.in-Some.holding.now at (c.is_empty.ensures.nothing c.if-is_empty.true) c.remove.ensures.updates.0

pub returns-else-is_empty-clause-none_empty : goal.returns-else-is_empty-clause-none_empty
returns-else-is_empty-clause-none_empty c =
    let at = ap option_copied (sym c.in-Some.is) ∙ c.get.ensures.value in
    none_empty_still c.args.held.now.entries c.args.commodity.now c.requires.no_other_empty (subst (λ o. IfSome o HoldsSomething) at (c.is_empty.ensures.something c.if-is_empty.false))

pub returns-in_default-clause-none_empty : goal.returns-in_default-clause-none_empty
returns-in_default-clause-none_empty c =
    let at = ap option_copied (sym c.in_default.is) ∙ c.get.ensures.value in
    none_empty_still c.args.held.now.entries c.args.commodity.now c.requires.no_other_empty (subst (λ o. IfSome o HoldsSomething) at tt)

use Rattle.std.proofs.Common.{arith, lit<}
use Rattle.std.proofs.lemmas.Grind.{common_steps}
use Rattle.lot_base.specs.Name.{is_account}
use Rattle.lot_base.proofs.NameLemmas.{components-whole, components-cut, is_account_path-cut}
use Rattle.lot_base.proofs.grammars.AccountGrammarGrammar.accepts.Goals as goal

pub returns-then-is_root : goal.returns-then-is_root
unfolding is_account
returns-then-is_root c =
    let cut = c.in-Some.ensures.byte (lit< tt) (λ w o h. h) in
    let parts = components-cut _ _ _ cut.0 cut.1 cut.2 in
    let path = is_account_path-cut c.in-Some.root.now c.in-Some.rest.now in
    rw parts (rw path (grind (arith, common_steps)))

pub returns-else-is_root : goal.returns-else-is_root
unfolding is_account
returns-else-is_root c =
    let cut = c.in-Some.ensures.byte (lit< tt) (λ w o h. h) in
    let parts = components-cut _ _ _ cut.0 cut.1 cut.2 in
    let path = is_account_path-cut c.in-Some.root.now c.in-Some.rest.now in
    rw parts (rw path (grind (arith, common_steps)))

pub returns-in-None : goal.returns-in-None
unfolding is_account
returns-in-None c =
    let whole = components-whole _ (c.in-None.ensures.byte (lit< tt) (λ w o h. h)) in
    rw whole (grind (arith, common_steps))

-- The rows before the one that `position` finds pass.
use Rattle.std.proofs.Common.{rules, tests}
use Rattle.std.proofs.lemmas.Iterator.{IsFirst-from_position, YieldsList-from_slice}
use Rattle.lot_import.proofs.KeyedLemmas.{Finds, Passes, found_inexact, found_none, where_none}
use Rattle.lot_import.proofs.keyed.first_inexact.Goals as goal

pub returns-clause-some : goal.returns-clause-some
returns-clause-some c =
    let rows = c.args.rows.now in
    let decimals = c.args.decimals in
    let except = c.args.except.now in
    let finds : Finds decimals except rows c.position.result =
    IsFirst-from_position _ _ c.position.result (λ row. Passes decimals except row → ⊥) (Passes decimals except) c.position.ensures.ran
    (YieldsList-from_slice rows cc) (λ x q k. search (rules, tests)) (λ x q k. search (rules, tests)) in
    found_inexact decimals except rows c.position.result c.in_ok-index.index c.in_ok-index.was finds

pub returns-in_err-index-clause-none : goal.returns-in_err-index-clause-none
returns-in_err-index-clause-none c =
    let rows = c.args.rows.now in
    let decimals = c.args.decimals in
    let except = c.args.except.now in
    let finds : Finds decimals except rows c.position.result =
    IsFirst-from_position _ _ c.position.result (λ row. Passes decimals except row → ⊥) (Passes decimals except) c.position.ensures.ran
    (YieldsList-from_slice rows cc) (λ x q k. search (rules, tests)) (λ x q k. search (rules, tests)) in
    where_none c.from_residual.result _ (found_none decimals except rows c.position.result c.in_err-index.was finds)

-- Each residual has its crumb behind those before it. Where one has none, they have none together.
use Rattle.std.proofs.Common.{List, ℤ, ℕ, rules, subst}
use Rattle.std.specs.List.{AllZip}
use Rattle.lot_completion.specs.Completion.{IsCrumbOf}
use Rattle.lot_completion.proofs.RateLemmas.{cut_at, next_taken, none_zip, zip_more}
use Rattle.lot_completion.proofs.completion.crumbs_of.Goals as goal

pub returns-in_default-clause-none : goal.returns-in_default-clause-none
returns-in_default-clause-none c none crumbs all =
    let R = IsCrumbOf c.args.fill c.args.left.now in
    let item = c.loop-currency-item.result in
    let cut = cut_at c.args.residuals.now c.loop-currency.currency-index item (search rules) c.loop-currency-item.is in
    none_zip R _ item _ (c.crumb_of.ensures.none c.in_default.is) crumbs (subst (λ (rs : List (List ℕ × ℤ)). AllZip R rs crumbs) cut all)

pub loop-currency-preserved : goal.loop-currency-preserved
loop-currency-preserved c =
    let R = IsCrumbOf c.args.fill c.args.left.now in
    let item = c.loop-currency-item.result in
    let i = c.loop-currency.currency-index in
    let taken = next_taken c.args.residuals.now i item (search rules) c.loop-currency-item.is in
    let one = rw c.in-Some.is at c.crumb_of.ensures.some in
    rw (taken, c.in_ok-push.ensures.ok) (zip_more R _ _ item _ c.loop-currency.invariant (search (one, c.in_ok-copy.ensures)))

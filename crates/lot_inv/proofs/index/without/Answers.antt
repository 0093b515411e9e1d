-- The place of what was kept goes, or is taken by the lot.
use Rattle.std.proofs.Common.{◌≡◌, None, arith, ap, sym, ◌∙◌, rules}
use Rattle.std.specs.BTreeMap.{get}
use Rattle.std.specs.Ordering.{is_eq}
use Rattle.std.specs.Prelude.{cond}
use Rattle.lot_cost.specs.declared.lot_key.LotKey.{LotKey}
use Rattle.lot_inv.specs.Holding.{kept}
use Rattle.lot_inv.specs.Index.{is_own, place_cmp, with_own}
use Rattle.lot_inv.proofs.IndexLemmas.{ok_is, stays}
use Rattle.lot_inv.proofs.SetLemmas.{something_kept}
use Rattle.lot_inv.proofs.index.without.Goals as goal

pub returns-in_default : goal.returns-in_default
returns-in_default c =
    let key = c.args.key.now in
    let after = kept c.args.lot.now.units c.args.lot.now.opening in
    λ at i. with_own c.args.foremost key after at
    (cond (is_own c.args.foremost key (sym c.in_default.is i) at) None (get place_cmp c.args.index at))

pub returns-then-mantissa-ne0 : goal.returns-then-mantissa-ne0
returns-then-mantissa-ne0 c =
    let key = c.args.key.now in
    let lot = c.args.lot.now in
    let after = kept lot.units lot.opening in
    λ at. stays c.args.foremost key c.in-Some.held lot after (get place_cmp c.args.index at) at (omega arith) (something_kept lot.units lot.opening (search rules))
    ∙ (λ i. with_own c.args.foremost key after at
    (cond (is_own c.args.foremost key (sym c.in-Some.is i) at) None (get place_cmp c.args.index at)))

pub returns : goal.returns
returns c =
    let key = c.args.key.now in
    let after = kept c.args.lot.now.units c.args.lot.now.opening in
    let copied = ok_is (λ (k : LotKey). k ≡ key) c.copy.result c.in_ok-ok.field-0 c.in_ok-ok.ensures.value c.copy.ensures in
    λ at. ap (with_own c.args.foremost key after at)
    (c.remove.ensures.updates.0 at
    ∙ (λ i. cond (is_eq (place_cmp (c.rank.ensures i, copied i) at)) None (get place_cmp c.args.index at))
    ∙ (λ i. cond (is_own c.args.foremost key (sym c.in-Some.is i) at) None (get place_cmp c.args.index at)))

-- The lot's own place changes.
use Rattle.std.proofs.Common.{◌≡◌, Some, sym, ◌∙◌, rules}
use Rattle.std.specs.BTreeMap.{get}
use Rattle.std.specs.Ordering.{is_eq}
use Rattle.std.specs.Prelude.{cond}
use Rattle.lot_cost.specs.declared.lot_key.LotKey.{LotKey}
use Rattle.lot_inv.specs.Index.{is_own, place_cmp}
use Rattle.lot_inv.proofs.IndexLemmas.{ok_is, ok_on}
use Rattle.lot_inv.proofs.SetLemmas.{nothing_kept, something_kept}
use Rattle.lot_inv.proofs.index.with_lot.Goals as goal

pub returns-then-mantissa-eq0 : goal.returns-then-mantissa-eq0
returns-then-mantissa-eq0 c =
    let key = c.args.key.now in
    let gone = nothing_kept (Some key) c.args.lot.now.units c.args.lot.now.opening (search rules) in
    λ at i. cond (is_own c.args.foremost key (sym gone i) at) (sym gone i) (get place_cmp c.args.index at)

pub returns : goal.returns
returns c =
    let key = c.args.key.now in
    let copied = ok_is (λ (k : LotKey). k ≡ key) c.copy.result c.in_ok-ok.field-0 c.in_ok-ok.ensures.value c.copy.ensures in
    let updates = ok_on c.insert.result c.in_ok-ok-2.field-0 c.in_ok-ok-2.ensures.value c.insert.ensures.updates in
    let held = something_kept c.args.lot.now.units c.args.lot.now.opening (search rules) in
    λ at. updates.0 at
    ∙ (λ i. cond (is_eq (place_cmp (c.rank.ensures i, copied i) at)) (Some c.args.lot.now) (get place_cmp c.args.index at))
    ∙ (λ i. cond (is_own c.args.foremost key (sym held i) at) (sym held i) (get place_cmp c.args.index at))

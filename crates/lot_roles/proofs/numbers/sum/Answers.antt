-- One source more.
use Rattle.std.proofs.Common.{◌≡◌, ◌≤◌, ◌*◌, ◌+◌, Option, sym, ◌∙◌, subst, ℤ, pos, arith, drop}
use Rattle.std.specs.Prelude.{unsigned_abs, unwrap_or}
use Rattle.std.specs.List.{filter_map}
use Rattle.lot_num.specs.Amount.{units_limit}
use Rattle.lot_roles.specs.Numbers.{total_of}
use Rattle.lot_roles.specs.Parts.{part_of, parts_of}
use Rattle.lot_roles.specs.Rules.{sources_of}
use Rattle.lot_roles.proofs.SumLemmas.{behind_nothing, sum_behind}
use Rattle.lot_roles.proofs.StepLemmas.{one_added, one_skipped}
use Rattle.lot_roles.proofs.numbers.sum.Goals as goal
use Rattle.lot_roles.proofs.numbers.sum.Goals.{in-Some+in_ok-units, in_default}

pub loop-source-preserved : goal.loop-source-preserved
loop-source-preserved c =
    let file = c.args.rules.now.profile.now.file in
    let all = sources_of c.args.rules.now c.args.role in
    let i = c.loop-source.source-index in
    let f = part_of file c.args.row.now in
    let whole = total_of file.numbers c.args.decimals c.args.role (parts_of c.args.rules.now c.args.row.now c.args.role) in
    let said = λ (sum : Option ℤ). whole ≡ sum_behind file.numbers c.args.decimals c.args.role sum (filter_map f (drop (i + 1) all)) in
    elim c.match-part.branch [
      | in-Some+in_ok-units w ↦ record {
        behind = subst said (sym (w.sum-is ∙ w.plus-sum.ensures.value))
            (one_added f all c.sources-source-items.result.now i c.source-item.result c.sources-source-items.ensures c.loop-source-test.true
            c.source-item.is file.numbers c.args.decimals c.args.role c.loop-source.sum whole w.in-Some.part.now w.in_ok-units.units w.in-Some.ensures
            w.in_ok-units.ensures c.loop-source.invariant.behind);
        bound = subst (λ (sum : Option ℤ). unsigned_abs (unwrap_or sum (pos 0)) ≤ (i + 1) * units_limit) (sym w.sum-is)
            (omega (arith, w.plus-sum.ensures.bound, c.loop-source.invariant.bound));
      }
      | in_default w ↦ record {
        behind = subst said (sym w.sum-is)
            (one_skipped f all c.sources-source-items.result.now i c.source-item.result c.sources-source-items.ensures c.loop-source-test.true
            c.source-item.is file.numbers c.args.decimals c.args.role c.loop-source.sum whole w.in_default.ensures c.loop-source.invariant.behind);
        bound = subst (λ (sum : Option ℤ). unsigned_abs (unwrap_or sum (pos 0)) ≤ (i + 1) * units_limit) (sym w.sum-is)
            (omega (arith, c.loop-source.invariant.bound));
      }
    ]

pub loop-source-init : goal.loop-source-init
unfolding parts_of
loop-source-init c = record {
  behind = behind_nothing c.args.rules.now.profile.now.file.numbers c.args.decimals c.args.role (parts_of c.args.rules.now c.args.row.now c.args.role);
  bound = omega arith;
}

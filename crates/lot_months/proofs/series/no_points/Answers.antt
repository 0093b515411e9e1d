use Rattle.std.proofs.Common.{◌≡◌, ◌++◌, ◌∷◌, [], ◌∙◌, ap, arith, sym}
use Rattle.std.proofs.lemmas.List.FromFn.{map-range_with_len_more}
use Rattle.lot_months.specs.Ends.{no_point, no_points}
use Rattle.lot_months.proofs.series.no_points.Goals as goal

pub loop-preserved : goal.loop-preserved
loop-preserved c =
    c.in_ok-push.ensures.items
    ∙ ap (λ ps. ps ++ no_point ∷ []) c.loop.invariant
    ∙ sym (map-range_with_len_more (λ at. no_point) 0 c.loop.counter c.loop.counter (omega arith))

pub returns : goal.returns
returns c =
    let all : c.loop.counter ≡ c.args.count = omega (arith) in
    c.loop.invariant ∙ ap no_points all

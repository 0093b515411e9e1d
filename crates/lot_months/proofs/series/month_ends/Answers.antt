use Rattle.std.proofs.Common.{◌≡◌, ◌+◌, ◌++◌, ◌∷◌, [], ◌∙◌, ap, arith, map, rules, subst, suc, sym}
use Rattle.std.specs.List.{range_with_len}
use Rattle.std.specs.Option.{option_copied}
use Rattle.std.proofs.lemmas.List.FromFn.{map-range_with_len_more}
use Rattle.lot_months.specs.Ends.{begin_of, end_of, end_with, or_before}
use Rattle.lot_months.specs.Lots.{IsFlow, month_flow, plus_flow}
use Rattle.lot_months.specs.declared.flows.Flow.{Flow}
use Rattle.lot_months.specs.Prices.{rate_in}
use Rattle.lot_months.proofs.series.month_ends.Goals as goal

pub loop-at-preserved : goal.loop-at-preserved
loop-at-preserved c =
    let months = c.args.months.now in
    let rates = option_copied c.args.rates in
    let at = c.loop-at.at in
    let held = c.in_ok-push_end.ensures.held ∙ ap (λ f. plus_flow f (month_flow months at)) c.loop-at.invariant.held in
    let price = c.in_ok-push_end.ensures.price ∙ ap (or_before (rate_in rates at)) c.loop-at.invariant.price in
    let next : suc at ≡ at + 1 = omega arith in
    record {
      ends = c.in_ok-push_end.ensures.pushes
          ∙ (λ i. c.loop-at.invariant.ends i ++ end_with (held i) (price i) ∷ [])
          ∙ sym (map-range_with_len_more (end_of months rates) 0 at at (omega arith));
      held = held ∙ ap (λ n. (begin_of months rates n).held) next;
      price = price ∙ ap (λ n. (begin_of months rates n).price) next;
    }

pub returns-in_err-push_end-clause-range : goal.returns-in_err-push_end-clause-range
returns-in_err-push_end-clause-range c = λ is.
    let months = c.args.months.now in
    let at = c.loop-at.at in (
      at,
      omega arith,
      subst (λ (f : Flow). ¬ IsFlow (plus_flow f (month_flow months at))) c.loop-at.invariant.held (c.in_err-push_end.ensures.range (search rules)),
    )

pub returns-clause-ends : goal.returns-clause-ends
returns-clause-ends c =
    let all : c.loop-at.at ≡ c.args.count = omega (arith) in
    c.loop-at.invariant.ends ∙ ap (λ n. map (end_of c.args.months.now (option_copied c.args.rates)) (range_with_len 0 n)) all

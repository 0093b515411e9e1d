use Rattle.std.proofs.Common.{◌≡◌, ◌∙◌, ap, false, inl, inr, rules, sym, true}
use Rattle.lot_months.specs.Ends.{is_ever_held, items_of, points_after}
use Rattle.lot_months.proofs.SeriesLemmas.{leave_same, never_held, points_set}
use Rattle.lot_months.proofs.series.add_pair.Goals as goal

pub returns-in_err-ends-clause-range : goal.returns-in_err-ends-clause-range
returns-in_err-ends-clause-range c = λ is. inl (c.in_err-ends.ensures.range (search rules))

pub returns-in_err-sums-clause-range : goal.returns-in_err-sums-clause-range
returns-in_err-sums-clause-range c = λ is.
    let yes : c.is_ever_held.result ≡ true = search rules in
    let held : is_ever_held c.in_ok-ends.ends.items ≡ true = ap is_ever_held (sym c.deref.ensures.value) ∙ sym c.is_ever_held.ensures ∙ yes in
    inr (
      rw c.in_ok-ends.ensures.ends at held,
      leave_same c.args.count _ _ _ _ (ap items_of c.get.ensures.value) (c.deref-2.ensures.value ∙ c.in_ok-ends.ensures.ends)
          (c.in_err-sums.ensures.range (search rules)),
    )

pub returns-then-not-is_ever_held-clause-adds : goal.returns-then-not-is_ever_held-clause-adds
returns-then-not-is_ever_held-clause-adds c =
    let no : c.is_ever_held.result ≡ false = search rules in
    let never : is_ever_held c.in_ok-ends.ends.items ≡ false = ap is_ever_held (sym c.deref.ensures.value) ∙ sym c.is_ever_held.ensures ∙ no in
    rw c.in_ok-ends.ensures.ends at (never_held c.args.count c.args.pair.now c.in_ok-ends.ends.items c.args.points.now never)

pub returns-clause-adds : goal.returns-clause-adds
returns-clause-adds c =
    let yes : c.is_ever_held.result ≡ true = search rules in
    let held : is_ever_held c.in_ok-ends.ends.items ≡ true = ap is_ever_held (sym c.deref.ensures.value) ∙ sym c.is_ever_held.ensures ∙ yes in
    rw c.in_ok-ends.ensures.ends at
    (points_set c.args.count c.args.pair.now c.in_ok-ends.ends.items c.args.points.now c.insert.new.self c.in_ok-sums.sums _
    c.in_ok-copy.ensures held
    (c.in_ok-sums.ensures.sums ∙ (λ i. points_after c.args.count (items_of (c.get.ensures.value i)) (c.deref-2.ensures.value i)))
    c.in_ok-insert.ensures.updates.0)

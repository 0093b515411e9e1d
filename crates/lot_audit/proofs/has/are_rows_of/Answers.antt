use Rattle.std.proofs.Common.{ap, length, refl, subst, sym, ◌∙◌, ◌<◌, ◌≤◌, ℕ}
use Rattle.std.proofs.lemmas.List.{drop_all}
use Rattle.std.proofs.lemmas.Bool.{true≢false}
use Rattle.lot_stored.specs.Rows.{allowed_rows}
use Rattle.lot_audit.proofs.HasLemmas.{allowed_length, other_row, same_row}
use Rattle.lot_audit.proofs.has.are_rows_of.Goals as goal

pub returns-then-rows-currencies : goal.returns-then-rows-currencies
returns-then-rows-currencies c = (
  (λ is. absurd (true≢false (sym is))),
  (λ same. absurd (c.if-rows-currencies.true (ap length same ∙ allowed_length c.args.account.now 0 c.args.currencies.now))),
)

pub returns-then-not-is_row_of : goal.returns-then-not-is_row_of
returns-then-not-is_row_of c = (
  (λ is. absurd (true≢false (sym is))),
  (λ same.
      absurd (other_row c.args.account.now c.rows.place c.args.rows.now c.args.currencies.now c.index-rows-place.result
      c.index-currencies-place.result c.rows-test.true (subst (λ (n : ℕ). c.rows.place < n) c.if-rows-currencies.false c.rows-test.true)
      c.index-rows-place.is c.index-currencies-place.is
      (λ is. true≢false (sym (c.is_row_of.ensures.1 is) ∙ c.if-not-is_row_of.true)) (c.rows.invariant.0 same))),
)

pub rows-preserved : goal.rows-preserved
rows-preserved c =
    let step = same_row c.args.account.now c.rows.place c.args.rows.now c.args.currencies.now c.index-rows-place.result
    c.index-currencies-place.result c.rows-test.true (subst (λ (n : ℕ). c.rows.place < n) c.if-rows-currencies.false c.rows-test.true)
    c.index-rows-place.is c.index-currencies-place.is (c.is_row_of.ensures.0 c.if-not-is_row_of.false) in (
      (λ same. step.0 (c.rows.invariant.0 same)),
      (λ rest. c.rows.invariant.1 (step.1 rest)),
    )

pub returns : goal.returns
returns c =
    let n = c.rows.place in (
      (λ _. c.rows.invariant.1
          (drop_all n c.args.rows.now c.rows-test.false
          ∙ sym (ap (allowed_rows c.args.account.now n)
          (drop_all n c.args.currencies.now (subst (λ (m : ℕ). m ≤ n) c.if-rows-currencies.false c.rows-test.false))))),
      (λ _. refl),
    )

use Rattle.std.proofs.Common.{◌≡◌, ◌<◌, ◌≤◌, List, ℕ, Bor, get_or, length, option_map, refl, sym, subst, arith}
use Rattle.std.specs.List.{Any}
use Rattle.csv.specs.Records.{fields_of}
use Rattle.lot_field.specs.Tests.{Holds}
use Rattle.lot_field.specs.declared.tests.Test.{Test}
use Rattle.lot_profile.specs.declared.file.Condition.{Condition}
use Rattle.lot_sheet.specs.Column.{MeetsOne}
use Rattle.lot_sheet.proofs.ListLemmas.{not_true, one_more_in}
use Rattle.lot_sheet.proofs.column.meets_all.Goals as goal

pub loop-condition-preserved : goal.loop-condition-preserved
loop-condition-preserved c =
    let l = c.loop-condition in
    one_more_in (MeetsOne c.args.form.now (option_map (λ (names : Bor (List (List ℕ))). names.now) c.args.header) (fields_of c.args.line.now))
    c.args.conditions.now c.as_slice-condition-items.result.now c.as_slice-condition-items.ensures l.condition-index c.condition-item.result
    c.loop-condition-test.true c.condition-item.is l.invariant
    (subst (λ (f : List ℕ). Any (λ (t : Test). Holds t c.args.form.now.nothing c.args.form.now.numbers f) c.condition-item.result.tests)
    c.field_in.ensures (c.meets_one.ensures.0 c.if-not-meets_one.false))

pub returns-then-not-meets_one : goal.returns-then-not-meets_one
returns-then-not-meets_one c =
    let l = c.loop-condition in
    let e = c.as_slice-condition-items.ensures in
    let here : l.condition-index < length c.args.conditions.now =
    subst (λ (xs : List Condition). l.condition-index < length xs) e c.loop-condition-test.true in
    let is : c.condition-item.result ≡ get_or c.args.conditions.now l.condition-index c.condition-item.result =
    subst (λ (xs : List Condition). c.condition-item.result ≡ get_or xs l.condition-index c.condition-item.result) e c.condition-item.is in (
      (λ t. cc),
      (λ all. absurd (not_true c.meets_one.result c.if-not-meets_one.true (c.meets_one.ensures.1
          (subst (λ (f : List ℕ). Any (λ (t : Test). Holds t c.args.form.now.nothing c.args.form.now.numbers f) c.condition-item.result.tests)
          (sym c.field_in.ensures)
          (subst (MeetsOne c.args.form.now (option_map (λ (names : Bor (List (List ℕ))). names.now) c.args.header) (fields_of c.args.line.now))
          (sym is) (all l.condition-index c.condition-item.result here)))))),
    )

pub returns : goal.returns
returns c =
    let l = c.loop-condition in
    let over : length c.args.conditions.now ≤ l.condition-index =
    subst (λ (xs : List Condition). length xs ≤ l.condition-index) c.as_slice-condition-items.ensures c.loop-condition-test.false in
    ((λ t k d lt. l.invariant k d (omega (arith, lt, over))), (λ all. refl))

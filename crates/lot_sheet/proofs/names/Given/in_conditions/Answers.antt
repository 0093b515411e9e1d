use Rattle.std.proofs.Common.{[], ◌∷◌}
use Rattle.lot_profile.specs.declared.file.Condition.{Condition}
use Rattle.lot_sheet.specs.Column.{column_name}
use Rattle.lot_sheet.proofs.NameLemmas.{bad_here, bad_more}
use Rattle.lot_sheet.proofs.names.Given.in_conditions.Goals as goal

pub loop-condition-preserved : goal.loop-condition-preserved
loop-condition-preserved c =
    let l = c.loop-condition in
    bad_more c.args.self.optional.now c.args.self.header.now (λ (x : Condition). x.column ∷ []) c.args.conditions.now l.condition-index _ l.invariant
    c.condition-item.result c.loop-condition-test.true c.condition-item.is c.in_default.ensures

pub returns-in-Some : goal.returns-in-Some
returns-in-Some c =
    let l = c.loop-condition in
    bad_here c.args.self.optional.now c.args.self.header.now (λ (x : Condition). x.column ∷ []) c.args.conditions.now l.condition-index _ l.invariant
    c.condition-item.result c.loop-condition-test.true c.condition-item.is (column_name c.in-Some.bad.column.now, c.in-Some.bad.cause) c.in-Some.ensures

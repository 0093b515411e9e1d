use Rattle.std.proofs.Common.{List, None, Some, ap, ◌∙◌}
use Rattle.lot_profile.specs.declared.file.Condition.{Condition}
use Rattle.lot_profile.specs.declared.role.Sources.{Sources}
use Rattle.lot_sheet.specs.Column.{column_name}
use Rattle.lot_sheet.specs.Part.{asked_columns, first_bad, kind_columns, role_columns}
use Rattle.lot_sheet.proofs.NameLemmas.{bad_here, bad_more, first_left, first_right}
use Rattle.lot_sheet.proofs.names.Given.in_kinds.Goals as goal

pub loop-kind-preserved : goal.loop-kind-preserved
loop-kind-preserved c =
    let l = c.loop-kind in
    let o = c.args.self.optional.now in
    let h = c.args.self.header.now in
    bad_more o h kind_columns c.args.kinds.now l.kind-index _ l.invariant c.kind-item.result c.loop-kind-test.true c.kind-item.is
    (first_right o h (role_columns c.kind-item.result.columns) (asked_columns c.kind-item.result.when) None
    (c.in_default.ensures ∙ ap (λ (of : List Sources). first_bad o h (role_columns of)) c.as_slice.ensures)
    (c.in_default-in_conditions.ensures ∙ ap (λ (of : List Condition). first_bad o h (asked_columns of)) c.as_slice-in-loop-kind.ensures))

pub returns-in-Some : goal.returns-in-Some
returns-in-Some c =
    let l = c.loop-kind in
    let o = c.args.self.optional.now in
    let h = c.args.self.header.now in
    bad_here o h kind_columns c.args.kinds.now l.kind-index _ l.invariant c.kind-item.result c.loop-kind-test.true c.kind-item.is
    (column_name c.in-Some.bad.column.now, c.in-Some.bad.cause)
    (first_left o h (role_columns c.kind-item.result.columns) (asked_columns c.kind-item.result.when) (column_name c.in-Some.bad.column.now, c.in-Some.bad.cause)
    (c.in-Some.ensures ∙ ap (λ (of : List Sources). first_bad o h (role_columns of)) c.as_slice.ensures))

pub returns-in-Some-in_conditions : goal.returns-in-Some-in_conditions
returns-in-Some-in_conditions c =
    let l = c.loop-kind in
    let o = c.args.self.optional.now in
    let h = c.args.self.header.now in
    let b = c.in-Some-in_conditions.bad in
    bad_here o h kind_columns c.args.kinds.now l.kind-index _ l.invariant c.kind-item.result c.loop-kind-test.true c.kind-item.is
    (column_name b.column.now, b.cause)
    (first_right o h (role_columns c.kind-item.result.columns) (asked_columns c.kind-item.result.when) (Some (column_name b.column.now, b.cause))
    (c.in_default.ensures ∙ ap (λ (of : List Sources). first_bad o h (role_columns of)) c.as_slice.ensures)
    (c.in-Some-in_conditions.ensures ∙ ap (λ (of : List Condition). first_bad o h (asked_columns of)) c.as_slice-in-loop-kind.ensures))

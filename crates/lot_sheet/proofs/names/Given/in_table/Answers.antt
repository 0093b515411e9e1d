use Rattle.std.proofs.Common.{List, ◌++◌, None, Some, ap, ◌∙◌}
use Rattle.std.specs.List.{flat_map}
use Rattle.lot_profile.specs.declared.file.Condition.{Condition}
use Rattle.lot_profile.specs.declared.kind.KindRule.{KindRule}
use Rattle.lot_profile.specs.declared.role.Sources.{Sources}
use Rattle.lot_sheet.specs.Column.{column_name}
use Rattle.lot_sheet.specs.Part.{asked_columns, first_bad, kind_columns, role_columns}
use Rattle.lot_sheet.proofs.NameLemmas.{first_left, first_right}
use Rattle.lot_sheet.proofs.names.Given.in_table.Goals as goal

pub returns-in-Some : goal.returns-in-Some
returns-in-Some c =
    let o = c.args.self.optional.now in
    let h = c.args.self.header.now in
    let t = c.args.table.now in
    let b = c.in-Some.bad in
    first_left o h (role_columns t.columns ++ asked_columns t.rows) (flat_map kind_columns t.kinds) (column_name b.column.now, b.cause)
    (first_left o h (role_columns t.columns) (asked_columns t.rows) (column_name b.column.now, b.cause)
    (c.in-Some.ensures ∙ ap (λ (of : List Sources). first_bad o h (role_columns of)) c.as_slice.ensures))

pub returns-in-Some-in_conditions : goal.returns-in-Some-in_conditions
returns-in-Some-in_conditions c =
    let o = c.args.self.optional.now in
    let h = c.args.self.header.now in
    let t = c.args.table.now in
    let b = c.in-Some-in_conditions.bad in
    first_left o h (role_columns t.columns ++ asked_columns t.rows) (flat_map kind_columns t.kinds) (column_name b.column.now, b.cause)
    (first_right o h (role_columns t.columns) (asked_columns t.rows) (Some (column_name b.column.now, b.cause))
    (c.in_default.ensures ∙ ap (λ (of : List Sources). first_bad o h (role_columns of)) c.as_slice.ensures)
    (c.in-Some-in_conditions.ensures ∙ ap (λ (of : List Condition). first_bad o h (asked_columns of)) c.as_slice-2.ensures))

pub returns : goal.returns
returns c =
    let o = c.args.self.optional.now in
    let h = c.args.self.header.now in
    let t = c.args.table.now in
    first_right o h (role_columns t.columns ++ asked_columns t.rows) (flat_map kind_columns t.kinds) _
    (first_right o h (role_columns t.columns) (asked_columns t.rows) None
    (c.in_default.ensures ∙ ap (λ (of : List Sources). first_bad o h (role_columns of)) c.as_slice.ensures)
    (c.in_default-in_conditions.ensures ∙ ap (λ (of : List Condition). first_bad o h (asked_columns of)) c.as_slice-2.ensures))
    (c.in_kinds.ensures ∙ ap (λ (of : List KindRule). first_bad o h (flat_map kind_columns of)) c.as_slice-3.ensures)

use Rattle.std.proofs.Common.{List, ap, ◌∙◌}
use Rattle.lot_profile.specs.declared.role.Source.{Source}
use Rattle.lot_profile.specs.declared.role.Sources.{Sources}
use Rattle.std.specs.List.{flat_map}
use Rattle.lot_sheet.specs.Column.{column_name}
use Rattle.lot_sheet.specs.Part.{first_bad, source_columns}
use Rattle.lot_sheet.proofs.NameLemmas.{bad_here, bad_more}
use Rattle.lot_sheet.proofs.names.Given.in_roles.Goals as goal

pub loop-sources-preserved : goal.loop-sources-preserved
loop-sources-preserved c =
    let l = c.loop-sources in
    bad_more c.args.self.optional.now c.args.self.header.now (λ (x : Sources). flat_map source_columns x.from) c.args.roles.now l.sources-index _ l.invariant
    c.sources-item.result c.loop-sources-test.true c.sources-item.is
    (c.in_default.ensures ∙ ap (λ (of : List Source). first_bad c.args.self.optional.now c.args.self.header.now (flat_map source_columns of)) c.as_slice.ensures)

pub returns-in-Some : goal.returns-in-Some
returns-in-Some c =
    let l = c.loop-sources in
    bad_here c.args.self.optional.now c.args.self.header.now (λ (x : Sources). flat_map source_columns x.from) c.args.roles.now l.sources-index _ l.invariant
    c.sources-item.result c.loop-sources-test.true c.sources-item.is (column_name c.in-Some.bad.column.now, c.in-Some.bad.cause)
    (c.in-Some.ensures ∙ ap (λ (of : List Source). first_bad c.args.self.optional.now c.args.self.header.now (flat_map source_columns of)) c.as_slice.ensures)

use Rattle.std.proofs.Common.{◌+◌, List, refl, sym, subst, ◌∙◌}
use Rattle.csv.specs.Records.{fields_of}
use Rattle.lot_sheet.specs.declared.fault.RowCause.TheVariants.{TwoTables, Longer}
use Rattle.lot_sheet.specs.Header.{Standing}
use Rattle.lot_sheet.specs.Part.{BadRow, IsFirstTaker, RowOf, TakenByNone}
use Rattle.lot_sheet.proofs.PartLemmas.{body, longer, row, two, whole}
use Rattle.lot_sheet.proofs.part.table_of.Goals as goal

pub returns-in-Some-first_taker : goal.returns-in-Some-first_taker
returns-in-Some-first_taker c =
    let line = fields_of c.args.line.now in
    let n = c.in-Some.first in
    let m = c.in-Some-first_taker.more in
    let f = c.in-Some.ensures in
    let g = c.in-Some-first_taker.ensures in
    body c.args.form.now line c.args.tables.now (BadRow (TwoTables n (n + 1 + m))) (sym c.has_begun.ensures ∙ c.if-not-has_begun.false)
    (two c.args.form.now line c.args.tables.now n m (n + 1 + m) f.0 g.0 f.1 g.1 f.2
    (subst (λ (xs : List Standing). IsFirstTaker c.args.form.now line xs m g.0 g.1) (whole c.args.tables.now (n + 1)) g.2) refl)

pub returns-then-is_longer : goal.returns-then-is_longer
returns-then-is_longer c =
    let line = fields_of c.args.line.now in
    let n = c.in-Some.first in
    let f = c.in-Some.ensures in
    body c.args.form.now line c.args.tables.now (BadRow Longer) (sym c.has_begun.ensures ∙ c.if-not-has_begun.false)
    (longer c.args.form.now line c.args.tables.now n f.0 c.index-tables-first.result f.1 f.2
    (subst (TakenByNone c.args.form.now line) (whole c.args.tables.now (n + 1)) c.in_default-first_taker.ensures)
    c.index-tables-first.is _ c.names.ensures (sym c.is_longer.ensures ∙ c.if-is_longer.true))

pub returns : goal.returns
returns c =
    let line = fields_of c.args.line.now in
    let n = c.in-Some.first in
    let f = c.in-Some.ensures in
    body c.args.form.now line c.args.tables.now (RowOf n c.index-tables-first.result.1 line) (sym c.has_begun.ensures ∙ c.if-not-has_begun.false)
    (row c.args.form.now line c.args.tables.now n f.0 c.index-tables-first.result f.1 f.2
    (subst (TakenByNone c.args.form.now line) (whole c.args.tables.now (n + 1)) c.in_default-first_taker.ensures)
    c.index-tables-first.is _ c.names.ensures (sym c.is_longer.ensures ∙ c.if-is_longer.false))

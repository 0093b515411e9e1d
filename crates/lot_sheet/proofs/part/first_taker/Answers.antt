use Rattle.std.proofs.Common.{◌+◌, drop}
use Rattle.csv.specs.Records.{fields_of}
use Rattle.lot_sheet.specs.Header.{Standing}
use Rattle.lot_sheet.specs.Part.{Takes}
use Rattle.lot_sheet.proofs.ListLemmas.{not_true, one_more}
use Rattle.lot_sheet.proofs.PartLemmas.{first_by}
use Rattle.lot_sheet.proofs.part.first_taker.Goals as goal

pub returns-then-takes : goal.returns-then-takes
returns-then-takes c =
    let l = c.loop-place in
    let s = c.index-tables-place.result in (
      s,
      drop (l.place + 1) c.args.tables.now,
      first_by c.args.form.now (fields_of c.args.line.now) c.args.tables.now l.place s c.loop-place-test.true c.index-tables-place.is
          l.invariant (c.takes.ensures.0 c.if-takes.true),
    )

pub loop-place-preserved : goal.loop-place-preserved
loop-place-preserved c =
    let l = c.loop-place in
    one_more (λ (s : Standing). Takes c.args.form.now (fields_of c.args.line.now) s → ⊥) c.args.tables.now l.place c.index-tables-place.result
    c.loop-place-test.true c.index-tables-place.is l.invariant (λ t. not_true c.takes.result c.if-takes.false (c.takes.ensures.1 t))

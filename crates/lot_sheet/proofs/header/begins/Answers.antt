use Rattle.std.proofs.Common.{Some, None, sym, ◌∙◌, arith}
use Rattle.std.proofs.lemmas.List.{length-map}
use Rattle.lot_field.specs.Field.{cut}
use Rattle.lot_sheet.specs.Column.{names_in}
use Rattle.csv.specs.Records.{fields_of}
use Rattle.lot_sheet.proofs.HeaderLemmas.{begins_end, begins_more, begins_start}
use Rattle.lot_sheet.proofs.header.begins.Goals as goal

pub returns-in_default : goal.returns-in_default
returns-in_default c =
    sym (begins_start c.args.text.now (names_in (fields_of c.args.line.now)) c.args.between c.as_bytes.result.now None
    (c.as_bytes.ensures.value ∙ c.name_at.ensures) c.in_default.ensures)

pub loop-place-init : goal.loop-place-init
loop-place-init c =
    begins_start c.args.text.now (names_in (fields_of c.args.line.now)) c.args.between c.as_bytes.result.now (Some c.in-Some.rest.now)
    (c.as_bytes.ensures.value ∙ c.name_at.ensures) c.in-Some.ensures

pub returns-in-None : goal.returns-in-None
returns-in-None c =
    let l = c.loop-place in
    sym (l.invariant ∙ begins_more l.rest.now (names_in (fields_of c.args.line.now)) c.args.between c.as_bytes-in-loop-place.result.now None l.place
    (omega (arith, c.loop-place-test.true, c.len-place-end.ensures, length-map (fields_of c.args.line.now) cut))
    (c.as_bytes-in-loop-place.ensures.value ∙ c.name_at-in-loop-place.ensures) c.in-None.ensures)

pub loop-place-preserved : goal.loop-place-preserved
loop-place-preserved c =
    let l = c.loop-place in
    l.invariant ∙ begins_more l.rest.now (names_in (fields_of c.args.line.now)) c.args.between c.as_bytes-in-loop-place.result.now (Some c.in-Some-left_behind_delimited.more.now) l.place
    (omega (arith, c.loop-place-test.true, c.len-place-end.ensures, length-map (fields_of c.args.line.now) cut))
    (c.as_bytes-in-loop-place.ensures.value ∙ c.name_at-in-loop-place.ensures) c.in-Some-left_behind_delimited.ensures

pub returns : goal.returns
returns c =
    let l = c.loop-place in
    c.is_empty.ensures
    ∙ sym (l.invariant ∙ begins_end l.rest.now (names_in (fields_of c.args.line.now)) c.args.between l.place (omega (arith, c.loop-place-test.false, c.len-place-end.ensures, length-map (fields_of c.args.line.now) cut)))

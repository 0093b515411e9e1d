use Rattle.std.proofs.Common.{sym, ◌∙◌, refl}
use Rattle.csv.specs.Records.{fields_of}
use Rattle.lot_import.proofs.HeaderLemmas.{all_fields, one_more, other_fields}
use Rattle.lot_import.proofs.version.has_fields.Goals as goal

pub returns-then-ne : goal.returns-then-ne
returns-then-ne c = (
  (λ is. cc),
  (λ all. absurd (other_fields (fields_of c.args.written.now) c.args.names.now c.loop-column.column _ c.field.result.now c.as_bytes.result.now c.ne.result
      c.loop-column-test.true c.field.ensures c.as_bytes.ensures.value c.ne.ensures c.if-ne.true all)),
)

pub loop-column-preserved : goal.loop-column-preserved
loop-column-preserved c =
    one_more (fields_of c.args.written.now) c.args.names.now c.loop-column.column _ c.field.result.now c.as_bytes.result.now c.ne.result
    c.loop-column-test.true c.field.ensures c.as_bytes.ensures.value c.ne.ensures c.if-ne.false c.loop-column.invariant

pub returns : goal.returns
returns c = (
  (λ is. all_fields (fields_of c.args.written.now) c.args.names.now c.loop-column.column (sym c.len.ensures ∙ c.if-len-names.false)
      c.loop-column-test.false c.loop-column.invariant),
  (λ all. refl),
)

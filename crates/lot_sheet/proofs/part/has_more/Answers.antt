use Rattle.std.proofs.Common.{List, [], ℕ, not, sym, ap, ◌∙◌, arith}
use Rattle.csv.specs.Records.{fields_of}
use Rattle.lot_sheet.specs.Column.{is_blank_field}
use Rattle.lot_sheet.proofs.ListLemmas.{any_here, any_later, any_over}
use Rattle.lot_sheet.proofs.part.has_more.Goals as goal

pub returns-then-not-is_blank_field : goal.returns-then-not-is_blank_field
returns-then-not-is_blank_field c =
    let l = c.loop-place in
    sym (any_here (λ (field : List ℕ). not (is_blank_field field)) (fields_of c.args.line.now) l.place _ l.invariant []
    (omega (arith, c.loop-place-test.true, c.len-place-end.ensures))
    (ap (λ (f : List ℕ). not (is_blank_field f)) (sym c.field_at.ensures) ∙ ap not (sym c.is_blank_field.ensures ∙ c.if-not-is_blank_field.true)))

pub loop-place-preserved : goal.loop-place-preserved
loop-place-preserved c =
    let l = c.loop-place in
    any_later (λ (field : List ℕ). not (is_blank_field field)) (fields_of c.args.line.now) l.place _ l.invariant []
    (omega (arith, c.loop-place-test.true, c.len-place-end.ensures))
    (ap (λ (f : List ℕ). not (is_blank_field f)) (sym c.field_at.ensures) ∙ ap not (sym c.is_blank_field.ensures ∙ c.if-not-is_blank_field.false))

pub returns : goal.returns
returns c =
    let l = c.loop-place in
    sym (any_over (λ (field : List ℕ). not (is_blank_field field)) (fields_of c.args.line.now) l.place _ l.invariant
    (omega (arith, c.loop-place-test.false, c.len-place-end.ensures)))

-- One more text is a label, or it is the first that isn't.
use Rattle.std.proofs.Common.{◌∙◌, add-one, ap, drop, map, sym, ℕ}
use Rattle.std.specs.List.{list_all}
use Rattle.lot_base.specs.Name.{is_label}
use Rattle.lot_args.proofs.ValueLemmas.{fails_here, no_text_left, passes_here}
use Rattle.lot_args.proofs.good.are_labels.Goals as goal

pub returns-then-not-is_name : goal.returns-then-not-is_name
returns-then-not-is_name c =
    sym (c.loop-text.invariant
    ∙ fails_here is_label c.args.texts.now c.loop-text.text-index _ c.loop-text-test.true (sym c.is_name.ensures ∙ c.if-not-is_name.true))

pub loop-text-preserved : goal.loop-text-preserved
loop-text-preserved c =
    let texts = c.args.texts.now in
    let i = c.loop-text.text-index in
    c.loop-text.invariant ∙ passes_here is_label texts i _ c.loop-text-test.true (sym c.is_name.ensures ∙ c.if-not-is_name.false)
    ∙ ap (λ (n : ℕ). list_all is_label (map (λ text. text.now) (drop n texts))) (sym (add-one i))

pub returns : goal.returns
returns c =
    sym (c.loop-text.invariant ∙ no_text_left is_label c.args.texts.now c.loop-text.text-index c.loop-text-test.false)

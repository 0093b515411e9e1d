-- One more text names entries, or it is the first that doesn't.
use Rattle.std.proofs.Common.{◌∙◌, add-one, ap, drop, map, sym, ℕ}
use Rattle.std.specs.List.{list_all}
use Rattle.lot_args.specs.Options.{names_entries}
use Rattle.lot_args.proofs.ValueLemmas.{fails_here, no_text_left, passes_here}
use Rattle.lot_args.proofs.without.each_names_entries.Goals as goal

pub returns-then-not-is_value : goal.returns-then-not-is_value
returns-then-not-is_value c =
    sym (c.loop-text.invariant
    ∙ fails_here (names_entries c.args.by) c.args.texts.now c.loop-text.text-index _ c.loop-text-test.true
    (sym c.is_value.ensures ∙ c.if-not-is_value.true))

pub loop-text-preserved : goal.loop-text-preserved
loop-text-preserved c =
    let texts = c.args.texts.now in
    let i = c.loop-text.text-index in
    c.loop-text.invariant
    ∙ passes_here (names_entries c.args.by) texts i _ c.loop-text-test.true (sym c.is_value.ensures ∙ c.if-not-is_value.false)
    ∙ ap (λ (n : ℕ). list_all (names_entries c.args.by) (map (λ text. text.now) (drop n texts))) (sym (add-one i))

pub returns : goal.returns
returns c =
    sym (c.loop-text.invariant
    ∙ no_text_left (names_entries c.args.by) c.args.texts.now c.loop-text.text-index c.loop-text-test.false)

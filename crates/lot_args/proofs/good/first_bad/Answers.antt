-- One more option isn't bad, or it is the first that is.
use Rattle.std.proofs.Common.{◌∙◌, add-one, ap, drop, sym, ℕ}
use Rattle.clap.specs.Words.{found_of, rows_of}
use Rattle.lot_args.specs.Options.{first_bad}
use Rattle.lot_args.specs.declared.fault.BadOption.TheVariants.{Show}
use Rattle.lot_args.proofs.ValueLemmas.{bad_here, good_here, none_left}
use Rattle.lot_args.proofs.good.first_bad.Goals as goal

pub returns-then-not-is_good : goal.returns-then-not-is_good
returns-then-not-is_good c =
    let rows = rows_of (found_of c.args.options.now) in
    let all = c.args.all.now in
    let i = c.loop-option.option-index in
    sym (c.loop-option.invariant ∙ bad_here rows all i Show c.loop-option-test.true (sym c.is_good.ensures ∙ c.if-not-is_good.true))

pub loop-option-preserved : goal.loop-option-preserved
loop-option-preserved c =
    let rows = rows_of (found_of c.args.options.now) in
    let all = c.args.all.now in
    let i = c.loop-option.option-index in
    c.loop-option.invariant ∙ good_here rows all i Show c.loop-option-test.true (sym c.is_good.ensures ∙ c.if-not-is_good.false)
    ∙ ap (λ (n : ℕ). first_bad rows (drop n all)) (sym (add-one i))

pub returns : goal.returns
returns c =
    let rows = rows_of (found_of c.args.options.now) in
    sym (c.loop-option.invariant ∙ none_left rows c.args.all.now c.loop-option.option-index c.loop-option-test.false)

-- The conditions on what is left over have been looked at; then come the number of lots and that of entries.
use Rattle.std.proofs.Common.{◌≡◌, None, Some, inr, refl, sym, ap, ◌∙◌}
use Rattle.std.specs.Option.{option_or}
use Rattle.lot_book.specs.declared.refusal.Stop.TheVariants.{Refused}
use Rattle.lot_ledger.specs.Decide.{conditions_on}
use Rattle.lot_book.specs.Refusals.{Stops, book_full, too_many_lots}
use Rattle.lot_book.specs.Step.{first_of}
use Rattle.lot_view.specs.View.{known}
use Rattle.lot_ledger.proofs.ConcludeLemmas.{none_holds, then_lots}
use Rattle.lot_book.proofs.StopLemmas.{passed_on}
use Rattle.lot_ledger.proofs.decision.conclude.Goals as goal

pub returns-in_err-few_lots-clause-stops : goal.returns-in_err-few_lots-clause-stops
returns-in_err-few_lots-clause-stops c =
    let facts = known c.args.view.now in
    let t = c.args.transaction.now in
    let lots : too_many_lots facts c.take_up.new.draft.tally.legs t.postings ≡ Some c.in_err-few_lots.field-0.0 =
    ap (too_many_lots facts c.take_up.new.draft.tally.legs) (sym c.as_slice.ensures) ∙ c.in_err-few_lots.ensures in
    passed_on c.from_residual-in_err-few_lots.result (Refused c.in_err-few_lots.field-0.0) (Stops (first_of (conditions_on facts t c.args.draft.tally.legs c.args.draft.residuals))) c.from_residual-in_err-few_lots.ensures.1
    (then_lots facts t c.args.draft.tally.legs c.take_up.new.draft.tally.legs c.args.draft.residuals (c.in_ok-take_up.ensures.passed refl) c.in_ok-take_up.ensures.legs
    ∙ ap (λ found. option_or found (option_or (book_full facts) None)) lots)

pub returns-in_err-not_full-clause-stops : goal.returns-in_err-not_full-clause-stops
returns-in_err-not_full-clause-stops c =
    let facts = known c.args.view.now in
    let t = c.args.transaction.now in
    let lots : too_many_lots facts c.take_up.new.draft.tally.legs t.postings ≡ None =
    ap (too_many_lots facts c.take_up.new.draft.tally.legs) (sym c.as_slice.ensures) ∙ c.in_ok-few_lots.ensures in
    passed_on c.from_residual-in_err-not_full.result (Refused c.in_err-not_full.field-0.0) (Stops (first_of (conditions_on facts t c.args.draft.tally.legs c.args.draft.residuals))) c.from_residual-in_err-not_full.ensures.1
    (then_lots facts t c.args.draft.tally.legs c.take_up.new.draft.tally.legs c.args.draft.residuals (c.in_ok-take_up.ensures.passed refl) c.in_ok-take_up.ensures.legs
    ∙ ap (λ found. option_or found (option_or (book_full facts) None)) lots
    ∙ ap (λ found. option_or found None) c.in_err-not_full.ensures)

pub returns-clause-passed : goal.returns-clause-passed
returns-clause-passed c = λ _.
    none_holds (known c.args.view.now) c.args.transaction.now c.args.draft.tally.legs c.take_up.new.draft.tally.legs c.args.draft.residuals
    c.as_slice.result.now (c.in_ok-take_up.ensures.passed refl) c.in_ok-take_up.ensures.legs c.as_slice.ensures
    c.in_ok-few_lots.ensures c.in_ok-not_full.ensures

pub returns-in_err-heads-clause-memory : goal.returns-in_err-heads-clause-memory
returns-in_err-heads-clause-memory c = λ _.
    let none = none_holds (known c.args.view.now) c.args.transaction.now c.args.draft.tally.legs c.take_up.new.draft.tally.legs c.args.draft.residuals
    c.as_slice.result.now (c.in_ok-take_up.ensures.passed refl) c.in_ok-take_up.ensures.legs c.as_slice.ensures
    c.in_ok-few_lots.ensures c.in_ok-not_full.ensures in
    inr (none, c.in_err-heads.ensures.memory)

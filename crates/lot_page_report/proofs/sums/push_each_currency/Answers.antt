use Rattle.std.proofs.Common.{map, refl, subst, sym}
use Rattle.std.specs.String.{string_bytes}
use Rattle.lot_tally.specs.Table.{shown}
use Rattle.lot_page_report.proofs.GoesLemmas.{Goes, goes_begin, goes_end, goes_more}
use Rattle.lot_page_report.specs.Sections.{AreCurrencyYears}
use Rattle.lot_page_report.proofs.sums.push_each_currency.Goals as goal

pub loop-key-init : goal.loop-key-init
loop-key-init c =
    subst (λ left. Goes (λ left text. AreCurrencyYears (map shown c.args.rows.now.entries) (map shown left) text) c.args.currencies.now.entries left (string_bytes c.args.text.now) (string_bytes c.args.text.now))
    (sym c.into_iter-key-iterator.ensures.into_iter_gives.0)
    (goes_begin (λ left text. AreCurrencyYears (map shown c.args.rows.now.entries) (map shown left) text) c.args.currencies.now.entries (string_bytes c.args.text.now))

pub loop-key-preserved : goal.loop-key-preserved
loop-key-preserved c =
    let one = c.in_ok-push_currency.ensures in
    goes_more (λ left text. AreCurrencyYears (map shown c.args.rows.now.entries) (map shown left) text) _ _ _ _ _ _ one.0
    (λ rest are. rw c.in-Some.ensures.steps (one.0, one.1, rest, are, refl)) one.2 c.loop-key.invariant

pub returns : goal.returns
returns c =
    goes_end (λ left text. AreCurrencyYears (map shown c.args.rows.now.entries) (map shown left) text) _ _ _ _
    (rw c.in-None.ensures.steps.0 refl) c.loop-key.invariant

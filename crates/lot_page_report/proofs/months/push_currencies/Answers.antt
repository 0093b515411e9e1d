use Rattle.std.proofs.Common.{arith, map, refl}
use Rattle.std.specs.String.{string_bytes}
use Rattle.lot_months.specs.Series.{shown}
use Rattle.lot_report.proofs.EachLemmas.{item_at}
use Rattle.std.proofs.lemmas.List.{drop_all}
use Rattle.lot_page_report.proofs.GoesLemmas.{goes_begin, goes_end, goes_more}
use Rattle.lot_page_report.specs.Sections.{AreCurrencyMonths}
use Rattle.lot_page_report.proofs.months.push_currencies.Goals as goal

pub loop-one-init : goal.loop-one-init
loop-one-init c = goes_begin (λ left text. AreCurrencyMonths c.args.first.0 (map shown left) text) c.args.months.now (string_bytes c.args.text.now)

pub loop-one-preserved : goal.loop-one-preserved
loop-one-preserved c =
    let part = rw (c.as_str.ensures.value, c.deref.ensures.value) at c.in_ok-push_currency.ensures in
    goes_more (λ left text. AreCurrencyMonths c.args.first.0 (map shown left) text) _ _ _ _ _ _ part.0
    (λ rest are. rw (item_at c.args.months.now c.loop-one.one-index c.one-item.result (omega arith) c.one-item.is) (part.0, part.1, rest, are, refl)) part.2
    c.loop-one.invariant

pub returns : goal.returns
returns c =
    goes_end (λ left text. AreCurrencyMonths c.args.first.0 (map shown left) text) _ _ _ _
    (rw (drop_all c.loop-one.one-index c.args.months.now (omega arith)) refl) c.loop-one.invariant

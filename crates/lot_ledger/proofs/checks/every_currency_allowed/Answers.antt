-- `position` finds the first posting at which the closure returns true.
use Rattle.std.proofs.Common.{◌≡◌, rules, tests}
use Rattle.std.specs.Prelude.{position}
use Rattle.std.proofs.lemmas.Iterator.{YieldsList-from_slice}
use Rattle.std.proofs.lemmas.Iterator.Search.{position_from_yields_List}
use Rattle.lot_command.specs.declared.transaction.Posting.{Posting}
use Rattle.lot_book.specs.declared.refusal.Refusal.TheVariants.{CurrencyNotAllowed}
use Rattle.lot_book.specs.Refusals.{bars_amount}
use Rattle.lot_view.specs.View.{known}
use Rattle.lot_ledger.proofs.CheckLemmas.{at_no_place, at_place}
use Rattle.lot_ledger.proofs.checks.every_currency_allowed.Goals as goal

pub returns-in-Some : goal.returns-in-Some
returns-in-Some c =
    let fails = λ (p : Posting). bars_amount ((known c.args.view.now).standing p.account) p.amount in
    let found : c.position.result ≡ position fails c.args.postings.now =
    position_from_yields_List fails _ _ c.position.result c.position.ensures.ran (YieldsList-from_slice c.args.postings.now cc)
    (λ x b q k. search (rules, tests)) in
    at_place (CurrencyNotAllowed) fails c.args.postings.now c.position.result c.in-Some.index found c.in-Some.is

pub returns-in-None : goal.returns-in-None
returns-in-None c =
    let fails = λ (p : Posting). bars_amount ((known c.args.view.now).standing p.account) p.amount in
    let found : c.position.result ≡ position fails c.args.postings.now =
    position_from_yields_List fails _ _ c.position.result c.position.ensures.ran (YieldsList-from_slice c.args.postings.now cc)
    (λ x b q k. search (rules, tests)) in
    at_no_place (CurrencyNotAllowed) fails c.args.postings.now c.position.result found c.in-None.is

-- `position` finds the first posting at which the closure returns true.
use Rattle.std.proofs.Common.{◌≡◌, Some, rules, tests}
use Rattle.std.specs.Prelude.{position}
use Rattle.std.proofs.lemmas.Iterator.{YieldsList-from_slice}
use Rattle.std.proofs.lemmas.Iterator.Search.{position_from_yields_List}
use Rattle.lot_command.specs.declared.transaction.Posting.{Posting}
use Rattle.lot_book.specs.declared.refusal.Refusal.TheVariants.{Closed}
use Rattle.lot_book.specs.Refusals.{closed_before}
use Rattle.lot_view.specs.View.{known}
use Rattle.lot_ledger.proofs.CheckLemmas.{at_no_place, at_place}
use Rattle.lot_ledger.proofs.checks.no_account_closed.Goals as goal

pub returns-in-Some : goal.returns-in-Some
returns-in-Some c =
    let fails = λ (p : Posting). closed_before c.args.day ((known c.args.view.now).standing p.account) in
    let found : c.position.result ≡ position fails c.args.postings.now =
    position_from_yields_List fails _ _ c.position.result c.position.ensures.ran (YieldsList-from_slice c.args.postings.now cc)
    (λ x b q k. search (rules, tests)) in
    at_place (λ place. Closed (Some place)) fails c.args.postings.now c.position.result c.in-Some.index found c.in-Some.is

pub returns-in-None : goal.returns-in-None
returns-in-None c =
    let fails = λ (p : Posting). closed_before c.args.day ((known c.args.view.now).standing p.account) in
    let found : c.position.result ≡ position fails c.args.postings.now =
    position_from_yields_List fails _ _ c.position.result c.position.ensures.ran (YieldsList-from_slice c.args.postings.now cc)
    (λ x b q k. search (rules, tests)) in
    at_no_place (λ place. Closed (Some place)) fails c.args.postings.now c.position.result found c.in-None.is

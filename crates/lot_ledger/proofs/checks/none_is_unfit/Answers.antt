-- No posting is unfit, so none fails one of the checks.
use Rattle.std.proofs.Common.{◌≡◌, Bool, None, Some, Option, true, false, not, refl, sym, ◌∙◌, rules, tests}
use Rattle.std.specs.Prelude.{IsTrue, position}
use Rattle.std.specs.Option.{is_none, is_some}
use Rattle.std.proofs.lemmas.Iterator.{YieldsList-from_slice}
use Rattle.std.proofs.lemmas.Iterator.Search.{position_from_yields_List}
use Rattle.lot_command.specs.declared.transaction.Posting.{Posting}
use Rattle.lot_book.specs.declared.refusal.Refusal.TheVariants.{Closed, CurrencyNotAllowed, NotOpenYet, UnknownAccount}
use Rattle.lot_book.specs.Refusals.{bars_amount, closed_before, opens_after}
use Rattle.lot_ledger.specs.Fit.{is_unfit}
use Rattle.lot_view.specs.View.{known}
use Rattle.lot_ledger.proofs.FitLemmas.{is_allowed, is_known, is_not_closed, is_open, none_refused}
use Rattle.lot_ledger.proofs.checks.none_is_unfit.Goals as goal

nothing : {X : Type 0} (found : Option X) (result : Bool) → is_some found ≡ not result → IsTrue result → found ≡ None
nothing None result e is = refl
nothing (Some x) true e is = cc
nothing (Some x) false e is = cc

none_found : (c : goal.After-is_none) → IsTrue c.is_none.result
    → position (λ (p : Posting). is_unfit c.args.day ((known c.args.view.now).standing p.account) p.amount) c.args.postings.now ≡ None
none_found c none =
    let unfit = λ (p : Posting). is_unfit c.args.day ((known c.args.view.now).standing p.account) p.amount in
    let found : c.position.result ≡ position unfit c.args.postings.now =
    position_from_yields_List unfit _ _ c.position.result c.position.ensures.ran (YieldsList-from_slice c.args.postings.now cc)
    (λ x b q k. search (rules, tests)) in
    sym found ∙ nothing c.position.result c.is_none.result c.is_none.ensures none

pub returns-clause-known : goal.returns-clause-known
returns-clause-known c = λ none.
    none_refused (λ place. UnknownAccount (Some place)) _ (λ (p : Posting). is_none ((known c.args.view.now).standing p.account))
    c.args.postings.now (λ p fits. is_known c.args.day p.amount ((known c.args.view.now).standing p.account) fits) (none_found c none)

pub returns-clause-open : goal.returns-clause-open
returns-clause-open c = λ none.
    none_refused (λ place. NotOpenYet (Some place)) _
    (λ (p : Posting). opens_after c.args.day ((known c.args.view.now).standing p.account)) c.args.postings.now
    (λ p fits. is_open c.args.day p.amount ((known c.args.view.now).standing p.account) fits) (none_found c none)

pub returns-clause-not_closed : goal.returns-clause-not_closed
returns-clause-not_closed c = λ none.
    none_refused (λ place. Closed (Some place)) _
    (λ (p : Posting). closed_before c.args.day ((known c.args.view.now).standing p.account)) c.args.postings.now
    (λ p fits. is_not_closed c.args.day p.amount ((known c.args.view.now).standing p.account) fits) (none_found c none)

pub returns-clause-allowed : goal.returns-clause-allowed
returns-clause-allowed c = λ none.
    none_refused CurrencyNotAllowed _ (λ (p : Posting). bars_amount ((known c.args.view.now).standing p.account) p.amount)
    c.args.postings.now (λ p fits. is_allowed c.args.day p.amount ((known c.args.view.now).standing p.account) fits) (none_found c none)

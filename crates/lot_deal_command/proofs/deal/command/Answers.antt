-- A deal has a command where its terms have postings.
use Rattle.std.proofs.Common.{◌≡◌, Err}
use Rattle.std.proofs.lemmas.Result.{err_from_is_err_and}
use Rattle.lot_deal_command.specs.declared.fault.CommandFault.TheVariants.{Memory, TooLarge}
use Rattle.lot_deal_command.proofs.DealLemmas.{has_by, needs, posted, posted_result, quoted}
use Rattle.lot_deal_command.proofs.deal.command.Goals as goal

pub postings-requires : goal.postings-requires
postings-requires c = posted c.args.deal.now.terms c.in_default.not-Price

pub returns-in_err-quoting-in-Price-clause-memory : goal.returns-in_err-quoting-in-Price-clause-memory
returns-in_err-quoting-in-Price-clause-memory c = λ e. quoted c.args.deal.now c.in-Price.quote c.in-Price.is

pub returns-in_err-postings-in_default-clause-too_large : goal.returns-in_err-postings-in_default-clause-too_large
returns-in_err-postings-in_default-clause-too_large c = λ e h.
    let was = c.in_err-postings-in_default.was in
    let p = err_from_is_err_and c.from_residual-in_err-postings-in_default.result c.from_residual-in_err-postings-in_default.ensures.1 in
    let is : c.postings.result ≡ Err TooLarge = cc (was, p.1, p.2, e) in
    c.postings.ensures.too_large is
    (needs c.args.deal.now.terms c.args.deal.now (posted c.args.deal.now.terms c.in_default.not-Price) h)

pub returns-in_err-postings-in_default-clause-memory : goal.returns-in_err-postings-in_default-clause-memory
returns-in_err-postings-in_default-clause-memory c = λ e.
    let was = c.in_err-postings-in_default.was in
    let p = err_from_is_err_and c.from_residual-in_err-postings-in_default.result c.from_residual-in_err-postings-in_default.ensures.1 in
    let is : c.postings.result ≡ Err Memory = cc (was, p.1, p.2, e) in
    has_by c.args.deal.now.terms c.args.deal.now (c.postings.ensures.memory is)

pub returns-in_ok-postings-in_default-clause-ok : goal.returns-in_ok-postings-in_default-clause-ok
returns-in_ok-postings-in_default-clause-ok c =
    posted_result c.args.deal.now c.in_ok-postings-in_default.field-0 c.transaction.result c.in_ok-postings-in_default.ensures.ok c.transaction.ensures.ok

pub returns-in_ok-postings-in_default-clause-memory : goal.returns-in_ok-postings-in_default-clause-memory
returns-in_ok-postings-in_default-clause-memory c = λ e.
    has_by c.args.deal.now.terms c.args.deal.now (c.in_ok-postings-in_default.field-0, c.in_ok-postings-in_default.ensures.ok)

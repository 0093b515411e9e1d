-- A deal that stands alone is of its kind.
use Rattle.std.proofs.Common.{subst, sym}
use Rattle.lot_deal_read.specs.Kinds.{AreTermsOf}
use Rattle.lot_deal_read.proofs.KindLemmas.{alone}
use Rattle.lot_deal_read.proofs.row.saying.Goals as goal

pub returns-in_ok-deal-in-Some-clause-kind : goal.returns-in_ok-deal-in-Some-clause-kind
returns-in_ok-deal-in-Some-clause-kind c = λ e.
    let are = rw c.in-Some.is at c.in_ok-terms-in_default.ensures.kind in
    alone c.args.kind c.in_ok-deal-in-Some.field-0 (subst (AreTermsOf c.args.kind) (sym c.in_ok-deal-in-Some.ensures.terms) are)

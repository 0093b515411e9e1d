-- The elided posting is one of the transaction's.
use Rattle.std.proofs.Common.{ℕ, List, Option, arith, subst}
use Rattle.lot_ledger.specs.Decide.{IsElided}
use Rattle.lot_ledger.proofs.FillLemmas.{elided-within}
use Rattle.lot_ledger.proofs.decision.take_up.Goals as goal

pub fill-requires-clause-few : goal.fill-requires-clause-few
fill-requires-clause-few c =
    let t = c.args.transaction.now in
    let within = elided-within 1 t.postings c.in-Some.elided
    (subst (λ (elided : Option (ℕ × List ℕ)). IsElided elided t) c.in-Some.is c.requires.elided) in
    omega (arith, within)

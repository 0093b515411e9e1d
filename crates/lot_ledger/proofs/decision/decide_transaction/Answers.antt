-- The checks that come first hold none of the refusals, and the postings with amounts are booked.
use Rattle.std.proofs.Common.{refl}
use Rattle.std.proofs.lemmas.Result.{IfErr-weaker}
use Rattle.lot_book.specs.Openings.{ties_for}
use Rattle.lot_view.specs.View.{known, known_with_openings}
use Rattle.lot_ledger.proofs.ConcludeLemmas.{judged_last}
use Rattle.lot_ledger.proofs.DecideLemmas.{end_lacks}
use Rattle.lot_ledger.proofs.decision.decide_transaction.Goals as goal

pub returns-clause-stops : goal.returns-clause-stops
returns-clause-stops c =
    IfErr-weaker c.conclude.result _ _
    (λ found is. judged_last (ties_for c.args.edition (known_with_openings c.args.view.now)) (known c.args.view.now) c.args.transaction.now c.in_ok-draft.draft found (c.in_ok-elided.ensures.passed refl) c.in_ok-draft.ensures.drafts is)
    c.conclude.ensures.stops

pub returns-clause-memory : goal.returns-clause-memory
returns-clause-memory c = λ lacks. (
  c.in_ok-elided.ensures.passed refl,
  end_lacks (ties_for c.args.edition (known_with_openings c.args.view.now)) (known c.args.view.now) c.args.transaction.now c.in_ok-draft.draft c.in_ok-draft.ensures.drafts (c.conclude.ensures.memory lacks),
)

-- The posting has an amount.
use Rattle.std.proofs.Common.{Option, sym, subst}
use Rattle.lot_command.specs.declared.transaction.Amount.{Amount}
use Rattle.lot_book.specs.Openings.{ties_for}
use Rattle.lot_ledger.specs.Decide.{NextMayLackMemory}
use Rattle.lot_view.specs.View.{known, known_with_openings}
use Rattle.lot_ledger.proofs.decision.book_next.Goals as goal

pub returns-clause-memory : goal.returns-clause-memory
returns-clause-memory c = λ lacks.
    subst
    (λ (amount : Option Amount). NextMayLackMemory (ties_for c.args.edition (known_with_openings c.args.view.now)) (known c.args.view.now) c.args.day c.args.place c.args.posting.now.account amount c.args.draft.now)
    (sym c.in-Some.is) (c.book_posting.ensures.memory lacks)

use Rattle.std.proofs.Common.{inl, inr, refl}
use Rattle.sqlite.specs.Held.{state}
use Rattle.lot_call.proofs.LookLemmas.{unlooked}
use Rattle.lotbook.proofs.EndLemmas.{is_inside}
use Rattle.lotbook.proofs.ReadLemmas.{looked_err, looked_ok}
use Rattle.lotbook.proofs.comparison.book_in.Goals as goal

pub returns-then-not-is_autocommit-clause-none : goal.returns-then-not-is_autocommit-clause-none
returns-then-not-is_autocommit-clause-none g c =
    inl (is_inside c.is_autocommit.result c.args.conn.in_transaction c.if-not-is_autocommit.true (rw c.set_step_limit.ensures at c.is_autocommit.ensures.value), refl)

pub returns-then-not-is_autocommit-clause-handed_back : goal.returns-then-not-is_autocommit-clause-handed_back
returns-then-not-is_autocommit-clause-handed_back g c = rw c.set_step_limit.ensures (unlooked _)

pub returns-clause-looked : goal.returns-clause-looked
returns-clause-looked g c =
    looked_ok _ (λ book. state g.S.Store book.conn) c.adopt.result (rw c.set_step_limit.ensures at c.adopt.ensures.same)
    (rw c.set_step_limit.ensures at c.adopt.ensures.crash_ok)

pub returns-clause-handed_back : goal.returns-clause-handed_back
returns-clause-handed_back g c =
    looked_err _ (λ left. state g.S.Store left.conn) c.adopt.result (rw c.set_step_limit.ensures at c.adopt.ensures.undone)
    (rw c.set_step_limit.ensures at c.adopt.ensures.crash_err)

-- What was worked out on what was kept is so on each book that this is of.
use Rattle.std.proofs.Common.{ap, arith, not}
use Rattle.sqlite.specs.Held.{state}
use Rattle.lot_store.proofs.PairedLemmas.{none_whole, whole_still}
use Rattle.lot_store.proofs.TurnLemmas.{turns_told}
use Rattle.lot_store.proofs.turn.turn_of.Goals as goal

pub returns-clause-turns : goal.returns-clause-turns
returns-clause-turns g c =
    let old = state g.S.Store c.args.conn.now in
    let new = state g.S.Store c.turn_with.new.conn in
    rw c.in-Some.is
    (turns_told c.args.kept.now c.in-Some.rounding.now c.args.key.now c.args.asked.now old new
    (λ clean opened. c.is_autocommit-settled.ensures.settled (rw c.is_autocommit-settled.ensures.value (ap not (c.requires.outside (omega (arith, clean, c.in_ok-looked.ensures.tells.crash.clean))))) opened)
    c.in_ok-looked.looked c.in_ok-looked.turn (rw c.take.ensures.value at c.in_ok-looked.ensures.tells))

pub returns-in_default-clause-whole : goal.returns-in_default-clause-whole
returns-in_default-clause-whole g c clean tables has = whole_still c.args.kept.now tables

pub returns-in_err-looked-clause-whole : goal.returns-in_err-looked-clause-whole
returns-in_err-looked-clause-whole g c clean tables has = none_whole c.args.kept.now tables c.take.new.self c.take.ensures.after

pub returns-clause-whole : goal.returns-clause-whole
returns-clause-whole g c clean tables has = (rw c.take.ensures.value at c.in_ok-looked.ensures.whole) clean tables has

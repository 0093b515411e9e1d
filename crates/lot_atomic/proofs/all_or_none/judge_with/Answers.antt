-- What is judged in the place of what was handed in is judged on the book that the open transaction has.
use Rattle.std.proofs.lemmas.Result.{err_from_is_err_and}
use Rattle.sqlite.specs.Held.{state}
use Rattle.lot_atomic.proofs.AllOrNoneLemmas.{turned_not, turned_with}
use Rattle.std.proofs.Common.{Ok, Err, Some}
use Rattle.lot_atomic.proofs.all_or_none.judge_with.Goals as goal

pub returns-in_err-looked-clause-judges : goal.returns-in_err-looked-clause-judges
returns-in_err-looked-clause-judges g c =
    let fault = err_from_is_err_and c.from_residual.result c.from_residual.ensures.1 in
    rw (fault.1, fault.2)
    (turned_not _ c.args.kept.now c.take.new.self (Some c.args.rounding.now) (c.args.key.now, c.args.asked.now)
    (state g.S.Store c.args.tx.now.conn.now) (state g.S.Store c.turn_with.new.conn.conn.now) _ c.requires.unlimited c.in_err-looked.ensures.tells c.take.ensures.after)

pub returns-in_err-verdict-clause-judges : goal.returns-in_err-verdict-clause-judges
returns-in_err-verdict-clause-judges g c =
    let fault = err_from_is_err_and c.from_residual-in_err-verdict.result c.from_residual-in_err-verdict.ensures.1 in
    rw (fault.1, fault.2)
    (turned_with c.args.kept.now c.judge_next.new.kept c.args.rounding.now c.args.key.now c.args.asked.now c.in_ok-looked.looked c.in_ok-looked.turn c.judged.result.now
    (state g.S.Store c.args.tx.now.conn.now) (state g.S.Store c.turn_with.new.conn.conn.now) (state g.S.Store c.judge_next.new.tx.conn.now)
    (rw c.take.ensures.value at c.in_ok-looked.ensures.tells) c.judged.ensures (Err c.in_err-verdict.field-0.0) c.in_err-verdict.ensures.judges c.in_err-verdict.ensures.text c.in_err-verdict.ensures.damage
    (rw c.take.ensures.value at c.in_ok-looked.ensures.whole) c.in_err-verdict.ensures.pairs)

pub returns-clause-judges : goal.returns-clause-judges
returns-clause-judges g c =
    turned_with c.args.kept.now c.judge_next.new.kept c.args.rounding.now c.args.key.now c.args.asked.now c.in_ok-looked.looked c.in_ok-looked.turn c.judged.result.now
    (state g.S.Store c.args.tx.now.conn.now) (state g.S.Store c.turn_with.new.conn.conn.now) (state g.S.Store c.judge_next.new.tx.conn.now)
    (rw c.take.ensures.value at c.in_ok-looked.ensures.tells) c.judged.ensures (Ok c.in_ok-verdict.verdict) c.in_ok-verdict.ensures.judges c.in_ok-verdict.ensures.text c.in_ok-verdict.ensures.damage
    (rw c.take.ensures.value at c.in_ok-looked.ensures.whole) c.in_ok-verdict.ensures.pairs

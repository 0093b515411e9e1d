-- Without an account what was handed in is judged.
use Rattle.std.proofs.Common.{Ok, Err}
use Rattle.std.proofs.lemmas.Result.{err_from_is_err_and}
use Rattle.sqlite.specs.Held.{state}
use Rattle.lot_atomic.proofs.AllOrNoneLemmas.{turned_none}
use Rattle.lot_atomic.proofs.all_or_none.judge_asked.Goals as goal

pub returns-in_err-verdict-in-None-clause-judges : goal.returns-in_err-verdict-in-None-clause-judges
returns-in_err-verdict-in-None-clause-judges g c =
    let fault = err_from_is_err_and c.from_residual-in_err-verdict-in-None.result c.from_residual-in_err-verdict-in-None.ensures.1 in
    rw (c.in-None.is, fault.1, fault.2)
    (turned_none c.args.kept.now c.judge_next.new.kept (c.args.key.now, c.args.asked.now)
    (state g.S.Store c.args.tx.now.conn.now) (state g.S.Store c.judge_next.new.tx.conn.now) (Err c.in_err-verdict-in-None.field-0.0) c.in_err-verdict-in-None.ensures.judges
    c.in_err-verdict-in-None.ensures.text c.in_err-verdict-in-None.ensures.damage c.in_err-verdict-in-None.ensures.pairs)

pub returns-in_ok-verdict-in-None-clause-judges : goal.returns-in_ok-verdict-in-None-clause-judges
returns-in_ok-verdict-in-None-clause-judges g c =
    rw c.in-None.is
    (turned_none c.args.kept.now c.judge_next.new.kept (c.args.key.now, c.args.asked.now)
    (state g.S.Store c.args.tx.now.conn.now) (state g.S.Store c.judge_next.new.tx.conn.now) (Ok c.in_ok-verdict-in-None.verdict) c.in_ok-verdict-in-None.ensures.judges
    c.in_ok-verdict-in-None.ensures.text c.in_ok-verdict-in-None.ensures.damage c.in_ok-verdict-in-None.ensures.pairs)

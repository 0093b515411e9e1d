use Rattle.std.proofs.Common.{Err, ap, inl, inr, sym}
use Rattle.std.proofs.lemmas.Result.{err_from_is_err_and}
use Rattle.sqlite.specs.Held.{state}
use Rattle.lot_rows.proofs.BookLemmas.{list_is}
use Rattle.lot_store.proofs.AdoptLemmas.{is_taken, tells_book, unanswered}
use Rattle.lot_store.proofs.adoption.tell.Goals as goal

pub ask-requires : goal.ask-requires
ask-requires g c = list_is.selects

pub returns-in_err-rows-clause-tells : goal.returns-in_err-rows-clause-tells
returns-in_err-rows-clause-tells g c clean =
    let fault = err_from_is_err_and c.from_residual.result c.from_residual.ensures.1 in
    rw (fault.1, fault.2)
    (inr (unanswered (state g.S.Store c.args.conn.now) (state g.S.Store c.ask.new.conn) c.in_err-rows.field-0.0 (c.in_err-rows.ensures.refused clean) (λ e. c.in_err-rows.ensures.device clean (ap Err e))))

pub returns-in_err-rows-clause-of_book : goal.returns-in_err-rows-clause-of_book
returns-in_err-rows-clause-of_book g c clean =
    tells_book (state g.S.Store c.args.conn.now) (state g.S.Store c.ask.new.conn) c.from_residual.result (returns-in_err-rows-clause-tells g c clean) c.requires

pub returns-clause-tells : goal.returns-clause-tells
returns-clause-tells g c clean = inl (c.in_ok-rows.rows.items, c.in_ok-rows.ensures.shown clean, rw (sym c.deref.ensures.value) c.tell_rows.ensures.tells)

pub returns-clause-of_book : goal.returns-clause-of_book
returns-clause-of_book g c clean = tells_book (state g.S.Store c.args.conn.now) (state g.S.Store c.ask.new.conn) c.tell_rows.result (returns-clause-tells g c clean) c.requires

pub returns-clause-taken : goal.returns-clause-taken
returns-clause-taken g c clean = is_taken (state g.S.Store c.args.conn.now) (state g.S.Store c.ask.new.conn) c.tell_rows.result (returns-clause-tells g c clean) c.requires

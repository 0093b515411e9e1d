use Rattle.std.proofs.Common.{◌∙◌, [], ◌∷◌, Err, Ok, None, Some, arith, refl, rules}
use Rattle.std.proofs.lemmas.Result.{err_from_is_err_and}
use Rattle.lot_book_report.proofs.ReadLemmas.{handed, handed_holds, reads_cut, reads_from, reads_short, reads_whole, stops, usable, walked_out, walks_on}
use Rattle.lot_compare.proofs.AddLemmas.{added_all, added_more, added_none, held_added, sum_not_of_writer, sum_unspent}
use Rattle.lot_compare.specs.Amounts.{held_amount}
use Rattle.lot_book.specs.declared.holding.Holding.{Holding}
use Rattle.lot_walk.specs.Holdings.{AreHoldings, IsAnyHolding, IsBehindHoldingRows, IsBehindHoldings, shown_holding}
use Rattle.lot_compare.proofs.book.add_held.Goals as goal

pub holdings-init : goal.holdings-init
holdings-init g c = record {
  same_book = refl;
  reading = reads_from g.S.Store c.args.book.now c.holdings-walk.result c.holdings-walk.ensures.going c.holdings-walk.ensures.same;
  usable = λ below. absurd (omega arith);
  added = added_none g.S.Store shown_holding IsAnyHolding AreHoldings IsBehindHoldings IsBehindHoldingRows
      (λ (held : Holding). held_amount held ∷ []) c.args.side c.args.book.now tt c.args.sums.now.sums.entries c.holdings-walk.result
      (record { of_book = λ clean. c.holdings-walk.ensures.begun; of_rows = λ clean. c.holdings-walk.ensures.rows });
}

pub returns-in_err-holding-clause-reads : goal.returns-in_err-holding-clause-reads
returns-in_err-holding-clause-reads g c =
    let fault = err_from_is_err_and c.from_residual.result c.from_residual.ensures.1 in
    let loop = c.holdings.invariant in
    rw (fault.1, fault.2)
    (handed g.S.Store c.args.book.now c.next.new.self.book.now _ (Err _) (search rules)
    (stops g.S.Store shown_holding IsAnyHolding AreHoldings IsBehindHoldings c.args.book.now c.holdings.walk c.next.new.self loop.reading c.in_err-holding.field-0.0
    (λ clean entries stands. (tt, loop.added.given, loop.added.gave.of_book clean entries stands))
    c.in_err-holding.ensures.walks))

pub returns-in_default-clause-sums : goal.returns-in_default-clause-sums
returns-in_default-clause-sums g c =
    let after = c.next.new.self in
    let walks = rw c.in_default.is at c.in_ok-holding.ensures.walks in
    handed_holds g.S.Store c.args.book.now after.book.now _ _ (search rules)
    (held_added g.S.Store c.args.book.now after.book.now c.args.side c.args.sums.now.sums.entries c.holdings.sums.sums.entries
    (added_all g.S.Store shown_holding IsAnyHolding AreHoldings IsBehindHoldings IsBehindHoldingRows
    (λ (held : Holding). held_amount held ∷ []) c.args.side c.args.book.now tt c.args.sums.now.sums.entries c.holdings.walk after c.holdings.sums.sums.entries
    c.holdings.invariant.added walks))

pub returns-in_default-clause-reads : goal.returns-in_default-clause-reads
returns-in_default-clause-reads g c =
    let loop = c.holdings.invariant in
    let before = c.holdings.walk in
    let after = c.next.new.self in
    let walks = rw c.in_default.is at c.in_ok-holding.ensures.walks in
    handed g.S.Store c.args.book.now after.book.now _ (Ok tt) (search rules)
    (reads_whole g.S.Store c.args.book.now after.book.now tt
    (walked_out g.S.Store shown_holding IsAnyHolding AreHoldings IsBehindHoldings c.args.book.now before after loop.reading walks)
    (usable g.S.Store shown_holding IsAnyHolding AreHoldings IsBehindHoldings c.args.book.now before after loop.reading None walks))

pub returns-in_err-add_holding-clause-fault : goal.returns-in_err-add_holding-clause-fault
returns-in_err-add_holding-clause-fault g c =
    let fault = err_from_is_err_and c.from_residual-in_err-add_holding.result c.from_residual-in_err-add_holding.ensures.1 in
    rw (fault.1, fault.2) (sum_not_of_writer c.in_err-add_holding.field-0.0 c.in_err-add_holding.ensures.cause)

pub returns-in_err-add_holding-clause-reads : goal.returns-in_err-add_holding-clause-reads
returns-in_err-add_holding-clause-reads g c =
    let fault = err_from_is_err_and c.from_residual-in_err-add_holding.result c.from_residual-in_err-add_holding.ensures.1 in
    let loop = c.holdings.invariant in
    let before = c.holdings.walk in
    let after = c.next.new.self in
    let walks = rw c.in-Some.is at c.in_ok-holding.ensures.walks in
    let on = walks_on g.S.Store shown_holding IsAnyHolding AreHoldings IsBehindHoldings c.args.book.now before after loop.reading c.in-Some.holding walks in
    rw (fault.1, fault.2)
    (handed g.S.Store c.args.book.now after.book.now _ (Err _) (search rules)
    (reads_cut g.S.Store c.args.book.now after.book.now c.in_err-add_holding.field-0.0
    (sum_unspent c.in_err-add_holding.field-0.0 c.in_err-add_holding.ensures.cause) on.read
    (usable g.S.Store shown_holding IsAnyHolding AreHoldings IsBehindHoldings c.args.book.now before after loop.reading (Some c.in-Some.holding) walks)))

pub holdings-preserved : goal.holdings-preserved
holdings-preserved g c =
    let loop = c.holdings.invariant in
    let before = c.holdings.walk in
    let after = c.next.new.self in
    let walks = rw c.in-Some.is at c.in_ok-holding.ensures.walks in
    let rows = rw c.in-Some.is at c.in_ok-holding.ensures.rows in
    record {
      same_book = c.in_ok-holding.ensures.same_reference ∙ loop.same_book;
      reading = walks_on g.S.Store shown_holding IsAnyHolding AreHoldings IsBehindHoldings c.args.book.now before after loop.reading c.in-Some.holding walks;
      usable = λ below. usable g.S.Store shown_holding IsAnyHolding AreHoldings IsBehindHoldings c.args.book.now before after loop.reading (Some c.in-Some.holding) walks;
      added = added_more g.S.Store shown_holding IsAnyHolding AreHoldings IsBehindHoldings IsBehindHoldingRows
          (λ (held : Holding). held_amount held ∷ []) c.args.side c.args.book.now tt c.args.sums.now.sums.entries before after
          c.holdings.sums.sums.entries c.add_holding.new.sums.sums.entries c.in-Some.holding loop.added walks rows c.in_ok-add_holding.ensures.added;
    }

pub returns-clause-reads : goal.returns-clause-reads
returns-clause-reads g c =
    let loop = c.holdings.invariant in
    rw c.from.ensures
    (handed g.S.Store c.args.book.now c.holdings.walk.book.now _ (Err _) (search rules)
    (reads_short g.S.Store c.args.book.now c.holdings.walk.book.now loop.reading.read (loop.usable (omega arith))))

use Rattle.std.proofs.Common.{◌≡◌, ◌∙◌, [], None, refl, sym}
use Rattle.std.specs.Vec.Iter.{into_iter_items}
use Rattle.std.proofs.lemmas.Result.{err_from_is_err_and}
use Rattle.sqlite.specs.Held.{state}
use Rattle.lot_walk.proofs.HoldingBeginLemmas.{begin_done, begin_unread, no_rows}
use Rattle.lot_walk.proofs.HoldingRowLemmas.{begun_over}
use Rattle.lot_walk.proofs.holdings.HoldingsPlace.begin.Goals as goal

pub returns-in_err-self : goal.returns-in_err-self
returns-in_err-self g c =
    let fault = err_from_is_err_and c.from_residual-in_err-self.result c.from_residual-in_err-self.ensures.1 in
    record {
      begins = rw (fault.1, fault.2)
          (begin_unread c.args.self.now _ (state g.S.Store c.args.conn.now) (state g.S.Store c.list.new.conn) (state g.S.Store c.next-2.new.conn) c.in_ok-list.field-0
          c.if-self.false c.in_ok-list.ensures.lists c.in_err-self.field-0.0 c.in_err-self.ensures.steps);
      rows = rw fault.1 (λ clean. tt);
    }

pub returns : goal.returns
returns g c =
    let read_all : c.next.result ≡ None → into_iter_items c.next.new.self ≡ [] =
    λ none. let ended = rw none at c.next.ensures.cases in no_rows (into_iter_items c.next.new.self) (sym c.next.new.self.rest.ok.0 ∙ ended.1) in
    record {
      begins =
          begin_done c.args.self.now _ (state g.S.Store c.args.conn.now) (state g.S.Store c.list.new.conn) (state g.S.Store c.next-2.new.conn) c.in_ok-list.field-0
          c.if-self.false c.in_ok-list.ensures.lists c.in_ok-self.field-0 c.in_ok-self.ensures.steps refl (sym c.next.ensures.items ∙ c.into_iter.ensures.rest) read_all refl;
      rows =
          begun_over c.args.self.now _ (state g.S.Store c.args.conn.now) (state g.S.Store c.list.new.conn) (state g.S.Store c.next-2.new.conn) c.in_ok-list.field-0
          c.if-self.false c.in_ok-list.ensures.lists c.in_ok-self.field-0 c.in_ok-self.ensures.steps refl (sym c.next.ensures.items ∙ c.into_iter.ensures.rest) read_all refl;
    }

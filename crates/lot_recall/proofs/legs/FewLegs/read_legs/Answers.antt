use Rattle.std.specs.Prelude.{◌≡◌, find, is_some, option_copied, true}
use Rattle.std.proofs.Common.{◌∙◌, ap, rules, sym}
use Rattle.std.proofs.lemmas.Result.{err_from_is_err_and}
use Rattle.sqlite.specs.Held.{state}
use Rattle.lot_recall.specs.Recall.{is_leg_at}
use Rattle.lot_recall.proofs.LookLemmas.{copied_some, few_kept, few_lost, looks_kept, looks_never, looks_read, looks_unread}
use Rattle.lot_recall.proofs.legs.FewLegs.read_legs.Goals as goal

pub returns-then-is_some : goal.returns-then-is_some
returns-then-is_some g c =
    let kept = c.args.self.now.rows.items in
    let there : is_some c.at.result ≡ true = search rules in
    let some : is_some (find (is_leg_at c.args.key.now) kept) ≡ true = ap is_some (sym c.at.ensures) ∙ copied_some c.at.result ∙ there in
    record { looks = looks_kept c.args.key.now kept (state g.S.Store c.args.conn.now) some }

pub returns-in_default : goal.returns-in_default
returns-in_default g c = record {
  looks = looks_never c.args.key.now c.args.self.now.rows.items (state g.S.Store c.args.conn.now) (λ both. c.in_default.ensures both.0);
}

pub returns-in_default-new : goal.returns-in_default-new
returns-in_default-new g c = record {
  looks = looks_never c.args.key.now c.args.self.now.rows.items (state g.S.Store c.args.conn.now) (λ both. c.in_default-new.ensures both.1);
}

pub returns-in_err-self : goal.returns-in_err-self
returns-in_err-self g c =
    let old = state g.S.Store c.args.conn.now in
    let mid = state g.S.Store c.legs_from.new.conn in
    let fault = err_from_is_err_and c.from_residual.result c.from_residual.ensures.1 in
    record {
      looks = rw (fault.1, fault.2)
          (few_lost c.args.key.now c.args.self.now.rows.items old mid c.in_err-self.field-0.0
          (rw (c.in-Some.ensures.1) at c.in_err-self.ensures.reads));
    }

pub returns-then-is_some-2 : goal.returns-then-is_some-2
returns-then-is_some-2 g c =
    let old = state g.S.Store c.args.conn.now in
    let mid = state g.S.Store c.legs_from.new.conn in
    let few = c.in_ok-self.field-0 in
    let there : is_some c.at-2.result ≡ true = search rules in
    let some : is_some (find (is_leg_at c.args.key.now) few.items) ≡ true = ap is_some (sym c.at-2.ensures) ∙ copied_some c.at-2.result ∙ there in
    record {
      looks =
          few_kept c.args.key.now c.args.self.now.rows.items few old mid
          (rw (c.in-Some.ensures.1) at c.in_ok-self.ensures.reads) some;
    }

pub returns-in_err-self-2 : goal.returns-in_err-self-2
returns-in_err-self-2 g c =
    let old = state g.S.Store c.args.conn.now in
    let mid = state g.S.Store c.legs_from.new.conn in
    let new = state g.S.Store c.list_of.new.conn in
    let fault = err_from_is_err_and c.from_residual-in_err-self-2.result c.from_residual-in_err-self-2.ensures.1 in
    record {
      looks = rw (fault.1, fault.2)
          (looks_unread c.args.key.now c.args.self.now.rows.items c.in_ok-self.field-0 old mid new
          (rw (c.in-Some.ensures.1) at c.in_ok-self.ensures.reads) c.in_err-self-2.field-0.0
          (rw (c.in-Some.ensures.1, c.in-Some-new.ensures.1) at c.in_err-self-2.ensures.lists));
    }

pub returns : goal.returns
returns g c =
    let old = state g.S.Store c.args.conn.now in
    let mid = state g.S.Store c.legs_from.new.conn in
    let new = state g.S.Store c.list_of.new.conn in
    record {
      looks =
          looks_read c.args.key.now c.args.self.now.rows.items c.in_ok-self.field-0 old mid new
          (rw (c.in-Some.ensures.1) at c.in_ok-self.ensures.reads) c.in_ok-self-2.field-0
          (rw (c.in-Some.ensures.1, c.in-Some-new.ensures.1) at c.in_ok-self-2.ensures.lists);
    }

-- All of them agree.
use Rattle.sqlite.specs.Held.{state}
use Rattle.lot_view.specs.View.{known as facts_known}
use Rattle.lot_audit.specs.Checks.{always}
use Rattle.lot_audit.specs.Told.{AmountsTold, HeldHasRows, LegsWithin, NamesTold}
use Rattle.lot_audit.specs.Judge.{Agree}
use Rattle.lot_audit.proofs.SeenLemmas.{chain_last, chain_no, seen_none, told_yes}
use Rattle.lot_audit.proofs.compare.agree.Goals as goal

pub returns-then-not-branch-2 : goal.returns-then-not-branch-2
returns-then-not-branch-2 g c =
    let known = c.args.known.now in
    let view = known.replay.view in
    let old = state g.S.Store c.args.conn.now in
    let one = state g.S.Store c.names_agree.new.conn in
    let two = state g.S.Store c.amounts_agree.new.conn in
    record {
      checks = chain_no _ (AmountsTold view known.rates) (Agree known) old one two
          (told_yes always always (NamesTold view) old old one (seen_none always old) c.in_ok-names_agree.field-0 c.if-not-branch.false
          c.in_ok-names_agree.ensures.checks)
          c.in_ok-amounts_agree.field-0 c.if-not-branch-2.true c.in_ok-amounts_agree.ensures.checks
          (λ tables whole. whole.amounts);
    }

pub returns : goal.returns
returns g c =
    let known = c.args.known.now in
    let view = known.replay.view in
    let old = state g.S.Store c.args.conn.now in
    let one = state g.S.Store c.names_agree.new.conn in
    let two = state g.S.Store c.amounts_agree.new.conn in
    let three = state g.S.Store c.held_has_rows.new.conn in
    let seen_names =
    told_yes always always (NamesTold view) old old one (seen_none always old) c.in_ok-names_agree.field-0 c.if-not-branch.false
    c.in_ok-names_agree.ensures.checks in
    let seen_amounts =
    told_yes always _ (AmountsTold view known.rates) old one two seen_names c.in_ok-amounts_agree.field-0 c.if-not-branch-2.false
    c.in_ok-amounts_agree.ensures.checks in
    let seen_held =
    told_yes always _ (HeldHasRows view) old two three seen_amounts c.in_ok-held_has_rows.field-0 c.if-not-branch-3.false
    (rw c.view-view.ensures at c.in_ok-held_has_rows.ensures.checks) in
    record {
      checks = chain_last _ (LegsWithin (facts_known view).entries) (Agree known) old three (state g.S.Store c.legs_are_within.new.conn)
          seen_held c.legs_are_within.result (rw (c.entries.ensures, c.view-view.ensures) at c.legs_are_within.ensures.checks)
          (λ tables so legs. record { names = so.0.0.1; amounts = so.0.1; held = so.1; legs = legs }) (λ tables whole. whole.legs);
    }

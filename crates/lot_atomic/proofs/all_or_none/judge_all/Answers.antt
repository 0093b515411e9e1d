-- The commands of the list are judged, one after another.
use Rattle.std.proofs.Common.{◌≡◌, ◌∙◌, ◌+◌, [], ◌∷◌, List, ap, arith, length, length-append, refl, subst, sym, take}
use Rattle.std.proofs.lemmas.Result.{err_from_is_err_and}
use Rattle.std.specs.Option.{option_copied}
use Rattle.sqlite.specs.Held.{state}
use Rattle.lot_command.specs.declared.key.Key.{Key}
use Rattle.lot_rounding.specs.declared.asked.Asked.{Asked}
use Rattle.lot_atomic.specs.AllOrNone.{comes_to, joined}
use Rattle.lot_atomic.specs.declared.all_or_none.Together.{Together}
use Rattle.lot_atomic.proofs.AllOrNoneLemmas.{SoFarInside, full_at, goes_on_inside, inside_all, inside_none, stops_at, together_more}
use Rattle.lot_store.proofs.TurnLemmas.{take_all}
use Rattle.lot_atomic.proofs.all_or_none.judge_all.Goals as goal

pub commands-init : goal.commands-init
commands-init g c = (
  [],
  rw c.requires.none (inside_none (option_copied c.args.rounding) (state g.S.Store c.args.tx.now.conn.now) c.requires.inside),
  rw c.requires.none refl,
  refl,
  rw c.requires.none refl,
)

pub returns-in_err-verdict-clause-judges : goal.returns-in_err-verdict-clause-judges
returns-in_err-verdict-clause-judges g c =
    let fault = err_from_is_err_and c.from_residual.result c.from_residual.ensures.1 in
    rw (fault.1, fault.2)
    (stops_at c.args.commands.now c.commands.index (option_copied c.args.rounding) c.commands.invariant.0 c.index-commands-index.result _ c.index-commands-index.is c.commands-test.true
    c.commands.kept c.judge_asked.new.kept (state g.S.Store c.args.tx.now.conn.now) (state g.S.Store c.commands.tx.conn.now) (state g.S.Store c.judge_asked.new.tx.conn.now)
    c.commands.verdicts.items c.commands.invariant.1 c.in_err-verdict.field-0.0 c.in_err-verdict.ensures.judges)

pub returns-in_err-push-clause-judges : goal.returns-in_err-push-clause-judges
returns-in_err-push-clause-judges g c =
    let fault = err_from_is_err_and c.from_residual-in_err-push.result c.from_residual-in_err-push.ensures.1 in
    rw (c.in_err-push.ensures.items, fault.1, fault.2)
    (full_at c.args.commands.now c.commands.index (option_copied c.args.rounding) c.commands.invariant.0 c.index-commands-index.result _ c.index-commands-index.is c.commands-test.true
    c.commands.kept c.judge_asked.new.kept (state g.S.Store c.args.tx.now.conn.now) (state g.S.Store c.commands.tx.conn.now) (state g.S.Store c.judge_asked.new.tx.conn.now)
    c.commands.verdicts.items c.commands.invariant.1 c.in_ok-verdict.verdict c.in_ok-verdict.ensures.judges)

pub commands-preserved : goal.commands-preserved
commands-preserved g c =
    let more =
    goes_on_inside c.args.commands.now c.commands.index (option_copied c.args.rounding) c.commands.invariant.0 c.index-commands-index.result _ c.index-commands-index.is c.commands-test.true
    c.commands.kept c.judge_asked.new.kept (state g.S.Store c.args.tx.now.conn.now) (state g.S.Store c.commands.tx.conn.now) (state g.S.Store c.judge_asked.new.tx.conn.now)
    c.commands.verdicts.items c.commands.invariant.1 c.in_ok-verdict.verdict c.in_ok-verdict.ensures.judges in (
      more.0,
      rw c.in_ok-push.ensures.items more.1,
      rw c.in_ok-push.ensures.items
          (c.with-together.ensures ∙ ap (λ (t : Together). joined t (comes_to c.in_ok-verdict.verdict)) c.commands.invariant.2
          ∙ sym (together_more c.commands.verdicts.items c.in_ok-verdict.verdict)),
      c.in_ok-verdict.ensures.same_reference ∙ c.commands.invariant.3,
      rw c.in_ok-push.ensures.items (length-append c.commands.verdicts.items (c.in_ok-verdict.verdict ∷ []) ∙ ap (λ n. n + 1) c.commands.invariant.4),
    )

pub returns-clause-judges : goal.returns-clause-judges
returns-clause-judges g c =
    let all : c.commands.index ≡ length c.args.commands.now = omega (arith, c.commands-test.false, c.commands.auto.index-end) in
    let so =
    subst (λ (cs : List (Key × Asked)). SoFarInside c.commands.kept (option_copied c.args.rounding) cs c.commands.invariant.0 (state g.S.Store c.args.tx.now.conn.now) (state g.S.Store c.commands.tx.conn.now) c.commands.verdicts.items)
    (ap (λ n. take n c.args.commands.now) all ∙ take_all c.args.commands.now) c.commands.invariant.1 in (
      c.commands.invariant.0,
      inside_all c.commands.kept (option_copied c.args.rounding) c.args.commands.now c.commands.invariant.0 (state g.S.Store c.args.tx.now.conn.now) (state g.S.Store c.commands.tx.conn.now)
          c.commands.verdicts.items c.commands.together so c.commands.invariant.2,
    )

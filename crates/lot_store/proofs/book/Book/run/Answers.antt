use Rattle.std.proofs.Common.{◌≡◌, ◌≢◌, ◌∙◌, ◌+◌, ◌∷◌, [], List, None, Ok, Err, arith, length, refl, subst, sym, ap, take}
use Rattle.std.specs.Option.{option_copied}
use Rattle.sqlite.specs.Held.{state}
use Rattle.lot_rounding.specs.declared.asked.Asked.{Asked}
use Rattle.lot_command.specs.declared.key.Key.{Key}
use Rattle.lot_store.specs.Run.{StopsWith}
use Rattle.lot_store.specs.Step.{condition_from}
use Rattle.lot_store.specs.Turned.{RunsTurned}
use Rattle.lot_store.specs.declared.book.Condition.{Condition}
use Rattle.lot_store.specs.declared.fault.StoreFault.TheVariants.{NeedsReopen}
use Rattle.lot_store.specs.declared.run.Ending.TheVariants.{Complete}
use Rattle.lot_store.specs.declared.turn.Turn.{Turn}
use Rattle.lot_store.proofs.OutputLemmas.{out_then}
use Rattle.lot_store.proofs.RunLemmas.{Any, SoFar, few_refused, ready_fault, ready_ok, reply_usable, leaves_what_stands, run_completes, run_needs_reopening, so_far_none, spent_if}
use Rattle.lot_store.proofs.TurnLemmas.{condition_turned, fault_ends, goes_on, reply_ends, stops_usable, take_all}
use Rattle.lot_store.proofs.book.Book.run.Goals as goal

pub commands-init : goal.commands-init
commands-init g c = (
  [],
  refl,
  so_far_none (option_copied c.args.rounding) c.args.from (state g.S.Store c.args.self.now.conn) _,
  ready_ok c.args.self.now.condition (sym c.ready.ensures.value ∙ c.in_default.is),
  λ flushed. (flushed, refl),
)

pub overflow_add-refused : goal.overflow_add-refused
overflow_add-refused g c =
    let so = c.commands.invariant.2 in
    omega (arith, few_refused so.verdicts, so.refusals, so.counted, c.commands.invariant.1, c.commands-test.true, c.requires, c.refusals-refused.ensures, few_refused (c.in-Ok-reply.verdict ∷ []))

pub returns-in-Err : goal.returns-in-Err
returns-in-Err g c =
    let spent = ready_fault c.args.self.now.condition c.in-Err.fault (sym c.ready.ensures.value ∙ c.in-Err.is) in
    let line = subst (λ f. StopsWith c.args.from f (g.W.CountedWrite.contents c.args.writer.now) (g.W.CountedWrite.contents c.stop.new.writer) c.stop.result) spent c.stop.ensures.line in
    let needs = spent_if c.args.self.now.condition c.in-Err.fault (sym c.ready.ensures.value ∙ c.in-Err.is) in
    record {
      runs = run_needs_reopening (option_copied c.args.rounding) c.args.commands.now c.args.from (state g.S.Store c.args.self.now.conn) _ _ c.stop.result c.args.self.now.condition line needs
          (leaves_what_stands (state g.S.Store c.args.self.now.conn) c.ready.ensures.settled (λ opened trees may. g.met.S.Store.settled c.args.self.now.conn.store trees opened may));
      spent = λ is. (record { replied = refl; refused = refl; line = line }, refl);
      usable = λ ready. let both = sym ready ∙ needs in absurd cc;
      safe = λ opened trees may. g.met.S.Store.settled c.args.self.now.conn.store trees opened may;
      output = λ flushed. c.stop.ensures.output;
    }

pub returns-in-Err-turn : goal.returns-in-Err-turn
returns-in-Err-turn g c =
    let turned = c.in-Err-turn.ensures.turns in
    let usable : c.in-Err-turn.fault ≢ NeedsReopen = λ is. turned.usable (ap Err is) in
    record {
      spent = λ is. let both = sym is ∙ ready_ok c.args.self.now.condition (sym c.ready.ensures.value ∙ c.in_default.is) in absurd cc;
      safe = c.turn.ensures.safe;
      output = λ flushed. out_then _ _ _ c.stop-in-Err-turn.result (c.commands.invariant.4 flushed).1 c.stop-in-Err-turn.ensures.output;
      usable = λ ready. stops_usable (c.args.from + c.commands.index) c.in-Err-turn.fault _ _ c.stop-in-Err-turn.result c.stop-in-Err-turn.ensures.line usable;
      runs = fault_ends c.args.commands.now c.commands.index c.args.from c.commands.refused (option_copied c.args.rounding) c.commands.invariant.0 c.commands.invariant.1
          c.index-commands-index.result _ c.index-commands-index.is c.commands-test.true c.commands.kept c.turn.new.kept
          (state g.S.Store c.args.self.now.conn) (state g.S.Store c.commands.self.conn) (state g.S.Store c.turn.new.self.conn) _ _ c.commands.invariant.2 c.turn.ensures.safe
          c.in-Err-turn.fault turned _ c.stop-in-Err-turn.result c.args.self.now.condition c.turn.new.self.condition c.stop-in-Err-turn.ensures.line
          (c.in-Err-turn.ensures.condition ∙ ap (λ (was : Condition). condition_from {A = Turn} was (Err c.in-Err-turn.fault)) c.commands.invariant.3
          ∙ condition_turned Turn c.in-Err-turn.fault (λ is. turned.sure (ap Err is)) usable)
          (leaves_what_stands (state g.S.Store c.args.self.now.conn) c.ready.ensures.settled (λ opened trees may. g.met.S.Store.settled c.args.self.now.conn.store trees opened may));
    }

pub returns-in-Err-reply : goal.returns-in-Err-reply
returns-in-Err-reply g c = record {
  spent = λ is. let both = sym is ∙ ready_ok c.args.self.now.condition (sym c.ready.ensures.value ∙ c.in_default.is) in absurd cc;
  safe = c.reply.ensures.safe;
  output = λ flushed. out_then _ _ _ c.in-Err-reply.ending (c.commands.invariant.4 flushed).1 c.in-Err-reply.ensures.output;
  usable = λ ready. reply_usable c.turn.new.kept c.reply.new.kept _ _ (c.args.from + c.commands.index) (state g.S.Store c.turn.new.self.conn) (state g.S.Store c.reply.new.self.conn) _ _ c.reply.new.self.condition c.in-Err-reply.ending c.in-Err-reply.ensures.replies;
  runs = reply_ends c.args.commands.now c.commands.index c.args.from c.commands.refused (option_copied c.args.rounding) c.commands.invariant.0 c.commands.invariant.1
      c.index-commands-index.result _ c.index-commands-index.is c.commands-test.true c.commands.kept c.turn.new.kept
      (state g.S.Store c.args.self.now.conn) (state g.S.Store c.commands.self.conn) (state g.S.Store c.turn.new.self.conn) _ _ c.commands.invariant.2 c.turn.ensures.safe
      c.in-Ok.turn c.in-Ok.ensures.turns c.turn.ensures.whole c.judged.result.now c.judged.ensures c.reply.new.kept (state g.S.Store c.reply.new.self.conn) _ c.in-Err-reply.ending
      c.args.self.now.condition c.reply.new.self.condition c.in-Err-reply.ensures.replies c.reply.ensures.safe
      (leaves_what_stands (state g.S.Store c.args.self.now.conn) c.ready.ensures.settled (λ opened trees may. g.met.S.Store.settled c.args.self.now.conn.store trees opened may));
}

pub commands-preserved : goal.commands-preserved
commands-preserved g c =
    let more =
    goes_on c.args.commands.now c.commands.index c.args.from c.commands.refused (option_copied c.args.rounding) c.commands.invariant.0 c.commands.invariant.1
    c.index-commands-index.result _ c.index-commands-index.is c.commands-test.true c.commands.kept c.turn.new.kept
    (state g.S.Store c.args.self.now.conn) (state g.S.Store c.commands.self.conn) (state g.S.Store c.turn.new.self.conn) _ _ c.commands.invariant.2 c.turn.ensures.safe
    c.in-Ok.turn c.in-Ok.ensures.turns c.turn.ensures.whole c.judged.result.now c.judged.ensures c.reply.new.kept (state g.S.Store c.reply.new.self.conn) _ c.in-Ok-reply.verdict
    c.reply.new.self.condition c.in-Ok-reply.ensures.replies c.reply.ensures.safe in (
      more.0,
      more.1,
      rw c.refusals-refused.ensures more.2,
      c.in-Ok-reply.ensures.ready refl,
      λ flushed. (c.in-Ok-reply.ensures.output.0, c.in-Ok-reply.ensures.output.1 ∙ (c.commands.invariant.4 flushed).1),
    )

pub returns : goal.returns
returns g c =
    let all : c.commands.index ≡ length c.args.commands.now = omega (arith, c.commands-test.false, c.commands.auto.index-end) in
    let so =
    subst (λ (cs : List (Key × Asked)). SoFar c.commands.kept Any (option_copied c.args.rounding) cs c.commands.invariant.0 c.args.from c.commands.refused (state g.S.Store c.args.self.now.conn) (state g.S.Store c.commands.self.conn) (g.W.CountedWrite.contents c.args.writer.now) (g.W.CountedWrite.contents c.commands.writer))
    (ap (λ n. take n c.args.commands.now) all ∙ take_all c.args.commands.now) c.commands.invariant.2 in
    record {
      spent = λ is. let both = sym is ∙ ready_ok c.args.self.now.condition (sym c.ready.ensures.value ∙ c.in_default.is) in absurd cc;
      usable = λ ready complete. absurd cc;
      safe = λ opened trees may. g.met.S.Store.settled c.commands.self.conn.store trees opened may;
      output = c.commands.invariant.4;
      runs = subst (λ n. RunsTurned (option_copied c.args.rounding) c.args.commands.now c.args.from (state g.S.Store c.args.self.now.conn) (state g.S.Store c.commands.self.conn) (g.W.CountedWrite.contents c.args.writer.now) (g.W.CountedWrite.contents c.commands.writer) c.args.self.now.condition c.commands.self.condition (record { replied = n; refused = c.commands.refused; ending = Complete }))
          (sym c.commands.invariant.1 ∙ all)
          (run_completes c.commands.kept (option_copied c.args.rounding) c.args.commands.now c.commands.invariant.0 c.args.from c.commands.refused (state g.S.Store c.args.self.now.conn) (state g.S.Store c.commands.self.conn) _ _ c.args.self.now.condition c.commands.self.condition so c.commands.invariant.3
          (leaves_what_stands (state g.S.Store c.args.self.now.conn) c.ready.ensures.settled (λ opened trees may. g.met.S.Store.settled c.args.self.now.conn.store trees opened may)));
    }

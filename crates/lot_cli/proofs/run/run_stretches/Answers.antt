-- The stretches so far are one run, and the next one is behind it.
use Rattle.std.proofs.Common.{◌∙◌, [], arith, refl, subst}
use Rattle.std.specs.Option.{option_copied}
use Rattle.sqlite.specs.Held.{state}
use Rattle.std.proofs.lemmas.List.{length-drop}
use Rattle.lot_cli.proofs.NumberLemmas.{follow_rest, stretch_fits, within_rest}
use Rattle.lot_cli.proofs.StretchLemmas.{all_done, done_none, ends_there, goes_on, not_complete, status_more, status_same}
use Rattle.lot_store.proofs.OutputLemmas.{out_then}
use Rattle.lot_store.proofs.RunLemmas.{leaves_what_stands}
use Rattle.lot_store.specs.Run.{IsConditionAfter, IsWrittenOut}
use Rattle.lot_store.specs.declared.run.Ending.{Ending}
use Rattle.lot_cli.proofs.run.run_stretches.Goals as goal

pub stretches-init : goal.stretches-init
stretches-init g c = (
  [],
  done_none (option_copied c.args.rounding) (state g.S.Store c.args.book.now.conn) _,
  omega arith,
  c.requires.ready,
  λ flushed. (flushed, refl),
)

pub run-end-requires : goal.run-end-requires
run-end-requires g c =
    stretch_fits c.args.numbers.now c.stretches.done c.in_a_row.result c.args.commands.now c.requires.next c.stretches-test.true
    (within_rest c.args.numbers.now c.stretches.done c.in_a_row.result c.in_a_row.ensures.within)
    (follow_rest c.args.numbers.now c.stretches.done c.in_a_row.result _ c.in_a_row.ensures.follow)

pub returns-in-Stopped : goal.returns-in-Stopped
returns-in-Stopped g c = record {
  runs = ends_there (option_copied c.args.rounding) c.args.numbers.now c.args.commands.now c.stretches.done c.in_a_row.result _ c.stretches.status
      (state g.S.Store c.args.book.now.conn) (state g.S.Store c.stretches.book.conn) (state g.S.Store c.run-end.new.self.conn) _ _ _ c.stretches.invariant.0 c.requires.as_many
      (within_rest c.args.numbers.now c.stretches.done c.in_a_row.result c.in_a_row.ensures.within)
      (follow_rest c.args.numbers.now c.stretches.done c.in_a_row.result _ c.in_a_row.ensures.follow) c.stretches.invariant.1
      c.stretches.book.condition c.run-end.new.self.condition c.run-end.result c.stretches.invariant.3 c.run-end.ensures.runs
      (not_complete c.run-end.result.ending c.in-Stopped.is) c.run-end.ensures.usable _
      (leaves_what_stands (state g.S.Store c.args.book.now.conn) c.requires.settled (λ opened trees may. g.met.S.Store.settled c.args.book.now.conn.store trees opened may))
      c.requires.apart
      (λ flushed. let was = c.stretches.invariant.4 flushed in out_then _ _ _ c.run-end.result.ending was.1 (c.run-end.ensures.output was.0));
}

pub stretches-preserved-then-end-gt0 : goal.stretches-preserved-then-end-gt0
stretches-preserved-then-end-gt0 g c =
    let so = c.stretches.invariant in
    let within = within_rest c.args.numbers.now c.stretches.done c.in_a_row.result c.in_a_row.ensures.within in
    let more =
    goes_on (option_copied c.args.rounding) c.args.numbers.now c.args.commands.now c.stretches.done c.in_a_row.result _ c.stretches.status
    (state g.S.Store c.args.book.now.conn) (state g.S.Store c.stretches.book.conn) (state g.S.Store c.run-end.new.self.conn) _ _ _ so.0 c.requires.as_many within
    (follow_rest c.args.numbers.now c.stretches.done c.in_a_row.result _ c.in_a_row.ensures.follow) so.1
    c.stretches.book.condition c.run-end.new.self.condition c.run-end.result so.3 c.run-end.ensures.runs _ c.in-Complete.is
    (status_more _ c.run-end.result.refused c.if-end-gt0.true) in (
      more.0,
      more.1,
      omega (arith, within, so.2, length-drop c.stretches.done c.args.numbers.now),
      subst (λ (ending : Ending). IsConditionAfter c.run-end.ensures.runs.1.0 ending c.run-end.new.self.condition) c.in-Complete.is c.run-end.ensures.runs.1.3,
      λ flushed.
          let was = so.4 flushed in
          let all =
          subst (λ (ending : Ending). IsWrittenOut ending (record { before = g.W.CountedWrite.calls c.stretches.writer; after = g.W.CountedWrite.calls c.run-end.new.writer }))
          c.in-Complete.is (c.run-end.ensures.output was.0) in
          (all.0, all.1 ∙ was.1),
    )

pub stretches-preserved : goal.stretches-preserved
stretches-preserved g c =
    let so = c.stretches.invariant in
    let within = within_rest c.args.numbers.now c.stretches.done c.in_a_row.result c.in_a_row.ensures.within in
    let more =
    goes_on (option_copied c.args.rounding) c.args.numbers.now c.args.commands.now c.stretches.done c.in_a_row.result _ c.stretches.status
    (state g.S.Store c.args.book.now.conn) (state g.S.Store c.stretches.book.conn) (state g.S.Store c.run-end.new.self.conn) _ _ _ so.0 c.requires.as_many within
    (follow_rest c.args.numbers.now c.stretches.done c.in_a_row.result _ c.in_a_row.ensures.follow) so.1
    c.stretches.book.condition c.run-end.new.self.condition c.run-end.result so.3 c.run-end.ensures.runs _ c.in-Complete.is
    (status_same c.stretches.status _ c.run-end.result.refused so.1.sums (omega (arith, c.if-end-gt0.false))) in (
      more.0,
      more.1,
      omega (arith, within, so.2, length-drop c.stretches.done c.args.numbers.now),
      subst (λ (ending : Ending). IsConditionAfter c.run-end.ensures.runs.1.0 ending c.run-end.new.self.condition) c.in-Complete.is c.run-end.ensures.runs.1.3,
      λ flushed.
          let was = so.4 flushed in
          let all =
          subst (λ (ending : Ending). IsWrittenOut ending (record { before = g.W.CountedWrite.calls c.stretches.writer; after = g.W.CountedWrite.calls c.run-end.new.writer }))
          c.in-Complete.is (c.run-end.ensures.output was.0) in
          (all.0, all.1 ∙ was.1),
    )

pub returns : goal.returns
returns g c = record {
  runs = all_done (option_copied c.args.rounding) c.args.numbers.now c.args.commands.now c.stretches.done c.stretches.invariant.0 c.stretches.status
      (state g.S.Store c.args.book.now.conn) (state g.S.Store c.stretches.book.conn) _ _ _ c.requires.as_many c.stretches-test.false
      (leaves_what_stands (state g.S.Store c.args.book.now.conn) c.requires.settled (λ opened trees may. g.met.S.Store.settled c.args.book.now.conn.store trees opened may))
      c.requires.apart c.stretches.invariant.1 c.stretches.invariant.4;
}

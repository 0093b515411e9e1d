use Rattle.std.proofs.Common.{◌∙◌, ◌+◌, List, ℕ, refl, rules, subst, sym}
use native.Mathlib.Omega.{arith}
use Rattle.std.specs.Io.{ReadsAtMost}
use Rattle.std.specs.Io.KnownBytes.{ReadConsumes}
use Rattle.std.specs.Prelude.{Ok}
use Rattle.lot_io.specs.Reads.{Counts}
use Rattle.lot_stream.specs.Input.{EndsWell, TakesIn}
use Rattle.lot_stream.specs.declared.input.Intake.{Intake}
use Rattle.lot_stream.specs.declared.input.SlurpFault.{SlurpFault}
use Rattle.lot_stream.proofs.CallLemmas.{bytes_go, call_ends, call_goes, call_stops, called_out, for_fault, no_room, none_made, so_far}
use Rattle.lot_stream.proofs.InputLemmas.{at_fault, fault_taken, written_back}
use Rattle.lot_stream.proofs.input.slurp.Goals as goal

pub returns-in_err-chunk-clause-cause : goal.returns-in_err-chunk-clause-cause
returns-in_err-chunk-clause-cause g c =
    for_fault _ SlurpFault.Memory c.from_residual.result c.from_residual.ensures.1 (no_room (g.R.CountedRead.calls c.args.reader.now))

pub loop-made-init : goal.loop-made-init
loop-made-init g c =
    let none =
    subst (λ (bytes : List ℕ). Counts (g.R.CountedRead.calls c.args.reader.now) (g.R.CountedRead.calls c.args.reader.now) (so_far 0 bytes))
    (sym c.new-bytes.ensures.items) (none_made (g.R.CountedRead.calls c.args.reader.now)) in
    search rules

pub returns-in_err-take_in-clause-taken : goal.returns-in_err-take_in-clause-taken
returns-in_err-take_in-clause-taken g c =
    let full = c.read_counted-outcome.auto.chunk ∙ c.as_mut_slice.ensures.len in
    at_fault _ _ c.in_err-take_in.field-0.0 c.from_residual-in_err-take_in.result c.from_residual-in_err-take_in.ensures.1
    (fault_taken _ _ _ c.loop-made.bytes.items c.deref.result.now c.read_counted-outcome.new.chunk c.read_counted-outcome.result c.take_in.new.bytes.items c.in_err-take_in.field-0.0
    c.loop-made.invariant.taken (omega (arith, c.loop-made.bytes.ok.0, c.loop-made.invariant.small)) (full ∙ c.loop-made.invariant.room)
    (c.deref.ensures.value ∙ written_back c.loop-made.chunk.len c.read_counted-outcome.new.chunk _ full) c.read_counted-outcome.ensures.bound c.read_counted-outcome.ensures.bytes c.in_err-take_in.ensures)

pub returns-in_err-take_in-clause-cause : goal.returns-in_err-take_in-clause-cause
returns-in_err-take_in-clause-cause g c =
    for_fault _ c.in_err-take_in.field-0.0 c.from_residual-in_err-take_in.result c.from_residual-in_err-take_in.ensures.1
    (call_stops (g.R.CountedRead.calls c.args.reader.now) (g.R.CountedRead.calls c.loop-made.reader) (g.R.CountedRead.calls c.read_counted-outcome.new.self)
    c.loop-made.bytes.items c.deref.result.now c.loop-made._made (c.loop-made._made + 1) c.loop-made.invariant.calls refl
    c.read_counted-outcome.result c.take_in.new.bytes.items c.in_err-take_in.field-0.0 c.read_counted-outcome.ensures.calls c.in_err-take_in.ensures
    (omega (arith, c.loop-made.bytes.ok.0, c.loop-made.invariant.small)) (omega (arith, c.loop-made-test.true)))

pub returns-in-Ended-clause-calls : goal.returns-in-Ended-clause-calls
returns-in-Ended-clause-calls g c =
    subst (λ (n : ℕ). EndsWell (record { before = g.R.CountedRead.calls c.args.reader.now; after = g.R.CountedRead.calls c.read_counted-outcome.new.self }) n)
    (omega (arith, c.take_in.new.bytes.ok.0))
    (call_ends (g.R.CountedRead.calls c.args.reader.now) (g.R.CountedRead.calls c.loop-made.reader) (g.R.CountedRead.calls c.read_counted-outcome.new.self)
    c.loop-made.bytes.items c.deref.result.now c.loop-made._made (c.loop-made._made + 1) c.loop-made.invariant.calls refl
    c.read_counted-outcome.result c.take_in.new.bytes.items c.read_counted-outcome.ensures.calls
    (subst (λ (progress : Intake). TakesIn c.loop-made.bytes.items c.deref.result.now c.read_counted-outcome.result c.take_in.new.bytes.items (Ok progress))
    c.in-Ended.is c.in_ok-take_in.ensures)
    (omega (arith, c.loop-made-test.true)))

pub loop-made-preserved : goal.loop-made-preserved
loop-made-preserved g c =
    let full = c.read_counted-outcome.auto.chunk ∙ c.as_mut_slice.ensures.len in
    let whole = c.deref.ensures.value ∙ written_back c.loop-made.chunk.len c.read_counted-outcome.new.chunk _ full in
    let bound = subst (λ (given : List ℕ). ReadsAtMost c.read_counted-outcome.result given) (sym whole) c.read_counted-outcome.ensures.bound in
    let takes =
    subst (λ (progress : Intake). TakesIn c.loop-made.bytes.items c.deref.result.now c.read_counted-outcome.result c.take_in.new.bytes.items (Ok progress))
    c.in-Goes.is c.in_ok-take_in.ensures in
    let went =
    bytes_go (g.R.CountedRead.remaining c.args.reader.now) (g.R.CountedRead.remaining c.loop-made.reader) (g.R.CountedRead.remaining c.read_counted-outcome.new.self)
    c.loop-made.bytes.items c.deref.result.now c.read_counted-outcome.result c.take_in.new.bytes.items c.loop-made.invariant.taken
    (omega (arith, c.loop-made.bytes.ok.0, c.loop-made.invariant.small))
    (subst (λ (given : List ℕ). ReadConsumes (g.R.CountedRead.remaining c.loop-made.reader) (g.R.CountedRead.remaining c.read_counted-outcome.new.self) c.read_counted-outcome.result given)
    (sym whole) c.read_counted-outcome.ensures.bytes)
    bound takes in
    record {
      taken = went.0;
      calls =
          call_goes (g.R.CountedRead.calls c.args.reader.now) (g.R.CountedRead.calls c.loop-made.reader) (g.R.CountedRead.calls c.read_counted-outcome.new.self)
          c.loop-made.bytes.items c.deref.result.now c.loop-made._made (c.loop-made._made + 1) c.loop-made.invariant.calls refl
          c.read_counted-outcome.result c.take_in.new.bytes.items c.read_counted-outcome.ensures.calls bound takes;
      small = omega (arith, c.take_in.new.bytes.ok.0, went.1);
      room = c.loop-made.invariant.room;
    }

pub returns-clause-cause : goal.returns-clause-cause
returns-clause-cause g c =
    called_out (g.R.CountedRead.calls c.args.reader.now) (g.R.CountedRead.calls c.loop-made.reader) c.loop-made.bytes.items c.loop-made._made
    c.loop-made.invariant.calls (omega (arith, c.loop-made.bytes.ok.0, c.loop-made.invariant.small))
    (omega (arith, c.loop-made-test.false, c.loop-made.auto._made-end))

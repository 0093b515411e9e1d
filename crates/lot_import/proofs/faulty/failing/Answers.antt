-- One more cause fails or passes.
use Rattle.std.proofs.Common.{◌+◌, ◌<◌, List, length, take, sym, ◌∙◌, ap, subst, arith}
use Rattle.std.proofs.lemmas.Bool.{false≢true}
use Rattle.csv.specs.Records.{fields_of}
use Rattle.lot_import.specs.Row.{AreFailing, PassesAlone}
use Rattle.lot_import.specs.declared.fault.Cause.{Cause}
use Rattle.lot_import.specs.declared.fault.Cause.TheVariants.{Length}
use Rattle.lot_import.proofs.FaultyLemmas.{next_failing, next_passing}
use Rattle.lot_import.proofs.faulty.failing.Goals as goal
use Rattle.lot_import.proofs.faulty.failing.Goals.{then-not-passes+in_ok-push, else-not-passes}

pub loop-cause-preserved : goal.loop-cause-preserved
loop-cause-preserved c =
    let l = c.loop-cause in
    let causes = c.args.causes.now in
    let Passing : Cause → Type 0 = PassesAlone c.args.version (fields_of c.args.written.now) in
    let within : l.cause-index < length causes = omega (arith, c.loop-cause-test.true) in
    let Failing : List Cause → Type 0 = AreFailing Passing (take (l.cause-index + 1) causes) in
    elim c.if-not-passes.branch [
      | then-not-passes+in_ok-push w ↦
          subst Failing (sym (ap (λ v. v.items) w.failing-is ∙ w.in_ok-push.ensures.items))
          (next_failing Passing causes l.failing.items l.cause-index Length within l.invariant
          (λ passes. false≢true (sym w.if-not-passes.true ∙ c.passes.ensures.1 passes)))
      | else-not-passes w ↦
          subst Failing (sym (ap (λ v. v.items) w.failing-is))
          (next_passing Passing causes l.failing.items l.cause-index Length within l.invariant (c.passes.ensures.0 w.if-not-passes.false))
    ]

-- One more byte goes on, or none does.
use Rattle.std.proofs.Common.{◌∙◌, sym}
use Rattle.lot_syntax.proofs.RunLemmas.{whole_step, whole_stop}
use Rattle.lot_syntax.proofs.cut.whole_len.Goals as goal

pub loop-n-preserved : goal.loop-n-preserved
loop-n-preserved c =
    let on = whole_step c.loop-n.n c.args.bytes.now _ c.loop-n.invariant.within (sym c.goes_on.ensures ∙ c.loop-n-test.true) c.loop-n.invariant.so_far in
    record { within = on.0; so_far = on.1 }

pub returns-clause-value : goal.returns-clause-value
returns-clause-value c =
    whole_stop c.loop-n.n c.args.bytes.now _ c.loop-n.invariant.within (sym c.goes_on.ensures ∙ c.loop-n-test.false) c.loop-n.invariant.so_far

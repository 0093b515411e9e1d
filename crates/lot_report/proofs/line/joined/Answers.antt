use Rattle.std.proofs.Common.{[], arith, drop, ◌+◌}
use Rattle.std.specs.Prelude.{Some}
use Rattle.lot_report.proofs.EachLemmas.{each_written, first_left}
use Rattle.lot_report.proofs.line.joined.Goals as goal

pub loop-text-preserved : goal.loop-text-preserved
loop-text-preserved c =
    let texts = c.args.texts.now in
    let at = c.loop-text.text-index in
    each_written (λ t. t.now) texts (drop at texts) (drop (at + 1) texts) _ (Some []) (Some c.loop-text.line.bytes) (Some c.try_push_str.new.self.bytes)
    c.loop-text.invariant (first_left texts at _ (omega arith)) c.in-Ok.ensures.ok

use Rattle.std.proofs.Common.{All, arith, subst, sym, take}
use Rattle.std.proofs.lemmas.List.Elements.{All-push}
use Rattle.std.proofs.lemmas.List.{take_all}
use Rattle.lot_write.specs.Write.{IsGood}
use Rattle.lot_write.proofs.CallLemmas.{taken}
use Rattle.lot_write.proofs.good.are_good.Goals as goal

pub loop-write-preserved : goal.loop-write-preserved
loop-write-preserved c =
    let writes = c.args.writes.now in
    let n = c.loop-write.write-index in
    let write = c.write-item.result in
    subst (All IsGood) (sym (taken writes n write _ c.loop-write-test.true c.write-item.is)) (All-push IsGood (take n writes) write c.loop-write.invariant c.is_good.ensures)

pub returns : goal.returns
returns c = subst (All IsGood) (take_all c.loop-write.write-index c.args.writes.now (omega (arith, c.loop-write-test.false))) c.loop-write.invariant

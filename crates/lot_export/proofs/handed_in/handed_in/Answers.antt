-- One more row is handed in, or it isn't to be; or the row at which it stops is the first.
use Rattle.std.specs.Prelude.{None}
use Rattle.std.specs.Iterator.Adapters.{zip_first, zip_second}
use Rattle.std.specs.Slice.Iter.{iter_rest}
use Rattle.std.proofs.Common.{refl, sym, ◌∙◌}
use Rattle.std.proofs.lemmas.Slice.Zip.{either_empty_from_Zip}
use Rattle.lot_export.proofs.HandedInLemmas.{all_taken, fails_here, skips_at, takes_at}
use Rattle.lot_export.proofs.handed_in.handed_in.Goals as goal

pub returns-in-Err-clause-fault : goal.returns-in-Err-clause-fault
returns-in-Err-clause-fault c =
    let l = c.loop-named in
    fails_here c.args.source.now c.args.sheet.now (iter_rest (zip_first l.named-iterator)) (iter_rest (zip_first c.next.new.self))
    (iter_rest (zip_second l.named-iterator)) (iter_rest (zip_second c.next.new.self)) l.numbers.items l.commands.items c.in-Some.named.now
    c.in-Some.partner.now l.invariant c.in-Some.ensures.steps.0 c.in-Some.ensures.steps.1 c.in-Err.fault (sym c.is_posted.ensures ∙ c.if-is_posted.true)
    c.in-Err.ensures.fault

pub loop-named-preserved-in-Continue-branch-2 : goal.loop-named-preserved-in-Continue-branch-2
loop-named-preserved-in-Continue-branch-2 c =
    let l = c.loop-named in
    takes_at c.args.source.now c.args.sheet.now (iter_rest (zip_first l.named-iterator)) (iter_rest (zip_first c.next.new.self))
    (iter_rest (zip_second l.named-iterator)) (iter_rest (zip_second c.next.new.self)) l.numbers.items l.commands.items c.in-Some.named.now
    c.in-Some.partner.now l.invariant c.in-Some.ensures.steps.0 c.in-Some.ensures.steps.1 c.push-then-is_posted.new.self.items c.push.new.self.items
    c.in-Ok.given (sym c.is_posted.ensures ∙ c.if-is_posted.true) c.in-Ok.ensures.ok c.in_ok-push-2.ensures.items c.in_ok-push.ensures.items c.requires.few

pub loop-named-preserved : goal.loop-named-preserved
loop-named-preserved c =
    let l = c.loop-named in
    skips_at c.args.source.now c.args.sheet.now (iter_rest (zip_first l.named-iterator)) (iter_rest (zip_first c.next.new.self))
    (iter_rest (zip_second l.named-iterator)) (iter_rest (zip_second c.next.new.self)) l.numbers.items l.commands.items c.in-Some.named.now
    c.in-Some.partner.now l.invariant c.in-Some.ensures.steps.0 c.in-Some.ensures.steps.1 (sym c.is_posted.ensures ∙ c.if-is_posted.false)

pub returns-clause-ok : goal.returns-clause-ok
returns-clause-ok c =
    let l = c.loop-named in
    all_taken c.args.source.now c.args.sheet.now (iter_rest (zip_first l.named-iterator)) (iter_rest (zip_second l.named-iterator)) l.numbers.items
    l.commands.items l.invariant (either_empty_from_Zip l.named-iterator c.next.new.self None refl c.in-None.ensures.steps)

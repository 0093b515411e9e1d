-- Each lot becomes another behind those before it. Where one becomes none, that is the one.
use Rattle.std.proofs.Common.{rules, inr, refl, take, drop, ◌+◌}
use Rattle.lot_split.specs.Lots.{Becomes}
use Rattle.lot_split.proofs.ListLemmas.{cut_at, next_taken, zip_more}
use Rattle.lot_split.proofs.divide.divided.Goals as goal

pub returns-in_default-clause-fault : goal.returns-in_default-clause-fault
returns-in_default-clause-fault c =
    let xs = c.args.lots.now in
    let i = c.loop-lot.lot-index in
    let item = c.lot-item.result in
    inr (
      refl,
      record {
        before = take i xs;
        lot = item;
        after = drop (i + 1) xs;
        is = cut_at xs i item (search rules) c.lot-item.is;
        none = c.in_ok-divided.ensures.none c.in_default.is;
      },
    )

pub loop-lot-preserved : goal.loop-lot-preserved
loop-lot-preserved c =
    let item = c.lot-item.result in
    let i = c.loop-lot.lot-index in
    let taken = next_taken c.args.lots.now i item (search rules) c.lot-item.is in
    let one : Becomes c.args.ratio item c.in-Some.divided = rw c.in-Some.is at c.in_ok-divided.ensures.some in
    rw (taken, c.in_ok-push.ensures.ok) (zip_more (Becomes c.args.ratio) _ _ item _ c.loop-lot.invariant one)

-- Each row takes back what it should of those before it.
use Rattle.lot_sequence.proofs.CancelLemmas.{got, step_more}
use Rattle.lot_sequence.proofs.cancel.taken_back.Goals as goal

pub loop-place-preserved : goal.loop-place-preserved
loop-place-preserved c =
    let rows = c.args.rows.now in
    let l = c.loop-place in
    let trade = c.index-rows-place.result in
    step_more rows l.place l.left c.take_back.new.left l.partners.items l.invariant trade
    (got rows l.place trade c.loop-place-test.true c.index-rows-place.is) c.in_ok-partner.partner c.push.new.self.items c.in_ok-partner.ensures
    c.in_ok-push.ensures.items

-- One more row is shown.
use Rattle.std.specs.String.{string_bytes}
use Rattle.lot_export.proofs.ShowLemmas.{hand_next}
use Rattle.lot_export.proofs.show.push_hands.Goals as goal

pub loop-row-preserved : goal.loop-row-preserved
loop-row-preserved c =
    hand_next c.args.rows.now c.loop-row.row-index c.row-item.result (string_bytes c.args.text.now) (string_bytes c.loop-row.text)
    (string_bytes c.push_hand.new.text) c.loop-row.invariant c.loop-row-test.true c.row-item.is c.in_ok-push_hand.ensures

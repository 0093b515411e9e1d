use Rattle.std.proofs.Common.{refl}
use Rattle.lot_recall.specs.declared.place.RecallPlace.{RecallPlace}
use Rattle.lot_recall.proofs.PlaceLemmas.{no_legs, no_rows}
use Rattle.lot_recall.proofs.place.RecallPlace.new.Goals as goal

pub returns-clause-begun : goal.returns-clause-begun
returns-clause-begun c = λ tables entries stand have.
    let place : RecallPlace = record { keys = c.args.keys; at = 0; legs = c.new-legs.result; notes = c.new-notes.result; last = c.new.result } in
    no_legs place tables entries (no_rows place tables refl c.new-legs.ensures c.new-notes.ensures) have

pub returns-clause-rows : goal.returns-clause-rows
returns-clause-rows c = λ tables.
    let place : RecallPlace = record { keys = c.args.keys; at = 0; legs = c.new-legs.result; notes = c.new-notes.result; last = c.new.result } in
    no_rows place tables refl c.new-legs.ensures c.new-notes.ensures

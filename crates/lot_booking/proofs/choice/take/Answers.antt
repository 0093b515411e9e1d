-- Lots that hold less than is wanted have no choice.
use Rattle.std.proofs.Common.{arith, map, ap, ◌∙◌, ◌≡◌, unsigned_abs}
use Rattle.std.proofs.lemmas.Int.{ints, to_z-of_z}
use Rattle.lot_inv.specs.Inventory.{held_in}
use Rattle.lot_inv.specs.Lot.{key_and_units}
use Rattle.lot_booking.specs.Choice.{InTurn}
use Rattle.lot_booking.proofs.ChoiceLemmas.{no_choice-from_less}
use Rattle.lot_booking.proofs.choice.take.Goals as goal

pub returns-then-held_in-from-clause-not_enough : goal.returns-then-held_in-from-clause-not_enough
returns-then-held_in-from-clause-not_enough g c = λ _ before.
    let lots = map key_and_units c.args.lots.items in
    let held : c.held_in.result ≡ held_in lots = c.held_in.ensures ∙ ap (λ lots. held_in (map key_and_units lots)) c.deref.ensures.value in
    let wanted : c.from.result ≡ unsigned_abs c.args.units = grind (arith, ints, to_z-of_z) in
    no_choice-from_less (InTurn before) lots (unsigned_abs c.args.units) (omega arith)

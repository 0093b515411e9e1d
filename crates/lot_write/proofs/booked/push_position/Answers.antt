use Rattle.std.proofs.Common.{rules, subst, ◌≡◌}
use Rattle.std.specs.Prelude.{IfSome, Option, ℕ}
use Rattle.std.specs.BTreeMap.{get}
use Rattle.lot_book.specs.Leg.{position_cmp}
use Rattle.lot_table.specs.Cell.{IsOpeningNumber}
use Rattle.lot_write.proofs.RowLemmas.{not_opened}
use Rattle.lot_write.proofs.booked.push_position.Goals as goal

pub returns-clause-device : goal.returns-clause-device
returns-clause-device c failed =
    let openings = c.args.change.now.openings in
    let position = c.args.position.now in
    let device = c.push_opening_number.ensures.device failed in
    let listed : get position_cmp openings position ≡ c.copied-opening.result = search rules in
    not_opened position openings device.0 (λ fits. device.1 (subst (λ (o : Option ℕ). IfSome o IsOpeningNumber) listed fits))

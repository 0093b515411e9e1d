-- By method, and by how ties are decided.
use Rattle.std.proofs.Common.{refl}
use Rattle.lot_booking.proofs.OpeningOrders.{is_order_by}
use Rattle.lot_laws.proofs.editions.each_method_has_an_order_however_ties_are_decided.Goals as goal

pub returns-clause-order : goal.returns-clause-order
returns-clause-order c = is_order_by

pub returns-clause-strict : goal.returns-clause-strict
returns-clause-strict c = λ ties. refl

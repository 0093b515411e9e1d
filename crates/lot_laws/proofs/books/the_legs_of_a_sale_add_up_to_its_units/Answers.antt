-- A choice gives each lot an amount with the sign of the units.
use Rattle.lot_laws.proofs.LawSales.{booked_sale}
use Rattle.lot_laws.proofs.books.the_legs_of_a_sale_add_up_to_its_units.Goals as goal

pub returns : goal.returns
returns c = booked_sale

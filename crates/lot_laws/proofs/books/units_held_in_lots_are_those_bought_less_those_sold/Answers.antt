-- Each posting with braces adds the units that it writes.
use Rattle.lot_laws.proofs.LawUnits.{held_as_bought}
use Rattle.lot_laws.proofs.books.units_held_in_lots_are_those_bought_less_those_sold.Goals as goal

pub returns : goal.returns
returns c = held_as_bought

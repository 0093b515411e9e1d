use Rattle.lot_booking.proofs.ChoiceLaws.{one_in_turn, one_strict}
use Rattle.lot_booking.proofs.laws.there_is_at_most_one_choice.Goals as goal

pub returns-clause-strict : goal.returns-clause-strict
returns-clause-strict c lots amount one other a b = one_strict lots amount one other a b

pub returns-clause-in_turn : goal.returns-clause-in_turn
returns-clause-in_turn c before lots amount one other order a b = one_in_turn before order lots amount one other a b

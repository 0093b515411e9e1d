-- What is behind the keys of a day is the day's alone.
use Rattle.lot_sequence.proofs.KeyLaws.{of_the_day}
use Rattle.lot_sequence.proofs.laws.keys_are_of_the_day.Goals as goal

pub returns : goal.returns
returns c = of_the_day

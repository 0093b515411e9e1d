use Rattle.lot_legs.proofs.PlaceLemmas.{is_last_text}
use Rattle.lot_legs.proofs.place.LegsPlace.text.Goals as goal

pub returns : goal.returns
returns c = is_last_text c.args.self.now _ c.text.ensures

-- One byte of ASCII is a character.
use Rattle.lot_syntax.proofs.Boundaries.{first_boundary}
use Rattle.lot_syntax.proofs.front.after_first.Goals as goal

pub split_at-requires : goal.split_at-requires
split_at-requires c = first_boundary c.args.text.now c.requires c.utf8.text

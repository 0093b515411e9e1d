use Rattle.std.proofs.Common.{refl}
use Rattle.lot_dump.proofs.laws.a_line_begins_as_it_is_meant.Goals as goal

pub returns : goal.returns
returns c = record { head = λ head. (_, refl); heading = λ heading. (_, refl); end = λ end. (_, refl) }

use Rattle.std.proofs.Common.{◌≡◌, ◌++◌, length}
use Rattle.std.specs.Prelude.{flat_map, IsTrue}
use Rattle.std.specs.List.{list_all}
use Rattle.lot_field.specs.Days.{is_good_part, part_text}
use Rattle.lot_field.proofs.day_form.parts_of.Given as goal

-- the text is that of the parts so far and the rest
abbrev pub invariant-loop-rest : goal.invariant-loop-rest
invariant-loop-rest l = (l.text ≡ flat_map part_text l.parts ++ l.rest) × IsTrue (list_all is_good_part l.parts)

abbrev pub decreases-loop-rest : goal.decreases-loop-rest
decreases-loop-rest l = length l.rest

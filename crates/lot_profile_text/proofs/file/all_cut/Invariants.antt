-- The texts so far are cut.
use Rattle.std.proofs.Common.{◌≡◌, map, take}
use Rattle.lot_field.specs.Field.{cut}
use Rattle.lot_profile_text.proofs.file.all_cut.Given as goal

abbrev pub invariant-loop-text : goal.invariant-loop-text
invariant-loop-text l = l.all ≡ map cut (take l.text-index l.texts)

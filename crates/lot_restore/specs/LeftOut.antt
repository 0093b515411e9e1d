-- Which commands of a dump are judged, where some entries are left out, and what leaves out none (docs/FORMATS.md, Dump).
use Rattle.std.specs.Prelude.{Bool, not, List, filter}
use Rattle.std.specs.List.{list_any}
use Rattle.lot_parts.specs.declared.dumped.Dumped.{Dumped}
use Rattle.lot_without.specs.Without.{is_met}
use Rattle.lot_without.specs.declared.without.Without.{Without}

-- whether the command's entry is one of those that are left out
abbrev pub is_of : Dumped → Without → Bool
is_of dumped it = is_met it dumped.number dumped.key

abbrev pub is_left_out : List Without → Dumped → Bool
is_left_out without dumped = list_any (is_of dumped) without

-- the commands that are judged
abbrev pub kept_of : List Without → List Dumped → List Dumped
kept_of without = filter (λ dumped. not (is_left_out without dumped))

-- whether it leaves out none of the commands
abbrev pub meets_none : List Dumped → Without → Bool
meets_none dumped it = not (list_any (λ one. is_of one it) dumped)

-- those that leave out none
abbrev pub unmet_of : List Without → List Dumped → List Without
unmet_of without dumped = filter (meets_none dumped) without

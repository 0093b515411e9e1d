-- The sections so far are behind the text.
use Rattle.std.proofs.Common.{◌≡◌, ◌++◌, take}
use Rattle.std.specs.List.{flat_map}
use Rattle.std.specs.String.{string_bytes}
use Rattle.lot_profile_text.specs.Explained.{section_text}
use Rattle.lot_profile_text.proofs.explain.push_sections.Given as goal

abbrev pub invariant-loop-section : goal.invariant-loop-section
invariant-loop-section l = string_bytes l.text ≡ string_bytes l.initial.text ++ flat_map section_text (take l.section-index l.sections)

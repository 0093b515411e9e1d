-- The entries so far are behind the text.
use Rattle.std.proofs.Common.{◌≡◌, ◌++◌, take}
use Rattle.std.specs.List.{flat_map}
use Rattle.std.specs.String.{string_bytes}
use Rattle.lot_profile_text.specs.Explained.{entry_text}
use Rattle.lot_profile_text.proofs.explain.push_entries.Given as goal

abbrev pub invariant-loop-entry : goal.invariant-loop-entry
invariant-loop-entry l = string_bytes l.text ≡ string_bytes l.initial.text ++ flat_map entry_text (take l.entry-index l.entries)

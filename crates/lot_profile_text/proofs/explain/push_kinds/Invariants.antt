-- The kinds so far are behind the text.
use Rattle.std.proofs.Common.{◌≡◌, ◌++◌, take}
use Rattle.std.specs.List.{flat_map}
use Rattle.std.specs.String.{string_bytes}
use Rattle.lot_profile_text.specs.Explained.{kind_text}
use Rattle.lot_profile_text.proofs.explain.push_kinds.Given as goal

abbrev pub invariant-loop-kind : goal.invariant-loop-kind
invariant-loop-kind l = string_bytes l.text ≡ string_bytes l.initial.text ++ flat_map kind_text (take l.kind-index l.kinds)

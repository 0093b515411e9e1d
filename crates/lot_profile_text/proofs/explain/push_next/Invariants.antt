-- The words so far are behind the text.
use Rattle.std.proofs.Common.{◌≡◌, ◌++◌, take}
use Rattle.std.specs.List.{flat_map}
use Rattle.std.specs.String.{string_bytes}
use Rattle.lot_profile_text.specs.Explained.{next_word}
use Rattle.lot_profile_text.proofs.explain.push_next.Given as goal

abbrev pub invariant-loop-value : goal.invariant-loop-value
invariant-loop-value g l = string_bytes l.text ≡ string_bytes l.initial.text ++ flat_map (next_word g.W.Word.word) (take l.value-index l.more)

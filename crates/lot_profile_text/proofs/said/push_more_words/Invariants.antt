-- The words so far are behind the text.
use Rattle.std.proofs.Common.{◌≡◌, ◌++◌, take}
use Rattle.std.specs.List.{flat_map}
use Rattle.std.specs.String.{string_bytes}
use Rattle.lot_profile_text.specs.Said.{word_behind}
use Rattle.lot_profile_text.proofs.said.push_more_words.Given as goal

abbrev pub invariant-loop-value : goal.invariant-loop-value
invariant-loop-value g l =
    string_bytes l.text ≡ string_bytes l.initial.text ++ flat_map (word_behind g.W.Word.word) (take l.value-index l.more)

use Rattle.std.proofs.Common.{◌≡◌, ◌++◌}
use Rattle.std.specs.String.{string_bytes}
use Rattle.lot_html.specs.Text.{escaped}
use Rattle.lot_html.proofs.text.push_text.Given as goal

-- what is appended and what is left are the whole text
abbrev pub invariant-loop-character : goal.invariant-loop-character
invariant-loop-character l = string_bytes l.text ++ escaped l.character-iterator.rest.now ≡ string_bytes l.initial.text ++ escaped l.said

use Rattle.std.proofs.Common.{◌≡◌, ◌++◌}
use Rattle.std.specs.String.{string_bytes}
use Rattle.lot_cells.specs.Entry.{command_html, outside, place_of}
use Rattle.lot_cells.proofs.entries.push_command.Given as goal

-- what is appended, and what the rest gives from here on, are the whole command
abbrev pub invariant-loop-character : goal.invariant-loop-character
invariant-loop-character l =
    string_bytes l.text ++ command_html (place_of l.place) l.character-iterator.rest.now
    ≡ string_bytes l.initial.text ++ command_html outside l.body

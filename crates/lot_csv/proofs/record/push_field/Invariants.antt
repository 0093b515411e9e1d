use Rattle.std.proofs.Common.{◌≡◌, ◌++◌}
use Rattle.std.specs.String.{string_bytes}
use Rattle.lot_csv.specs.Record.{doubled}
use Rattle.lot_csv.proofs.record.push_field.Given as goal

-- what is appended and what is left are the whole field
abbrev pub invariant-loop-character : goal.invariant-loop-character
invariant-loop-character l = string_bytes l.text ++ doubled l.character-iterator.rest.now ≡ string_bytes l.initial.text ++ doubled l.field

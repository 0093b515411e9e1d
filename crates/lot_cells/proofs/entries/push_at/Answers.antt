use Rattle.std.specs.Char.{encode_utf8}
use Rattle.std.specs.String.{string_bytes}
use Rattle.lot_cells.specs.Entry.{behind}
use Rattle.lot_cells.specs.declared.entries.Place.TheVariants.{Inside}
use Rattle.lot_cells.proofs.EntryLemmas.{same_behind, stays}
use Rattle.lot_cells.proofs.entries.push_at.Goals as goal

pub returns-in-Escaped : goal.returns-in-Escaped
returns-in-Escaped c =
    rw c.in-Escaped.is
    (stays c.push_same.result (string_bytes c.args.text.now) (string_bytes c.push_same.new.text) (encode_utf8 c.args.character) behind Inside
    (same_behind c.args.character) c.push_same.ensures)

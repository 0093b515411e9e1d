use Rattle.std.proofs.Common.{arith}
use Rattle.std.specs.Char.{encode_utf8}
use Rattle.std.specs.String.{string_bytes}
use Rattle.lot_cells.specs.Entry.{inside}
use Rattle.lot_cells.specs.declared.entries.Place.TheVariants.{Escaped, Inside}
use Rattle.lot_cells.proofs.EntryLemmas.{closed, same_backslash, same_inside, stays}
use Rattle.lot_cells.proofs.entries.push_inside.Goals as goal

pub returns-in_ok-push_str-in-34 : goal.returns-in_ok-push_str-in-34
returns-in_ok-push_str-in-34 c =
    rw c.in-34.is (closed (string_bytes c.args.text.now) (string_bytes c.push_str.new.self) c.in_ok-push_str-in-34.ensures.bytes)

pub returns-in-92 : goal.returns-in-92
returns-in-92 c =
    rw c.in-92.is
    (stays c.push_same.result (string_bytes c.args.text.now) (string_bytes c.push_same.new.text) (encode_utf8 92) inside Escaped same_backslash
    (rw c.in-92.is at c.push_same.ensures))

pub returns-in_default : goal.returns-in_default
returns-in_default c =
    stays c.push_same-in_default.result (string_bytes c.args.text.now) _ (encode_utf8 c.args.character) inside Inside
    (same_inside c.args.character (omega arith) (omega arith)) c.push_same-in_default.ensures

use Rattle.std.proofs.Common.{arith}
use Rattle.std.specs.Char.{encode_utf8}
use Rattle.std.specs.String.{string_bytes}
use Rattle.lot_cells.specs.Entry.{outside}
use Rattle.lot_cells.specs.declared.entries.Place.TheVariants.{Outside}
use Rattle.lot_cells.proofs.EntryLemmas.{opened, same_outside, stays}
use Rattle.lot_cells.proofs.entries.push_outside.Goals as goal

pub returns-in_ok-push_str-in-34 : goal.returns-in_ok-push_str-in-34
returns-in_ok-push_str-in-34 c =
    rw c.in-34.is (opened (string_bytes c.args.text.now) (string_bytes c.push_str.new.self) c.in_ok-push_str-in-34.ensures.bytes)

pub returns-in_default : goal.returns-in_default
returns-in_default c =
    stays c.push_same.result (string_bytes c.args.text.now) _ (encode_utf8 c.args.character) outside Outside
    (same_outside c.args.character (omega arith)) c.push_same.ensures

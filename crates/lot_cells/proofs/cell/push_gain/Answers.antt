use Rattle.std.proofs.Common.{◌≡◌, ◌++◌, OnOk, subst, sym, arith}
use Rattle.std.specs.String.{string_bytes}
use Rattle.std.proofs.lemmas.Str.Pattern.{strip_prefix_char}
use Rattle.lot_cells.proofs.CellLemmas.{not_below}
use Rattle.lot_cells.proofs.cell.push_gain.Goals as goal

pub returns-in-None : goal.returns-in-None
returns-in-None c =
    let is = rw c.in-None.is at (strip_prefix_char 45 c.args.number.now c.strip_prefix.result c.strip_prefix.ensures.cases (omega arith)) in
    subst (λ cell. OnOk c.push_number.result (string_bytes c.push_number.new.text ≡ string_bytes c.args.text.now ++ cell))
    (sym (not_below c.args.number.now is)) c.push_number.ensures

use Rattle.std.proofs.Common.{◌≡◌, take}
use Rattle.lot_book.proofs.sale.copies.Given as goal

-- the copies so far are those of the first legs
abbrev pub invariant-loop-key : goal.invariant-loop-key
invariant-loop-key l = l.copies.items ≡ take l.key-index l.legs

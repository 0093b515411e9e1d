use Rattle.std.proofs.Common.{◌≡◌, take}
use Rattle.lot_command.proofs.transaction.copies.Given as goal

-- the copies so far are those of the first postings
abbrev pub invariant-loop-posting : goal.invariant-loop-posting
invariant-loop-posting l = l.copies ≡ take l.posting-index l.postings
